-- States and moves: what holds in a state, when a move is allowed, and its result.
--   fact_holds        bit k of a word of facts is set
--   value_of          the value of quantity q
--   condition_at, move_at, quantity_at   the record with a number (no_quantity where there is none)
--   add_term, total   the sum of weight × value over terms
--   mark              the least sum at which a condition holds: its bound, or one more for 'more than'
--   gap               how far the sum of a condition is below its mark
--   condition_holds, need_holds, all_hold   a condition, a need, a list of needs holds in a state
--   goal_holds        every need of the goal chain holds
--   value_fits, values_fit   the value at index i is in the range of quantity i + 1, or 0 past the last quantity
--   is_state          a record is a state: no fact bit from the number of facts up, each quantity in its range, 0 past them
--   start_value       the value at index i at the start: that of quantity i + 1, or 0 past the last quantity
--   start_state       the state at the start
--   changed           a quantity's value with the amount of a link added to it
--   stays             every quantity that a link of the effects changes is in its range then
--   noted             a word with the fact of a link added, where the link is of a kind
--   cleared, made     the words of the facts that effects clear and set
--   put, values_after the values with all changes, each worked out from the state before; an accepted chain names a
--                     quantity at most once, so that no change undoes another
--   moved             the result of a move's effects: clears, then sets, and all changes at once
--   after_effects     that result, where every quantity that the effects change stays in its range
--   allowed           a move of the table whose needs hold and whose changes stay in their ranges
--   result_of         the result of a move where it is allowed
use Rattle.std.specs.Prelude.{ℕ, ◌+◌, ◌-◌, ◌/◌, ◌%◌, ◌^◌, Bool, true, cond, ◌&&◌, List, [], ◌∷◌, ◌++◌, map, length, replicate, ℤ, pos, ◌+ℤ◌, ◌-ℤ◌, ◌*ℤ◌, Some, None, fold, Option, ◌==◌, bit_and, bit_or, bit_xor, int_le, nat_le, nat_lt, slice_index_or, slice_set}
use Rattle.tables.specs.Chains.{chain}
use Rattle.tables.specs.Check.{in_range}
use Rattle.tables.specs.Problem.{Problem}
use Rattle.tables.specs.declared.Quantity.{Quantity}
use Rattle.tables.specs.declared.Condition.{Condition}
use Rattle.tables.specs.declared.Move.{Move}
use Rattle.tables.specs.declared.Link.{Link}
use Rattle.task.specs.declared.state.State.{State}

abbrev pub fact_holds : ℕ → ℕ → Bool
fact_holds w k = w / 2 ^ k % 2 == 1

abbrev pub value_of : State → ℕ → ℤ
value_of s q = slice_index_or s.values (q - 1) (pos 0)

abbrev pub no_quantity : Quantity
no_quantity = record { lowest = pos 0; highest = pos 0; start = pos 0 }

abbrev pub quantity_at : Problem → ℕ → Quantity
quantity_at p n = slice_index_or p.quantities (n - 1) no_quantity

abbrev pub condition_at : Problem → ℕ → Condition
condition_at p n = slice_index_or p.conditions (n - 1) (record { kind = 0; bound = pos 0; terms = 0 })

abbrev pub move_at : Problem → ℕ → Move
move_at p n = slice_index_or p.moves (n - 1) (record { cost = pos 0; needs = 0; effects = 0 })

-- ---- what holds

abbrev pub add_term : State → ℤ → Link → ℤ
add_term s sum l = sum +ℤ (l.amount *ℤ value_of s l.subject)

abbrev pub total : List Link → State → ℤ
total ls s = fold (add_term s) (pos 0) ls

abbrev pub mark : Condition → ℤ
mark c = cond (c.kind == 0) c.bound (c.bound +ℤ pos 1)

unfoldable pub gap : Problem → State → ℕ → ℤ
gap p s n =
    cond (nat_le 1 n && nat_le n (length p.conditions)) (mark (condition_at p n) -ℤ total (chain p.links (condition_at p n).terms) s) (pos 0)

unfoldable pub condition_holds : Problem → State → Condition → Bool
condition_holds p s c = int_le (mark c) (total (chain p.links c.terms) s)

unfoldable pub need_holds : Problem → State → Link → Bool
need_holds p s l = cond (l.kind == 2) (fact_holds s.facts l.subject) (condition_holds p s (condition_at p l.subject))

abbrev pub all_hold : Problem → State → List Link → Bool
all_hold p s [] = true
all_hold p s (l ∷ ls) = need_holds p s l && all_hold p s ls

unfoldable pub goal_holds : Problem → State → Bool
goal_holds p s = all_hold p s (chain p.links p.head.goal)

-- ---- states

abbrev pub value_fits : List Quantity → ℕ → ℤ → Bool
value_fits qs i v = cond (nat_lt i (length qs)) (in_range (slice_index_or qs i no_quantity) v) (int_le (pos 0) v && int_le v (pos 0))

unfoldable pub values_fit : List Quantity → ℕ → List ℤ → Bool
values_fit qs i [] = true
values_fit qs i (v ∷ vs) = value_fits qs i v && values_fit qs (i + 1) vs

unfoldable pub is_state : Problem → State → Bool
is_state p s = nat_lt s.facts (2 ^ p.head.facts) && length s.values == 16 && values_fit p.quantities 0 s.values

abbrev pub start_value : List Quantity → ℕ → ℤ
start_value qs i = cond (nat_lt i (length qs)) (slice_index_or qs i no_quantity).start (pos 0)

unfoldable pub start_state : Problem → State
start_state p = record { facts = p.head.start; values = map (λ q. q.start) p.quantities ++ replicate (16 - length p.quantities) (pos 0) }

-- ---- moves

abbrev pub changed : State → Link → ℤ
changed s l = value_of s l.subject +ℤ l.amount

abbrev pub stays : Problem → State → List Link → Bool
stays p s [] = true
stays p s (l ∷ ls) = cond (l.kind == 6) (in_range (quantity_at p l.subject) (changed s l)) true && stays p s ls

abbrev pub noted : ℕ → ℕ → Link → ℕ
noted kind w l = cond (l.kind == kind) (bit_or w (2 ^ l.subject)) w

abbrev pub made : List Link → ℕ
made ls = fold (noted 4) 0 ls

abbrev pub cleared : List Link → ℕ
cleared ls = fold (noted 5) 0 ls

abbrev pub put : State → List ℤ → Link → List ℤ
put s vs l = cond (l.kind == 6) (slice_set vs (l.subject - 1) (changed s l)) vs

abbrev pub values_after : State → List Link → List ℤ
values_after s ls = fold (put s) s.values ls

unfoldable pub moved : State → List Link → State
moved s ls = record { facts = bit_or (bit_xor s.facts (bit_and s.facts (cleared ls))) (made ls); values = values_after s ls }

unfoldable pub after_effects : Problem → State → List Link → Option State
after_effects p s ls = cond (stays p s ls) (Some (moved s ls)) None

unfoldable pub allowed : Problem → State → ℕ → Bool
allowed p s m =
    nat_le 1 m && nat_le m (length p.moves)
    && all_hold p s (chain p.links (move_at p m).needs)
    && stays p s (chain p.links (move_at p m).effects)

unfoldable pub result_of : Problem → State → ℕ → Option State
result_of p s m = cond (allowed p s m) (Some (moved s (chain p.links (move_at p m).effects))) None
