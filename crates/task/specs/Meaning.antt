-- What states and moves mean, in the words of simple numeric planning. These are laws about the definitions of States.
--   names           some link of a kind names a fact
--   change          what the effects add to a quantity, all together
--   effects_of      the effects of a move
--   Allows          a move is allowed: it is in the table, its needs hold, and every quantity, with what the effects add to
--                   it, is in its range
--   Follows         the state after effects: a fact holds if they set it, or if it held and they do not clear it; a quantity
--                   has its value before and what they add to it
--   MovesMean       at every state of an accepted task: a move is allowed exactly when it is so, and leads to the state that
--                   follows, which is a state again
use Rattle.std.specs.Prelude.{◌≡◌, ℕ, ◌≤◌, Bool, true, false, cond, not, ◌&&◌, ◌||◌, List, [], ◌∷◌, length, ℤ, pos, ◌+ℤ◌, Some, Decides, ◌==◌}
use Rattle.tables.specs.Chains.{chain}
use Rattle.tables.specs.Check.{in_range}
use Rattle.tables.specs.Problem.{Problem}
use Rattle.task.specs.States.{fact_holds, value_of, quantity_at, move_at, all_hold, is_state, allowed, result_of}
use Rattle.task.specs.declared.state.State.{State}
use Rattle.tables.specs.declared.Link.{Link}

unfoldable pub names : ℕ → List Link → ℕ → Bool
names kind [] k = false
names kind (l ∷ ls) k = (l.kind == kind && l.subject == k) || names kind ls k

unfoldable pub change : List Link → ℕ → ℤ
change [] q = pos 0
change (l ∷ ls) q = cond (l.kind == 6 && l.subject == q) (l.amount +ℤ change ls q) (change ls q)

abbrev pub effects_of : Problem → ℕ → List Link
effects_of p m = chain p.links (move_at p m).effects

pub record Allows (p : Problem) (s : State) (m : ℕ) : Type 0 where
  pub from : 1 ≤ m
  pub upto : m ≤ length p.moves
  pub needs : all_hold p s (chain p.links (move_at p m).needs) ≡ true
  pub stays : (q : ℕ) → 1 ≤ q → q ≤ length p.quantities → in_range (quantity_at p q) (value_of s q +ℤ change (effects_of p m) q) ≡ true

pub record Follows (s : State) (es : List Link) (t : State) : Type 0 where
  pub facts : (k : ℕ) → fact_holds t.facts k ≡ (names 4 es k || (fact_holds s.facts k && not (names 5 es k)))
  pub values : (q : ℕ) → 1 ≤ q → q ≤ 16 → value_of t q ≡ value_of s q +ℤ change es q

pub record MovesMean (p : Problem) (s : State) (m : ℕ) : Type 0 where
  pub allows : Decides (allowed p s m) (Allows p s m)
  pub follows : (t : State) → result_of p s m ≡ Some t → Follows s (effects_of p m) t
  pub state : (t : State) → result_of p s m ≡ Some t → is_state p t ≡ true
