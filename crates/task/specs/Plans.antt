-- Lists of moves, plans and their cost, and the plan check.
--   cost_of      the cost of a move
--   and_then     an answer worked out from another, where that is there
--   after        the state after a list of moves, each allowed in turn
--   PlanFrom     a plan from a state: a list of moves, each allowed in turn, after which the goal holds
--   Plan         a plan of the task: a plan from its start state
--   Reachable    a state that a list of moves, each allowed in turn, leads to from the start state
--   cost         the cost of a list of moves
--   plan_number, plan_position   the number and the position of each fault of the plan check
--   fault_text   what a fault of the plan check prints as
--   is_move      a number is that of a move of the table
--   moved_on     goes on from a result, where there is one
--   judged       the answer for the rest of a list from position k, at the state and the cost so far
--   plan_answer  the answer of the plan check
--   Refused      what each refusal says of the list
--   Judges       what an answer says of the list
use Rattle.std.specs.Prelude.{◌≡◌, ℕ, ◌+◌, ◌-◌, ◌<◌, ◌≤◌, Bool, true, false, cond, ◌&&◌, List, [], ◌∷◌, ◌++◌, length, take, codes, decimal, Some, None, Ok, Err, Option, Result, nat_le, slice_index, unsigned_abs}
use Rattle.tables.specs.Problem.{Problem}
use Rattle.task.specs.States.{move_at, goal_holds, start_state, result_of}
use Rattle.task.specs.declared.state.State.{State}
use Rattle.task.specs.declared.plan.PlanFault.{PlanFault}
use Rattle.task.specs.declared.plan.PlanFault.TheVariants.{TooLong, NoSuchMove, NotAllowed, GoalMissed}

abbrev pub cost_of : Problem → ℕ → ℕ
cost_of p m = unsigned_abs (move_at p m).cost

abbrev pub and_then : {X Y : Type 0} → Option X → (X → Option Y) → Option Y
and_then None f = None
and_then (Some x) f = f x

unfoldable pub after : Problem → State → List ℕ → Option State
after p s [] = Some s
after p s (m ∷ ms) = and_then (result_of p s m) (λ s'. after p s' ms)

abbrev pub PlanFrom : Problem → State → List ℕ → Type 0
PlanFrom p s ms = (e : State) × (after p s ms ≡ Some e) × (goal_holds p e ≡ true)

abbrev pub Plan : Problem → List ℕ → Type 0
Plan p ms = PlanFrom p (start_state p) ms

abbrev pub Reachable : Problem → State → Type 0
Reachable p s = (ms : List ℕ) × (after p (start_state p) ms ≡ Some s)

unfoldable pub cost : Problem → List ℕ → ℕ
cost p [] = 0
cost p (m ∷ ms) = cost_of p m + cost p ms

-- ---- the plan check

abbrev pub plan_number : PlanFault → ℕ
plan_number TooLong = 9
plan_number (NoSuchMove k) = 9
plan_number (NotAllowed k) = 10
plan_number (GoalMissed k) = 11

abbrev pub plan_position : PlanFault → ℕ
plan_position TooLong = 0
plan_position (NoSuchMove k) = k
plan_position (NotAllowed k) = k
plan_position (GoalMissed k) = k

abbrev pub fault_text : PlanFault → List ℕ
fault_text fault = codes "rule " ++ (decimal (plan_number fault) ++ (codes " at position " ++ decimal (plan_position fault)))

abbrev pub is_move : Problem → ℕ → Bool
is_move p m = nat_le 1 m && nat_le m (length p.moves)

abbrev pub moved_on : {X : Type 0} → Option State → X → (State → X) → X
moved_on None other f = other
moved_on (Some s) other f = f s

unfoldable pub judged : Problem → ℕ → State → ℕ → List ℕ → Result ℕ PlanFault
judged p k s spent [] = cond (goal_holds p s) (Ok spent) (Err (GoalMissed (k - 1)))
judged p k s spent (m ∷ ms) =
    cond (is_move p m) (moved_on (result_of p s m) (Err (NotAllowed k)) (λ s'. judged p (k + 1) s' (spent + cost_of p m) ms)) (Err (NoSuchMove k))

unfoldable pub plan_answer : Problem → List ℕ → Result ℕ PlanFault
plan_answer p ms = cond (nat_le (length ms) 65536) (judged p 1 (start_state p) 0 ms) (Err TooLong)

-- a refusal at a position tells that the moves before it are allowed in turn, and what is wrong there
abbrev pub Refused : Problem → List ℕ → PlanFault → Type 0
Refused p ms TooLong = 65536 < length ms
Refused p ms (NoSuchMove k) =
    (1 ≤ k) × (k ≤ length ms) × ((s : State) × (after p (start_state p) (take (k - 1) ms) ≡ Some s)) × (is_move p (slice_index ms (k - 1)) ≡ false)
Refused p ms (NotAllowed k) =
    (1 ≤ k) × (k ≤ length ms) × (is_move p (slice_index ms (k - 1)) ≡ true)
    × ((s : State) × (after p (start_state p) (take (k - 1) ms) ≡ Some s) × (result_of p s (slice_index ms (k - 1)) ≡ None))
Refused p ms (GoalMissed k) =
    (k ≡ length ms) × ((s : State) × (after p (start_state p) ms ≡ Some s) × (goal_holds p s ≡ false))

-- what the answer says of the list: it is a plan of that cost, or it is refused as told
abbrev pub Judges : Problem → List ℕ → Result ℕ PlanFault → Type 0
Judges p ms (Ok c) = (length ms ≤ 65536) × Plan p ms × (c ≡ cost p ms)
Judges p ms (Err f) = Refused p ms f
