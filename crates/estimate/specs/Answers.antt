-- The answers of the simplest estimators, for every problem and every record.
--   zero_answer   0
--   cheapest      the cost of the cheapest move; no cost passes 10,000
--   floor_answer  0 where the goal holds, else the cost of the cheapest move, or dead if there is none; 0 at a record that is
--                 no state
use Rattle.std.specs.Prelude.{ℕ, min, cond, List, length, fold, ◌==◌, unsigned_abs}
use Rattle.estimate.specs.declared.estimate.Estimate.{Estimate}
use Rattle.estimate.specs.declared.estimate.Estimate.TheVariants.{AtLeast, Dead}
use Rattle.tables.specs.Problem.{Problem}
use Rattle.tables.specs.declared.Move.{Move}
use Rattle.task.specs.States.{is_state, goal_holds}
use Rattle.task.specs.declared.state.State.{State}

abbrev pub zero_answer : Problem → State → Estimate
zero_answer p s = AtLeast 0

abbrev pub cheapest : List Move → ℕ
cheapest ms = fold (λ least m. min least (unsigned_abs m.cost)) 10000 ms

unfoldable pub floor_answer : Problem → State → Estimate
floor_answer p s =
    cond (is_state p s) (cond (goal_holds p s) (AtLeast 0) (cond (length p.moves == 0) Dead (AtLeast (cheapest p.moves)))) (AtLeast 0)
