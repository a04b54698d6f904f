-- What an estimate claims.
--   most    no estimate tells more than this
--   Claims  what an answer says of a state: a number is at most the cost of every plan from it, 'dead' that there is none
--   larger  the larger of two answers, dead where either is
use Rattle.std.specs.Prelude.{ℕ, ◌≤◌, max, List}
use Rattle.estimate.specs.declared.estimate.Estimate.{Estimate}
use Rattle.estimate.specs.declared.estimate.Estimate.TheVariants.{AtLeast, Dead}
use Rattle.tables.specs.Problem.{Problem}
use Rattle.task.specs.Plans.{PlanFrom, cost}
use Rattle.task.specs.declared.state.State.{State}

abbrev pub most : ℕ
most = 1000000000000

abbrev pub Claims : Problem → State → Estimate → Type 0
Claims p s (AtLeast n) = (n ≤ most) × ((ms : List ℕ) → PlanFrom p s ms → n ≤ cost p ms)
Claims p s Dead = (ms : List ℕ) → PlanFrom p s ms → ⊥

abbrev pub larger : Estimate → Estimate → Estimate
larger (AtLeast m) (AtLeast n) = AtLeast (max m n)
larger (AtLeast m) Dead = Dead
larger Dead (AtLeast n) = Dead
larger Dead Dead = Dead
