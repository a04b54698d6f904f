-- What the estimators that a line may name answer.
--   basic_answer   the answer of an estimator that is made of no others
--   asked_answer   the answer of the estimator that a line names
use Rattle.estimate.specs.Answers.{zero_answer, floor_answer}
use Rattle.estimate.specs.Estimates.{larger}
use Rattle.estimate.specs.declared.estimate.Estimate.{Estimate}
use Rattle.landmarks.specs.Rounds.{estimate}
use Rattle.tables.specs.Problem.{Problem}
use Rattle.task.specs.declared.state.State.{State}
use Rattle.script.specs.declared.estimators.Basic.{Basic}
use Rattle.script.specs.declared.estimators.Basic.TheVariants.{Zero, Floor, LmCut}
use Rattle.script.specs.declared.estimators.Asked.{Asked}
use Rattle.script.specs.declared.estimators.Asked.TheVariants.{One, Larger}

abbrev pub basic_answer : Basic → Problem → State → Estimate
basic_answer Zero p s = zero_answer p s
basic_answer Floor p s = floor_answer p s
basic_answer LmCut p s = estimate p s

abbrev pub asked_answer : Asked → Problem → State → Estimate
asked_answer (One b) p s = basic_answer b p s
asked_answer (Larger a b) p s = larger (basic_answer a p s) (basic_answer b p s)
