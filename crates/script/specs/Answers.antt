-- What a block is answered.
--   told_plan   the answer to a plan check
--   told_grounds the answer to a question for landmark records
--   waiting     the answer to a directive that comes before any `accept`
--   served      the answer to a directive on an accepted task
--   after_check the answers from the first `accept` on: of every directive, or of it alone where the tables are refused
--   block_answers  the answers to all that a block asks, in order
use Rattle.std.specs.Prelude.{ℕ, List, [], ◌∷◌, map, Ok, Err, vec_items, Result}
use Rattle.tables.specs.Check.{told, first_fault}
use Rattle.task.specs.Plans.{plan_answer}
use Rattle.landmarks.specs.Rounds.{grounds}
use Rattle.landmarks.specs.declared.Ground.{Ground}
use Rattle.lmcut.specs.Recorded.{recorded}
use Rattle.lmcut.specs.declared.estimator.GroundsFault.{GroundsFault}
use Rattle.tables.specs.Problem.{Problem}
use Rattle.tables.specs.declared.fault.TaskFault.{TaskFault}
use Rattle.task.specs.declared.plan.PlanFault.{PlanFault}
use Rattle.script.specs.Asked.{asked_answer}
use Rattle.script.specs.Told.{told_estimate}
use Rattle.script.specs.Said.{Said, Accepted, RefusedTask, Cost, RefusedPlan, RefusedSearch, NothingAccepted, NotServed, BadLine}
use Rattle.script.specs.Said as said
use Rattle.script.specs.declared.directive.Directive.{Directive}
use Rattle.script.specs.declared.directive.Directive.TheVariants.{Accept, Check, Est, Grounds, Later, Malformed}

abbrev pub told_plan : Result ℕ PlanFault → Said
told_plan (Ok cost) = Cost cost
told_plan (Err fault) = RefusedPlan fault

abbrev pub told_grounds : List Ground → Result ℕ GroundsFault → Said
told_grounds records (Ok count) = said.Grounds records
told_grounds records (Err fault) = RefusedSearch fault

abbrev pub waiting : Directive → Said
waiting Accept = NothingAccepted
waiting (Check v) = NothingAccepted
waiting (Est a s) = NothingAccepted
waiting (Grounds room s) = NothingAccepted
waiting Later = NothingAccepted
waiting (Malformed n) = BadLine n

abbrev pub served : Problem → Directive → Said
served p Accept = Accepted
served p (Check v) = told_plan (plan_answer p (vec_items v))
served p (Est a s) = told_estimate (asked_answer a p s)
served p (Grounds room s) = told_grounds (grounds p s) (recorded p s room)
served p Later = NotServed
served p (Malformed n) = BadLine n

abbrev pub after_check : Problem → List Directive → Result Unit TaskFault → List Said
after_check p ds (Ok done) = map (served p) ds
after_check p ds (Err fault) = RefusedTask fault ∷ []

unfoldable pub block_answers : Problem → List Directive → List Said
block_answers p [] = []
block_answers p (Accept ∷ ds) = after_check p (Accept ∷ ds) (told (first_fault p))
block_answers p (Check v ∷ ds) = waiting (Check v) ∷ block_answers p ds
block_answers p (Est a s ∷ ds) = waiting (Est a s) ∷ block_answers p ds
block_answers p (Grounds room s ∷ ds) = waiting (Grounds room s) ∷ block_answers p ds
block_answers p (Later ∷ ds) = waiting Later ∷ block_answers p ds
block_answers p (Malformed n ∷ ds) = waiting (Malformed n) ∷ block_answers p ds
