-- What a directive is answered, apart from how the program holds it.
--   Said   the answers, with landmark records as a list
--   seen   what an answer says
use Rattle.std.specs.Prelude.{ℕ, List, vec_items}
use Rattle.landmarks.specs.declared.Ground.{Ground}
use Rattle.lmcut.specs.declared.estimator.GroundsFault.{GroundsFault}
use Rattle.tables.specs.declared.fault.TaskFault.{TaskFault}
use Rattle.task.specs.declared.plan.PlanFault.{PlanFault}
use Rattle.script.specs.declared.answer.Answer.{Answer}
use Rattle.script.specs.declared.answer.Answer.TheVariants as answer

pub data Said : Type 0 where
  Accepted : Said
  RefusedTask : TaskFault → Said
  Cost : ℕ → Said
  RefusedPlan : PlanFault → Said
  AtLeast : ℕ → Said
  Dead : Said
  Grounds : List Ground → Said
  RefusedSearch : GroundsFault → Said
  NothingAccepted : Said
  NotServed : Said
  BadLine : ℕ → Said

abbrev pub seen : Answer → Said
seen answer.Accepted = Accepted
seen (answer.RefusedTask fault) = RefusedTask fault
seen (answer.Cost cost) = Cost cost
seen (answer.RefusedPlan fault) = RefusedPlan fault
seen (answer.AtLeast n) = AtLeast n
seen answer.Dead = Dead
seen (answer.Grounds records) = Grounds (vec_items records)
seen (answer.RefusedSearch fault) = RefusedSearch fault
seen answer.NothingAccepted = NothingAccepted
seen answer.NotServed = NotServed
seen (answer.BadLine line) = BadLine line
