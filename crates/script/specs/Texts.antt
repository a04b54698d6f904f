-- The lines of the output.
--   task_fault_text   why tables are refused
--   plan_fault_text   why a list of moves is refused
--   search_fault_text why landmark records are refused
--   ground_text       a landmark record
--   grounds_text      how many landmark records there are, then each of them
--   text              the line that an answer is written as
use Rattle.std.specs.Prelude.{ℕ, List, ◌++◌, map, length, vec_items, codes, decimal}
use Rattle.std.specs.List.{concat}
use Rattle.landmarks.specs.declared.Ground.{Ground}
use Rattle.lmcut.specs.Recorded.{fault_number}
use Rattle.lmcut.specs.declared.estimator.GroundsFault.{GroundsFault}
use Rattle.tables.specs.Faults.{number, place}
use Rattle.task.specs.Plans.{plan_number, plan_position}
use Rattle.tables.specs.declared.fault.TaskFault.{TaskFault}
use Rattle.task.specs.declared.plan.PlanFault.{PlanFault}
use Rattle.script.specs.declared.answer.Answer.{Answer}
use Rattle.script.specs.declared.answer.Answer.TheVariants.{Accepted, RefusedTask, Cost, RefusedPlan, AtLeast, Dead, Grounds, RefusedSearch, NothingAccepted, NotServed, BadLine}

abbrev pub task_fault_text : TaskFault → List ℕ
task_fault_text fault =
    codes "refused task "
    ++ (decimal (number fault) ++ (codes " " ++ (decimal (place fault).table ++ (codes " " ++ (decimal (place fault).record ++ (codes " " ++ decimal (place fault).link))))))

abbrev pub plan_fault_text : PlanFault → List ℕ
plan_fault_text fault = codes "refused plan " ++ (decimal (plan_number fault) ++ (codes " " ++ decimal (plan_position fault)))

abbrev pub search_fault_text : GroundsFault → List ℕ
search_fault_text fault = codes "refused search " ++ decimal (fault_number fault)

abbrev pub ground_text : Ground → List ℕ
ground_text g =
    codes " ("
    ++ (decimal g.round ++ (codes "," ++ (decimal g.weight ++ (codes "," ++ (decimal g.number ++ (codes "," ++ (decimal g.charge ++ codes ")")))))))

abbrev pub grounds_text : List Ground → List ℕ
grounds_text gs = (codes "grounds " ++ decimal (length gs)) ++ concat (map ground_text gs)

abbrev pub text : Answer → List ℕ
text Accepted = codes "accepted"
text (RefusedTask fault) = task_fault_text fault
text (Cost cost) = codes "cost " ++ decimal cost
text (RefusedPlan fault) = plan_fault_text fault
text (AtLeast n) = codes "atleast " ++ decimal n
text Dead = codes "dead"
text (Grounds records) = grounds_text (vec_items records)
text (RefusedSearch fault) = search_fault_text fault
text NothingAccepted = codes "nothing accepted"
text NotServed = codes "later"
text (BadLine line) = codes "malformed " ++ decimal line
