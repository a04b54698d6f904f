-- How a fault is written.
--   place_text   where it stands
--   fault_text   the number of the broken rule, and where
use Rattle.std.specs.Prelude.{ℕ, List, ◌++◌, codes, decimal}
use Rattle.tables.specs.Faults.{number, place}
use Rattle.tables.specs.declared.fault.Place.{Place}
use Rattle.tables.specs.declared.fault.TaskFault.{TaskFault}

abbrev pub place_text : Place → List ℕ
place_text p = codes "table " ++ (decimal p.table ++ (codes ", record " ++ (decimal p.«record» ++ (codes ", link " ++ decimal p.link))))

abbrev pub fault_text : TaskFault → List ℕ
fault_text fault = codes "rule " ++ (decimal (number fault) ++ (codes " at " ++ place_text (place fault)))
