-- The number and the place of each fault that the table check tells.
--   link_number   the number of the rule that a faulty link breaks
--   table_number  a table's number; the head is 0
--   number        the number of the rule that a fault breaks
--   place_at      a place of three numbers
--   place         where a fault stands: table, record, link, each 0 where there is none
-- Numbers: 1 a limit on a count, 2 a range, a start value or the start word, 3 a link's number, kind, subject or next,
-- 4 a cost, a bound, a weight, a change or the kind of a condition, 5 a quantity twice in one chain.
use Rattle.std.specs.Prelude.{ℕ}
use Rattle.tables.specs.declared.fault.LinkFault.{LinkFault}
use Rattle.tables.specs.declared.fault.LinkFault.TheVariants.{Missing, Kind, Subject, Amount, Repeated, Next}
use Rattle.tables.specs.declared.fault.Table.{Table}
use Rattle.tables.specs.declared.fault.Table.TheVariants.{Quantities, Conditions, Moves, Links}
use Rattle.tables.specs.declared.fault.TaskFault.{TaskFault}
use Rattle.tables.specs.declared.fault.TaskFault.TheVariants.{TooManyFacts, TooLong, StartWord, Quantity, ConditionKind, ConditionBound, Terms, Cost, Needs, Effects, Goal}
use Rattle.tables.specs.declared.fault.Place.{Place}

abbrev pub link_number : LinkFault → ℕ
link_number Missing = 3
link_number Kind = 3
link_number Subject = 3
link_number Amount = 4
link_number Repeated = 5
link_number Next = 3

abbrev pub table_number : Table → ℕ
table_number Quantities = 1
table_number Conditions = 2
table_number Moves = 3
table_number Links = 4

abbrev pub number : TaskFault → ℕ
number TooManyFacts = 1
number (TooLong t) = 1
number StartWord = 2
number (Quantity q) = 2
number (ConditionKind c) = 4
number (ConditionBound c) = 4
number (Terms c f) = link_number f.fault
number (Cost m) = 4
number (Needs m f) = link_number f.fault
number (Effects m f) = link_number f.fault
number (Goal f) = link_number f.fault

abbrev pub place_at : ℕ → ℕ → ℕ → Place
place_at t r l = record { table = t; «record» = r; link = l }

abbrev pub place : TaskFault → Place
place TooManyFacts = place_at 0 0 0
place (TooLong t) = place_at (table_number t) 0 0
place StartWord = place_at 0 0 0
place (Quantity q) = place_at 1 q 0
place (ConditionKind c) = place_at 2 c 0
place (ConditionBound c) = place_at 2 c 0
place (Terms c f) = place_at 2 c f.link
place (Cost m) = place_at 3 m 0
place (Needs m f) = place_at 3 m f.link
place (Effects m f) = place_at 3 m f.link
place (Goal f) = place_at 0 0 f.link
