-- Accepted tasks.
--   problem   the planning task that an accepted task stands for
--   Accepts   what check and making in one answer for tables: the task of these tables, or the first fault; a task exactly where
--             the tables keep the rules
use Rattle.std.specs.Prelude.{◌≡◌, Some, is_ok, Decides, Result, MatchResult}
use Rattle.tables.specs.Check.{first_fault}
use Rattle.tables.specs.Problem.{Problem, contents}
use Rattle.tables.specs.Rules.{Keeps}
use Rattle.tables.specs.declared.Tables.{Tables}
use Rattle.tables.specs.declared.fault.TaskFault.{TaskFault}
use Rattle.task.specs.declared.accepted.Task.{Task}

abbrev pub problem : Task → Problem
problem t = contents t.tables

abbrev pub Accepts : Tables → Result Task TaskFault → Type 0
Accepts t r = MatchResult r (λ k. k.tables ≡ t) (λ fault. first_fault (contents t) ≡ Some fault) × Decides (is_ok r) (Keeps (contents t))
