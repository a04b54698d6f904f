use Rattle.std.proofs.Common.{◌≡◌, ℕ, ◌+◌, ◌≤◌, length, Option}
use Rattle.tables.specs.Check.{told, each_fault}
use Rattle.tables.specs.declared.fault.TaskFault.{TaskFault}
use Rattle.tables.proofs.check.check_each.Given as goal

-- what is left to check gives the first fault of all
abbrev pub invariant-loop-number : goal.invariant-loop-number
invariant-loop-number g l =
    (l.number-iterator.a.start + length l.number-iterator.b.rest.now ≤ 257)
    × ((fault : ℕ → g.row.T.Denot → Option TaskFault) → ((k : ℕ) (x : _) (r : _) → goal.F-post g l.check k x r → r ≡ told (fault k x.now))
    → each_fault fault l.number-iterator.a.start l.number-iterator.b.rest.now ≡ each_fault fault 1 l.fn.records)
