use Rattle.std.proofs.Common.{◌+◌, ◌-◌, cond, eqb, length}
use Rattle.tables.specs.Problem.{contents}
use Rattle.tables.proofs.Checked.{Walked}
use Rattle.tables.proofs.check.Bounded.check_chain.Given as goal

abbrev pub invariant-loop-at : goal.invariant-loop-at
invariant-loop-at l = Walked (contents l.self.tables) l.role l.first l.at l.seen

abbrev pub decreases-loop-at : goal.decreases-loop-at
decreases-loop-at l = cond (eqb l.at 0) 0 (length (contents l.self.tables).links + 1 - l.at)
