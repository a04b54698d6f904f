use Rattle.tables.specs.Chains.{chain}
use Rattle.task.specs.Tasks.{problem}
use Rattle.lmcut.proofs.Rows.{RowUpTo}
use Rattle.lmcut.proofs.standing.Position.reached.Given as goal

abbrev pub invariant-loop-index : goal.invariant-loop-index
invariant-loop-index l = RowUpTo (problem l.self.task.now) l.self.state.now (chain (problem l.self.task.now).links l.action.effects) l.index l.nodes l.place-items
