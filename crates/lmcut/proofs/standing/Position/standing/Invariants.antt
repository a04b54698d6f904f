use Rattle.task.specs.Tasks.{problem}
use Rattle.lmcut.proofs.Shortfalls.{Stood}
use Rattle.lmcut.proofs.standing.Position.standing.Given as goal

abbrev pub invariant-loop-index : goal.invariant-loop-index
invariant-loop-index l = Stood (problem l.self.task.now) l.self.state.now l.index l.holds l.short-items
