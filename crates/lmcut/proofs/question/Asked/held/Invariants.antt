use Rattle.lmcut.proofs.Starting.{Marking}
use Rattle.lmcut.proofs.question.Asked.held.Given as goal

abbrev pub invariant-loop-node : goal.invariant-loop-node
invariant-loop-node l = Marking l.self.question.now.holds l.node l.zone
