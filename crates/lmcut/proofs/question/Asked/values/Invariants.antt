use Rattle.lmcut.proofs.Turns.{Turning}
use Rattle.lmcut.proofs.question.Asked.values.Given as goal

abbrev pub invariant-loop-last : goal.invariant-loop-last
invariant-loop-last l = Turning l.self.question.now l.left.of l.settling

abbrev pub decreases-loop-last : goal.decreases-loop-last
decreases-loop-last l = l.settling.open_nodes
