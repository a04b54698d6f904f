use Rattle.lmcut.specs.Settled.{Kept}
use Rattle.lmcut.specs.Valued.{ready_at, ReachedTo}
use Rattle.lmcut.proofs.values.Settling.settle_first.Given as goal

abbrev pub invariant-loop-action : goal.invariant-loop-action
invariant-loop-action l = let s = l.initial.self in Kept s l.self × ReachedTo s.asked.question.now s.left.now.of (ready_at s.asked.question.now s.open_nodes) 0 l.action s.values.now l.self.values.now
