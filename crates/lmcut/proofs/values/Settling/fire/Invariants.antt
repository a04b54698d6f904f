use Rattle.lmcut.specs.Settled.{Kept}
use Rattle.lmcut.proofs.Offers.{Firing}
use Rattle.lmcut.proofs.values.Settling.fire.Given as goal

abbrev pub invariant-loop-node : goal.invariant-loop-node
invariant-loop-node l =
    (goal.iterator-loop-node).can_next l.node-iterator
    × (goal.iterator-loop-node).is_finite l.node-iterator
    × Kept l.initial.self l.self
    × Firing l.question l.action l.left l.top l.node-iterator.word l.initial.self.values.now l.self.values.now
