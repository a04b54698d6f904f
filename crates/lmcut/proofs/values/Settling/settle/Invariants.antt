use Rattle.lmcut.specs.Settled.{Kept}
use Rattle.lmcut.proofs.Offers.{Passing}
use Rattle.lmcut.proofs.values.Settling.settle.Given as goal

abbrev pub invariant-loop-action : goal.invariant-loop-action
invariant-loop-action l =
    (goal.iterator-loop-action).can_next l.action-iterator
    × (goal.iterator-loop-action).is_finite l.action-iterator
    × Kept l.initial.self l.self
    × Passing l.initial.self.asked.question.now l.initial.self.left.now.of l.initial.self.open_nodes l.last.number l.last.value l.action-iterator.words l.initial.self.values.now l.self.values.now
