use Rattle.lmcut.proofs.Marking.{Marking}
use Rattle.lmcut.proofs.marks.mark.Given as goal

abbrev pub invariant-loop-node : goal.invariant-loop-node
invariant-loop-node l =
    (goal.iterator-loop-node).can_next l.node-iterator
    × (goal.iterator-loop-node).is_finite l.node-iterator
    × Marking l.initial.words l.word l.action l.node-iterator.word l.words
