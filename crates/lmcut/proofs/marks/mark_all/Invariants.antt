use Rattle.lmcut.proofs.Marking.{MarkedUpTo}
use Rattle.lmcut.proofs.marks.mark_all.Given as goal

abbrev pub invariant-loop-action : goal.invariant-loop-action
invariant-loop-action l = MarkedUpTo l.needs l.action l.words
