use Rattle.landmarks.specs.Relaxed.{needs_of}
use Rattle.task.specs.Tasks.{problem}
use Rattle.lmcut.proofs.Needing.{Needed}
use Rattle.lmcut.proofs.needs.needs_word.Given as goal

abbrev pub invariant-loop-link : goal.invariant-loop-link
invariant-loop-link l =
    (goal.iterator-loop-link).can_next l.link-iterator
    × (goal.iterator-loop-link).is_finite l.link-iterator
    × Needed (problem l.task) (needs_of (problem l.task) l.first) l.link-iterator.links.now l.link-iterator.at l.word
