use Rattle.task.specs.Tasks.{problem}
use Rattle.lmcut.proofs.Weighing.{Weighed}
use Rattle.lmcut.proofs.effects.Doing.gain.Given as goal

abbrev pub invariant-loop-link : goal.invariant-loop-link
invariant-loop-link l =
    (goal.iterator-loop-link).can_next l.link-iterator
    × (goal.iterator-loop-link).is_finite l.link-iterator
    × Weighed (problem l.task) l.first l.self.changes l.link-iterator.links.now l.link-iterator.at l.sum
