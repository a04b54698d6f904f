use Rattle.tables.specs.Chains.{chain}
use Rattle.task.specs.Tasks.{problem}
use Rattle.lmcut.proofs.Adding.{Added}
use Rattle.lmcut.proofs.effects.Doing.new.Given as goal

abbrev pub invariant-loop-link : goal.invariant-loop-link
invariant-loop-link l =
    (goal.iterator-loop-link).can_next l.link-iterator
    × (goal.iterator-loop-link).is_finite l.link-iterator
    × Added (chain (problem l.task).links l.first) l.link-iterator.links.now l.link-iterator.at l.sets l.changes (problem l.task)
