use Rattle.tables.specs.Chains.{chain}
use Rattle.task.specs.Tasks.{problem}
use Rattle.task.proofs.Effects.{Effected}
use Rattle.task.proofs.accepted.Task.effected.Given as goal

abbrev pub invariant-loop-link : goal.invariant-loop-link
invariant-loop-link l =
    (goal.iterator-loop-link).can_next l.link-iterator
    × (goal.iterator-loop-link).is_finite l.link-iterator
    × Effected (problem l.self) l.state (chain (problem l.self).links l.first) l.link-iterator.links.now l.link-iterator.at l.values l.sets l.clears
