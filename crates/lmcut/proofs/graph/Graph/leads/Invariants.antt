use Rattle.lmcut.proofs.Leading.{Finding}
use Rattle.lmcut.proofs.graph.Graph.leads.Given as goal

abbrev pub invariant-loop-action : goal.invariant-loop-action
invariant-loop-action l =
    (goal.iterator-loop-action).can_next l.action-iterator
    × (goal.iterator-loop-action).is_finite l.action-iterator
    × Finding l.self.asked.question.now l.self.left.now.of l.self.sources.now l.node l.action-iterator.words l.found
