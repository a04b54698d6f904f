use Rattle.std.proofs.Common.{true, false}
use Rattle.lmcut.specs.Drawn.{zone_of}
use Rattle.lmcut.proofs.Paying.{Paying}
use Rattle.lmcut.proofs.charges.Cut.left_after.Given as goal

abbrev pub invariant-loop-action : goal.invariant-loop-action
invariant-loop-action l =
    Paying l.self.graph.asked.question.now l.self.graph.left.now.of l.self.graph.sources.now (zone_of l.self.graph.asked.question.now true l.self.near) (zone_of l.self.graph.asked.question.now false l.self.start) l.weight l.action l.left-items
