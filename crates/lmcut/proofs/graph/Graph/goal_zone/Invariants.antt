use Rattle.std.proofs.Common.{◌-◌, ◌^◌}
use Rattle.lmcut.proofs.Leading.{Taking}
use Rattle.lmcut.proofs.graph.Graph.goal_zone.Given as goal

abbrev pub invariant-loop-fresh : goal.invariant-loop-fresh
invariant-loop-fresh l = Taking l.self.asked.question.now l.self.left.now.of l.self.sources.now l.zone l.fresh

abbrev pub decreases-loop-fresh : goal.decreases-loop-fresh
decreases-loop-fresh l = 2 ^ 128 - l.zone
