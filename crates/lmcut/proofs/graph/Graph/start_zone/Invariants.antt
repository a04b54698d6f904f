use Rattle.std.proofs.Common.{◌-◌, ◌^◌, true, false}
use Rattle.lmcut.specs.Drawn.{zone_of}
use Rattle.lmcut.specs.Spreading.{Spreads, joins}
use Rattle.lmcut.proofs.graph.Graph.start_zone.Given as goal

abbrev pub invariant-loop-zone : goal.invariant-loop-zone
invariant-loop-zone l = Spreads (joins l.self.asked.question.now l.self.sources.now (zone_of l.self.asked.question.now true l.near)) l.self.asked.question.now.nodes (zone_of l.self.asked.question.now false l.initial.zone) (zone_of l.self.asked.question.now false l.zone)

abbrev pub decreases-loop-zone : goal.decreases-loop-zone
decreases-loop-zone l = 2 ^ 128 - l.zone
