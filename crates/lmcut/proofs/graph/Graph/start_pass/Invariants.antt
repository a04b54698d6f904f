use Rattle.std.proofs.Common.{true, false}
use Rattle.lmcut.specs.Drawn.{zone_of}
use Rattle.lmcut.specs.Spreading.{Stepped, joins}
use Rattle.lmcut.proofs.Starting.{JoinedAll}
use Rattle.lmcut.proofs.graph.Graph.start_pass.Given as goal

abbrev pub invariant-loop-action : goal.invariant-loop-action
invariant-loop-action l =
    Stepped l.self.asked.question.now false (joins l.self.asked.question.now l.self.sources.now (zone_of l.self.asked.question.now true l.near)) (JoinedAll l.self.asked.question.now l.self.sources.now (zone_of l.self.asked.question.now true l.near) l.action) l.from l.zone
