use Rattle.std.proofs.Common.{true, false, subst}
use Rattle.lmcut.specs.Drawn.{zone_of}
use Rattle.lmcut.specs.Spreading.{Closed, joins}
use Rattle.lmcut.proofs.Closing.{spreads_on}
use Rattle.lmcut.proofs.Starting.{start_zone_is}
use Rattle.lmcut.proofs.graph.Graph.start_zone.Goals as goal

pub loop-zone-preserved : goal.loop-zone-preserved
loop-zone-preserved c = spreads_on _ _ _ _ _ c.loop-zone.invariant c.start_pass-next.ensures.spreads

pub returns-then-next-zone : goal.returns-then-next-zone
returns-then-next-zone c =
    let q = c.args.self.now.asked.question.now in
    let ss = c.args.self.now.sources.now in
    let near = zone_of q true c.args.near in
    let same = c.if-next-zone.true in
    start_zone_is q ss near c.held-zone.result c.loop-zone.zone c.args.self.now.asked.fits c.held-zone.ensures c.loop-zone.invariant
    (subst (λ w. Closed (joins q ss near) q.nodes (zone_of q false w)) same (c.start_pass-next.ensures.still same))
