use Rattle.std.proofs.Common.{true, false, ap, ◌∙◌}
use Rattle.landmarks.specs.Rounds.{cut_weight, left_after}
use Rattle.lmcut.specs.Drawn.{zone_of}
use Rattle.lmcut.proofs.Bridges.{cut_is, loaded_front}
use Rattle.lmcut.proofs.question.Asked.pay.Goals as goal

pub returns : goal.returns
returns c =
    let q = c.args.self.question.now in
    let rs = c.args.left.now.of in
    let near = zone_of q true c.goal_zone-near.result in
    let start = zone_of q false c.start_zone-start.result in
    let same = cut_is q c.args.values.now rs c.sources-sources.result near start c.sources-sources.ensures.chosen c.goal_zone-near.ensures (c.start_zone-start.ensures rs) in
    let charged = c.left_after.ensures ∙ ap (left_after c.weight-weight.result) same in
    record {
      weighs = c.weight-weight.ensures ∙ ap cut_weight same;
      charged = charged;
      loads = loaded_front q c.left_after.result.of _ charged;
    }
