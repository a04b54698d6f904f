use Rattle.std.proofs.Common.{true, get_or, sym, ◌∙◌, rules}
use Rattle.std.proofs.lemmas.Iterator.{YieldsList-from_map}
use Rattle.std.proofs.lemmas.Iterator.Adapters.{option_map_id, serves_from_places}
use Rattle.std.proofs.lemmas.Iterator.Consumers.{YieldsList-at, YieldsList-from_first, min_from_yields_List}
use Rattle.landmarks.specs.Rounds.{into}
use Rattle.lmcut.specs.Drawn.{zone_of}
use Rattle.lmcut.specs.Entered.{edges_to_come}
use Rattle.lmcut.specs.Questions.{reaches_from}
use Rattle.lmcut.specs.Valued.{edge_weight}
use Rattle.lmcut.proofs.Crossed.{enters_at, lightest_reduced, small_weight}
use Rattle.lmcut.proofs.charges.Cut.lightest.Goals as goal

pub min-requires-clause-can : goal.min-requires-clause-can
min-requires-clause-can c =
    let g = c.args.self.now.graph in
    let q = g.asked.question.now in
    let a = c.args.action in (
      tt,
      serves_from_places (YieldsList-at c.map.ensures.source (YieldsList-from_first (λ x. x) edges_to_come _ c.new.ensures)) (λ x p r. search rules)
          (λ x k h e.
          let m = enters_at q (zone_of q true c.args.self.now.near) a k x h e in
          let l = small_weight q (get_or g.left.now.of a 0) a m.node x g.asked.fits c.requires m.inside (g.left.now.modest a) m.is in
          let one = (g.asked.fits.edges_small a m.node x c.requires m.inside m.is).2 in
          search rules),
    )

pub returns : goal.returns
returns c =
    let g = c.args.self.now.graph in
    let q = g.asked.question.now in
    let r = get_or g.left.now.of c.args.action 0 in
    sym (option_map_id c.min.result)
    ∙ min_from_yields_List c.map.result c.min.result c.min.ensures.ran
    (YieldsList-from_map _ (edge_weight r) (YieldsList-at c.map.ensures.source (YieldsList-from_first (λ x. x) edges_to_come _ c.new.ensures)) c.map.ensures.closure (λ x y p k. search rules))
    ∙ lightest_reduced r (into (zone_of q true c.args.self.now.near) (reaches_from q c.args.action 0 q.nodes))
