use Rattle.std.proofs.Common.{◌≤◌, true, get_or, unwrap_or, sym, ap, ◌∙◌, subst, rules}
use Rattle.std.proofs.lemmas.Iterator.{YieldsList-from_map}
use Rattle.std.proofs.lemmas.Iterator.Adapters.{option_map_id, serves_from_places}
use Rattle.std.proofs.lemmas.Iterator.Consumers.{YieldsList-at, YieldsList-from_first, max_from_yields_List}
use Rattle.landmarks.specs.Rounds.{into}
use Rattle.lmcut.specs.Drawn.{zone_of}
use Rattle.lmcut.specs.Entered.{edges_to_come}
use Rattle.lmcut.specs.Questions.{reaches_from}
use Rattle.lmcut.proofs.Crossed.{edge_charge, enters_at, entering_short, charge_reduced, charge_within, small_charge}
use Rattle.lmcut.proofs.charges.Cut.charge.Goals as goal

pub max-requires-clause-can : goal.max-requires-clause-can
max-requires-clause-can c =
    let g = c.args.self.now.graph in
    let q = g.asked.question.now in
    let a = c.args.action in
    let near = zone_of q true c.args.self.now.near in (
      tt,
      serves_from_places (YieldsList-at c.map.ensures.source (YieldsList-from_first (λ x. x) edges_to_come _ c.new.ensures)) (λ x p r. search rules)
          (λ x k h e.
          let m = enters_at q near a k x h e in
          let l = (small_charge q (get_or g.left.now.of a 0) near c.args.weight a m.node x g.asked.fits c.requires.inside m.inside (g.left.now.modest a) c.requires.light m.is m.zoned).product in
          let one = (g.asked.fits.edges_small a m.node x c.requires.inside m.inside m.is).0 in
          search rules),
    )

pub returns-clause-exact : goal.returns-clause-exact
returns-clause-exact c =
    let g = c.args.self.now.graph in
    let q = g.asked.question.now in
    let μ = c.args.weight in
    let near = zone_of q true c.args.self.now.near in
    let most =
    sym (option_map_id c.max.result)
    ∙ max_from_yields_List c.map.result c.max.result c.max.ensures.ran
    (YieldsList-from_map _ (edge_charge μ) (YieldsList-at c.map.ensures.source (YieldsList-from_first (λ x. x) edges_to_come _ c.new.ensures)) c.map.ensures.closure (λ x y p k. search rules))
    in
    c.unwrap_or.ensures ∙ ap (λ o. unwrap_or o 0) most
    ∙ charge_reduced μ (into near (reaches_from q c.args.action 0 q.nodes)) (entering_short q (get_or g.left.now.of c.args.action 0) near μ c.args.action g.asked.fits c.requires.inside)

pub returns-clause-within : goal.returns-clause-within
returns-clause-within c =
    let g = c.args.self.now.graph in
    let q = g.asked.question.now in
    let a = c.args.action in
    let r = get_or g.left.now.of a 0 in
    let w = charge_within q r (zone_of q true c.args.self.now.near) c.args.weight a g.asked.fits c.requires.inside (g.left.now.modest a) c.requires.light in
    subst (λ n. n ≤ r) (sym (returns-clause-exact c)) w
