use Rattle.std.proofs.Common.{ℕ, true, false, get_or, None, unwrap_or, ap, ◌∙◌, arith, rules}
use Rattle.std.proofs.lemmas.Iterator.{YieldsList-from_range}
use Rattle.std.proofs.lemmas.Iterator.Consumers.{YieldsList-at, YieldsList-from_filter, YieldsList-from_filter_map, fold_from_yields_List}
use Rattle.landmarks.specs.Rounds.{crossings, lightest_of}
use Rattle.lmcut.specs.Drawn.{edges_in, zone_of, marked}
use Rattle.lmcut.proofs.Crossed.{action_weight, least_with, least_reduced, source_starts, weight_reduced, unwrapped}
use Rattle.lmcut.proofs.charges.Cut.weight.Goals as goal

pub returns : goal.returns
returns c =
    let g = c.args.self.now.graph in
    let q = g.asked.question.now in
    let rs = g.left.now.of in
    let ss = g.sources.now in
    let near = zone_of q true c.args.self.now.near in
    let from = c.args.self.now.start in
    let start = zone_of q false from in
    let begins : ℕ → _ = λ a. marked from (get_or ss a None) in
    let least =
    fold_from_yields_List _ least_with None c.fold.result c.fold.ensures.ran
    (YieldsList-from_filter_map _ (action_weight q rs ss near start begins)
    (YieldsList-at c.filter_map.ensures.source
    (YieldsList-from_filter _ begins (YieldsList-at c.filter.ensures.source (YieldsList-from_range 0 q.actions q.actions (cc) (omega arith))) c.filter.ensures.closure (λ x r p k. search rules)))
    c.filter_map.ensures.closure (λ x r p k. search rules))
    (λ a x b p k. search rules)
    ∙ least_reduced _
    in
    c.unwrap_or.ensures ∙ ap (λ o. unwrap_or o 0) (least ∙ weight_reduced q rs ss near start begins 0 q.actions (λ a l r. source_starts q ss a g.asked.fits g.placed (omega arith) false from)) ∙ unwrapped (lightest_of (crossings (edges_in q rs ss) near start))
