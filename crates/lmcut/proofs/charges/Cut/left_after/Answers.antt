use Rattle.std.proofs.Common.{◌-◌, ◌≤◌, true, false, drop, length, get_or, sym, ap, subst, arith}
use Rattle.std.proofs.lemmas.List.{length-append, length-drop, length-take-le}
use Rattle.lmcut.specs.Drawn.{zone_of, Light}
use Rattle.lmcut.proofs.Paying.{light_cut, paying_start, paying_step, paying_end, paying_modest}
use Rattle.lmcut.proofs.charges.Cut.left_after.Goals as goal

pub slice_bounds-left-end : goal.slice_bounds-left-end
slice_bounds-left-end c = let g = c.args.self.now.graph in let f = g.asked.fits.few_actions in let l = g.left.now.long in let h : g.asked.question.now.actions ≤ length g.left.now.of = omega arith in h

pub slice_bounds-left-items-end : goal.slice_bounds-left-items-end
slice_bounds-left-items-end c = let g = c.args.self.now.graph in let f = g.asked.fits.few_actions in let l = g.left.now.long in sym (length-take-le g.asked.question.now.actions g.left.now.of (omega arith))

pub loop-action-init : goal.loop-action-init
loop-action-init c = let g = c.args.self.now.graph in let f = g.asked.fits.few_actions in let l = g.left.now.long in paying_start _ g.left.now.of _ _ _ _ (omega arith)

pub charge_of-requires-clause-light : goal.charge_of-requires-clause-light
charge_of-requires-clause-light c s =
    let g = c.args.self.now.graph in
    let q = g.asked.question.now in
    let near = zone_of q true c.args.self.now.near in
    let i = c.loop-action.action in
    subst (λ μ. Light q (get_or g.left.now.of i 0) near μ i) (sym c.requires) (light_cut q g.left.now.of g.sources.now near (zone_of q false c.args.self.now.start) i (let l = c.loop-action.invariant.long in omega arith) s)

pub overflow_sub-left : goal.overflow_sub-left
overflow_sub-left c = let w = c.charge_of.ensures.within in let l = c.loop-action.invariant.long in let e = c.loop-action.invariant.rest c.loop-action.action (omega arith) (omega arith) in omega arith

pub loop-action-preserved : goal.loop-action-preserved
loop-action-preserved c =
    paying_step _ _ _ _ _ _ c.loop-action.action _ c.loop-action.invariant _ (let l = c.loop-action.invariant.long in omega arith) (ap (λ x. get_or c.loop-action.left-items c.loop-action.action 0 - x) c.charge_of.ensures.exact)

pub returns : goal.returns
returns c = paying_end _ _ _ _ _ _ c.loop-action.action _ c.loop-action.invariant (let l = c.loop-action.invariant.long in omega arith)

pub invariant_of-result-clause-modest : goal.invariant_of-result-clause-modest
invariant_of-result-clause-modest c = paying_modest _ _ _ _ _ _ c.loop-action.action _ c.loop-action.invariant (let l = c.loop-action.invariant.long in omega arith) c.args.self.now.graph.left.now.modest

pub invariant_of-result-clause-long : goal.invariant_of-result-clause-long
invariant_of-result-clause-long c =
    let g = c.args.self.now.graph in
    let q = g.asked.question.now in
    let a = length-append c.loop-action.left-items (drop q.actions g.left.now.of) in
    let d = length-drop q.actions g.left.now.of in
    let i = c.loop-action.invariant.long in
    let l = g.left.now.long in
    let f = g.asked.fits.few_actions in
    omega arith
