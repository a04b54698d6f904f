use Rattle.std.proofs.Common.{◌≤◌, length, get_or, sym, ap, ◌∙◌, subst, arith}
use Rattle.lmcut.proofs.Picks.{Taking, taking_start, taking_inside, taking_below, taking_step, taking_end}
use Rattle.lmcut.proofs.question.Asked.chosen.Goals as goal

pub loop-node-init : goal.loop-node-init
loop-node-init c = taking_start _ _ _ _ (ap (λ b. b.word) c.into_iter-node-iterator.ensures.into_iter_gives ∙ c.new-node-items.ensures)

pub preferred-best-requires : goal.preferred-best-requires
preferred-best-requires c =
    let q = c.args.self.question.now in
    let f = c.args.self.fits.few_nodes in
    let t = c.told-values in
    let s = c.in-Some.ensures.steps in
    let long : q.nodes ≤ length c.args.values.now = omega arith in
    let i = taking_inside _ _ _ _ _ long (c.args.self.fits.needs_inside c.args.action) c.loop-node.invariant _ _ s in
    (omega arith, taking_below _ _ _ _ _ long (c.args.self.fits.needs_inside c.args.action) c.loop-node.invariant _ _ s)

pub loop-node-preserved : goal.loop-node-preserved
loop-node-preserved c =
    let q = c.args.self.question.now in
    let f = c.args.self.fits.few_nodes in
    let t = c.told-values in
    let long : q.nodes ≤ length c.args.values.now = omega arith in
    subst (λ o. Taking q.nodes c.args.values.now (get_or q.needs c.args.action 0) o c.next.new.self.word) (sym c.preferred-best.ensures)
    (taking_step _ _ _ _ _ long (c.args.self.fits.needs_inside c.args.action) c.loop-node.invariant _ _ c.in-Some.ensures.steps)

pub returns : goal.returns
returns c =
    let q = c.args.self.question.now in
    let f = c.args.self.fits.few_nodes in
    let t = c.told-values in
    let long : q.nodes ≤ length c.args.values.now = omega arith in
    taking_end _ _ _ _ _ long (c.args.self.fits.needs_inside c.args.action) c.loop-node.invariant _ c.in-None.ensures.steps
