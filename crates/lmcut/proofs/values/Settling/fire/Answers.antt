use Rattle.std.proofs.Common.{◌≡◌, ◌+◌, ◌<◌, true, length, get_or, sym, ap, ◌∙◌, subst, arith}
use Rattle.task.specs.States.{fact_holds}
use Rattle.lmcut.specs.Queued.{put}
use Rattle.lmcut.proofs.Bitwise.{coming_step}
use Rattle.lmcut.proofs.Kept.{kept_more}
use Rattle.lmcut.proofs.Offers.{Firing, firing_next, firing_end, fired_goal, fired_no_goal, fired_ready}
use Rattle.lmcut.proofs.values.Settling.fire.Goals as goal
use Rattle.lmcut.proofs.values.Settling.fire.Goals.{In-Some}

-- the action's word has the node
node_set : (c : In-Some) → fact_holds (get_or c.args.self.now.asked.question.now.reach c.args.action 0) c.in-Some.node ≡ true
node_set c =
    let g = c.loop-node.invariant.3 in
    (coming_step (get_or c.args.self.now.asked.question.now.reach c.args.action 0) g.at c.loop-node.node-iterator.word c.in-Some.node c.next.new.self.word g.coming c.in-Some.ensures.steps).set

pub inner-requires : goal.inner-requires
inner-requires c = (c.requires.inside, node_set (goal.at.inner-requires c).In-Some)

-- the node is below the goal node
node_inside : (c : In-Some) → c.in-Some.node + 1 < c.args.self.now.asked.question.now.nodes
node_inside c = c.args.self.now.asked.fits.reach_inside c.args.action c.in-Some.node (node_set c)

pub weight-requires : goal.weight-requires
weight-requires c =
    let l = node_inside (goal.at.weight-requires c).In-Some in
    let e = c.args.self.now.asked.fits.edges_small c.args.action c.in-Some.node c.inner.result c.requires.inside (omega arith) c.inner.ensures in
    (c.args.self.now.left.now.modest _, (e.1, e.2))

pub loop-node-preserved : goal.loop-node-preserved
loop-node-preserved c =
    let s = c.args.self.now in
    let q = s.asked.question.now in
    let a = c.args.action in
    let r = get_or s.left.now.of a 0 in
    let top = c.args.top in
    let n = c.in-Some.node in
    let ys = c.loop-node.self.values.now in
    let g = c.loop-node.invariant.3 in
    let inside = node_inside (goal.at.loop-node-preserved c).In-Some in
    let long = s.long in
    let few = s.asked.fits.few_nodes in
    let l : n < length ys = omega (arith, inside, g.fired.long ∙ long, few) in
    let there = firing_next q a r top c.loop-node.node-iterator.word s.values.now ys g n c.next.new.self.word c.inner.result s.asked.fits c.in-Some.ensures.steps c.inner.ensures l in (
      tt,
      tt,
      kept_more s c.loop-node.self c.offer.new.self c.loop-node.invariant.2 c.offer.ensures.kept,
      subst (Firing q a r top c.next.new.self.word s.values.now) (sym (c.offer.ensures.is ∙ ap (λ x. put ys n (top + x)) c.weight.ensures.is)) there,
    )

pub returns-then-action-question-clause-fired : goal.returns-then-action-question-clause-fired
returns-then-action-question-clause-fired c =
    let s = c.args.self.now in
    let q = s.asked.question.now in
    let a = c.args.action in
    let r = get_or s.left.now.of a 0 in
    let top = c.args.top in
    let ys = c.loop-node.self.values.now in
    let g = c.loop-node.invariant.3 in
    let long = s.long in
    let f = firing_end q a r top c.loop-node.node-iterator.word s.values.now ys g c.next.new.self.word c.in-None.ensures.steps in
    fired_ready q s.left.now.of s.open_nodes a top s.values.now c.offer-then-action-question.new.self.values.now c.if-question-action-ne0.false
    (fired_goal q a r top s.values.now ys s.asked.fits f c.offer-then-action-question.new.self.values.now c.if-action-question.true (g.fired.long ∙ long) c.offer-then-action-question.ensures.is)

pub returns-else-action-question-clause-fired : goal.returns-else-action-question-clause-fired
returns-else-action-question-clause-fired c =
    let s = c.args.self.now in
    let q = s.asked.question.now in
    let a = c.args.action in
    let r = get_or s.left.now.of a 0 in
    let ys = c.loop-node.self.values.now in
    let f = firing_end q a r c.args.top c.loop-node.node-iterator.word s.values.now ys c.loop-node.invariant.3 c.next.new.self.word c.in-None.ensures.steps in
    fired_ready q s.left.now.of s.open_nodes a c.args.top s.values.now ys c.if-question-action-ne0.false (fired_no_goal q a r c.args.top s.values.now ys s.asked.fits f c.if-action-question.false)
