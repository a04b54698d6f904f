use Rattle.std.proofs.Common.{ap, ◌∙◌, arith, rules}
use Rattle.lmcut.proofs.Marking.{marking_start, marking_step, marking_end, node_below}
use Rattle.lmcut.proofs.marks.mark.Goals as goal

pub loop-node-init : goal.loop-node-init
loop-node-init c =
    (tt, tt, marking_start c.args.words.now c.args.word c.args.action _ (search rules) (ap (λ b. b.word) c.into_iter-node-iterator.ensures.into_iter_gives ∙ c.new-node-items.ensures))

pub bounds-words-node : goal.bounds-words-node
bounds-words-node c = node_below _ _ _ c.in-Some.ensures.steps

pub offset_bounds-words-node : goal.offset_bounds-words-node
offset_bounds-words-node c = let l = node_below _ _ _ c.in-Some.ensures.steps in omega arith

pub loop-node-preserved : goal.loop-node-preserved
loop-node-preserved c =
    (tt, tt, marking_step c.args.words.now c.args.word c.args.action _ c.in-Some.node _ c.loop-node.words c.insert.new.words c.insert.ensures c.in-Some.ensures.steps c.loop-node.invariant.2)

pub returns : goal.returns
returns c = marking_end _ _ _ _ _ _ c.in-None.ensures.steps c.loop-node.invariant.2
