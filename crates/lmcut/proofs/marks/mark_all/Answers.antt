use Rattle.std.proofs.Common.{sym, subst, arith}
use Rattle.lmcut.proofs.Marking.{MarkedUpTo, marked_start, marked_more, marked_end}
use Rattle.lmcut.proofs.marks.mark_all.Goals as goal

pub loop-action-init : goal.loop-action-init
loop-action-init c = subst (MarkedUpTo c.args.needs.now 0) (sym c.requires) (marked_start c.args.needs.now)

pub loop-action-preserved : goal.loop-action-preserved
loop-action-preserved c = marked_more c.args.needs.now c.loop-action.action _ _ c.mark.ensures c.loop-action.invariant

pub returns : goal.returns
returns c = marked_end c.args.needs.now c.loop-action.action c.loop-action.words (let h = c.loop-action-test.false in let k = c.loop-action.auto.action-end in omega arith) c.loop-action.invariant
