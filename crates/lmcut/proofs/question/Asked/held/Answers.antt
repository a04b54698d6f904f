use Rattle.std.proofs.Common.{◌+◌, ◌-◌, ◌<◌, false, sym, ap, ◌∙◌, subst, arith}
use lib.Bits.{bit_or}
use Rattle.std.proofs.lemmas.List.{get_or-take}
use Rattle.std.proofs.lemmas.Nat.{one_shl}
use Rattle.lmcut.proofs.Starting.{Marking, marking_set, marking_skip, marking_end}
use Rattle.lmcut.proofs.question.Asked.held.Goals as goal
use Rattle.lmcut.proofs.question.Asked.held.Goals.{then-holds, else-holds}

pub loop-node-preserved : goal.loop-node-preserved
loop-node-preserved c =
    let hs = c.args.self.question.now.holds in
    let i = c.loop-node.node in
    let w = c.loop-node.zone in
    let few = c.args.self.fits.few_nodes in
    let h : i < 128 = omega arith in
    let same = get_or-take (c.args.self.question.now.nodes - 1) hs i false (omega arith) in
    elim c.if-holds.branch [
      | then-holds v ↦ subst (Marking hs (i + 1)) (sym (v.zone-is ∙ ap (bit_or w) (one_shl i 128 h))) (marking_set hs i w (sym same ∙ v.if-holds.true) c.loop-node.invariant)
      | else-holds v ↦ subst (Marking hs (i + 1)) (sym v.zone-is) (marking_skip hs i w (sym same ∙ v.if-holds.false) c.loop-node.invariant)
    ]

pub returns : goal.returns
returns c = marking_end c.args.self.question.now c.loop-node.node c.loop-node.zone c.args.self.fits (omega arith) c.loop-node.invariant
