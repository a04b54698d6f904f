use Rattle.std.proofs.Common.{◌+◌, length, sym, ap, ◌∙◌, subst, subst₂, arith}
use lib.Bits.{bit_or}
use Rattle.std.proofs.lemmas.Nat.{one_shl}
use Rattle.lmcut.specs.Valued.{Begun, Opened}
use Rattle.lmcut.proofs.Offers.{BegunTo, begun_none, begun_hold, begun_open, begun_more, begun_all}
use Rattle.lmcut.proofs.Queues.{queued_none_yet}
use Rattle.lmcut.proofs.Settling.{start_blank}
use Rattle.lmcut.proofs.values.Settling.new.Goals as goal
use Rattle.lmcut.proofs.values.Settling.new.Goals.{then-holds, else-holds, After-new}

pub loop-node-init : goal.loop-node-init
loop-node-init c = begun_none c.args.asked.question.now

pub loop-node-preserved : goal.loop-node-preserved
loop-node-preserved c =
    let q = c.args.asked.question.now in
    let k = c.loop-node.node in
    let xs = c.loop-node.values in
    let w = c.loop-node.open_nodes in
    let read = begun_more q k c.args.asked.fits c.loop-node-test.true in
    elim c.if-holds.branch [
      | then-holds t ↦ subst₂ (BegunTo q (k + 1)) (sym t.values-is) (sym t.open_nodes-is) (begun_hold q k xs w c.loop-node.invariant (omega (arith, read.0)) (read.1 ∙ t.if-holds.true))
      | else-holds t ↦
          subst₂ (BegunTo q (k + 1)) (sym t.values-is) (sym t.open_nodes-is)
          (subst (λ x. BegunTo q (k + 1) xs (bit_or w x)) (sym (one_shl k 128 read.0)) (begun_open q k xs w c.loop-node.invariant (omega (arith, read.0)) (read.1 ∙ t.if-holds.false)))
    ]

begun : (c : After-new) → Begun c.args.asked.question.now c.loop-node.values × Opened c.args.asked.question.now c.loop-node.open_nodes
begun c = begun_all c.args.asked.question.now c.loop-node.node c.loop-node.values c.loop-node.open_nodes c.args.asked.fits c.loop-node.invariant c.loop-node.auto.node-end c.loop-node-test.false

pub returns-clause-begun : goal.returns-clause-begun
returns-clause-begun c = (begun (goal.at.returns-clause-begun c).After-new).0

pub returns-clause-opened : goal.returns-clause-opened
returns-clause-opened c = (begun (goal.at.returns-clause-opened c).After-new).1

pub invariant_of-result : goal.invariant_of-result
invariant_of-result c =
    let b = begun c in
    let blank = start_blank c.args.asked.question.now c.args.left.now.of c.loop-node.values c.loop-node.open_nodes c.args.asked.fits b.0 b.1 in
    record {
      long = b.0.long;
      lawful = c.new.ensures.lawful;
      queued = ∣ queued_none_yet c.loop-node.values c.loop-node.open_nodes c.args.asked.question.now.nodes c.new.result blank c.new.ensures.empty (ap length c.new.ensures.lent ∙ c.requires) ∣₁;
    }
