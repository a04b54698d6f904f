use Rattle.std.proofs.Common.{◌*◌, ◌%◌, ◌^◌, ◌<◌, sym, subst, arith}
use lib.Bits.{bit_and, bit_or, bit_xor}
use lib.Count.{count_trailing_zeros}
use Rattle.std.proofs.lemmas.Nat.{one_shl}
use Rattle.lmcut.proofs.Leading.{Taking, lowest, taking_start, taking_small, taking_room, taking_inside, taking_grows, taking_more, taking_end}
use Rattle.lmcut.proofs.graph.Graph.goal_zone.Goals as goal

pub loop-fresh-init : goal.loop-fresh-init
loop-fresh-init c = taking_start c.args.self.now.asked.question.now c.args.self.now.left.now.of c.args.self.now.sources.now c.args.self.now.asked.fits c.args.self.now.placed c.last_lead-fresh.result c.last_lead-fresh.ensures

pub overflow_shl-zone : goal.overflow_shl-zone
overflow_shl-zone c =
    let w = c.loop-fresh.fresh in
    let p : 0 < w = omega arith in
    let f = taking_small c.args.self.now.asked.question.now c.args.self.now.left.now.of c.args.self.now.sources.now c.args.self.now.asked.fits c.args.self.now.placed c.loop-fresh.zone c.loop-fresh.fresh c.loop-fresh.invariant in
    (lowest w p f).inside

pub leads-requires : goal.leads-requires
leads-requires c =
    let w = c.loop-fresh.fresh in
    let p : 0 < w = omega arith in
    let f = taking_small c.args.self.now.asked.question.now c.args.self.now.left.now.of c.args.self.now.sources.now c.args.self.now.asked.fits c.args.self.now.placed c.loop-fresh.zone c.loop-fresh.fresh c.loop-fresh.invariant in
    taking_inside c.args.self.now.asked.question.now c.args.self.now.left.now.of c.args.self.now.sources.now c.args.self.now.asked.fits c.args.self.now.placed c.loop-fresh.zone w c.loop-fresh.invariant (count_trailing_zeros 128 w) (lowest w p f).set

pub loop-fresh-smaller : goal.loop-fresh-smaller
loop-fresh-smaller c =
    let w = c.loop-fresh.fresh in
    let z = c.loop-fresh.zone in
    let n = count_trailing_zeros 128 w in
    let p : 0 < w = omega arith in
    let f = taking_small c.args.self.now.asked.question.now c.args.self.now.left.now.of c.args.self.now.sources.now c.args.self.now.asked.fits c.args.self.now.placed c.loop-fresh.zone c.loop-fresh.fresh c.loop-fresh.invariant in
    let k = taking_room c.args.self.now.asked.question.now c.args.self.now.left.now.of c.args.self.now.sources.now c.args.self.now.asked.fits c.args.self.now.placed c.loop-fresh.zone c.loop-fresh.fresh c.loop-fresh.invariant in
    let l = lowest w p f in
    let more : z < bit_or z (1 * 2 ^ n % 2 ^ 128) = subst (λ y. z < bit_or z y) (sym (one_shl n 128 l.inside)) (taking_grows c.args.self.now.asked.question.now c.args.self.now.left.now.of c.args.self.now.sources.now c.args.self.now.asked.fits c.args.self.now.placed z w c.loop-fresh.invariant n l.set) in
    omega arith

pub loop-fresh-preserved : goal.loop-fresh-preserved
loop-fresh-preserved c =
    let q = c.args.self.now.asked.question.now in
    let rs = c.args.self.now.left.now.of in
    let ss = c.args.self.now.sources.now in
    let w = c.loop-fresh.fresh in
    let z = c.loop-fresh.zone in
    let n = count_trailing_zeros 128 w in
    let p : 0 < w = omega arith in
    let f = taking_small c.args.self.now.asked.question.now c.args.self.now.left.now.of c.args.self.now.sources.now c.args.self.now.asked.fits c.args.self.now.placed c.loop-fresh.zone c.loop-fresh.fresh c.loop-fresh.invariant in
    let l = lowest w p f in
    let r = c.leads.result in
    subst (λ y. Taking q rs ss (bit_or z y) (bit_xor (bit_or w r) (bit_and (bit_or w r) (bit_or z y)))) (sym (one_shl n 128 l.inside)) (taking_more q rs ss c.args.self.now.asked.fits c.args.self.now.placed z w c.loop-fresh.invariant n l.set r c.leads.ensures)

pub returns : goal.returns
returns c = taking_end c.args.self.now.asked.question.now c.args.self.now.left.now.of c.args.self.now.sources.now c.args.self.now.asked.fits c.args.self.now.placed c.loop-fresh.zone c.loop-fresh.fresh c.loop-fresh.invariant (omega arith)
