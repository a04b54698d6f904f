use Rattle.std.proofs.Common.{◌≡◌, ◌*◌, ltb, get_or, sym, refl, ◌∙◌, arith}
use Rattle.lmcut.proofs.Closing.{some_same}
use Rattle.lmcut.proofs.Crossed.{small_weight}
use Rattle.lmcut.proofs.graph.Graph.weightless.Goals as goal

pub overflow_mul-result : goal.overflow_mul-result
overflow_mul-result c =
    let q = c.args.self.now.asked.question.now in
    let a = c.args.action in
    let n = c.args.node in
    let h = c.args.self.now.asked.fits.reach_inside a n c.requires.reached in
    let l = small_weight q (get_or c.args.self.now.left.now.of a 0) a n c.inner-edge.result c.args.self.now.asked.fits c.requires.inside (omega arith) (c.args.self.now.left.now.modest a) c.inner-edge.ensures in
    omega arith

pub returns : goal.returns
returns c e h =
    let x = c.inner-edge.result in
    let r = get_or c.args.self.now.left.now.of c.args.action 0 in
    some_same x e (λ y. ltb (x.short * r) x.gain ≡ ltb (y.short * r) y.gain) (sym c.inner-edge.ensures ∙ h) refl
