use Rattle.std.proofs.Common.{◌≡◌, ◌<◌, length, set, refl, ◌∙◌, arith, length-set}
use Rattle.order.proofs.Holding.{keeps_heaped, pushed_heaped, pushed_held, pushed_rest}
use Rattle.order.proofs.Heap.push.Goals as goal

pub returns-clause-lawful : goal.returns-clause-lawful
returns-clause-lawful g c =
    let xs = c.args.self.now.entries.now in
    let n = c.args.self.now.len in
    let x = c.args.x in
    let lt : n < length xs = omega (arith, c.requires.0) in
    let long : length c.sift_up.new.entries ≡ length xs = c.sift_up.ensures.len ∙ simp length-set in
    (omega arith, ∣ (λ o. pushed_heaped xs (set xs n x) c.sift_up.new.entries n x lt refl c.sift_up.ensures.raised o (keeps_heaped xs n c.requires o)) ∣₁)

pub returns-clause-pushed : goal.returns-clause-pushed
returns-clause-pushed g c =
    let xs = c.args.self.now.entries.now in
    let n = c.args.self.now.len in
    let x = c.args.x in
    let zs = c.sift_up.new.entries in
    let up = c.sift_up.ensures.raised in
    let lt : n < length xs = omega (arith, c.requires.0) in
    record { len = refl; same_room = c.sift_up.ensures.len ∙ simp length-set; entries = pushed_held xs (set xs n x) zs n x lt refl up; past = pushed_rest xs (set xs n x) zs n x lt refl up }
