use Rattle.std.proofs.Common.{◌≤◌, length, sym, ap, subst, arith, MatchOption}
use Rattle.order.specs.Laws.{room}
use Rattle.order.proofs.Members.{pushed_fits, first_told}
use Rattle.order_tests.specs.Fields.{Lowest}
use Rattle.order_tests.proofs.Ordered.{first_lowest}
use Rattle.order_tests.proofs.lowest_of.Goals as goal

pub returns : goal.returns
returns g c =
    let a = c.args.a in
    let b = c.args.b in
    let m = c.new-heap.result in
    let h = c.push.new.self in
    let k = c.push-2.new.self in
    let two : 2 ≤ room m = omega (arith, ap length c.new-heap.ensures.lent) in
    let p = pushed_fits m a h c.push.result c.push.ensures.pushed (omega arith) in
    let q = pushed_fits h b k c.push-2.result c.push-2.ensures.pushed (omega (arith, p.len, p.same_room)) in
    let told = first_told k c.first.result c.first.ensures (omega (arith, q.len)) in
    subst (λ r. MatchOption r ⊥ (Lowest g.T.Ord.cmp a b)) (sym told.1) (first_lowest m h k a b told.0 c.new-heap.ensures.empty p q told.2)
