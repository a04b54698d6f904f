use Rattle.std.proofs.Common.{◌≡◌, ◌∙◌, ◌-◌, ◌/◌, ◌<◌, true, false, length, arith}
use Rattle.std.specs.Ordering.{is_lt}
use Rattle.std.proofs.lemmas.List.Elements.{pair_read}
use Rattle.order.specs.Shape.{Child}
use Rattle.order.proofs.Ranking.{told_ge}
use Rattle.order.proofs.Sifting.{rising_again, rising_rests, rising_top}
use Rattle.order.proofs.Stirring.{stirred_swap, stirred_trans}
use Rattle.order.proofs.sift.sift_up.Goals as goal

pub returns-then-ge : goal.returns-then-ge
returns-then-ge g c =
    let l = c.loop-at in
    let ys = l.entries in
    let up = (l.at - 1) / 2 in
    let some : 0 < l.at = c.loop-at-test.true in
    let kin : Child up l.at = (omega arith, omega arith) in
    let within : l.at < length ys = omega arith in
    record {
      len = l.invariant.2;
      raised = record {
        stirred = l.invariant.3;
        heaped = λ o n lt h. rising_rests o ys up l.at n kin
            (pair_read ys (λ x y. is_lt (g.T.Ord.cmp x y) ≡ false) l.at up _ _ within (omega arith) c.index-entries-at.is c.index-entries-parent.is (told_ge g.met.T.Ord.matches_partial_cmp _ _ c.ge.ensures c.if-ge.true)) (l.invariant.4 o n lt h);
      };
    }

pub loop-at-preserved : goal.loop-at-preserved
loop-at-preserved g c =
    let l = c.loop-at in
    let xs = c.args.entries.now in
    let ys = l.entries in
    let zs = c.swap.new.self in
    let swaps = c.swap.ensures.by_index in
    let up = (l.at - 1) / 2 in
    let some : 0 < l.at = c.loop-at-test.true in
    let kin : Child up l.at = (omega arith, omega arith) in
    let within : l.at < length ys = omega arith in (
      omega arith,
      omega arith,
      c.swap.ensures.len ∙ l.invariant.2,
      λ n lt. stirred_trans xs ys zs n (l.invariant.3 n lt) (stirred_swap ys zs up l.at n (omega arith) (omega arith) (omega arith) within swaps),
      λ o n lt h. rising_again o ys zs up l.at n kin (omega arith) swaps
          (pair_read ys (λ x y. is_lt (g.T.Ord.cmp x y) ≡ true) l.at up _ _ within (omega arith) c.index-entries-at.is c.index-entries-parent.is (told_ge g.met.T.Ord.matches_partial_cmp _ _ c.ge.ensures c.if-ge.false)) (l.invariant.4 o n lt h),
    )

pub returns : goal.returns
returns g c =
    let l = c.loop-at in
    record { len = l.invariant.2; raised = record { stirred = l.invariant.3; heaped = λ o n lt h. rising_top o l.entries l.at n (omega arith) (l.invariant.4 o n lt h) } }
