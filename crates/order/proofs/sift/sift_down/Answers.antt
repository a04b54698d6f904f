use Rattle.std.proofs.Common.{◌≡◌, ◌∙◌, true, false, arith}
use Rattle.std.specs.Ordering.{is_lt}
use Rattle.std.proofs.lemmas.List.Elements.{pair_read}
use Rattle.order.proofs.Ranking.{told_ge}
use Rattle.order.proofs.Sifting.{sinking_again, sinking_rests, sinking_leaf}
use Rattle.order.proofs.Stirring.{stirred_swap, stirred_trans}
use Rattle.order.proofs.sift.sift_down.Goals as goal

pub returns-then-ge : goal.returns-then-ge
returns-then-ge g c =
    let l = c.loop-at in
    let child = c.lower_child-child in
    record {
      len = l.invariant.1;
      sunk = record {
        stirred = l.invariant.2;
        heaped = λ o h. sinking_rests o l.entries l.at child.result c.args.len (child.ensures.lowest o)
            (pair_read l.entries (λ x y. is_lt (g.T.Ord.cmp x y) ≡ false) child.result l.at _ _ (omega arith) (omega arith) c.index-entries-child.is c.index-entries-at.is (told_ge g.met.T.Ord.matches_partial_cmp _ _ c.ge.ensures c.if-ge.true)) (l.invariant.3 o h);
      };
    }

pub loop-at-preserved : goal.loop-at-preserved
loop-at-preserved g c =
    let l = c.loop-at in
    let child = c.lower_child-child in
    let n = c.args.len in
    let xs = c.args.entries.now in
    let ys = l.entries in
    let zs = c.swap.new.self in
    let swaps = c.swap.ensures.by_index in (
      omega arith,
      c.swap.ensures.len ∙ l.invariant.1,
      stirred_trans xs ys zs n l.invariant.2 (stirred_swap ys zs l.at child.result n (omega arith) (omega arith) (omega arith) (omega arith) swaps),
      λ o h. sinking_again o ys zs l.at child.result n child.ensures.child.0 child.ensures.child.1 swaps
          (pair_read ys (λ x y. is_lt (g.T.Ord.cmp x y) ≡ true) child.result l.at _ _ (omega arith) (omega arith) c.index-entries-child.is c.index-entries-at.is (told_ge g.met.T.Ord.matches_partial_cmp _ _ c.ge.ensures c.if-ge.false)) (child.ensures.lowest o) (l.invariant.3 o h),
    )

pub returns : goal.returns
returns g c =
    let l = c.loop-at in
    record { len = l.invariant.1; sunk = record { stirred = l.invariant.2; heaped = λ o h. sinking_leaf o l.entries l.at c.args.len (omega arith) (l.invariant.3 o h) } }
