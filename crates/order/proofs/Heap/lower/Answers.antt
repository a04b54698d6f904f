use Rattle.std.proofs.Common.{◌≡◌, length, get_or, take, set, refl, ◌∙◌, arith, length-set}
use Rattle.std.specs.Cmp.{IsTotalOrder}
use Rattle.std.specs.List.{remove}
use Rattle.order.specs.Ranks.{AtMost}
use Rattle.order.proofs.Ranking.{told_lt, at_most_not_below, at_most_tied, at_most_trans, tied_sym}
use Rattle.order.proofs.Holding.{keeps_heaped, lowered_heaped, lowered_rest, lowered_before, lowered_after}
use Rattle.order.proofs.Heap.lower.Goals as goal

pub returns-clause-lawful : goal.returns-clause-lawful
returns-clause-lawful g c =
    let xs = c.args.self.now.entries.now in
    let n = c.args.self.now.len in
    let at = c.in-Some.found in
    let new = c.args.new in
    let found = c.in-Some.ensures in
    let le = c.requires.0 in
    let long : length c.sift_up.new.entries ≡ length xs = c.sift_up.ensures.len ∙ simp length-set in
    let under : (o : IsTotalOrder g.T.Ord.cmp) → AtMost o new c.args.old = λ o. at_most_not_below o _ _ (told_lt g.met.T.Ord.matches_partial_cmp _ _ c.lt.ensures c.if-lt.false) in (
      omega arith,
      ∣ (λ o. lowered_heaped xs (set xs at new) c.sift_up.new.entries at n new found.0 le refl c.sift_up.ensures.raised o
          (λ d. at_most_trans o _ _ _ (under o) (at_most_tied o _ _ (tied_sym o _ _ (found.1 o d)))) (keeps_heaped xs n c.requires o)) ∣₁,
    )

pub returns-clause-lowered : goal.returns-clause-lowered
returns-clause-lowered g c =
    let xs = c.args.self.now.entries.now in
    let n = c.args.self.now.len in
    let at = c.in-Some.found in
    let new = c.args.new in
    let zs = c.sift_up.new.entries in
    let up = c.sift_up.ensures.raised in
    let found = c.in-Some.ensures in
    let le = c.requires.0 in
    record {
      len = refl;
      same_room = c.sift_up.ensures.len ∙ simp length-set;
      not_above = λ o. at_most_not_below o _ _ (told_lt g.met.T.Ord.matches_partial_cmp _ _ c.lt.ensures c.if-lt.false);
      was = get_or xs at new;
      tied = λ o. found.1 o new;
      others = remove (take n xs) at;
      before = lowered_before xs (set xs at new) zs at n new found.0 le refl up new;
      after = lowered_after xs (set xs at new) zs at n new found.0 le refl up;
      past = lowered_rest xs (set xs at new) zs at n new found.0 le refl up;
    }
