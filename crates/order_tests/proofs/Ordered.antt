-- What the two orders say by fields.
use Rattle.std.proofs.Common.{◌≡◌, ◌⊎◌, Some, None, Option, MatchOption, inl, inr, ⊎_elim, arith, length-take}
use Rattle.std.specs.declared.cmp.Ord as ord
use Rattle.std.specs.Cmp.{IsTotalOrder, nat_cmp_total, on_total, then_total}
use Rattle.std.specs.Ordering.{nat_cmp, on}
use Rattle.std.specs.List.{Contains}
use Rattle.order.specs.declared.Heap.{Heap}
use Rattle.order.specs.Laws.{held, First, Pushed}
use Rattle.order.specs.Ranks.{AtMost}
use Rattle.order.proofs.Fields.{unsigned_less, unsigned_tied, unsigned_at_most, fields_at_most}
use Rattle.order.proofs.Members.{first_at_most, pushed_has, pushed_has_new, pushed_only}
use Rattle.order_tests.specs.Fields.{by_two, by_three, Lowest, Before, Sooner}
use Rattle.order_tests.specs.declared.ByTwo.{ByTwo}
use Rattle.order_tests.specs.declared.ByThree.{ByThree}
use Rattle.order_tests.specs.contracts.ByTwoOrd.TheImpl as two
use Rattle.order_tests.specs.contracts.ByThreeOrd.TheImpl as three

by_value : IsTotalOrder (on (λ (x : ByTwo). x.value) nat_cmp)
by_value = on_total (λ (x : ByTwo). x.value) nat_cmp_total

by_number : IsTotalOrder (on (λ (x : ByTwo). x.number) nat_cmp)
by_number = on_total (λ (x : ByTwo). x.number) nat_cmp_total

by_f : IsTotalOrder (on (λ (x : ByThree). x.f) nat_cmp)
by_f = on_total (λ (x : ByThree). x.f) nat_cmp_total

by_h : IsTotalOrder (on (λ (x : ByThree). x.h) nat_cmp)
by_h = on_total (λ (x : ByThree). x.h) nat_cmp_total

by_row : IsTotalOrder (on (λ (x : ByThree). x.row) nat_cmp)
by_row = on_total (λ (x : ByThree). x.row) nat_cmp_total

pub before : (x y : ByTwo) → AtMost by_two x y → Before x y
before x y h = ⊎_elim
    (λ l. inl (unsigned_less _ _ l))
    (λ e. inr (unsigned_tied _ _ e.0, unsigned_at_most _ _ e.1))
    (fields_at_most by_value by_number x y h)

pub sooner : (x y : ByThree) → AtMost by_three x y → Sooner x y
sooner x y h = ⊎_elim
    (λ l. inl (unsigned_less _ _ l))
    (λ e. inr (
      unsigned_tied _ _ e.0,
      ⊎_elim
          (λ l. inl (unsigned_less _ _ l))
          (λ t. inr (unsigned_tied _ _ t.0, unsigned_at_most _ _ t.1))
          (fields_at_most by_h by_row x y e.1),
    ))
    (fields_at_most by_f (then_total by_h by_row) x y h)

-- What is first of two entries that were pushed is the lowest of them.
module _ {X : Type 0} {c : ord.Ghosts X} (g h k : Heap X) (a b x : X) (none : g.len ≡ 0) (p : Pushed g a h) (q : Pushed h b k) (f : First c.cmp k x) where
  from_none : Contains (held g) x → ⊥
  from_none m = omega (arith, simp length-take at m.1)

  pub first_lowest : Lowest c.cmp a b x
  first_lowest = record {
    one = ⊎_elim inr (λ m. ⊎_elim inl (λ n. absurd (from_none n)) (pushed_only p x m)) (pushed_only q x f.has);
    at_most_first = λ o. first_at_most f o a (pushed_has q a (pushed_has_new p));
    at_most_second = λ o. first_at_most f o b (pushed_has_new q);
  }

-- what the lowest of two says by their fields
module _ (a b : ByTwo) where
  pub lowest_before : (r : Option ByTwo) → MatchOption r ⊥ (Lowest (two.ghosts).cmp a b) → MatchOption r ⊥ (λ x. ((x ≡ a) ⊎ (x ≡ b)) × Before x a × Before x b)
  lowest_before None l = l
  lowest_before (Some x) l = (l.one, before x a (l.at_most_first by_two), before x b (l.at_most_second by_two))

module _ (a b : ByThree) where
  pub lowest_sooner : (r : Option ByThree) → MatchOption r ⊥ (Lowest (three.ghosts).cmp a b) → MatchOption r ⊥ (λ x. ((x ≡ a) ⊎ (x ≡ b)) × Sooner x a × Sooner x b)
  lowest_sooner None l = l
  lowest_sooner (Some x) l = (l.one, sooner x a (l.at_most_first by_three), sooner x b (l.at_most_second by_three))
