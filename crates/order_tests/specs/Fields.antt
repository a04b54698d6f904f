-- The orders of the two entry types, by their fields, and the lower of two entries.
--     Lowest R a b x      x is a or b, and at most each, in any total order that R allows
--     by_two, by_three    the orders that `ByTwo` and `ByThree` derive are total
--     Before x y          x stands before y, or is y
--     Sooner x y          the same of entries with three fields
use Rattle.std.specs.Prelude.{◌≡◌, ◌<◌, ◌≤◌, ◌⊎◌}
use Rattle.std.specs.declared.cmp.Ordering.{Ordering}
use Rattle.std.specs.Cmp.{IsTotalOrder, nat_cmp_total, on_total, then_total}
use Rattle.order.specs.Ranks.{AtMost}
use Rattle.order_tests.specs.declared.ByTwo.{ByTwo}
use Rattle.order_tests.specs.declared.ByThree.{ByThree}
use Rattle.order_tests.specs.contracts.ByTwoOrd.TheImpl as two
use Rattle.order_tests.specs.contracts.ByThreeOrd.TheImpl as three

pub record Lowest {X : Type 0} (R : X → X → Ordering) (a b x : X) : Type 0 where
  pub one : (x ≡ a) ⊎ (x ≡ b)
  pub at_most_first : (o : IsTotalOrder R) → AtMost o x a
  pub at_most_second : (o : IsTotalOrder R) → AtMost o x b

abbrev pub by_two : IsTotalOrder (two.ghosts).cmp
by_two = then_total (on_total (λ (x : ByTwo). x.value) nat_cmp_total) (on_total (λ (x : ByTwo). x.number) nat_cmp_total)

abbrev pub by_three : IsTotalOrder (three.ghosts).cmp
by_three =
    then_total (on_total (λ (x : ByThree). x.f) nat_cmp_total)
    (then_total (on_total (λ (x : ByThree). x.h) nat_cmp_total) (on_total (λ (x : ByThree). x.row) nat_cmp_total))

abbrev pub Before : ByTwo → ByTwo → Type 0
Before x y = (x.value < y.value) ⊎ ((x.value ≡ y.value) × (x.number ≤ y.number))

abbrev pub Sooner : ByThree → ByThree → Type 0
Sooner x y = (x.f < y.f) ⊎ ((x.f ≡ y.f) × ((x.h < y.h) ⊎ ((x.h ≡ y.h) × (x.row ≤ y.row))))
