-- For callers: what `AtMost` and a tie say of entries that are ordered by their fields, each an unsigned number.
-- The order of a derived `Ord` is `then_cmp P Q`, where P goes by the first field, and Q by the others.
use Rattle.std.proofs.Common.{◌≡◌, ℕ, ◌<◌, ◌≤◌, true, ◌⊎◌, Ordering, Less, Equal, Greater, sym, refl, ap, inl, inr, true≢false, arith}
use Rattle.std.specs.Cmp.{IsTotalOrder, nat_cmp_total, means, ranks, below_irrefl, below_chain, then_total}
use Rattle.std.specs.Ordering.{is_gt, is_le, is_lt, ordering_then, nat_cmp, then_cmp}
use Rattle.order.specs.Ranks.{AtMost}

pub unsigned_less : (x y : ℕ) → nat_cmp x y ≡ Less → x < y
unsigned_less x y e = means (λ (a b : ℕ). a < b) below_irrefl below_chain nat_cmp ranks x y Less e

pub unsigned_tied : (x y : ℕ) → nat_cmp x y ≡ Equal → x ≡ y
unsigned_tied x y e = means (λ (a b : ℕ). a < b) below_irrefl below_chain nat_cmp ranks x y Equal e

at_most_by : (x y : ℕ) (r : Ordering) → nat_cmp x y ≡ r → is_le r ≡ true → x ≤ y
at_most_by x y Less e h = omega (arith, unsigned_less x y e)
at_most_by x y Equal e h = omega (arith, unsigned_tied x y e)
at_most_by x y Greater e h = absurd (true≢false (sym h))

pub unsigned_at_most : (x y : ℕ) → AtMost nat_cmp_total x y → x ≤ y
unsigned_at_most x y h = at_most_by x y (nat_cmp x y) refl h

then_le : (r s : Ordering) → is_le (ordering_then r s) ≡ true → (r ≡ Less) ⊎ ((r ≡ Equal) × (is_le s ≡ true))
then_le Less s h = inl refl
then_le Equal s h = inr (refl, h)
then_le Greater s h = absurd (true≢false (sym h))

then_equal : (r s : Ordering) → ordering_then r s ≡ Equal → (r ≡ Equal) × (s ≡ Equal)
then_equal Less s h = absurd (true≢false (ap is_lt h))
then_equal Equal s h = (refl, h)
then_equal Greater s h = absurd (true≢false (ap is_gt h))

module _ {X : Type 0} {P Q : X → X → Ordering} (a : IsTotalOrder P) (b : IsTotalOrder Q) where
  pub fields_at_most : (x y : X) → AtMost (then_total a b) x y → (P x y ≡ Less) ⊎ ((P x y ≡ Equal) × AtMost b x y)
  fields_at_most x y h = then_le (P x y) (Q x y) h

  pub fields_tied : (x y : X) → then_cmp P Q x y ≡ Equal → (P x y ≡ Equal) × (Q x y ≡ Equal)
  fields_tied x y h = then_equal (P x y) (Q x y) h
