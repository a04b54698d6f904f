-- What a turn of each sift keeps.
use Rattle.std.proofs.Common.{◌≡◌, ℕ, ◌+◌, ◌*◌, ◌<◌, ◌≤◌, true, false, List, get_or, Ordering, sym, refl, ap, ◌∙◌, subst, ⊎_elim, arith}
use Rattle.std.specs.Cmp.{IsTotalOrder}
use Rattle.std.specs.Ordering.{is_lt}
use Rattle.std.proofs.lemmas.Bool.{cases_eq}
use Rattle.order.specs.Ranks.{AtMost}
use Rattle.order.specs.Shape.{Child, Heaped, Rising, Sinking}
use Rattle.order.proofs.Ranking.{at_most_trans, at_most_below, at_most_not_below}
use Rattle.order.proofs.Stirring.{Swaps}

module _ {X : Type 0} {R : X → X → Ordering} (o : IsTotalOrder R) where
  -- AtMost at equal entries
  pub by : (a b x y : X) → a ≡ x → b ≡ y → AtMost o x y → AtMost o a b
  by a b x y p q h = subst (λ z. AtMost o z b) (sym p) (subst (AtMost o x) (sym q) h)

  pub rising_ends : (xs : List X) (j n : ℕ) → ((p : ℕ) (d : X) → Child p j → AtMost o (get_or xs p d) (get_or xs j d)) → Rising o xs j n → Heaped o xs n
  unfolding Rising Heaped
  rising_ends xs j n over h p k d kin lt =
      ⊎_elim (λ e. by _ _ _ _ refl (ap (λ i. get_or xs i d) e) (over p d (omega arith, omega arith))) (h.0 p k d kin lt) (cases_eq k j)

  pub sinking_ends : (xs : List X) (j n : ℕ) → ((k : ℕ) (d : X) → Child j k → k < n → AtMost o (get_or xs j d) (get_or xs k d)) → Sinking o xs j n → Heaped o xs n
  unfolding Sinking Heaped
  sinking_ends xs j n under h p k d kin lt =
      ⊎_elim (λ e. by _ _ _ _ (ap (λ i. get_or xs i d) e) refl (under k d (omega arith, omega arith) lt)) (h.0 p k d kin lt) (cases_eq p j)

  -- a rise ends at the top, or under a parent that is not above
  pub rising_top : (xs : List X) (j n : ℕ) → j ≡ 0 → Rising o xs j n → Heaped o xs n
  rising_top xs j n z h = rising_ends xs j n (λ p d kin. absurd (omega arith)) h

  pub rising_rests : (xs : List X) (q j n : ℕ) → Child q j → ((d : X) → is_lt (R (get_or xs j d) (get_or xs q d)) ≡ false) → Rising o xs j n → Heaped o xs n
  rising_rests xs q j n kin told h =
      rising_ends xs j n (λ p d c. let e : p ≡ q = omega arith in by _ _ _ _ (ap (λ i. get_or xs i d) e) refl (at_most_not_below o _ _ (told d))) h

  -- a fall ends at a leaf, or over children that are not below
  pub sinking_leaf : (xs : List X) (j n : ℕ) → n ≤ j * 2 + 1 → Sinking o xs j n → Heaped o xs n
  sinking_leaf xs j n leaf h = sinking_ends xs j n (λ k d kin lt. absurd (omega arith)) h

  pub sinking_rests : (xs : List X) (j c n : ℕ) → ((k : ℕ) (d : X) → Child j k → k < n → AtMost o (get_or xs c d) (get_or xs k d)) → ((d : X) → is_lt (R (get_or xs c d) (get_or xs j d)) ≡ false) → Sinking o xs j n → Heaped o xs n
  sinking_rests xs j c n low told h =
      sinking_ends xs j n (λ k d kin lt. at_most_trans o _ _ _ (at_most_not_below o _ _ (told d)) (low k d kin lt)) h

  module _ (xs ys : List X) (q j n : ℕ) (kin : Child q j) (in' : j < n) (s : Swaps xs q j ys) (up : (d : X) → is_lt (R (get_or xs j d) (get_or xs q d)) ≡ true) where
    at : (k i : ℕ) (d : X) → k ≡ i → get_or ys k d ≡ get_or ys i d
    at k i d e = ap (λ m. get_or ys m d) e

    -- the entry at j changes places with its parent at q, which is above it
    pub rising_again : Rising o xs j n → Rising o ys q n
    unfolding Rising
    rising_again h = (
      λ p k d c lt nq. ⊎_elim
          (λ e. let pq : p ≡ q = omega arith in by _ _ _ _ (at p q d pq ∙ s.0 d) (at k j d e ∙ s.1 d) (at_most_below o _ _ (up d)))
          (λ nj. ⊎_elim
          (λ e. by _ _ _ _ (at p q d e ∙ s.0 d) (s.2 k d nq nj) (at_most_trans o _ _ _ (at_most_below o _ _ (up d)) (h.0 q k d (omega arith, omega arith) lt nj)))
          (λ npq. ⊎_elim
          (λ e. by _ _ _ _ (at p j d e ∙ s.1 d) (s.2 k d nq nj) (h.1 q k d kin (omega arith, omega arith) lt))
          (λ npj. by _ _ _ _ (s.2 p d npq npj) (s.2 k d nq nj) (h.0 p k d c lt nj))
          (cases_eq p j))
          (cases_eq p q))
          (cases_eq k j),
      λ p k d c e lt.
          let over = h.0 p q d c (omega arith) (omega arith) in
          let same = s.2 p d (omega arith) (omega arith) in
          ⊎_elim
          (λ z. by _ _ _ _ same (at k j d z ∙ s.1 d) over)
          (λ nj. by _ _ _ _ same (s.2 k d (omega arith) nj) (at_most_trans o _ _ _ over (h.0 q k d e lt nj)))
          (cases_eq k j),
    )

    -- the entry at q changes places with its lower child at j, which is below it
    pub sinking_again : ((k : ℕ) (d : X) → Child q k → k < n → AtMost o (get_or xs j d) (get_or xs k d)) → Sinking o xs q n → Sinking o ys j n
    unfolding Sinking
    sinking_again low h = (
      λ p k d c lt nj. ⊎_elim
          (λ e. ⊎_elim
          (λ z. by _ _ _ _ (at p q d e ∙ s.0 d) (at k j d z ∙ s.1 d) (at_most_below o _ _ (up d)))
          (λ nk. by _ _ _ _ (at p q d e ∙ s.0 d) (s.2 k d (omega arith) nk) (low k d (omega arith, omega arith) lt))
          (cases_eq k j))
          (λ npq. ⊎_elim
          (λ z. by _ _ _ _ (s.2 p d npq nj) (at k q d z ∙ s.0 d) (h.1 p j d (omega arith, omega arith) kin in'))
          (λ nkq. by _ _ _ _ (s.2 p d npq nj) (s.2 k d nkq (omega arith)) (h.0 p k d c lt npq))
          (cases_eq k q))
          (cases_eq p q),
      λ p k d c e lt.
          let z : p ≡ q = omega arith in
          by _ _ _ _ (at p q d z ∙ s.0 d) (s.2 k d (omega arith) (omega arith)) (h.0 j k d e lt (omega arith)),
    )
