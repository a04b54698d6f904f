-- What each call of a heap does to the entries held.
use Rattle.std.proofs.Common.{◌≡◌, ℕ, zero, suc, ◌+◌, ◌-◌, ◌/◌, ◌<◌, ◌≤◌, List, [], ◌∷◌, ◌++◌, length, get_or, take, drop, set, Ordering, Option, Some, None, MatchOption, is_some, slice_get, true≢false, sym, refl, ap, ◌∙◌, subst, ⊎_elim, arith, length-take, get_or-set_other, get_or-take, get_or-set_same, drop-set-lt}
use mathlib.Core.Bool.{Bool-set}
use mathlib.Core.HLevel.{Π_prop}
use mathlib.Core.Logic.{∥∥₁_elim}
use lib.Seq.{take-set-lt, set_split}
use Rattle.std.specs.Cmp.{IsTotalOrder}
use Rattle.std.specs.List.{Contains, remove}
use Rattle.std.specs.List.Sorted.{IsPermutation}
use Rattle.std.proofs.lemmas.List.Elements.{All-from_get_or, Contains-get_or}
use Rattle.std.proofs.lemmas.List.{take_more, take_more_set, drop_more, get_or_default}
use Rattle.std.proofs.lemmas.List.Sorted.{IsPermutation-refl, IsPermutation-middle, IsPermutation-remove, IsPermutation-trans, IsPermutation-sym, IsPermutation-cons, IsPermutation-to_front}
use Rattle.std.proofs.lemmas.Bool.{cases_eq}
use Rattle.std.proofs.lemmas.Option.{get_or_from_slice_get, slice_get_cases, slice_get_within}
use Rattle.order.specs.declared.Heap.{Heap}
use Rattle.order.specs.Laws.{First, Lawful}
use Rattle.order.specs.Ranks.{AtMost}
use Rattle.order.specs.Shape.{Heaped, Keeps, Raised, Rising, Sinking, Sunk}
use Rattle.order.proofs.Ranking.{at_most_refl, at_most_trans}
use Rattle.order.proofs.Sifting.{by}
use Rattle.order.proofs.Stirring.{Swaps, stirred_swap}

same_permutation : {X : Type 0} (xs ys : List X) → xs ≡ ys → IsPermutation xs ys
same_permutation xs ys e = subst (IsPermutation xs) e (IsPermutation-refl xs)

module _ {X : Type 0} {R : X → X → Ordering} where
  -- ---- the entries that a heap keeps

  pub keeps_none : (xs : List X) → Keeps R xs 0
  unfolding Heaped
  keeps_none xs = (omega arith, ∣ (λ o p k d kin lt. absurd (omega arith)) ∣₁)

  -- the fact in `∥ ∥₁` has one proof at most, so it comes out again
  one_proof : (xs : List X) (n : ℕ) → IsProp ((o : IsTotalOrder R) → Heaped o xs n)
  unfolding Heaped
  one_proof xs n = Π_prop (λ o. Π_prop (λ p. Π_prop (λ k. Π_prop (λ d. Π_prop (λ kin. Π_prop (λ lt. Bool-set _ _))))))

  pub keeps_heaped : (xs : List X) (n : ℕ) → Keeps R xs n → (o : IsTotalOrder R) → Heaped o xs n
  keeps_heaped xs n l = ∥∥₁_elim l.1 (one_proof xs n) (λ f. f)

  top : (o : IsTotalOrder R) (xs : List X) (n : ℕ) (d : X) → Heaped o xs n → (fuel k : ℕ) → k ≤ fuel → k < n → AtMost o (get_or xs 0 d) (get_or xs k d)
  unfolding Heaped
  top o xs n d h zero k le lt = let e : k ≡ 0 = omega arith in by o _ _ _ _ refl (ap (λ i. get_or xs i d) e) (at_most_refl o _)
  top o xs n d h (suc fuel) k le lt = ⊎_elim
      (λ e. by o _ _ _ _ refl (ap (λ i. get_or xs i d) e) (at_most_refl o _))
      (λ ne. at_most_trans o _ _ _ (top o xs n d h fuel ((k - 1) / 2) (omega arith) (omega arith)) (h ((k - 1) / 2) k d (omega arith, omega arith) lt))
      (cases_eq k 0)

  -- what stands first
  pub first_from : (h : Heap X) (e : X) → 0 < h.len → Lawful R h → First R h (get_or h.entries.now 0 e)
  first_from h e some l =
      let xs = h.entries.now in
      let n = h.len in
      let le = l.0 in
      let in' : 0 < length (take n xs) = simp length-take (omega arith) in
      record {
        front = λ d. get_or_default xs 0 e d (omega arith);
        has = subst (Contains (take n xs)) (get_or-take n xs 0 e some) (Contains-get_or (take n xs) 0 e in');
        least = λ o. All-from_get_or (AtMost o (get_or xs 0 e)) (take n xs) e
            (λ i lt. let k : i < n = omega (arith, simp length-take at lt) in
            by o _ _ _ _ refl (get_or-take n xs i e k) (top o xs n e (keeps_heaped xs n l o) i i (omega arith) k));
      }

  -- what `first` tells
  pub first_answer : (h : Heap X) (r : Option X) → r ≡ slice_get (take h.len h.entries.now) 0 → Lawful R h → MatchOption r (h.len ≡ 0) (First R h)
  first_answer h None e l = ⊎_elim
      (λ s. absurd (true≢false (sym (ap is_some (e ∙ s.2)))))
      (λ s. omega (arith, simp length-take at s.0, l.0))
      (slice_get_cases (take h.len h.entries.now) 0).1
  first_answer h (Some x) e l =
      let xs = h.entries.now in
      let n = h.len in
      let inside = slice_get_within (take n xs) 0 x (sym e) in
      let some : 0 < n = omega (arith, simp length-take at inside) in
      subst (First R h) (sym (get_or-take n xs 0 x some) ∙ get_or_from_slice_get (take n xs) 0 x x (sym e)) (first_from h x some l)

  pub first_some : {h : Heap X} {x : X} → First R h x → 0 < h.len
  first_some {h} f = omega (arith, simp length-take at f.has.1)

  -- ---- push

  module _ (xs ys zs : List X) (n : ℕ) (x : X) (le : n < length xs) (put : ys ≡ set xs n x) (up : Raised R ys n zs) where
    other : (k : ℕ) (d : X) → k < n → get_or ys k d ≡ get_or xs k d
    other k d lt = ap (λ (l : List X). get_or l k d) put ∙ get_or-set_other xs n k x d (omega arith)

    pub pushed_heaped : (o : IsTotalOrder R) → Heaped o xs n → Heaped o zs (n + 1)
    unfolding Heaped Rising
    pushed_heaped o h = up.heaped o (n + 1) (omega arith) (
      λ p k d kin lt ne. by o _ _ _ _ (other p d (omega arith)) (other k d (omega arith)) (h p k d kin (omega arith)),
      λ p k d over under lt. absurd (omega arith),
    )

    pub pushed_held : IsPermutation (x ∷ take n xs) (take (n + 1) zs)
    pushed_held = IsPermutation-trans _ _ _
        (IsPermutation-sym _ _ (IsPermutation-to_front (take n xs) x))
        (subst (λ l. IsPermutation l (take (n + 1) zs)) (ap (take (n + 1)) put ∙ take_more_set xs n x le) (up.stirred (n + 1) (omega arith)).held)

    pub pushed_rest : drop (n + 1) zs ≡ drop (n + 1) xs
    pushed_rest = (up.stirred (n + 1) (omega arith)).rest ∙ ap (drop (n + 1)) put ∙ drop-set-lt (n + 1) xs n x (omega arith)

  -- ---- pop

  module _ (xs ys zs : List X) (n m : ℕ) (x : X) (len : n ≡ m + 1) (le : n ≤ length xs) (is : (d : X) → x ≡ get_or xs 0 d) (s : Swaps xs 0 m ys) (down : Sunk R ys m zs) (long : length ys ≡ length xs) where
    pub popped_heaped : (o : IsTotalOrder R) → Heaped o xs n → Heaped o zs m
    unfolding Heaped Sinking
    popped_heaped o h = down.heaped o (
      λ p k d kin lt ne. by o _ _ _ _ (s.2 p d ne (omega arith)) (s.2 k d (omega arith) (omega arith)) (h p k d kin (omega arith)),
      λ p k d over under lt. absurd (omega arith),
    )

    last : get_or ys m x ≡ x
    last = s.1 x ∙ sym (is x)

    pub popped_held : IsPermutation (take n xs) (x ∷ take m zs)
    popped_held =
        let front : take n ys ≡ take m ys ++ x ∷ [] = ap (λ k. take k ys) len ∙ take_more ys m x (omega arith) ∙ ap (λ y. take m ys ++ y ∷ []) last in
        IsPermutation-trans _ _ _ (stirred_swap xs ys 0 m n (omega arith) (omega arith) (omega arith) (omega arith) s).held
        (IsPermutation-trans _ _ _ (same_permutation _ _ front)
        (IsPermutation-trans _ _ _ (IsPermutation-to_front (take m ys) x) (IsPermutation-cons x _ _ down.stirred.held)))

    pub popped_rest : drop m zs ≡ x ∷ drop n xs
    popped_rest =
        let tail : drop (m + 1) ys ≡ drop n xs = ap (λ k. drop k ys) (sym len) ∙ (stirred_swap xs ys 0 m n (omega arith) (omega arith) (omega arith) (omega arith) s).rest in
        down.stirred.rest ∙ drop_more ys m x (omega arith) ∙ (λ i. last i ∷ tail i)

  -- ---- lower

  module _ (xs ys zs : List X) (at n : ℕ) (x : X) (in' : at < n) (le : n ≤ length xs) (put : ys ≡ set xs at x) (up : Raised R ys at zs) where
    kept : (k : ℕ) (d : X) → (k ≡ at → ⊥) → get_or ys k d ≡ get_or xs k d
    kept k d ne = ap (λ (l : List X). get_or l k d) put ∙ get_or-set_other xs at k x d ne

    here : (k : ℕ) (d : X) → k ≡ at → get_or ys k d ≡ x
    here k d e = ap (λ i. get_or ys i d) e ∙ ap (λ (l : List X). get_or l at d) put ∙ get_or-set_same xs at x d (omega arith)

    pub lowered_heaped : (o : IsTotalOrder R) → ((d : X) → AtMost o x (get_or xs at d)) → Heaped o xs n → Heaped o zs n
    unfolding Heaped Rising
    lowered_heaped o low h = up.heaped o n in' (
      λ p k d kin lt ne. ⊎_elim
          (λ e. by o _ _ _ _ (here p d e) (kept k d ne) (at_most_trans o _ _ _ (low d) (h at k d (omega arith, omega arith) lt)))
          (λ np. by o _ _ _ _ (kept p d np) (kept k d ne) (h p k d kin lt))
          (cases_eq p at),
      λ p k d over under lt. by o _ _ _ _ (kept p d (omega arith)) (kept k d (omega arith)) (at_most_trans o _ _ _ (h p at d over in') (h at k d under lt)),
    )

    within : at < length (take n xs)
    within = simp length-take (omega arith)

    pub lowered_rest : drop n zs ≡ drop n xs
    lowered_rest = (up.stirred n in').rest ∙ ap (drop n) put ∙ drop-set-lt n xs at x in'

    pub lowered_before : (d : X) → IsPermutation (take n xs) (get_or xs at d ∷ remove (take n xs) at)
    lowered_before d =
        IsPermutation-remove (take n xs) at (get_or xs at d) within (get_or_default xs at d (get_or xs at d) (omega arith) ∙ sym (get_or-take n xs at (get_or xs at d) in'))

    pub lowered_after : IsPermutation (x ∷ remove (take n xs) at) (take n zs)
    lowered_after = IsPermutation-trans _ _ _
        (IsPermutation-sym _ _ (IsPermutation-middle (take at (take n xs)) x (drop (suc at) (take n xs))))
        (IsPermutation-trans _ _ _
        (same_permutation _ _ (sym (ap (take n) put ∙ take-set-lt n xs at x in' ∙ set_split (take n xs) at x within)))
        (up.stirred n in').held)
