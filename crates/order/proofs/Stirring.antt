-- Exchanges among the first n entries.
use Rattle.std.proofs.Common.{◌≡◌, ℕ, ◌<◌, List, [], ◌∷◌, length, get_or, take, drop, set, sym, ap, ◌∙◌, arith, length-take, get_or-take, drop-set-lt}
use lib.Seq.{take-set-lt}
use Rattle.std.proofs.lemmas.List.Edits.{swap_is}
use Rattle.std.proofs.lemmas.List.Sorted.{IsPermutation-swap, IsPermutation-trans}
use Rattle.order.specs.Shape.{Stirred}

-- what `swap` says of its places
abbrev pub Swaps : {X : Type 0} → List X → ℕ → ℕ → List X → Type 0
Swaps {X} xs a b ys =
    ((d : X) → get_or ys a d ≡ get_or xs b d) × ((d : X) → get_or ys b d ≡ get_or xs a d) × ((k : ℕ) (d : X) → (k ≡ a → ⊥) → (k ≡ b → ⊥) → get_or ys k d ≡ get_or xs k d) × ((d : X) → ys ≡ set (set xs a (get_or xs b d)) b (get_or xs a d))

module _ {X : Type 0} where
  pub stirred_trans : (xs ys zs : List X) (n : ℕ) → Stirred xs n ys → Stirred ys n zs → Stirred xs n zs
  stirred_trans xs ys zs n p q = record { held = IsPermutation-trans (take n xs) (take n ys) (take n zs) p.held q.held; rest = q.rest ∙ p.rest }

  stirred_set : (xs ys : List X) (a b n : ℕ) (d : X) → a < n → b < n → a < length xs → b < length xs → ys ≡ set (set xs a (get_or xs b d)) b (get_or xs a d) → Stirred xs n ys
  stirred_set xs ys a b n d p q la lb e =
      let ta : a < length (take n xs) = simp length-take (omega arith) in
      let tb : b < length (take n xs) = simp length-take (omega arith) in
      let u = get_or xs b d in
      let v = get_or xs a d in
      let front : take n ys ≡ set (set (take n xs) a (get_or (take n xs) b d)) b (get_or (take n xs) a d) =
      ap (take n) e ∙ take-set-lt n (set xs a u) b v q ∙ ap (λ l. set l b v) (take-set-lt n xs a u p) ∙ (λ i. set (set (take n xs) a (sym (get_or-take n xs b d q) i)) b (sym (get_or-take n xs a d p) i)) in
      record {
        held = IsPermutation-swap (take n xs) (take n ys) a b ta tb (front ∙ swap_is (take n xs) a b d ta tb);
        rest = ap (drop n) e ∙ drop-set-lt n (set xs a u) b v q ∙ drop-set-lt n xs a u p;
      }

  pub stirred_swap : (xs ys : List X) (a b n : ℕ) → a < n → b < n → a < length xs → b < length xs → Swaps xs a b ys → Stirred xs n ys
  stirred_swap [] ys a b n p q la lb s = absurd (omega arith)
  stirred_swap (d ∷ t) ys a b n p q la lb s = stirred_set (d ∷ t) ys a b n d p q la lb (s.3 d)
