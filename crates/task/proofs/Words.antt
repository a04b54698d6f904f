-- Words of facts: bit k of a word w is w / 2 ^ k % 2.
use Rattle.std.proofs.Common.{◌≡◌, ℕ, ◌+◌, ◌-◌, ◌*◌, ◌/◌, ◌%◌, ◌^◌, ◌<◌, not, ◌&&◌, ◌||◌, eqb, ◌⊎◌, sym, ap, ◌∙◌, ap₂, inl, inr, ⊎_elim, one-mul, arith}
use native.Mathlib.Nat.{div-eq_of_lt}
use lib.Bits.{bit_and, bit_or, bit_xor}
use Rattle.std.proofs.lemmas.Nat.{pow-add, pow_below, shl-shr, or_shr, and_shr, xor_shr, or_mod, and_mod, xor_mod}
use Rattle.task.specs.States.{fact_holds}
use Rattle.std.proofs.lemmas.Bool.{eq-eqb, ne_eqb, cases_lt, cases_order}

-- ---- bits of words that are made of others

pub bit_small : (x : ℕ) → (x % 2 ≡ 0) ⊎ (x % 2 ≡ 1)
bit_small x = ⊎_elim (λ h. inl (omega arith)) (λ h. inr (omega arith)) (cases_lt (x % 2) 1)

or_bit : (x y : ℕ) → (x ≡ 0) ⊎ (x ≡ 1) → (y ≡ 0) ⊎ (y ≡ 1) → eqb (bit_or x y) 1 ≡ (eqb x 1 || eqb y 1)
or_bit x y (inl a) (inl b) = ap₂ (λ m n. eqb (bit_or m n) 1) a b ∙ sym (ap₂ (λ m n. eqb m 1 || eqb n 1) a b)
or_bit x y (inl a) (inr b) = ap₂ (λ m n. eqb (bit_or m n) 1) a b ∙ sym (ap₂ (λ m n. eqb m 1 || eqb n 1) a b)
or_bit x y (inr a) (inl b) = ap₂ (λ m n. eqb (bit_or m n) 1) a b ∙ sym (ap₂ (λ m n. eqb m 1 || eqb n 1) a b)
or_bit x y (inr a) (inr b) = ap₂ (λ m n. eqb (bit_or m n) 1) a b ∙ sym (ap₂ (λ m n. eqb m 1 || eqb n 1) a b)

without_bit : (x y : ℕ) → (x ≡ 0) ⊎ (x ≡ 1) → (y ≡ 0) ⊎ (y ≡ 1) → eqb (bit_xor x (bit_and x y)) 1 ≡ (eqb x 1 && not (eqb y 1))
without_bit x y (inl a) (inl b) = ap₂ (λ m n. eqb (bit_xor m (bit_and m n)) 1) a b ∙ sym (ap₂ (λ m n. eqb m 1 && not (eqb n 1)) a b)
without_bit x y (inl a) (inr b) = ap₂ (λ m n. eqb (bit_xor m (bit_and m n)) 1) a b ∙ sym (ap₂ (λ m n. eqb m 1 && not (eqb n 1)) a b)
without_bit x y (inr a) (inl b) = ap₂ (λ m n. eqb (bit_xor m (bit_and m n)) 1) a b ∙ sym (ap₂ (λ m n. eqb m 1 && not (eqb n 1)) a b)
without_bit x y (inr a) (inr b) = ap₂ (λ m n. eqb (bit_xor m (bit_and m n)) 1) a b ∙ sym (ap₂ (λ m n. eqb m 1 && not (eqb n 1)) a b)

pub holds_or : (a b k : ℕ) → fact_holds (bit_or a b) k ≡ (fact_holds a k || fact_holds b k)
holds_or a b k =
    ap (λ x. eqb (x % 2) 1) (or_shr a b k) ∙ ap (λ x. eqb x 1) (or_mod (a / 2 ^ k) (b / 2 ^ k) 1)
    ∙ or_bit (a / 2 ^ k % 2) (b / 2 ^ k % 2) (bit_small (a / 2 ^ k)) (bit_small (b / 2 ^ k))

pub holds_without : (a b k : ℕ) → fact_holds (bit_xor a (bit_and a b)) k ≡ (fact_holds a k && not (fact_holds b k))
holds_without a b k =
    ap (λ x. eqb (x % 2) 1) (xor_shr a (bit_and a b) k ∙ ap (bit_xor (a / 2 ^ k)) (and_shr a b k))
    ∙ ap (λ x. eqb x 1) (xor_mod (a / 2 ^ k) (bit_and (a / 2 ^ k) (b / 2 ^ k)) 1 ∙ ap (bit_xor (a / 2 ^ k % 2)) (and_mod (a / 2 ^ k) (b / 2 ^ k) 1))
    ∙ without_bit (a / 2 ^ k % 2) (b / 2 ^ k % 2) (bit_small (a / 2 ^ k)) (bit_small (b / 2 ^ k))

shl_one : (k : ℕ) → 2 ^ k / 2 ^ k ≡ 1
shl_one k = ap (λ n. n / 2 ^ k) (sym (one-mul (2 ^ k))) ∙ shl-shr 1 k

power_above : (j k : ℕ) → k < j → 2 ^ j / 2 ^ k ≡ 2 * 2 ^ (j - k - 1)
power_above j k h =
    let e : j ≡ (1 + (j - k - 1)) + k = omega arith in
    ap (λ n. 2 ^ n / 2 ^ k) e ∙ ap (λ n. n / 2 ^ k) (pow-add 2 (1 + (j - k - 1)) k) ∙ shl-shr (2 ^ (1 + (j - k - 1))) k ∙ pow-add 2 1 (j - k - 1)

even : (n : ℕ) → 2 * n % 2 ≡ 0
even n = omega arith

-- a power of two has one bit
pub holds_power : (j k : ℕ) → fact_holds (2 ^ j) k ≡ eqb j k
holds_power j k = ⊎_elim same (⊎_elim below above) (cases_order j k)
  where
    same : j ≡ k → fact_holds (2 ^ j) k ≡ eqb j k
    same e = ap (λ n. fact_holds (2 ^ n) k) e ∙ ap (λ n. eqb (n % 2) 1) (shl_one k) ∙ sym (eq-eqb j k e)

    below : j < k → fact_holds (2 ^ j) k ≡ eqb j k
    below h = ap (λ n. eqb (n % 2) 1) (div-eq_of_lt (pow_below j k h)) ∙ sym (ne_eqb j k (λ e. omega arith))

    above : k < j → fact_holds (2 ^ j) k ≡ eqb j k
    above h = ap (λ n. eqb (n % 2) 1) (power_above j k h) ∙ ap (λ n. eqb n 1) (even (2 ^ (j - k - 1))) ∙ sym (ne_eqb j k (λ e. omega arith))
