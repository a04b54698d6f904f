-- Words of bits, and what a shift leaves of them.
use Rattle.std.proofs.Common.{◌≡◌, ℕ, ◌/◌, ◌^◌, ◌<◌, ◌≤◌, eqb, ltb, leb, sym, ◌∙◌, ⊎_elim, arith, pow_mono}
use native.Mathlib.Nat.{div-eq_of_lt}
use Rattle.std.proofs.lemmas.Nat.{pow_pos, le-div}
use Rattle.std.proofs.lemmas.Bool.{lt-ltb, le-ltb, le-leb, eq-eqb, ne_eqb, cases_lt}

-- a word of 64 bits has no bit from 64 up
pub word_below : (w k : ℕ) → 64 ≤ k → w < 2 ^ 64 → leb 64 k ≡ ltb w (2 ^ k)
word_below w k h b =
    let p : 2 ^ 64 ≤ 2 ^ k = pow_mono h in
    le-leb 64 k h ∙ sym (lt-ltb w (2 ^ k) (omega arith))

-- a shift leaves nothing where the word is below the power
pub shifted_below : (w k : ℕ) → eqb (w / 2 ^ k) 0 ≡ ltb w (2 ^ k)
shifted_below w k = ⊎_elim below above (cases_lt w (2 ^ k))
  where
    below : w < 2 ^ k → eqb (w / 2 ^ k) 0 ≡ ltb w (2 ^ k)
    below h = eq-eqb (w / 2 ^ k) 0 (div-eq_of_lt h) ∙ sym (lt-ltb w (2 ^ k) h)

    above : 2 ^ k ≤ w → eqb (w / 2 ^ k) 0 ≡ ltb w (2 ^ k)
    above h =
        let q : 1 ≤ w / 2 ^ k = le-div 1 w (2 ^ k) (pow_pos k) (omega arith) in
        ne_eqb (w / 2 ^ k) 0 (λ e. omega arith) ∙ sym (le-ltb w (2 ^ k) h)
