-- The rounds as a loop, with no fuel to count: how it begins, the three ways in which a turn goes, and that a number falls.
use Rattle.std.proofs.Common.{add-one, ◌≡◌, ℕ, suc, ◌+◌, ◌<◌, ◌≤◌, true, false, ◌||◌, eqb, leb, ◌⊎◌, List, [], ◌++◌, Some, None, sym, refl, ap, ◌∙◌, ⊎_elim, arith}
use Rattle.std.proofs.lemmas.List.{append_assoc}
use Rattle.std.proofs.lemmas.Bool.{or_left, or_right, or_from, eq-eqb, ne_eqb, le-leb, lt-leb}
use Rattle.landmarks.specs.Relaxed.{Relaxed, goal}
use Rattle.landmarks.specs.Rounds.{Value, value_at, grounds_of, Outcome, Dead, Found, noting, cap, unless_ended, settled, rounds, pairs, full_costs, outcome}
use Rattle.landmarks.specs.declared.Ground.{Ground}
use Rattle.landmarks.specs.Laws.{WellFormed, heavy_pairs}
use Rattle.landmarks.proofs.Cuts.{worth, cut_now, weight_now}
use Rattle.landmarks.proofs.Totals.{rest_now}
use Rattle.landmarks.proofs.Ends.{rounds_end, round_falls, heavy_pairs_upto}

-- the rounds from the k-th on, at a total and remainders
abbrev pub rounds_from : Relaxed → ℕ → ℕ → List ℕ → Outcome
rounds_from rx k total rs = rounds rx (heavy_pairs rx.actions rs + 1) k total rs

pub rounds_start : (rx : Relaxed) (shorts : ℕ → ℕ) → WellFormed rx shorts → rounds_from rx 1 0 (full_costs rx.actions) ≡ outcome rx
unfolding outcome
rounds_start rx shorts fit =
    let l = heavy_pairs_upto rx.actions (full_costs rx.actions) in
    rounds_end rx shorts fit (heavy_pairs rx.actions (full_costs rx.actions) + 1) (pairs rx.actions + 1) 1 0 (full_costs rx.actions) (omega arith) (omega arith)

module _ (rx : Relaxed) (k total : ℕ) (rs : List ℕ) where
  turn : ℕ → Unit {0} → Outcome
  turn n _ = noting (grounds_of k (weight_now rx rs) 1 (cut_now rx rs)) (rounds rx n (k + 1) (total + weight_now rx rs) (rest_now rx rs))

  opened : (n : ℕ) (o : Value) → value_at (worth rx rs) (goal rx) ≡ o → rounds rx (suc n) k total rs ≡ settled o total (turn n)
  unfolding rounds turn
  opened n o e = ap (λ v. settled v total (turn n)) e

  pub rounds_dead : value_at (worth rx rs) (goal rx) ≡ None → rounds_from rx k total rs ≡ Dead
  rounds_dead e = ap (λ n. rounds rx n k total rs) (add-one (heavy_pairs rx.actions rs)) ∙ opened (heavy_pairs rx.actions rs) None e

  pub rounds_over : (v : ℕ) → value_at (worth rx rs) (goal rx) ≡ Some v → (v ≡ 0) ⊎ (cap ≤ total) → rounds_from rx k total rs ≡ Found total []
  rounds_over v e h =
      let b : (eqb v 0 || leb cap total) ≡ true = ⊎_elim (λ z. or_left (eqb v 0) (leb cap total) (eq-eqb v 0 z)) (λ l. or_right (eqb v 0) (leb cap total) (le-leb cap total l)) h in
      ap (λ n. rounds rx n k total rs) (add-one (heavy_pairs rx.actions rs)) ∙ opened (heavy_pairs rx.actions rs) (Some v) e ∙ ap (λ t. unless_ended t total (turn (heavy_pairs rx.actions rs))) b

  pub rounds_next : (shorts : ℕ → ℕ) → WellFormed rx shorts → (v : ℕ) → value_at (worth rx rs) (goal rx) ≡ Some v → 1 ≤ v → total < cap
      → rounds_from rx k total rs ≡ noting (grounds_of k (weight_now rx rs) 1 (cut_now rx rs)) (rounds_from rx (k + 1) (total + weight_now rx rs) (rest_now rx rs))
  unfolding turn
  rounds_next shorts fit v e p l =
      let b : (eqb v 0 || leb cap total) ≡ false = or_from (eqb v 0) (leb cap total) (ne_eqb v 0 (λ z. omega arith)) (lt-leb cap total l) in
      let f = round_falls rx shorts fit rs v p e in
      ap (λ n. rounds rx n k total rs) (add-one (heavy_pairs rx.actions rs)) ∙ opened (heavy_pairs rx.actions rs) (Some v) e ∙ ap (λ t. unless_ended t total (turn (heavy_pairs rx.actions rs))) b
      ∙ ap (noting (grounds_of k (weight_now rx rs) 1 (cut_now rx rs)))
      (rounds_end rx shorts fit (heavy_pairs rx.actions rs) (heavy_pairs rx.actions (rest_now rx rs) + 1) (k + 1) (total + weight_now rx rs) (rest_now rx rs) (omega arith) (omega arith))

pub noting_append : (gs hs : List Ground) (o : Outcome) → noting gs (noting hs o) ≡ noting (gs ++ hs) o
noting_append gs hs Dead = refl
noting_append gs hs (Found t is) = ap (Found t) (sym (append_assoc gs hs is))

pub noting_none : (o : Outcome) → noting [] o ≡ o
noting_none Dead = refl
noting_none (Found t gs) = refl
