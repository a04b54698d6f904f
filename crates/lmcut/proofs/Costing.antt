-- What is left of the costs before the first round.
use Rattle.std.proofs.Common.{◌≡◌, ℕ, zero, suc, ◌+◌, ◌*◌, ◌<◌, ◌≤◌, List, length, get_or, take, sym, refl, ap, ◌∙◌, ⊎_elim, arith}
use Rattle.std.proofs.lemmas.List.{get_or-take, get_or_past, length-take-le, ext_get_or}
use Rattle.std.proofs.lemmas.Bool.{cases_lt}
use Rattle.lmcut.specs.Drawn.{Modest}
use Rattle.lmcut.specs.Questions.{actions_from, relaxed_of, Fits}
use Rattle.landmarks.specs.Rounds.{full_costs}
use Rattle.lmcut.specs.declared.question.Question.{Question}

length_costs : (q : Question) (s k : ℕ) → length (full_costs (actions_from q s k)) ≡ k
unfolding actions_from
length_costs q s zero = refl
length_costs q s (suc k) = ap suc (length_costs q (s + 1) k)

cost_at : (q : Question) (s k i : ℕ) → i < k → get_or (full_costs (actions_from q s k)) i 0 ≡ 5040 * get_or q.costs (s + i) 0
unfolding actions_from
cost_at q s zero i h = absurd (omega arith)
cost_at q s (suc k) zero h = let e : s ≡ s + 0 = omega arith in ap (λ j. 5040 * get_or q.costs j 0) e
cost_at q s (suc k) (suc i) h = cost_at q (s + 1) k i (omega arith) ∙ (let e : s + 1 + i ≡ s + suc i = omega arith in ap (λ j. 5040 * get_or q.costs j 0) e)

module _ (q : Question) (rs : List ℕ) (f : Fits q) (long : length rs ≡ 257) (each : (i : ℕ) → i < 257 → get_or rs i 0 ≡ 5040 * get_or q.costs i 0) where
  pub costs_whole : take q.actions rs ≡ full_costs (relaxed_of q).actions
  unfolding relaxed_of
  costs_whole = ext_get_or 0 (take q.actions rs) (full_costs (actions_from q 0 q.actions)) (taken ∙ sym (length_costs q 0 q.actions)) same
    where
      few : q.actions ≤ 257
      few = f.few_actions

      taken : length (take q.actions rs) ≡ q.actions
      taken = let l = few in length-take-le q.actions rs (omega arith)

      same : (k : ℕ) → k < length (take q.actions rs) → get_or (take q.actions rs) k 0 ≡ get_or (full_costs (actions_from q 0 q.actions)) k 0
      same k h =
          let t = taken in
          let l = few in
          let i : k < q.actions = omega arith in
          get_or-take q.actions rs k 0 i ∙ each k (omega arith) ∙ sym (cost_at q 0 q.actions k i ∙ (let z : 0 + k ≡ k = omega arith in ap (λ j. 5040 * get_or q.costs j 0) z))

  pub costs_modest : Modest rs
  costs_modest a = ⊎_elim (λ h. let e = each a h in let b = f.costs_small a in omega arith) (λ h. let e = get_or_past rs a 0 (omega arith) in omega arith) (cases_lt a 257)
