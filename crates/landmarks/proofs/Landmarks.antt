-- The landmark of a round: every run that covers the goal is charged at least the weight of the cut.
use Rattle.std.proofs.Common.{◌≡◌, ℕ, ◌+◌, ◌*◌, ◌<◌, ◌≤◌, Bool, true, false, ◌&&◌, ◌||◌, leb, ◌⊎◌, List, [], ◌∷◌, length, get_or, Some, None, Option, sym, refl, ap, ◌∙◌, subst, inl, inr, ⊎_elim, mul_comm, mul-le-mul_left, mul-zero, mul-add, arith}
use native.Mathlib.Nat.{le_of_mul-le-mul_left}
use Rattle.std.specs.List.{AllByRecursion}
use Rattle.std.proofs.lemmas.List.{get_or-map, length-map}
use Rattle.std.proofs.lemmas.Bool.{cases_Bool, and_parts, and_from, or_cases, or_left, or_right, leb-true, le-leb, true≢false}
use Rattle.landmarks.specs.Relaxed.{Relaxed, goal}
use Rattle.landmarks.specs.Rounds.{value_at, chosen, edges_of, in_zone, starts, Crossing, crossing, cut, charge_of}
use Rattle.landmarks.specs.Laws.{In, WellFormed}
use Rattle.landmarks.proofs.Orders.{map_in, in_get_or}
use Rattle.landmarks.proofs.Zones.{held_in, start_closed, goal_in}
use Rattle.landmarks.proofs.Cuts.{chosen_in, loaded_reach, ceil_high, crossing_in, charge_high, charge_within, actions, worth, drawn, near_goal, near_start, cut_now, weight_now, zones_apart}
use Rattle.landmarks.proofs.Runs.{action_at, gain_to, credit, Covered, RunFrom, CoveredAfter, gain_cases, covered_first, covered_more, no_load, length_loaded, loaded_at, load_at, load_in, find_below}

abbrev pub no_crossing : Crossing
no_crossing = record { left = 0; edges = [] }

-- what a round charges the action at a place, and the actions of a list
abbrev pub charge_at : Relaxed → List ℕ → ℕ → ℕ
charge_at rx rs i = charge_of (weight_now rx rs) (get_or (cut_now rx rs) i no_crossing)

abbrev pub charged : Relaxed → List ℕ → List ℕ → ℕ
charged rx rs [] = 0
charged rx rs (i ∷ is) = charge_at rx rs i + charged rx rs is

pub length_cut : (rx : Relaxed) (rs : List ℕ) → length (cut_now rx rs) ≡ length rx.actions
unfolding cut
length_cut rx rs = length-map (drawn rx rs) (crossing (near_goal rx rs) (near_start rx rs)) ∙ length-map (actions rx rs) (edges_of (worth rx rs)) ∙ length_loaded rx.actions rs

pub cut_at : (rx : Relaxed) (rs : List ℕ) (i : ℕ) → i < length rx.actions → get_or (cut_now rx rs) i no_crossing ≡ crossing (near_goal rx rs) (near_start rx rs) (edges_of (worth rx rs) (load_at rx rs i))
unfolding cut
cut_at rx rs i h =
    let l = length_loaded rx.actions rs in
    let m = length-map (actions rx rs) (edges_of (worth rx rs)) in
    get_or-map (crossing (near_goal rx rs) (near_start rx rs)) (drawn rx rs) i (edges_of (worth rx rs) no_load) no_crossing (omega arith)
    ∙ ap (crossing (near_goal rx rs) (near_start rx rs)) (get_or-map (edges_of (worth rx rs)) (actions rx rs) i no_load (edges_of (worth rx rs) no_load) (omega arith) ∙ ap (edges_of (worth rx rs)) (loaded_at rx.actions rs i h))

-- no action is charged more than is left of its cost
pub charge_at_within : (rx : Relaxed) (shorts : ℕ → ℕ) → WellFormed rx shorts → (rs : List ℕ) (i : ℕ) → i < length rx.actions → charge_at rx rs i ≤ get_or rs i 0
charge_at_within rx shorts fit rs i h =
    let w = charge_within rx shorts fit rs (get_or (cut_now rx rs) i no_crossing) (in_get_or (cut_now rx rs) i no_crossing (let l = length_cut rx rs in omega arith)) in
    let e : (get_or (cut_now rx rs) i no_crossing).left ≡ get_or rs i 0 = ap (λ (c : Crossing). c.left) (cut_at rx rs i h) in
    omega arith

module _ (rx : Relaxed) (shorts : ℕ → ℕ) (fit : WellFormed rx shorts) (rs : List ℕ) (v : ℕ) (positive : 1 ≤ v) (goal-value : value_at (worth rx rs) (goal rx) ≡ Some v) where
  record Started (i : ℕ) : Type 0 where
    inside : i < length rx.actions
    from : starts (near_start rx rs) (chosen (worth rx rs) (action_at rx i).needs) ≡ true

  pays : (p i : ℕ) → Started i → in_zone (near_goal rx rs) p ≡ true → weight_now rx rs * gain_to (action_at rx i).reaches p ≤ shorts p * charge_at rx rs i
  pays p i s n = ⊎_elim
      (λ z. let a : weight_now rx rs * gain_to (action_at rx i).reaches p ≡ 0 = ap (λ g. weight_now rx rs * g) z ∙ mul-zero (weight_now rx rs) in omega arith)
      (λ y.
      let x = y.0 in
      let f = loaded_reach rx shorts fit rs (load_at rx rs i) (load_in rx rs i s.inside) x y.1 in
      let near : in_zone (near_goal rx rs) x.node ≡ true = ap (in_zone (near_goal rx rs)) y.2 ∙ n in
      let c : In x (get_or (cut_now rx rs) i no_crossing).edges = subst (λ (d : Crossing). In x d.edges) (sym (cut_at rx rs i s.inside)) (crossing_in (near_goal rx rs) (near_start rx rs) (edges_of (worth rx rs) (load_at rx rs i)) x s.from y.1 near) in
      let short : x.short ≡ shorts p = f.lacks ∙ ap shorts y.2 in
      let some-short : 1 ≤ x.short = (let l = fit.lacking x.node f.unmet in let k = f.lacks in omega arith) in
      let hi = charge_high (weight_now rx rs) (get_or (cut_now rx rs) i no_crossing).edges x c in
      let a = ceil_high (weight_now rx rs * x.gain) x.short some-short in
      let b = mul-le-mul_left x.short hi in
      let e : weight_now rx rs * gain_to (action_at rx i).reaches p ≡ weight_now rx rs * x.gain = ap (λ g. weight_now rx rs * g) y.3 in
      let d : x.short * charge_at rx rs i ≡ shorts p * charge_at rx rs i = ap (λ g. g * charge_at rx rs i) short in
      omega arith)
      (gain_cases (action_at rx i).reaches p)

  paid : (p : ℕ) (is : List ℕ) → AllByRecursion Started is → in_zone (near_goal rx rs) p ≡ true → weight_now rx rs * credit rx is p ≤ shorts p * charged rx rs is
  paid p [] s n = let a = mul-zero (weight_now rx rs) in omega arith
  paid p (i ∷ is) s n =
      let a = pays p i s.0 n in
      let b = paid p is s.1 n in
      let c = mul-add (weight_now rx rs) (gain_to (action_at rx i).reaches p) (credit rx is p) in
      let d = mul-add (shorts p) (charge_at rx rs i) (charged rx rs is) in
      omega arith

  -- a node of the goal zone that actions from the start zone cover has them charged in full
  paid_off : (p : ℕ) (is : List ℕ) → AllByRecursion Started is → in_zone (near_goal rx rs) p ≡ true → Covered rx shorts is p → weight_now rx rs ≤ charged rx rs is
  paid_off p is s n c = ⊎_elim
      (λ h. absurd (zones_apart rx shorts fit rs v positive goal-value p (held_in rx (drawn rx rs) (near_goal rx rs) fit.long p h) n))
      (λ l. ⊎_elim
      (λ h. absurd (zones_apart rx shorts fit rs v positive goal-value p (held_in rx (drawn rx rs) (near_goal rx rs) fit.long p h) n))
      (λ h.
      let a = paid p is s n in
      let b = mul-le-mul_left (weight_now rx rs) l in
      let d = mul_comm (weight_now rx rs) (shorts p) in
      let k : shorts p * weight_now rx rs ≤ shorts p * charged rx rs is = omega arith in
      le_of_mul-le-mul_left k (fit.lacking p h))
      (cases_Bool (in_zone rx.holds p)))
      c

  landmark_from : (done todo : List ℕ) → ((n : ℕ) → Covered rx shorts done n → in_zone (near_start rx rs) n ≡ true) → AllByRecursion Started done → RunFrom rx shorts done todo → CoveredAfter rx shorts done todo (goal rx)
      → weight_now rx rs ≤ charged rx rs todo + charged rx rs done
  landmark_from done [] h s r c = absurd (zones_apart rx shorts fit rs v positive goal-value (goal rx) (h (goal rx) c) (goal_in rx (drawn rx rs) fit.some_node))
  landmark_from done (i ∷ is) h s r c = go (λ h'. landmark_from (i ∷ done) is h' (begun, s) r.1 c) (find_below near_covered rx.nodes)
    where
      near_covered : ℕ → Bool
      near_covered p = in_zone (near_goal rx rs) p && (in_zone rx.holds p || leb (shorts p) (credit rx (i ∷ done) p))

      covers : (p : ℕ) → (in_zone rx.holds p || leb (shorts p) (credit rx (i ∷ done) p)) ≡ true → Covered rx shorts (i ∷ done) p
      covers p e = ⊎_elim (λ t. inl t) (λ t. inr (leb-true _ _ t)) (or_cases (in_zone rx.holds p) (leb (shorts p) (credit rx (i ∷ done) p)) e)

      covered : (p : ℕ) → Covered rx shorts (i ∷ done) p → (in_zone rx.holds p || leb (shorts p) (credit rx (i ∷ done) p)) ≡ true
      covered p c = ⊎_elim (λ t. or_left (in_zone rx.holds p) (leb (shorts p) (credit rx (i ∷ done) p)) t) (λ l. or_right (in_zone rx.holds p) (leb (shorts p) (credit rx (i ∷ done) p)) (le-leb _ _ l)) c

      begun : Started i
      begun = record { inside = r.0.inside; from = begins (chosen (worth rx rs) (action_at rx i).needs) refl }
        where
          begins : (o : Option ℕ) → chosen (worth rx rs) (action_at rx i).needs ≡ o → starts (near_start rx rs) o ≡ true
          begins None e = refl
          begins (Some m) e = h m (r.0.covered m (chosen_in (worth rx rs) (action_at rx i).needs m e))

      go : (((n : ℕ) → Covered rx shorts (i ∷ done) n → in_zone (near_start rx rs) n ≡ true) → weight_now rx rs ≤ charged rx rs is + charged rx rs (i ∷ done))
          → ((k : ℕ) × (k < rx.nodes) × (near_covered k ≡ true)) ⊎ ((k : ℕ) → k < rx.nodes → near_covered k ≡ false)
          → weight_now rx rs ≤ charged rx rs (i ∷ is) + charged rx rs done
      go rest (inl f) =
          let b = and_parts (in_zone (near_goal rx rs) f.0) (in_zone rx.holds f.0 || leb (shorts f.0) (credit rx (i ∷ done) f.0)) f.2 in
          let p = paid_off f.0 (i ∷ done) (begun, s) b.0 (covers f.0 b.1) in
          omega arith
      go rest (inr f) = let p = rest more in omega arith
        where
          more : (n : ℕ) → Covered rx shorts (i ∷ done) n → in_zone (near_start rx rs) n ≡ true
          more n c = ⊎_elim (h n)
              (λ x.
              let q = loaded_reach rx shorts fit rs (load_at rx rs i) (load_in rx rs i r.0.inside) x.0 x.1 in
              let inside : n < rx.nodes = subst (λ k. k < rx.nodes) x.2 q.inside in
              let away : in_zone (near_goal rx rs) x.0.node ≡ false = ⊎_elim
              (λ t. absurd (true≢false (sym (and_from _ _ (sym (ap (in_zone (near_goal rx rs)) x.2) ∙ t) (covered n c)) ∙ f n inside)))
              (λ t. t) (cases_Bool (in_zone (near_goal rx rs) x.0.node)) in
              subst (λ k. in_zone (near_start rx rs) k ≡ true) x.2
              (start_closed rx (drawn rx rs) (near_goal rx rs) fit.long (edges_of (worth rx rs) (load_at rx rs i)) x.0 (map_in (edges_of (worth rx rs)) (actions rx rs) (load_at rx rs i) (load_in rx rs i r.0.inside)) begun.from x.1 q.inside away))
              (covered_more rx shorts done i n c)

  pub landmark : (todo : List ℕ) → RunFrom rx shorts [] todo → CoveredAfter rx shorts [] todo (goal rx) → weight_now rx rs ≤ charged rx rs todo
  landmark todo r c =
      let l = landmark_from [] todo (λ n k. held_in rx (drawn rx rs) (near_goal rx rs) fit.long n (covered_first rx shorts fit n k)) tt r c in
      omega arith
