-- LM-cut is sound: its estimate is a lower bound on the cost of every plan, dead only where there is none, and its landmark records stand.
use Rattle.std.proofs.Common.{◌≡◌, ℕ, ◌+◌, ◌-◌, ◌*◌, ◌<◌, ◌≤◌, Bool, true, false, cond, ◌&&◌, eqb, List, [], ◌∷◌, length, get_or, sym, refl, ap, ◌∙◌, subst, ⊎_elim, mul-add, arith}
use Rattle.std.specs.List.{AllByRecursion}
use Rattle.std.proofs.lemmas.List.{get_or-map, length-map}
use Rattle.std.proofs.lemmas.Bool.{cases_Bool, cond-true, cond-false}
use Rattle.tables.specs.Check.{accepted}
use Rattle.task.specs.Plans.{cost_of, cost, PlanFrom}
use Rattle.tables.specs.Problem.{Problem}
use Rattle.tables.specs.Rules.{Keeps}
use Rattle.task.specs.States.{is_state}
use Rattle.task.specs.declared.state.State.{State}
use Rattle.tables.proofs.Accepts.{decides_accepted}
use Rattle.landmarks.specs.Relaxed.{Action, goal, relaxed}
use Rattle.landmarks.specs.Rounds.{Outcome, Dead, Found, pairs, full_costs, outcome, told, listed, estimate, grounds}
use Rattle.landmarks.specs.declared.Ground.{Ground}
use Rattle.estimate.specs.declared.estimate.Estimate.{Estimate}
use Rattle.estimate.specs.declared.estimate.Estimate.TheVariants.{AtLeast as at_least, Dead as dead}
use Rattle.landmarks.specs.Laws.{In, charged_in, charged_to, charged_along, Landmarked, Sound, EstimateSound, GroundsStand}
use Rattle.estimate.specs.Estimates.{Claims}
use Rattle.landmarks.proofs.Cuts.{ceil_least}
use Rattle.landmarks.proofs.Runs.{no_action, action_at, CoveredAfter}
use Rattle.landmarks.proofs.Totals.{spent, charged_run, Affordable, rounds_afford, WithinCosts, rounds_within}
use Rattle.landmarks.proofs.Shapes.{shorts, relaxed_fits}
use Rattle.landmarks.proofs.Follow.{length_actions, move_action, helper_action, places, plan_runs}

module _ (p : Problem) (s : State) where
  abbrev costs : List ℕ
  costs = full_costs (relaxed p s).actions

  length_costs : length costs ≡ length p.moves + 1
  length_costs = length-map (relaxed p s).actions (λ a. 5040 * a.cost) ∙ length_actions p s

  costs_at : (i : ℕ) → i < length p.moves + 1 → get_or costs i 0 ≡ 5040 * (action_at (relaxed p s) i).cost
  costs_at i h = get_or-map (λ a. 5040 * a.cost) (relaxed p s).actions i no_action 0 (let l = length_actions p s in omega arith)

  move_cost : (m : ℕ) → 1 ≤ m → m ≤ length p.moves → get_or costs (m - 1) 0 ≡ 5040 * cost_of p m
  move_cost m a b = costs_at (m - 1) (omega arith) ∙ ap (λ (x : Action). 5040 * x.cost) (move_action p s m a b)

  helper_cost : get_or costs (length p.moves) 0 ≡ 0
  helper_cost = costs_at (length p.moves) (omega arith) ∙ ap (λ (x : Action). 5040 * x.cost) (helper_action p s)

  spent_is : (ms : List ℕ) → AllByRecursion (λ m. (1 ≤ m) × (m ≤ length p.moves)) ms → spent costs (places p ms) ≡ 5040 * cost p ms
  unfolding cost
  spent_is [] h = let z = helper_cost in omega arith
  spent_is (m ∷ ms) h =
      let a = move_cost m h.0.0 h.0.1 in
      let ih = spent_is ms h.1 in
      let d = mul-add 5040 (cost_of p m) (cost p ms) in
      omega arith

  charged_places : (gs : List Ground) (k : ℕ) (ms : List ℕ) → AllByRecursion (λ m. (1 ≤ m) × (m ≤ length p.moves)) ms → charged_run gs k (places p ms) ≡ charged_along gs k ms + charged_in gs k (1 + length p.moves)
  charged_places gs k [] h = omega arith
  charged_places gs k (m ∷ ms) h =
      let ih = charged_places gs k ms h.1 in
      let lo = h.0.0 in
      let e : 1 + (m - 1) ≡ m = omega arith in
      let q = ap (charged_in gs k) e in
      omega arith

charged_less : (gs : List Ground) (k m : ℕ) → charged_in gs k m ≤ charged_to gs m
charged_less [] k m = omega arith
charged_less (g ∷ gs) k m = go (eqb g.round k) (eqb g.number m) (charged_less gs k m)
  where
    go : (a b : Bool) → charged_in gs k m ≤ charged_to gs m → cond (a && b) g.charge 0 + charged_in gs k m ≤ cond b g.charge 0 + charged_to gs m
    go true true h = omega arith
    go true false h = omega arith
    go false true h = omega arith
    go false false h = omega arith

module _ (p : Problem) (k : Keeps p) (s : State) where
  outcome_within : WithinCosts (costs p s) (outcome (relaxed p s))
  unfolding outcome
  outcome_within = rounds_within (relaxed p s) (shorts p s) (relaxed_fits p s k) (pairs (relaxed p s).actions + 1) 1 0 (costs p s) (length-map (relaxed p s).actions (λ a. 5040 * a.cost))

  module _ (i : is_state p s ≡ true) where
    goal_is : p.head.facts + length p.conditions ≡ goal (relaxed p s)
    unfolding relaxed
    goal_is = omega arith

    outcome_affords : (ms : List ℕ) → PlanFrom p s ms → Affordable (costs p s) (places p ms) 0 (outcome (relaxed p s))
    unfolding outcome
    outcome_affords ms plan =
        let r = plan_runs p k s plan.0 ms i plan.1 plan.2 in
        rounds_afford (relaxed p s) (shorts p s) (relaxed_fits p s k) (places p ms) r.run (subst (CoveredAfter (relaxed p s) (shorts p s) [] (places p ms)) goal_is r.wins)
        (pairs (relaxed p s).actions + 1) 1 0 (costs p s)

    plan_moves : (ms : List ℕ) → PlanFrom p s ms → AllByRecursion (λ m. (1 ≤ m) × (m ≤ length p.moves)) ms
    plan_moves ms plan = (plan_runs p k s plan.0 ms i plan.1 plan.2).moves

    -- dead only where there is no plan
    pub dead_no_plan : outcome (relaxed p s) ≡ Dead → (ms : List ℕ) → PlanFrom p s ms → ⊥
    dead_no_plan e ms plan = subst (Affordable (costs p s) (places p ms) 0) e (outcome_affords ms plan)

    -- the total of all rounds is at most 5,040 × the cost of every plan
    pub total_bounded : (t : ℕ) (gs : List Ground) → outcome (relaxed p s) ≡ Found t gs → (ms : List ℕ) → PlanFrom p s ms → t ≤ 5040 * cost p ms
    total_bounded t gs e ms plan =
        let a = subst (Affordable (costs p s) (places p ms) 0) e (outcome_affords ms plan) in
        let b = a.bounded in
        let c = spent_is p s ms (plan_moves ms plan) in
        omega arith

    pub charges_reach : (t : ℕ) (gs : List Ground) → outcome (relaxed p s) ≡ Found t gs → (g : Ground) → In g gs → (ms : List ℕ) → PlanFrom p s ms → g.weight ≤ charged_along gs g.round ms
    charges_reach t gs e g j ms plan =
        let a = subst (Affordable (costs p s) (places p ms) 0) e (outcome_affords ms plan) in
        let b = a.landmarks g j in
        let c = charged_places p s gs g.round ms (plan_moves ms plan) in
        let w = subst (WithinCosts (costs p s)) e outcome_within in
        let l = length_costs p s in
        let d = w (length p.moves) (omega arith) in
        let z = helper_cost p s in
        let f = charged_less gs g.round (1 + length p.moves) in
        omega arith

  pub charges_afforded : (t : ℕ) (gs : List Ground) → outcome (relaxed p s) ≡ Found t gs → (m : ℕ) → 1 ≤ m → m ≤ length p.moves → charged_to gs m ≤ 5040 * cost_of p m
  charges_afforded t gs e m a b =
      let w = subst (WithinCosts (costs p s)) e outcome_within in
      let l = length_costs p s in
      let d = w (m - 1) (omega arith) in
      let c = move_cost p s m a b in
      let q : 1 + (m - 1) ≡ m = omega arith in
      let f = ap (charged_to gs) q in
      omega arith

-- ---- the laws

pub estimate_sound : EstimateSound
unfolding estimate
estimate_sound p acc s = ⊎_elim state_sound other_sound (cases_Bool (is_state p s))
  where
    k : Keeps p
    k = (decides_accepted p).0 acc

    by_outcome : is_state p s ≡ true → (o : Outcome) → outcome (relaxed p s) ≡ o → Sound p s (told o)
    by_outcome i Dead e = dead_no_plan p k s i e
    by_outcome i (Found t gs) e = (omega arith, λ ms plan. let b = total_bounded p k s i t gs e ms plan in let c = ceil_least t 5040 (cost p ms) (omega arith) b in omega arith)

    state_sound : is_state p s ≡ true → Sound p s (cond (is_state p s) (told (outcome (relaxed p s))) (at_least 0))
    state_sound i = subst (Sound p s) (sym (cond-true (is_state p s) (told (outcome (relaxed p s))) (at_least 0) i)) (by_outcome i (outcome (relaxed p s)) refl)

    other_sound : is_state p s ≡ false → Sound p s (cond (is_state p s) (told (outcome (relaxed p s))) (at_least 0))
    other_sound i = subst (Sound p s) (sym (cond-false (is_state p s) (told (outcome (relaxed p s))) (at_least 0) i)) (omega arith, λ ms plan. omega arith)

no_charge : (p : Problem) (s : State) → Landmarked p s []
no_charge p s = record { landmarks = λ g i. absurd i; afforded = λ m a b. omega arith }

pub grounds_stand : GroundsStand
unfolding grounds
grounds_stand p acc s = ⊎_elim
    (λ i. subst (Landmarked p s) (sym (cond-true (is_state p s) (listed (outcome (relaxed p s))) [] i)) (by_outcome i (outcome (relaxed p s)) refl))
    (λ i. subst (Landmarked p s) (sym (cond-false (is_state p s) (listed (outcome (relaxed p s))) [] i)) (no_charge p s))
    (cases_Bool (is_state p s))
  where
    k : Keeps p
    k = (decides_accepted p).0 acc

    by_outcome : is_state p s ≡ true → (o : Outcome) → outcome (relaxed p s) ≡ o → Landmarked p s (listed o)
    by_outcome i Dead e = no_charge p s
    by_outcome i (Found t gs) e = record { landmarks = charges_reach p k s i t gs e; afforded = charges_afforded p k s t gs e }

-- LM-cut claims what each estimator owes
sound_claims : (p : Problem) (s : State) (e : Estimate) → Sound p s e → Claims p s e
sound_claims p s dead h = h
sound_claims p s (at_least n) h = h

pub estimate_claims : (p : Problem) → accepted p ≡ true → (s : State) → Claims p s (estimate p s)
estimate_claims p acc s = sound_claims p s (estimate p s) (estimate_sound p acc s)
