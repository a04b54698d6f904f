-- All rounds together: a run that covers the goal pays for the total, and no action is charged more than its cost.
use Rattle.std.proofs.Common.{◌≡◌, ℕ, zero, suc, ◌+◌, ◌-◌, ◌<◌, ◌≤◌, Bool, true, false, cond, ◌&&◌, ◌||◌, eqb, leb, ◌⊎◌, List, [], ◌∷◌, ◌++◌, length, get_or, Some, None, sym, refl, ap, ◌∙◌, inl, inr, ⊎_elim, arith}
use Rattle.std.proofs.lemmas.Option.{none-some}
use Rattle.std.specs.List.{AllByRecursion}
use Rattle.std.proofs.lemmas.List.{get_or-map, length-map}
use Rattle.std.proofs.lemmas.Bool.{and_from, or_parts, cond-true, cond-false, eqb-false, eq-eqb, ne_eqb, true≢false}
use Rattle.landmarks.specs.Relaxed.{Reach, Relaxed, goal}
use Rattle.landmarks.specs.Rounds.{Value, value_at, Crossing, charge, charge_of, left_after, crosses, grounds_of, Outcome, Dead, Found, noting, cap, unless_ended, settled, rounds}
use Rattle.landmarks.specs.declared.Ground.{Ground}
use Rattle.landmarks.specs.Laws.{In, WellFormed, charged_in, charged_to}
use Rattle.landmarks.proofs.Cuts.{worth, cut_now, weight_now}
use Rattle.landmarks.proofs.Runs.{RunFrom, CoveredAfter, run_finite}
use Rattle.landmarks.proofs.Landmarks.{no_crossing, charge_at, charged, length_cut, cut_at, charge_at_within, landmark}

-- ---- the records of a round

pub charged_append : (gs hs : List Ground) (k m : ℕ) → charged_in (gs ++ hs) k m ≡ charged_in gs k m + charged_in hs k m
charged_append [] hs k m = omega arith
charged_append (g ∷ gs) hs k m = let ih = charged_append gs hs k m in omega arith

pub charged_to_append : (gs hs : List Ground) (m : ℕ) → charged_to (gs ++ hs) m ≡ charged_to gs m + charged_to hs m
charged_to_append [] hs m = omega arith
charged_to_append (g ∷ gs) hs m = let ih = charged_to_append gs hs m in omega arith

empty_charge : (μ : ℕ) (xs : List Reach) → crosses xs ≡ false → charge μ xs ≡ 0
unfolding charge
empty_charge μ [] e = refl
empty_charge μ (x ∷ xs) e = absurd (true≢false e)

pub noted_charge : (k μ m : ℕ) (cs : List Crossing) (i : ℕ) → charge_of μ (get_or cs i no_crossing) ≤ charged_in (grounds_of k μ m cs) k (m + i)
unfolding grounds_of charge
noted_charge k μ m [] i = omega arith
noted_charge k μ m (c ∷ cs) zero = go (crosses c.edges) refl
  where
    here : (eqb k k && eqb m (m + 0)) ≡ true
    here = and_from _ _ (eq-eqb k k refl) (eq-eqb m (m + 0) (omega arith))

    go : (b : Bool) → crosses c.edges ≡ b → charge_of μ c ≤ charged_in (cond b (record { round = k; weight = μ; number = m; charge = charge_of μ c } ∷ grounds_of k μ (m + 1) cs) (grounds_of k μ (m + 1) cs)) k (m + 0)
    go true e = let z = cond-true (eqb k k && eqb m (m + 0)) (charge_of μ c) 0 here in omega arith
    go false e = let z = empty_charge μ c.edges e in omega arith
noted_charge k μ m (c ∷ cs) (suc i) = go (crosses c.edges) (noted_charge k μ (m + 1) cs i)
  where
    at : m + 1 + i ≡ m + suc i
    at = omega arith

    go : (b : Bool) → charge_of μ (get_or cs i no_crossing) ≤ charged_in (grounds_of k μ (m + 1) cs) k (m + 1 + i)
        → charge_of μ (get_or cs i no_crossing) ≤ charged_in (cond b (record { round = k; weight = μ; number = m; charge = charge_of μ c } ∷ grounds_of k μ (m + 1) cs) (grounds_of k μ (m + 1) cs)) k (m + suc i)
    go true ih = let e = ap (charged_in (grounds_of k μ (m + 1) cs) k) at in omega arith
    go false ih = let e = ap (charged_in (grounds_of k μ (m + 1) cs) k) at in omega arith

pub noted_all : (k μ m : ℕ) (cs : List Crossing) (g : Ground) → In g (grounds_of k μ m cs) → (g.round ≡ k) × (g.weight ≡ μ)
unfolding grounds_of
noted_all k μ m [] g i = absurd i
noted_all k μ m (c ∷ cs) g i = go (crosses c.edges) i (λ j. noted_all k μ (m + 1) cs g j)
  where
    go : (b : Bool) → In g (cond b (record { round = k; weight = μ; number = m; charge = charge_of μ c } ∷ grounds_of k μ (m + 1) cs) (grounds_of k μ (m + 1) cs)) → (In g (grounds_of k μ (m + 1) cs) → (g.round ≡ k) × (g.weight ≡ μ)) → (g.round ≡ k) × (g.weight ≡ μ)
    go true j ih = ⊎_elim (λ e. (ap (λ (h : Ground). h.round) (sym e), ap (λ (h : Ground). h.weight) (sym e))) ih j
    go false j ih = ih j

uncharged_before : (k μ m : ℕ) (cs : List Crossing) (n : ℕ) → n < m → charged_to (grounds_of k μ m cs) n ≡ 0
unfolding grounds_of
uncharged_before k μ m [] n h = refl
uncharged_before k μ m (c ∷ cs) n h = go (crosses c.edges) (uncharged_before k μ (m + 1) cs n (omega arith))
  where
    go : (b : Bool) → charged_to (grounds_of k μ (m + 1) cs) n ≡ 0 → charged_to (cond b (record { round = k; weight = μ; number = m; charge = charge_of μ c } ∷ grounds_of k μ (m + 1) cs) (grounds_of k μ (m + 1) cs)) n ≡ 0
    go true ih = let z = cond-false (eqb m n) (charge_of μ c) 0 (ne_eqb m n (λ e. omega arith)) in omega arith
    go false ih = ih

pub noted_once : (k μ m : ℕ) (cs : List Crossing) (i : ℕ) → charged_to (grounds_of k μ m cs) (m + i) ≤ charge_of μ (get_or cs i no_crossing)
unfolding grounds_of
noted_once k μ m [] i = omega arith
noted_once k μ m (c ∷ cs) zero = go (crosses c.edges) (uncharged_before k μ (m + 1) cs (m + 0) (omega arith))
  where
    go : (b : Bool) → charged_to (grounds_of k μ (m + 1) cs) (m + 0) ≡ 0 → charged_to (cond b (record { round = k; weight = μ; number = m; charge = charge_of μ c } ∷ grounds_of k μ (m + 1) cs) (grounds_of k μ (m + 1) cs)) (m + 0) ≤ charge_of μ c
    go true z = let e = cond-true (eqb m (m + 0)) (charge_of μ c) 0 (eq-eqb m (m + 0) (omega arith)) in omega arith
    go false z = omega arith
noted_once k μ m (c ∷ cs) (suc i) = go (crosses c.edges) (noted_once k μ (m + 1) cs i)
  where
    at : m + 1 + i ≡ m + suc i
    at = omega arith

    go : (b : Bool) → charged_to (grounds_of k μ (m + 1) cs) (m + 1 + i) ≤ charge_of μ (get_or cs i no_crossing)
        → charged_to (cond b (record { round = k; weight = μ; number = m; charge = charge_of μ c } ∷ grounds_of k μ (m + 1) cs) (grounds_of k μ (m + 1) cs)) (m + suc i) ≤ charge_of μ (get_or cs i no_crossing)
    go true ih = let e = ap (charged_to (grounds_of k μ (m + 1) cs)) at in let z = cond-false (eqb m (m + suc i)) (charge_of μ c) 0 (ne_eqb m (m + suc i) (λ q. omega arith)) in omega arith
    go false ih = let e = ap (charged_to (grounds_of k μ (m + 1) cs)) at in omega arith

-- ---- remainders

abbrev pub rest_now : Relaxed → List ℕ → List ℕ
rest_now rx rs = left_after (weight_now rx rs) (cut_now rx rs)

pub length_rest : (rx : Relaxed) (rs : List ℕ) → length (rest_now rx rs) ≡ length rx.actions
length_rest rx rs = length-map (cut_now rx rs) (λ c. c.left - charge_of (weight_now rx rs) c) ∙ length_cut rx rs

pub rest_at : (rx : Relaxed) (rs : List ℕ) (i : ℕ) → i < length rx.actions → get_or (rest_now rx rs) i 0 ≡ get_or rs i 0 - charge_at rx rs i
rest_at rx rs i h =
    get_or-map (λ c. c.left - charge_of (weight_now rx rs) c) (cut_now rx rs) i no_crossing 0 (let l = length_cut rx rs in omega arith)
    ∙ ap (λ n. n - charge_at rx rs i) (ap (λ (c : Crossing). c.left) (cut_at rx rs i h))

-- what is left of the costs of the actions of a list, counted at each use
abbrev pub spent : List ℕ → List ℕ → ℕ
spent rs [] = 0
spent rs (i ∷ is) = get_or rs i 0 + spent rs is

pub spent_rest : (rx : Relaxed) (shorts : ℕ → ℕ) → WellFormed rx shorts → (rs is : List ℕ) → AllByRecursion (λ i. i < length rx.actions) is → spent (rest_now rx rs) is + charged rx rs is ≡ spent rs is
spent_rest rx shorts fit rs [] h = refl
spent_rest rx shorts fit rs (i ∷ is) h =
    let a = rest_at rx rs i h.0 in
    let b = charge_at_within rx shorts fit rs i h.0 in
    let ih = spent_rest rx shorts fit rs is h.1 in
    omega arith

pub run_inside : (rx : Relaxed) (shorts : ℕ → ℕ) (done todo : List ℕ) → RunFrom rx shorts done todo → AllByRecursion (λ i. i < length rx.actions) todo
run_inside rx shorts done [] r = tt
run_inside rx shorts done (i ∷ is) r = (r.0.inside, run_inside rx shorts (i ∷ done) is r.1)

-- ---- the total

-- what the records say a list of actions is charged in a round; the action at place i is move i + 1
abbrev pub charged_run : List Ground → ℕ → List ℕ → ℕ
charged_run gs k [] = 0
charged_run gs k (i ∷ is) = charged_in gs k (1 + i) + charged_run gs k is

pub charged_run_append : (gs hs : List Ground) (k : ℕ) (is : List ℕ) → charged_run (gs ++ hs) k is ≡ charged_run gs k is + charged_run hs k is
charged_run_append gs hs k [] = refl
charged_run_append gs hs k (i ∷ is) = let a = charged_append gs hs k (1 + i) in let ih = charged_run_append gs hs k is in omega arith

noted_run : (rx : Relaxed) (rs : List ℕ) (k : ℕ) (is : List ℕ) → charged rx rs is ≤ charged_run (grounds_of k (weight_now rx rs) 1 (cut_now rx rs)) k is
noted_run rx rs k [] = omega arith
noted_run rx rs k (i ∷ is) = let a = noted_charge k (weight_now rx rs) 1 (cut_now rx rs) i in let ih = noted_run rx rs k is in omega arith

pub in_append : {X : Type 0} (xs ys : List X) (x : X) → In x (xs ++ ys) → In x xs ⊎ In x ys
in_append [] ys x i = inr i
in_append (y ∷ xs) ys x i = ⊎_elim (λ e. inl (inl e)) (λ j. ⊎_elim (λ k. inl (inr k)) (λ k. inr k) (in_append xs ys x j)) i

pub record Afforded (rs todo : List ℕ) (total t : ℕ) (gs : List Ground) : Type 0 where
  pub bounded : t ≤ total + spent rs todo
  pub landmarks : (g : Ground) → In g gs → g.weight ≤ charged_run gs g.round todo

abbrev pub Affordable : List ℕ → List ℕ → ℕ → Outcome → Type 0
Affordable rs todo total Dead = ⊥
Affordable rs todo total (Found t gs) = Afforded rs todo total t gs

module _ (rx : Relaxed) (shorts : ℕ → ℕ) (fit : WellFormed rx shorts) (todo : List ℕ) (run : RunFrom rx shorts [] todo) (wins : CoveredAfter rx shorts [] todo (goal rx)) where
  pub rounds_afford : (fuel k total : ℕ) (rs : List ℕ) → Affordable rs todo total (rounds rx fuel k total rs)
  unfolding rounds
  rounds_afford zero k total rs = record { bounded = omega arith; landmarks = λ g i. absurd i }
  rounds_afford (suc fuel) k total rs = go (value_at (worth rx rs) (goal rx)) refl (rounds_afford fuel (k + 1) (total + weight_now rx rs) (rest_now rx rs))
    where
      rest : Outcome
      rest = rounds rx fuel (k + 1) (total + weight_now rx rs) (rest_now rx rs)

      noted : List Ground
      noted = grounds_of k (weight_now rx rs) 1 (cut_now rx rs)

      next : Unit {0} → Outcome
      next _ = noting noted rest

      onward : (v : ℕ) → 1 ≤ v → value_at (worth rx rs) (goal rx) ≡ Some v → (o : Outcome) → Affordable (rest_now rx rs) todo (total + weight_now rx rs) o → Affordable rs todo total (noting noted o)
      onward v p e Dead h = absurd h
      onward v p e (Found t gs) h =
          let l = landmark rx shorts fit rs v p e todo run wins in
          let s = spent_rest rx shorts fit rs todo (run_inside rx shorts [] todo run) in
          record {
            bounded = (let b = h.bounded in omega arith);
            landmarks = λ g i.
                let c = charged_run_append noted gs g.round todo in
                ⊎_elim
                (λ j.
                let w = noted_all k (weight_now rx rs) 1 (cut_now rx rs) g j in
                let n = noted_run rx rs k todo in
                let same = ap (λ r. charged_run noted r todo) w.0 in
                let eq = w.1 in
                omega arith)
                (λ j. let b = h.landmarks g j in omega arith)
                (in_append noted gs g i);
          }

      ends : (v : ℕ) → value_at (worth rx rs) (goal rx) ≡ Some v → Affordable (rest_now rx rs) todo (total + weight_now rx rs) rest → (b : Bool) → (eqb v 0 || leb cap total) ≡ b → Affordable rs todo total (unless_ended b total next)
      ends v e ih true q = record { bounded = omega arith; landmarks = λ g i. absurd i }
      ends v e ih false q = onward v (let ne = eqb-false v 0 (or_parts (eqb v 0) (leb cap total) q).0 in positive_of v ne) e rest ih
        where
          positive_of : (w : ℕ) → (w ≡ 0 → ⊥) → 1 ≤ w
          positive_of zero ne = absurd (ne refl)
          positive_of (suc w) ne = omega arith

      go : (o : Value) → value_at (worth rx rs) (goal rx) ≡ o → Affordable (rest_now rx rs) todo (total + weight_now rx rs) rest → Affordable rs todo total (settled o total next)
      go None e ih = let f = run_finite rx shorts fit rs todo run (goal rx) wins in absurd (none-some f.0 (sym (e) ∙ f.1))
      go (Some v) e ih = ends v e ih (eqb v 0 || leb cap total) refl

-- ---- no action is charged more than its cost

abbrev pub WithinCosts : List ℕ → Outcome → Type 0
WithinCosts rs Dead = Unit {0}
WithinCosts rs (Found t gs) = (i : ℕ) → i < length rs → charged_to gs (1 + i) ≤ get_or rs i 0

module _ (rx : Relaxed) (shorts : ℕ → ℕ) (fit : WellFormed rx shorts) where
  pub rounds_within : (fuel k total : ℕ) (rs : List ℕ) → length rs ≡ length rx.actions → WithinCosts rs (rounds rx fuel k total rs)
  unfolding rounds
  rounds_within zero k total rs len = λ i h. omega arith
  rounds_within (suc fuel) k total rs len = go (value_at (worth rx rs) (goal rx)) (rounds_within fuel (k + 1) (total + weight_now rx rs) (rest_now rx rs) (length_rest rx rs))
    where
      rest : Outcome
      rest = rounds rx fuel (k + 1) (total + weight_now rx rs) (rest_now rx rs)

      noted : List Ground
      noted = grounds_of k (weight_now rx rs) 1 (cut_now rx rs)

      next : Unit {0} → Outcome
      next _ = noting noted rest

      onward : (o : Outcome) → WithinCosts (rest_now rx rs) o → WithinCosts rs (noting noted o)
      onward Dead h = tt
      onward (Found t gs) h = λ i l.
          let a = charged_to_append noted gs (1 + i) in
          let b = noted_once k (weight_now rx rs) 1 (cut_now rx rs) i in
          let lr = length_rest rx rs in
          let c = h i (omega arith) in
          let d = rest_at rx rs i (omega arith) in
          let e = charge_at_within rx shorts fit rs i (omega arith) in
          omega arith

      ends : WithinCosts (rest_now rx rs) rest → (b : Bool) → WithinCosts rs (unless_ended b total next)
      ends ih true = λ i h. omega arith
      ends ih false = onward rest ih

      go : (o : Value) → WithinCosts (rest_now rx rs) rest → WithinCosts rs (settled o total next)
      go None ih = tt
      go (Some v) ih = ends ih (eqb v 0 || leb cap total)
