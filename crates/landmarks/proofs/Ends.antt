-- The rounds end: each leaves fewer edges that weigh more than 0.
use Rattle.std.proofs.Common.{◌≡◌, ℕ, zero, suc, ◌+◌, ◌-◌, ◌*◌, ◌/◌, ◌<◌, ◌≤◌, Bool, true, false, cond, ◌||◌, eqb, leb, List, [], ◌∷◌, length, get_or, drop, Some, None, sym, refl, ap, ◌∙◌, subst, ap₂, inl, inr, ⊎_elim, mul_comm, mul-le-mul_left, mul-one, mul-add, div-mul-le_self, arith}
use native.Mathlib.Nat.{mul-sub, lt-mul-div-succ, div-eq_of_lt}
use Rattle.std.proofs.lemmas.Nat.{mul-le}
use Rattle.std.proofs.lemmas.List.{get_or_past}
use Rattle.std.proofs.lemmas.Bool.{cases_lt, cases_eq, cond-true, cond-false, or_parts, eq-eqb, ne_eqb, eqb-false}
use Rattle.landmarks.specs.Relaxed.{Reach, Action, Relaxed, goal}
use Rattle.landmarks.specs.Rounds.{ceil_div, weight, Value, value_at, Crossing, crossing, edges_of, grounds_of, Outcome, noting, cap, unless_ended, settled, rounds, pairs}
use Rattle.landmarks.specs.declared.Ground.{Ground}
use Rattle.landmarks.specs.Laws.{In, WellFormed, heavy, heavy_pairs, RoundsEnd, ValuesSettle, ValuesOnly, CutStands}
use Rattle.landmarks.proofs.Sweeps.{justified_is}
use Rattle.landmarks.proofs.Cuts.{ceil_high, charge_high, charge_within, crossing_from, cut_lightest, cut_positive, weight_least, loaded_reach, loaded_settles, worth, near_goal, near_start, cut_now, weight_now}
use Rattle.landmarks.proofs.Runs.{no_action, load_at, load_in}
use Rattle.landmarks.proofs.Landmarks.{no_crossing, charge_at, length_cut, cut_at}
use Rattle.landmarks.proofs.Totals.{rest_now, length_rest, rest_at}

-- ---- weights fall with what is left

weight_zero : (r r' : ℕ) (x : Reach) → 1 ≤ x.gain → r' ≤ r → weight r x ≡ 0 → weight r' x ≡ 0
weight_zero r r' x g h e =
    let a = lt-mul-div-succ (x.short * r) {b = x.gain} g in
    let b : x.gain * (x.short * r / x.gain + 1) ≡ x.gain = ap (λ w. x.gain * (w + 1)) e ∙ mul-one x.gain in
    let c = mul-le-mul_left x.short h in
    div-eq_of_lt (let l : x.short * r' < x.gain = omega arith in l)

abbrev some_weight : ℕ → Reach → ℕ
some_weight r x = cond (eqb (weight r x) 0) 0 1

weighed_less : (r r' : ℕ) (x : Reach) → 1 ≤ x.gain → r' ≤ r → some_weight r' x ≤ some_weight r x
weighed_less r r' x g h = ⊎_elim
    (λ e. let a : some_weight r' x ≡ 0 = cond-true (eqb (weight r' x) 0) 0 1 (eq-eqb _ _ (weight_zero r r' x g h e)) in omega arith)
    (λ ne. let b : some_weight r x ≡ 1 = cond-false (eqb (weight r x) 0) 0 1 (ne_eqb _ _ ne) in let c = at_most (eqb (weight r' x) 0) in omega arith)
    (cases_eq (weight r x) 0)
  where
    at_most : (b : Bool) → cond {A = ℕ} b 0 1 ≤ 1
    at_most true = omega arith
    at_most false = omega arith

heavy_less : (r r' : ℕ) (xs : List Reach) → ((x : Reach) → In x xs → 1 ≤ x.gain) → r' ≤ r → heavy r' xs ≤ heavy r xs
heavy_less r r' [] g h = omega arith
heavy_less r r' (x ∷ xs) g h = let a = weighed_less r r' x (g x (inl refl)) h in let ih = heavy_less r r' xs (λ y i. g y (inr i)) h in omega arith

heavy_falls : (r r' : ℕ) (xs : List Reach) (x : Reach) → In x xs → ((y : Reach) → In y xs → 1 ≤ y.gain) → r' ≤ r → 1 ≤ weight r x → weight r' x ≡ 0 → heavy r' xs < heavy r xs
heavy_falls r r' [] x i g h w z = absurd i
heavy_falls r r' (y ∷ ys) x i g h w z = ⊎_elim
    (λ e.
    let a : some_weight r' y ≡ 0 = cond-true (eqb (weight r' y) 0) 0 1 (eq-eqb _ _ (ap (weight r') e ∙ z)) in
    let same : weight r y ≡ weight r x = ap (weight r) e in
    let b : some_weight r y ≡ 1 = cond-false (eqb (weight r y) 0) 0 1 (ne_eqb (weight r y) 0 (λ q. omega arith)) in
    let c = heavy_less r r' ys (λ v j. g v (inr j)) h in
    omega arith)
    (λ j. let a = weighed_less r r' y (g y (inl refl)) h in let ih = heavy_falls r r' ys x j (λ v k. g v (inr k)) h w z in omega arith) i

heavy_upto : (r : ℕ) (xs : List Reach) → heavy r xs ≤ length xs
heavy_upto r [] = omega arith
heavy_upto r (x ∷ xs) = go (eqb (weight r x) 0) (heavy_upto r xs)
  where
    go : (b : Bool) → heavy r xs ≤ length xs → cond b 0 1 + heavy r xs ≤ length (x ∷ xs)
    go true h = omega arith
    go false h = omega arith

pub heavy_pairs_upto : (as' : List Action) (rs : List ℕ) → heavy_pairs as' rs ≤ pairs as'
unfolding pairs
heavy_pairs_upto [] rs = omega arith
heavy_pairs_upto (a ∷ as') rs = let h = heavy_upto (get_or rs 0 0) a.reaches in let ih = heavy_pairs_upto as' (drop 1 rs) in omega arith

-- ---- over all actions

next_at : (rs : List ℕ) (i : ℕ) → get_or (drop 1 rs) i 0 ≡ get_or rs (suc i) 0
next_at [] i = refl
next_at (r ∷ rs) i = refl

abbrev Gainful : List Action → Type 0
Gainful as' = (a : Action) → In a as' → (x : Reach) → In x a.reaches → 1 ≤ x.gain

pairs_less : (as' : List Action) (rs rs' : List ℕ) → Gainful as' → ((i : ℕ) → get_or rs' i 0 ≤ get_or rs i 0) → heavy_pairs as' rs' ≤ heavy_pairs as' rs
pairs_less [] rs rs' g h = omega arith
pairs_less (a ∷ as') rs rs' g h =
    let l = heavy_less (get_or rs 0 0) (get_or rs' 0 0) a.reaches (g a (inl refl)) (h 0) in
    let ih = pairs_less as' (drop 1 rs) (drop 1 rs') (λ b j. g b (inr j)) (λ i. let u = next_at rs i in let v = next_at rs' i in let w = h (suc i) in omega arith) in
    omega arith

pairs_fall : (as' : List Action) (rs rs' : List ℕ) → Gainful as' → ((i : ℕ) → get_or rs' i 0 ≤ get_or rs i 0)
    → (i : ℕ) → i < length as' → (x : Reach) → In x (get_or as' i no_action).reaches → 1 ≤ weight (get_or rs i 0) x → weight (get_or rs' i 0) x ≡ 0 → heavy_pairs as' rs' < heavy_pairs as' rs
pairs_fall [] rs rs' g h i l x j w z = absurd (omega arith)
pairs_fall (a ∷ as') rs rs' g h zero l x j w z =
    let s = heavy_falls (get_or rs 0 0) (get_or rs' 0 0) a.reaches x j (g a (inl refl)) (h 0) w z in
    let ih = pairs_less as' (drop 1 rs) (drop 1 rs') (λ b k. g b (inr k)) (λ i. let u = next_at rs i in let v = next_at rs' i in let q = h (suc i) in omega arith) in
    omega arith
pairs_fall (a ∷ as') rs rs' g h (suc i) l x j w z =
    let s = heavy_less (get_or rs 0 0) (get_or rs' 0 0) a.reaches (g a (inl refl)) (h 0) in
    let ih = pairs_fall as' (drop 1 rs) (drop 1 rs') (λ b k. g b (inr k)) (λ n. let u = next_at rs n in let v = next_at rs' n in let q = h (suc n) in omega arith)
    i (omega arith) x j (subst (λ r. 1 ≤ weight r x) (sym (next_at rs i)) w) (ap (λ r. weight r x) (next_at rs' i) ∙ z) in
    omega arith

-- ---- the edge that set a round's weight weighs nothing after it

spent_edge : (r ch : ℕ) (x : Reach) → 1 ≤ x.short → 1 ≤ x.gain → ceil_div (weight r x * x.gain) x.short ≤ ch → weight (r - ch) x ≡ 0
spent_edge r ch x d g h =
    let μ = weight r x in
    let a = ceil_high (weight r x * x.gain) x.short d in
    let b = mul-le-mul_left x.short h in
    let c = mul-sub x.short r ch in
    let e = lt-mul-div-succ (x.short * r) {b = x.gain} g in
    let f : x.gain * (weight r x + 1) ≡ weight r x * x.gain + x.gain = mul-add x.gain (weight r x) 1 ∙ ap₂ ◌+◌ (mul_comm x.gain (weight r x)) (mul-one x.gain) in
    div-eq_of_lt (let l : x.short * (r - ch) < x.gain = omega arith in l)

in_place : {X : Type 0} (xs : List X) (d x : X) → In x xs → (i : ℕ) × (i < length xs) × (get_or xs i d ≡ x)
in_place [] d x j = absurd j
in_place (y ∷ ys) d x j = ⊎_elim (λ e. (0, omega arith, e)) (λ k. let r = in_place ys d x k in let l = r.1 in (suc r.0, omega arith, r.2)) j

module _ (rx : Relaxed) (shorts : ℕ → ℕ) (fit : WellFormed rx shorts) where
  gainful : Gainful rx.actions
  gainful a i x j = (fit.reaches a i x j).gains

  rest_less : (rs : List ℕ) (i : ℕ) → get_or (rest_now rx rs) i 0 ≤ get_or rs i 0
  rest_less rs i = ⊎_elim
      (λ h. let e = rest_at rx rs i h in omega arith)
      (λ h. let e = get_or_past (rest_now rx rs) i 0 (let l = length_rest rx rs in omega arith) in omega arith)
      (cases_lt i (length rx.actions))

  pub round_falls : (rs : List ℕ) (v : ℕ) → 1 ≤ v → value_at (worth rx rs) (goal rx) ≡ Some v → heavy_pairs rx.actions (rest_now rx rs) < heavy_pairs rx.actions rs
  round_falls rs v pv gv =
      let t = cut_lightest rx shorts fit rs v pv gv in
      let x = t.edge in
      let pl = in_place (cut_now rx rs) no_crossing t.by t.among in
      let i = pl.0 in
      let h : pl.0 < length rx.actions = (let l = length_cut rx rs in let m = pl.1 in omega arith) in
      let same : crossing (near_goal rx rs) (near_start rx rs) (edges_of (worth rx rs) (load_at rx rs pl.0)) ≡ t.by = sym (cut_at rx rs pl.0 h) ∙ pl.2 in
      let from = crossing_from (near_goal rx rs) (near_start rx rs) (edges_of (worth rx rs) (load_at rx rs pl.0)) x (subst (λ (c : Crossing). In x c.edges) (sym same) t.crosses) in
      let left : get_or rs pl.0 0 ≡ t.by.left = ap (λ (c : Crossing). c.left) same in
      let w : weight (get_or rs pl.0 0) x ≡ weight_now rx rs = ap (λ r. weight r x) left ∙ t.exact in
      let pos = cut_positive rx shorts fit rs v pv gv in
      let f = loaded_reach rx shorts fit rs (load_at rx rs pl.0) (load_in rx rs pl.0 h) x from.1 in
      let d : 1 ≤ x.short = (let l = fit.lacking x.node f.unmet in let s = f.lacks in omega arith) in
      let ch : ceil_div (weight_now rx rs * x.gain) x.short ≤ charge_at rx rs pl.0 = charge_high (weight_now rx rs) (get_or (cut_now rx rs) pl.0 no_crossing).edges x (subst (λ (c : Crossing). In x c.edges) (sym pl.2) t.crosses) in
      let gone : weight (get_or (rest_now rx rs) pl.0 0) x ≡ 0 = ap (λ r. weight r x) (rest_at rx rs pl.0 h)
      ∙ spent_edge (get_or rs pl.0 0) (charge_at rx rs pl.0) x d f.gains (subst (λ m. ceil_div (m * x.gain) x.short ≤ charge_at rx rs pl.0) (sym w) ch) in
      pairs_fall rx.actions rs (rest_now rx rs) gainful (rest_less rs) pl.0 h x from.1 (subst (λ m. 1 ≤ m) (sym w) pos) gone

  enough : (fuel more k total : ℕ) (rs : List ℕ) → heavy_pairs rx.actions rs < fuel → heavy_pairs rx.actions rs < more → rounds rx fuel k total rs ≡ rounds rx more k total rs
  unfolding rounds
  enough zero more k total rs a b = absurd (omega arith)
  enough (suc fuel) zero k total rs a b = absurd (omega arith)
  enough (suc fuel) (suc more) k total rs a b = go (value_at (worth rx rs) (goal rx)) refl (λ c d. enough fuel more (k + 1) (total + weight_now rx rs) (rest_now rx rs) c d)
    where
      noted : List Ground
      noted = grounds_of k (weight_now rx rs) 1 (cut_now rx rs)

      next : ℕ → Unit {0} → Outcome
      next n _ = noting noted (rounds rx n (k + 1) (total + weight_now rx rs) (rest_now rx rs))

      Same : Type 0
      Same = heavy_pairs rx.actions (rest_now rx rs) < fuel → heavy_pairs rx.actions (rest_now rx rs) < more
          → rounds rx fuel (k + 1) (total + weight_now rx rs) (rest_now rx rs) ≡ rounds rx more (k + 1) (total + weight_now rx rs) (rest_now rx rs)

      ends : (v : ℕ) → value_at (worth rx rs) (goal rx) ≡ Some v → Same → (b : Bool) → (eqb v 0 || leb cap total) ≡ b → unless_ended b total (next fuel) ≡ unless_ended b total (next more)
      ends v e ih true q = refl
      ends v e ih false q =
          let ne = eqb-false v 0 (or_parts (eqb v 0) (leb cap total) q).0 in
          let l = round_falls rs v (positive_of v ne) e in
          ap (noting noted) (ih (omega arith) (omega arith))
        where
          positive_of : (w : ℕ) → (w ≡ 0 → ⊥) → 1 ≤ w
          positive_of zero ne = absurd (ne refl)
          positive_of (suc w) ne = omega arith

      go : (o : Value) → value_at (worth rx rs) (goal rx) ≡ o → Same → settled o total (next fuel) ≡ settled o total (next more)
      go None e ih = refl
      go (Some v) e ih = ends v e ih (eqb v 0 || leb cap total) refl

pub rounds_end : RoundsEnd
rounds_end rx shorts fit = enough rx shorts fit

-- ---- the other laws of a round

pub values_settled : ValuesSettle
values_settled rx shorts fit rs = loaded_settles rx shorts fit rs

pub values_only : ValuesOnly
values_only rx qs long vs rank just = justified_is rx qs long vs rank just

pub cut_stands : CutStands
cut_stands rx shorts fit rs v pv gv =
    let t = cut_lightest rx shorts fit rs v pv gv in
    record {
      weighs = cut_positive rx shorts fit rs v pv gv;
      lightest = λ c i x j. weight_least (cut_now rx rs) c x i j;
      attained = (t.by, t.among, (t.edge, t.crosses, t.exact));
      product = λ c i x j. let l = weight_least (cut_now rx rs) c x i j in let a = mul-le (weight_now rx rs) x.gain (weight c.left x) x.gain l (omega arith) in let b = div-mul-le_self (x.short * c.left) x.gain in omega arith;
      afforded = λ c i. charge_within rx shorts fit rs c i;
    }
