-- The sweeps fall, and settle after as many as there are nodes; and the settled values are the only justified valuation.
use Rattle.std.proofs.Common.{◌≡◌, ℕ, zero, suc, ◌+◌, ◌-◌, ◌<◌, ◌≤◌, Bool, true, false, cond, not, eqb, ◌⊎◌, List, [], ◌∷◌, length, get_or, Some, None, filter, sym, refl, ap, ◌∙◌, subst, inl, inr, ⊎_elim, zero-add, arith}
use Rattle.std.proofs.lemmas.Option.{none-some}
use Rattle.std.specs.List.{AllByRecursion}
use Rattle.std.proofs.ByRecursion.{All-weaker}
use Rattle.std.proofs.lemmas.List.{get_or_past, get_or-map, length-map, same_lists, get_or_default}
use Rattle.std.proofs.lemmas.Bool.{cases_lt, cases_eq, cases_Bool, eqb-true, eq-eqb, ne_eqb, cond-true, cond-false, cond_both, true≢false, false≢true}
use Rattle.tables.specs.Rules.{Once}
use Rattle.landmarks.specs.Relaxed.{Reach, Relaxed}
use Rattle.landmarks.specs.Rounds.{repeated, weight, Value, smaller, larger, plus, Loaded, value_at, largest, offer, best, swept_from, sweep, first_values, values, in_zone}
use Rattle.landmarks.specs.Laws.{In, ◌≼◌, ◌≺◌, Settles, Justified}
use Rattle.landmarks.proofs.Orders.{≼_refl, ≼_eq, ≼_trans, ≼_antisym, zero_≼, cases_≼, ≺_not, ≺_some, smaller_left, smaller_right, smaller_is, larger_left, larger_right, larger_least, plus_mono, plus_above}

-- ---- no more than n distinct numbers below n

abbrev others : ℕ → ℕ → Bool
others n x = not (eqb x n)

apart_kept : (x : ℕ) (n : ℕ) (xs : List ℕ) → AllByRecursion (λ y. x ≡ y → ⊥) xs → AllByRecursion (λ y. x ≡ y → ⊥) (filter (others n) xs)
apart_kept x n [] h = tt
apart_kept x n (y ∷ ys) h = go (others n y) (apart_kept x n ys h.1)
  where
    go : (b : Bool) → AllByRecursion (λ z. x ≡ z → ⊥) (filter (others n) ys) → AllByRecursion (λ z. x ≡ z → ⊥) (cond b (y ∷ filter (others n) ys) (filter (others n) ys))
    go true ih = (h.0, ih)
    go false ih = ih

once_kept : (n : ℕ) (xs : List ℕ) → Once xs → Once (filter (others n) xs)
once_kept n [] h = tt
once_kept n (x ∷ xs) h = go (others n x) (once_kept n xs h.1)
  where
    go : (b : Bool) → Once (filter (others n) xs) → Once (cond b (x ∷ filter (others n) xs) (filter (others n) xs))
    go true ih = (apart_kept x n xs h.0, ih)
    go false ih = ih

none_kept : (n : ℕ) (xs : List ℕ) → AllByRecursion (λ y. n ≡ y → ⊥) xs → filter (others n) xs ≡ xs
none_kept n [] h = refl
none_kept n (x ∷ xs) h = ap (λ b. cond (not b) (x ∷ filter (others n) xs) (filter (others n) xs)) (ne_eqb x n (λ e. h.0 (sym e))) ∙ ap (λ ys. x ∷ ys) (none_kept n xs h.1)

one_gone : (n : ℕ) (xs : List ℕ) → Once xs → length xs ≤ length (filter (others n) xs) + 1
one_gone n [] h = omega arith
one_gone n (x ∷ xs) h = ⊎_elim
    (λ e. let z = ap length (none_kept n xs (subst (λ k. AllByRecursion (λ y. k ≡ y → ⊥) xs) e h.0)) in
    let c : filter (others n) (x ∷ xs) ≡ filter (others n) xs = ap (λ b. cond (not b) (x ∷ filter (others n) xs) (filter (others n) xs)) (eq-eqb x n e) in
    let d = ap length c in omega arith)
    (λ ne. let ih = one_gone n xs h.1 in
    let c : filter (others n) (x ∷ xs) ≡ x ∷ filter (others n) xs = ap (λ b. cond (not b) (x ∷ filter (others n) xs) (filter (others n) xs)) (ne_eqb x n ne) in
    let d : length (filter (others n) (x ∷ xs)) ≡ suc (length (filter (others n) xs)) = ap length c in omega arith)
    (cases_eq x n)

kept_below : (n : ℕ) (xs : List ℕ) → AllByRecursion (λ x. x < suc n) xs → AllByRecursion (λ x. x < n) (filter (others n) xs)
kept_below n [] h = tt
kept_below n (x ∷ xs) h = go (eqb x n) refl (kept_below n xs h.1)
  where
    go : (b : Bool) → eqb x n ≡ b → AllByRecursion (λ y. y < n) (filter (others n) xs) → AllByRecursion (λ y. y < n) (cond (not b) (x ∷ filter (others n) xs) (filter (others n) xs))
    go true e ih = ih
    go false e ih = let ne = Rattle.std.proofs.lemmas.Bool.eqb-false x n e in let l = h.0 in (omega arith, ih)

pub pigeonhole : (n : ℕ) (xs : List ℕ) → Once xs → AllByRecursion (λ x. x < n) xs → length xs ≤ n
pigeonhole zero [] o h = omega arith
pigeonhole zero (x ∷ xs) o h = let l = h.0 in absurd (omega arith)
pigeonhole (suc n) xs o h =
    let ih = pigeonhole n (filter (others n) xs) (once_kept n xs o) (kept_below n xs h) in
    let g = one_gone n xs o in omega arith

-- ---- the largest need, and the best offer

pub largest_high : (vs : List Value) (ns : List ℕ) (n : ℕ) → In n ns → value_at vs n ≼ largest vs ns
unfolding largest
largest_high vs [] n i = absurd i
largest_high vs (m ∷ ms) n i = ⊎_elim
    (λ e. subst (λ k. value_at vs k ≼ larger (value_at vs m) (largest vs ms)) e (larger_left (value_at vs m) (largest vs ms)))
    (λ j. ≼_trans (value_at vs n) (largest vs ms) (larger (value_at vs m) (largest vs ms)) (largest_high vs ms n j) (larger_right (value_at vs m) (largest vs ms))) i

pub largest_least : (vs : List Value) (ns : List ℕ) (b : Value) → ((n : ℕ) → In n ns → value_at vs n ≼ b) → largest vs ns ≼ b
unfolding largest
largest_least vs [] b h = zero_≼ b
largest_least vs (n ∷ ns) b h = larger_least (value_at vs n) (largest vs ns) b (h n (inl refl)) (largest_least vs ns b (λ m i. h m (inr i)))

pub largest_mono : (vs ws : List Value) (ns : List ℕ) → ((n : ℕ) → In n ns → value_at vs n ≼ value_at ws n) → largest vs ns ≼ largest ws ns
largest_mono vs ws ns h = largest_least vs ns (largest ws ns) (λ n i. ≼_trans (value_at vs n) (value_at ws n) (largest ws ns) (h n i) (largest_high ws ns n i))

offer_low : (r : ℕ) (v : Value) (xs : List Reach) (x : Reach) → In x xs → offer r v xs x.node ≼ plus v (weight r x)
unfolding offer
offer_low r v [] x i = absurd i
offer_low r v (y ∷ ys) x i =
    let here : Value = cond (eqb y.node x.node) (plus v (weight r y)) None in
    let rest : Value = offer r v ys x.node in
    ⊎_elim
    (λ e. let c : here ≡ plus v (weight r x) = cond-true _ _ _ (eq-eqb y.node x.node (ap (λ (z : Reach). z.node) e)) ∙ ap (λ (z : Reach). plus v (weight r z)) e in
    subst (λ z. smaller here rest ≼ z) c (smaller_left here rest))
    (λ j. ≼_trans (smaller here rest) rest (plus v (weight r x)) (smaller_right here rest) (offer_low r v ys x j)) i

offer_is : (r : ℕ) (v : Value) (xs : List Reach) (n b : ℕ) → offer r v xs n ≡ Some b → (x : Reach) × In x xs × (x.node ≡ n) × (plus v (weight r x) ≡ Some b)
unfolding offer
offer_is r v [] n b e = absurd (none-some b e)
offer_is r v (y ∷ ys) n b e = ⊎_elim
    (λ s. go (eqb y.node n) refl (sym s ∙ e))
    (λ s. let r' = offer_is r v ys n b (sym s ∙ e) in (r'.0, inr r'.1, r'.2, r'.3))
    (smaller_is (cond (eqb y.node n) (plus v (weight r y)) None) (offer r v ys n))
  where
    go : (t : Bool) → eqb y.node n ≡ t → cond t (plus v (weight r y)) None ≡ Some b → (x : Reach) × In x (y ∷ ys) × (x.node ≡ n) × (plus v (weight r x) ≡ Some b)
    go true q z = (y, inl refl, eqb-true _ _ q, z)
    go false q z = absurd (none-some b z)

pub best_low : (vs : List Value) (qs : List Loaded) (q : Loaded) (x : Reach) → In q qs → In x q.reaches → best vs qs x.node ≼ plus (largest vs q.needs) (weight q.left x)
unfolding best
best_low vs [] q x i j = absurd i
best_low vs (p ∷ ps) q x i j =
    let here : Value = offer p.left (largest vs p.needs) p.reaches x.node in
    let rest : Value = best vs ps x.node in
    let Low : Value → Type 0 = λ v. v ≼ plus (largest vs q.needs) (weight q.left x) in
    ⊎_elim
    (λ e. ≼_trans (smaller here rest) here (plus (largest vs q.needs) (weight q.left x)) (smaller_left here rest)
    (subst (λ (z : Loaded). Low (offer z.left (largest vs z.needs) z.reaches x.node)) (sym e) (offer_low q.left (largest vs q.needs) q.reaches x j)))
    (λ k. ≼_trans (smaller here rest) rest (plus (largest vs q.needs) (weight q.left x)) (smaller_right here rest) (best_low vs ps q x k j)) i

-- the action and the edge that a node's best offer comes from
pub record Offered (vs : List Value) (qs : List Loaded) (n b : ℕ) : Type 0 where
  pub by : Loaded
  pub among : In by qs
  pub edge : Reach
  pub reached : In edge by.reaches
  pub here : edge.node ≡ n
  pub exact : plus (largest vs by.needs) (weight by.left edge) ≡ Some b

pub best_is : (vs : List Value) (qs : List Loaded) (n b : ℕ) → best vs qs n ≡ Some b → Offered vs qs n b
unfolding best
best_is vs [] n b e = absurd (none-some b e)
best_is vs (q ∷ qs) n b e = ⊎_elim
    (λ s. let r = offer_is q.left (largest vs q.needs) q.reaches n b (sym s ∙ e) in record { by = q; among = inl refl; edge = r.0; reached = r.1; here = r.2; exact = r.3 })
    (λ s. let r = best_is vs qs n b (sym s ∙ e) in record { by = r.by; among = inr r.among; edge = r.edge; reached = r.reached; here = r.here; exact = r.exact })
    (smaller_is (offer q.left (largest vs q.needs) q.reaches n) (best vs qs n))

pub best_mono : (vs ws : List Value) (qs : List Loaded) (n : ℕ) → ((m : ℕ) → value_at vs m ≼ value_at ws m) → best vs qs n ≼ best ws qs n
best_mono vs ws qs n h = go (best ws qs n) refl
  where
    go : (y : Value) → best ws qs n ≡ y → best vs qs n ≼ y
    go None e = tt
    go (Some b) e =
        let r = best_is ws qs n b e in
        let l = subst (λ k. best vs qs k ≼ plus (largest vs r.by.needs) (weight r.by.left r.edge)) r.here (best_low vs qs r.by r.edge r.among r.reached) in
        let m = plus_mono (largest vs r.by.needs) (largest ws r.by.needs) (weight r.by.left r.edge) (largest_mono vs ws r.by.needs (λ k _. h k)) in
        subst (λ z. best vs qs n ≼ z) r.exact (≼_trans (best vs qs n) (plus (largest vs r.by.needs) (weight r.by.left r.edge)) (plus (largest ws r.by.needs) (weight r.by.left r.edge)) l m)

-- ---- a sweep, node by node

length_swept : (vs : List Value) (qs : List Loaded) (n : ℕ) (hs : List Bool) → length (swept_from vs qs n hs) ≡ length hs
unfolding swept_from
length_swept vs qs n [] = refl
length_swept vs qs n (h ∷ hs) = ap suc (length_swept vs qs (n + 1) hs)

swept_at : (vs : List Value) (qs : List Loaded) (n : ℕ) (hs : List Bool) (i : ℕ) → i < length hs → value_at (swept_from vs qs n hs) i ≡ cond (get_or hs i false) (Some 0) (best vs qs (n + i))
unfolding swept_from
swept_at vs qs n [] i h = absurd (omega arith)
swept_at vs qs n (b ∷ hs) zero h = let e : n ≡ n + 0 = omega arith in ap (λ k. cond b (Some 0) (best vs qs k)) e
swept_at vs qs n (b ∷ hs) (suc i) h = let e : n + 1 + i ≡ n + suc i = omega arith in swept_at vs qs (n + 1) hs i (omega arith) ∙ ap (λ k. cond (get_or hs i false) (Some 0) (best vs qs k)) e

pub repeated_suc : {X : Type 0} (f : X → X) (k : ℕ) (x : X) → repeated f (suc k) x ≡ f (repeated f k x)
unfolding repeated
repeated_suc f zero x = refl
repeated_suc f (suc k) x = repeated_suc f k (f x)

module _ (rx : Relaxed) (qs : List Loaded) (long : length rx.holds ≡ rx.nodes) where
  -- the values after k sweeps
  abbrev pub S : ℕ → List Value
  S k = repeated (sweep rx qs) k (first_values rx.holds)

  pub sweep_at : (vs : List Value) (n : ℕ) → n < rx.nodes → value_at (sweep rx qs vs) n ≡ cond (in_zone rx.holds n) (Some 0) (best vs qs n)
  sweep_at vs n h = swept_at vs qs 0 rx.holds n (omega arith) ∙ ap (λ k. cond (in_zone rx.holds n) (Some 0) (best vs qs k)) (zero-add n)

  sweep_held : (vs : List Value) (n : ℕ) → n < rx.nodes → in_zone rx.holds n ≡ true → value_at (sweep rx qs vs) n ≡ Some 0
  sweep_held vs n h e = sweep_at vs n h ∙ cond-true (in_zone rx.holds n) (Some 0) (best vs qs n) e

  sweep_open : (vs : List Value) (n : ℕ) → n < rx.nodes → in_zone rx.holds n ≡ false → value_at (sweep rx qs vs) n ≡ best vs qs n
  sweep_open vs n h e = sweep_at vs n h ∙ cond-false (in_zone rx.holds n) (Some 0) (best vs qs n) e

  sweep_long : (vs : List Value) → length (sweep rx qs vs) ≡ rx.nodes
  sweep_long vs = length_swept vs qs 0 rx.holds ∙ long

  pub S-suc : (k : ℕ) → S (suc k) ≡ sweep rx qs (S k)
  S-suc k = repeated_suc (sweep rx qs) k (first_values rx.holds)

  pub S-zero : S 0 ≡ first_values rx.holds
  unfolding repeated
  S-zero = refl

  pub first_at : (n : ℕ) → n < rx.nodes → value_at (S 0) n ≡ cond (in_zone rx.holds n) (Some 0) None
  first_at n h = ap (λ vs. value_at vs n) S-zero ∙ get_or-map (λ b. cond b (Some 0) None) rx.holds n false None (omega arith)

  pub S-long : (k : ℕ) → length (S k) ≡ rx.nodes
  S-long zero = ap length S-zero ∙ length-map rx.holds (λ b. cond b (Some 0) None) ∙ long
  S-long (suc k) = ap length (S-suc k) ∙ sweep_long (S k)

  pub S-past : (k n : ℕ) → rx.nodes ≤ n → value_at (S k) n ≡ None
  S-past k n h = get_or_past (S k) n None (let e = S-long k in omega arith)

  pub S-held : (k n : ℕ) → n < rx.nodes → in_zone rx.holds n ≡ true → value_at (S k) n ≡ Some 0
  S-held zero n h e = first_at n h ∙ cond-true (in_zone rx.holds n) (Some 0) None e
  S-held (suc k) n h e = ap (λ vs. value_at vs n) (S-suc k) ∙ sweep_held (S k) n h e

  pub S-open : (k n : ℕ) → n < rx.nodes → in_zone rx.holds n ≡ false → value_at (S (suc k)) n ≡ best (S k) qs n
  S-open k n h e = ap (λ vs. value_at vs n) (S-suc k) ∙ sweep_open (S k) n h e

  -- a node that holds is one of the nodes
  pub held_inside : (n : ℕ) → in_zone rx.holds n ≡ true → n < rx.nodes
  held_inside n e = ⊎_elim (λ h. h) (λ h. absurd (false≢true (sym (get_or_past rx.holds n false (omega arith)) ∙ e))) (cases_lt n rx.nodes)

  -- values of a node that does not hold, from sweep to sweep
  open_cases : (P : Value → Value → Type 0) (x y : Value) → (n : ℕ)
      → (n < rx.nodes → in_zone rx.holds n ≡ true → P x y) → (n < rx.nodes → in_zone rx.holds n ≡ false → P x y) → (rx.nodes ≤ n → P x y) → P x y
  open_cases P x y n held open' past = ⊎_elim (λ l. ⊎_elim (held l) (open' l) (cases_Bool (in_zone rx.holds n))) past (cases_lt n rx.nodes)

  pub falls : (k n : ℕ) → value_at (S (suc k)) n ≼ value_at (S k) n
  falls zero n = open_cases (λ x y. x ≼ y) (value_at (S 1) n) (value_at (S 0) n) n
      (λ h e. ≼_eq (value_at (S 1) n) (value_at (S 0) n) (S-held 1 n h e ∙ sym (S-held 0 n h e)))
      (λ h e. subst (λ y. value_at (S 1) n ≼ y) (sym (first_at n h ∙ cond-false (in_zone rx.holds n) (Some 0) None e)) tt)
      (λ h. ≼_eq (value_at (S 1) n) (value_at (S 0) n) (S-past 1 n h ∙ sym (S-past 0 n h)))
  falls (suc k) n = open_cases (λ x y. x ≼ y) (value_at (S (suc (suc k))) n) (value_at (S (suc k)) n) n
      (λ h e. ≼_eq (value_at (S (suc (suc k))) n) (value_at (S (suc k)) n) (S-held (suc (suc k)) n h e ∙ sym (S-held (suc k) n h e)))
      (λ h e. subst (λ y. value_at (S (suc (suc k))) n ≼ y) (sym (S-open k n h e)) (subst (λ x. x ≼ best (S k) qs n) (sym (S-open (suc k) n h e)) (best_mono (S (suc k)) (S k) qs n (λ m. falls k m))))
      (λ h. ≼_eq (value_at (S (suc (suc k))) n) (value_at (S (suc k)) n) (S-past (suc (suc k)) n h ∙ sym (S-past (suc k) n h)))

  pub falls_on : (j k n : ℕ) → value_at (S (k + j)) n ≼ value_at (S j) n
  falls_on j zero n = let e : 0 + j ≡ j = zero-add j in ≼_eq (value_at (S (0 + j)) n) (value_at (S j) n) (ap (λ i. value_at (S i) n) e)
  falls_on j (suc k) n =
      let e : suc k + j ≡ suc (k + j) = omega arith in
      subst (λ i. value_at (S i) n ≼ value_at (S j) n) (sym e) (≼_trans (value_at (S (suc (k + j))) n) (value_at (S (k + j)) n) (value_at (S j) n) (falls (k + j) n) (falls_on j k n))

  pub falls_from : (j k n : ℕ) → j ≤ k → value_at (S k) n ≼ value_at (S j) n
  falls_from j k n h = let e : k - j + j ≡ k = omega arith in subst (λ i. value_at (S i) n ≼ value_at (S j) n) e (falls_on j (k - j) n)

  -- ---- how long values can fall

  abbrev Fell : ℕ → ℕ → Type 0
  Fell k n = value_at (S (suc k)) n ≺ value_at (S k) n

  some_fell : (k : ℕ) (ns : List ℕ) → ((m : ℕ) × In m ns × Fell k m) ⊎ ((m : ℕ) → In m ns → value_at (S k) m ≼ value_at (S (suc k)) m)
  some_fell k [] = inr (λ m i. absurd i)
  some_fell k (n ∷ ns) = go (cases_≼ (value_at (S k) n) (value_at (S (suc k)) n)) (some_fell k ns)
    where
      go : (value_at (S k) n ≼ value_at (S (suc k)) n) ⊎ Fell k n → ((m : ℕ) × In m ns × Fell k m) ⊎ ((m : ℕ) → In m ns → value_at (S k) m ≼ value_at (S (suc k)) m)
          → ((m : ℕ) × In m (n ∷ ns) × Fell k m) ⊎ ((m : ℕ) → In m (n ∷ ns) → value_at (S k) m ≼ value_at (S (suc k)) m)
      go (inr f) rest = inl (n, inl refl, f)
      go (inl h) (inl r) = inl (r.0, inr r.1, r.2)
      go (inl h) (inr r) = inr (λ m i. ⊎_elim (λ e. subst (λ j. value_at (S k) j ≼ value_at (S (suc k)) j) e h) (λ j. r m j) i)

  fell_inside : (k n : ℕ) → Fell k n → n < rx.nodes
  fell_inside k n f = ⊎_elim (λ h. h) (λ h. absurd (subst (λ x. x ≺ value_at (S k) n) (S-past (suc k) n h) f)) (cases_lt n rx.nodes)

  fell_open : (k n : ℕ) → Fell k n → in_zone rx.holds n ≡ false
  fell_open k n f = ⊎_elim
      (λ e. absurd (≺_not (value_at (S (suc k)) n) (value_at (S k) n) f (≼_eq (value_at (S k) n) (value_at (S (suc k)) n) (S-held k n (fell_inside k n f) e ∙ sym (S-held (suc k) n (fell_inside k n f) e)))))
      (λ e. e) (cases_Bool (in_zone rx.holds n))

  -- a node's value falls only after that of a need
  fell_before : (k n : ℕ) → Fell (suc k) n → (m : ℕ) × Fell k m × (value_at (S (suc k)) m ≼ value_at (S (suc (suc k))) n)
  fell_before k n f = go (≺_some (value_at (S (suc (suc k))) n) (value_at (S (suc k)) n) f)
    where
      inside : n < rx.nodes
      inside = fell_inside (suc k) n f

      isOpen : in_zone rx.holds n ≡ false
      isOpen = fell_open (suc k) n f

      go : (b : ℕ) × (value_at (S (suc (suc k))) n ≡ Some b) → (m : ℕ) × Fell k m × (value_at (S (suc k)) m ≼ value_at (S (suc (suc k))) n)
      go w =
          let r = best_is (S (suc k)) qs n w.0 (sym (S-open (suc k) n inside isOpen) ∙ w.1) in
          let ns = r.by.needs in
          let wt = weight r.by.left r.edge in
          let top : largest (S (suc k)) ns ≼ value_at (S (suc (suc k))) n = subst (λ z. largest (S (suc k)) ns ≼ z) (r.exact ∙ sym w.1) (plus_above (largest (S (suc k)) ns) wt) in
          ⊎_elim
          (λ x. (x.0, x.2, ≼_trans (value_at (S (suc k)) x.0) (largest (S (suc k)) ns) (value_at (S (suc (suc k))) n) (largest_high (S (suc k)) ns x.0 x.1) top))
          (λ same.
          let l : best (S k) qs n ≼ plus (largest (S k) ns) wt = subst (λ j. best (S k) qs j ≼ plus (largest (S k) ns) wt) r.here (best_low (S k) qs r.by r.edge r.among r.reached) in
          let m : plus (largest (S k) ns) wt ≼ plus (largest (S (suc k)) ns) wt = plus_mono (largest (S k) ns) (largest (S (suc k)) ns) wt (largest_mono (S k) (S (suc k)) ns same) in
          let t : best (S k) qs n ≼ value_at (S (suc (suc k))) n = subst (λ z. best (S k) qs n ≼ z) (r.exact ∙ sym w.1) (≼_trans (best (S k) qs n) (plus (largest (S k) ns) wt) (plus (largest (S (suc k)) ns) wt) l m) in
          absurd (≺_not (value_at (S (suc (suc k))) n) (value_at (S (suc k)) n) f (subst (λ x. x ≼ value_at (S (suc (suc k))) n) (sym (S-open k n inside isOpen)) t)))
          (some_fell k ns)

  -- a node that fell at a step up to k, to no more than v
  record Falling (k : ℕ) (v : Value) (n : ℕ) : Type 0 where
    inside : n < rx.nodes
    step : ℕ
    soon : step ≤ k
    fell : Fell step n
    low : value_at (S (suc step)) n ≼ v

  record Fallen (k : ℕ) (v : Value) : Type 0 where
    list : List ℕ
    many : length list ≡ suc k
    once : Once list
    each : AllByRecursion (Falling k v) list

  later : (k : ℕ) (v w : Value) → v ≼ w → (n : ℕ) → Falling k v n → Falling (suc k) w n
  later k v w h n f = record { inside = f.inside; step = f.step; soon = (let s = f.soon in omega arith); fell = f.fell; low = ≼_trans (value_at (S (suc f.step)) n) v w f.low h }

  fallen : (k n : ℕ) → Fell k n → Fallen k (value_at (S (suc k)) n)
  fallen zero n f = record { list = n ∷ []; many = refl; once = (tt, tt); each = (record { inside = fell_inside zero n f; step = 0; soon = omega arith; fell = f; low = ≼_refl (value_at (S 1) n) }, tt) }
  fallen (suc k) n f =
      let b = fell_before k n f in
      let ih = fallen k b.0 b.1 in
      let v = value_at (S (suc k)) b.0 in
      let w = value_at (S (suc (suc k))) n in
      record {
        list = n ∷ ih.list;
        many = ap suc ih.many;
        once = (All-weaker (Falling k v) (λ m. n ≡ m → ⊥) (λ m g e. new m g e b.2) ih.list ih.each, ih.once);
        each = (
          record { inside = fell_inside (suc k) n f; step = suc k; soon = omega arith; fell = f; low = ≼_refl (value_at (S (suc (suc k))) n) },
          All-weaker (Falling k v) (Falling (suc k) w) (later k v w b.2) ih.list ih.each,
        );
      }
    where
      new : (m : ℕ) {v : Value} → Falling k v m → n ≡ m → v ≼ value_at (S (suc (suc k))) n → ⊥
      new m {v} g e h =
          let a : value_at (S (suc g.step)) n ≼ value_at (S (suc (suc k))) n = subst (λ j. value_at (S (suc g.step)) j ≼ value_at (S (suc (suc k))) n) (sym e) (≼_trans (value_at (S (suc g.step)) m) v (value_at (S (suc (suc k))) n) g.low h) in
          let s : suc g.step ≤ suc k = (let t = g.soon in omega arith) in
          let c = falls_from (suc g.step) (suc k) n s in
          ≺_not (value_at (S (suc (suc k))) n) (value_at (S (suc k)) n) f (≼_trans (value_at (S (suc k)) n) (value_at (S (suc g.step)) n) (value_at (S (suc (suc k))) n) c a)

  never_fell : (n : ℕ) → Fell rx.nodes n → ⊥
  never_fell n f =
      let r = fallen rx.nodes n f in
      let l = pigeonhole rx.nodes r.list r.once (All-weaker (Falling rx.nodes (value_at (S (suc rx.nodes)) n)) (λ m. m < rx.nodes) (λ m g. g.inside) r.list r.each) in
      let m = r.many in omega arith

  still : (n : ℕ) → value_at (S (suc rx.nodes)) n ≡ value_at (S rx.nodes) n
  still n = ≼_antisym (value_at (S (suc rx.nodes)) n) (value_at (S rx.nodes) n) (falls rx.nodes n) (⊎_elim (λ h. h) (λ f. absurd (never_fell n f)) (cases_≼ (value_at (S rx.nodes) n) (value_at (S (suc rx.nodes)) n)))

  -- ---- the values settle

  pub values_settle : ((q : Loaded) → In q qs → (x : Reach) → In x q.reaches → x.node < rx.nodes) → Settles rx qs (values rx qs)
  unfolding values
  values_settle inside = record { long = S-long rx.nodes; held = λ n e. S-held rx.nodes n (held_inside n e) e; low = low }
    where
      low : (q : Loaded) → In q qs → (x : Reach) → In x q.reaches → value_at (S rx.nodes) x.node ≼ plus (largest (S rx.nodes) q.needs) (weight q.left x)
      low q i x j =
          let v = S rx.nodes in
          let w = plus (largest (S rx.nodes) q.needs) (weight q.left x) in
          open_cases (λ a b. a ≼ b) (value_at v x.node) w x.node
          (λ h e. subst (λ z. z ≼ w) (sym (S-held rx.nodes x.node h e)) (zero_≼ w))
          (λ h e. subst (λ z. z ≼ w) (sym (S-open rx.nodes x.node h e) ∙ still x.node) (best_low v qs q x i j))
          (λ h. let l = inside q i x j in absurd (omega arith))

  -- ---- no other valuation is justified

  module _ (D : List Value) (rank : ℕ → ℕ) (just : Justified rx qs D rank) where
    D-past : (n : ℕ) → rx.nodes ≤ n → value_at D n ≡ None
    D-past n h = get_or_past D n None (let e = just.settles.long in omega arith)

    D-best : (n : ℕ) → value_at D n ≼ best D qs n
    D-best n = go (best D qs n) refl
      where
        go : (y : Value) → best D qs n ≡ y → value_at D n ≼ y
        go None e = tt
        go (Some b) e =
            let r = best_is D qs n b e in
            subst (λ z. value_at D n ≼ z) r.exact (subst (λ m. value_at D m ≼ plus (largest D r.by.needs) (weight r.by.left r.edge)) r.here (just.settles.low r.by r.among r.edge r.reached))

    D-low : (k n : ℕ) → value_at D n ≼ value_at (S k) n
    D-low zero n = open_cases (λ x y. x ≼ y) (value_at D n) (value_at (S 0) n) n
        (λ h e. ≼_eq (value_at D n) (value_at (S 0) n) (just.settles.held n e ∙ sym (S-held 0 n h e)))
        (λ h e. subst (λ y. value_at D n ≼ y) (sym (first_at n h ∙ cond-false (in_zone rx.holds n) (Some 0) None e)) tt)
        (λ h. subst (λ y. value_at D n ≼ y) (sym (S-past 0 n h)) tt)
    D-low (suc k) n = open_cases (λ x y. x ≼ y) (value_at D n) (value_at (S (suc k)) n) n
        (λ h e. ≼_eq (value_at D n) (value_at (S (suc k)) n) (just.settles.held n e ∙ sym (S-held (suc k) n h e)))
        (λ h e. subst (λ y. value_at D n ≼ y) (sym (S-open k n h e)) (≼_trans (value_at D n) (best D qs n) (best (S k) qs n) (D-best n) (best_mono D (S k) qs n (λ m. D-low k m))))
        (λ h. subst (λ y. value_at D n ≼ y) (sym (S-past (suc k) n h)) tt)

    D-high : (k n : ℕ) → rank n < k → value_at (S k) n ≼ value_at D n
    D-high zero n h = absurd (omega arith)
    D-high (suc k) n h = open_cases (λ x y. x ≼ y) (value_at (S (suc k)) n) (value_at D n) n
        (λ l e. ≼_eq (value_at (S (suc k)) n) (value_at D n) (S-held (suc k) n l e ∙ sym (just.settles.held n e)))
        (λ l e. go (λ m r. D-high k m r) l e (value_at D n) refl)
        (λ l. subst (λ y. value_at (S (suc k)) n ≼ y) (sym (D-past n l)) tt)
      where
        go : ((m : ℕ) → rank m < k → value_at (S k) m ≼ value_at D m) → n < rx.nodes → in_zone rx.holds n ≡ false → (y : Value) → value_at D n ≡ y → value_at (S (suc k)) n ≼ value_at D n
        go ih l e None q = subst (λ y. value_at (S (suc k)) n ≼ y) (sym q) tt
        go ih l e (Some v) q =
            let s = just.supported n v e q in
            let ns = s.by.needs in
            let wt = weight s.by.left s.edge in
            let need : (m : ℕ) → In m ns → value_at (S k) m ≼ value_at D m = λ m i. ⊎_elim
            (λ held. ≼_eq (value_at (S k) m) (value_at D m) (S-held k m (held_inside m held) held ∙ sym (just.settles.held m held)))
            (λ r. ih m (omega arith)) (s.earlier m i) in
            let a : best (S k) qs n ≼ plus (largest (S k) ns) wt = subst (λ j. best (S k) qs j ≼ plus (largest (S k) ns) wt) s.here (best_low (S k) qs s.by s.edge s.among s.reached) in
            let b : plus (largest (S k) ns) wt ≼ plus (largest D ns) wt = plus_mono (largest (S k) ns) (largest D ns) wt (largest_mono (S k) D ns need) in
            subst (λ y. value_at (S (suc k)) n ≼ y) (sym s.exact) (subst (λ x. x ≼ plus (largest D ns) wt) (sym (S-open k n l e)) (≼_trans (best (S k) qs n) (plus (largest (S k) ns) wt) (plus (largest D ns) wt) a b))

    pub justified_is : D ≡ values rx qs
    unfolding values
    justified_is = same_lists D (S rx.nodes) (just.settles.long ∙ sym (S-long rx.nodes)) each
      where
        each : (n : ℕ) (d : Value) → n < length D → get_or D n d ≡ get_or (S rx.nodes) n d
        each n d h =
            let l = just.settles.long in
            let m = S-long rx.nodes in
            get_or_default D n d None h ∙ ≼_antisym (value_at D n) (value_at (S rx.nodes) n) (D-low rx.nodes n) (D-high rx.nodes n (just.ranks n)) ∙ sym (get_or_default (S rx.nodes) n d None (omega arith))
