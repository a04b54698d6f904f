-- The cut of a round: it is not empty, its edges weigh something, and no charge exceeds what is left of a cost.
use Rattle.std.proofs.Common.{◌≡◌, ℕ, zero, suc, ◌+◌, ◌-◌, ◌*◌, ◌/◌, ◌<◌, ◌≤◌, Bool, true, false, cond, not, ◌&&◌, ltb, List, [], ◌∷◌, Some, None, filter, Option, sym, refl, ap, ◌∙◌, subst, ap₂, inl, inr, ⊎_elim, mul_comm, div-mul-le_self, arith}
use Rattle.std.proofs.lemmas.Option.{same_Some, none-some}
use native.Mathlib.Nat.{lt-mul-div-succ}
use Rattle.std.proofs.lemmas.Nat.{div_below, mul-le}
use Rattle.std.proofs.lemmas.Bool.{cases_lt, cases_eq, cases_Bool, and_parts, or_cases, or_parts, not-true, cond-true, cond-false, false≢true}
use Rattle.landmarks.specs.Relaxed.{Reach, Action, Relaxed, goal}
use Rattle.landmarks.specs.Rounds.{ceil_div, weight, Value, smaller, larger, plus, above, Loaded, loaded, value_at, largest, best, values, beats, picked, chosen, Edges, edges_of, graph, in_zone, goal_zone, leads_in, starts, start_zone, Crossing, into, crossing, crossings, cut, lightest, lightest_of, or_zero, cut_weight, charge, charge_of}
use Rattle.landmarks.specs.Laws.{In, ◌≼◌, Settles, ReachFits, WellFormed}
use Rattle.landmarks.proofs.Orders.{in_map, map_in, ≼_refl, ≼_eq, ≼_trans, zero_≼, below_some, smaller_left, smaller_right, smaller_is, larger_least, plus_zero, plus_some, above_true, above_false}
use Rattle.landmarks.proofs.Sweeps.{largest_high, Offered, best_is, S, S-open, S-past, first_at, values_settle}
use Rattle.landmarks.proofs.Zones.{weightless_tells, weightless_from, leads_tells, leads_from, goal_in, goal_zone_keeps, goal_zone_closed, held_in, start_apart, start_closed}

-- ---- the chosen need

pub chosen_ground : (vs : List Value) (ns : List ℕ) → chosen vs ns ≡ None → ns ≡ []
unfolding chosen
chosen_ground vs [] e = refl
chosen_ground vs (n ∷ ns) e = absurd (go (chosen vs ns) e)
  where
    go : (o : Option ℕ) → picked vs n o ≡ None → ⊥
    go None e = none-some n (sym e)
    go (Some m) e = none-some (cond (beats vs n m) n m) (sym e)

pub no_needs : (vs : List Value) (ns : List ℕ) → ns ≡ [] → largest vs ns ≡ Some 0
unfolding largest
no_needs vs ns e = ap (largest vs) e

pub chosen_in : (vs : List Value) (ns : List ℕ) (i : ℕ) → chosen vs ns ≡ Some i → In i ns
unfolding chosen
chosen_in vs [] i e = absurd (none-some i e)
chosen_in vs (n ∷ ns) i e = go (chosen vs ns) (λ m q. chosen_in vs ns m q) refl e
  where
    go : (o : Option ℕ) → ((m : ℕ) → chosen vs ns ≡ Some m → In m ns) → chosen vs ns ≡ o → picked vs n o ≡ Some i → In i (n ∷ ns)
    go None ih q e = inl (same_Some n i e)
    go (Some m) ih q e = pick (beats vs n m) (same_Some (cond (beats vs n m) n m) i e)
      where
        pick : (b : Bool) → cond b n m ≡ i → In i (n ∷ ns)
        pick true z = inl z
        pick false z = inr (subst (λ k. In k ns) z (ih m q))

pub chosen_high : (vs : List Value) (ns : List ℕ) (i : ℕ) → chosen vs ns ≡ Some i → largest vs ns ≼ value_at vs i
unfolding chosen largest
chosen_high vs [] i e = absurd (none-some i e)
chosen_high vs (n ∷ ns) i e = go (chosen vs ns) (λ m q. chosen_high vs ns m q) refl e
  where
    High : ℕ → Type 0
    High k = larger (value_at vs n) (largest vs ns) ≼ value_at vs k

    go : (o : Option ℕ) → ((m : ℕ) → chosen vs ns ≡ Some m → largest vs ns ≼ value_at vs m) → chosen vs ns ≡ o → picked vs n o ≡ Some i → larger (value_at vs n) (largest vs ns) ≼ value_at vs i
    go None ih q e =
        let z : largest vs ns ≡ Some 0 = ap (largest vs) (chosen_ground vs ns q) in
        subst High (same_Some n i e) (larger_least (value_at vs n) (largest vs ns) (value_at vs n) (≼_refl (value_at vs n)) (subst (λ y. y ≼ value_at vs n) (sym z) (zero_≼ (value_at vs n))))
    go (Some m) ih q e = pick (beats vs n m) refl (same_Some (cond (beats vs n m) n m) i e)
      where
        pick : (b : Bool) → beats vs n m ≡ b → cond b n m ≡ i → larger (value_at vs n) (largest vs ns) ≼ value_at vs i
        pick true t z =
            let up : value_at vs m ≼ value_at vs n = ⊎_elim
            (λ a. above_true (value_at vs n) (value_at vs m) a)
            (λ a. above_false (value_at vs m) (value_at vs n) (not-true (above (value_at vs m) (value_at vs n)) (and_parts (not (above (value_at vs m) (value_at vs n))) (ltb n m) a).0))
            (or_cases (above (value_at vs n) (value_at vs m)) (not (above (value_at vs m) (value_at vs n)) && ltb n m) t) in
            subst High z (larger_least (value_at vs n) (largest vs ns) (value_at vs n) (≼_refl (value_at vs n)) (≼_trans (largest vs ns) (value_at vs m) (value_at vs n) (ih m q) up))
        pick false t z =
            let up : value_at vs n ≼ value_at vs m = above_false (value_at vs n) (value_at vs m) (or_parts (above (value_at vs n) (value_at vs m)) (not (above (value_at vs m) (value_at vs n)) && ltb n m) t).0 in
            subst High z (larger_least (value_at vs n) (largest vs ns) (value_at vs m) up (ih m q))

-- ---- quotients rounded up

pub ceil_least : (a b k : ℕ) → 1 ≤ b → a ≤ b * k → ceil_div a b ≤ k
ceil_least a b k h l =
    let m : (k + 1) * b ≡ b * k + b = native.Mathlib.Nat.add-mul k 1 b ∙ ap₂ ◌+◌ (mul_comm k b) (native.Mathlib.Nat.one-mul b) in
    let d = div_below (a + (b - 1)) b (k + 1) (omega arith) (omega arith) in omega arith

pub ceil_high : (a b : ℕ) → 1 ≤ b → a ≤ b * ceil_div a b
ceil_high a b h =
    let l = lt-mul-div-succ (a + (b - 1)) {b = b} h in
    let m : b * ((a + (b - 1)) / b + 1) ≡ b * ((a + (b - 1)) / b) + b = native.Mathlib.Nat.mul-add b ((a + (b - 1)) / b) 1 ∙ ap (λ z. b * ((a + (b - 1)) / b) + z) (native.Mathlib.Nat.mul-one b) in
    omega arith

-- ---- the actions of a relaxed task with their remainders

pub loaded_from : (as' : List Action) (rs : List ℕ) (q : Loaded) → In q (loaded as' rs) → (a : Action) × In a as' × (a.needs ≡ q.needs) × (a.reaches ≡ q.reaches)
unfolding loaded
loaded_from [] rs q i = absurd i
loaded_from (a ∷ as') [] q i = ⊎_elim (λ e. (a, inl refl, ap (λ (z : Loaded). z.needs) e, ap (λ (z : Loaded). z.reaches) e)) (λ j. let r = loaded_from as' [] q j in (r.0, inr r.1, r.2, r.3)) i
loaded_from (a ∷ as') (r ∷ rs) q i = ⊎_elim (λ e. (a, inl refl, ap (λ (z : Loaded). z.needs) e, ap (λ (z : Loaded). z.reaches) e)) (λ j. let w = loaded_from as' rs q j in (w.0, inr w.1, w.2, w.3)) i

module _ (rx : Relaxed) (shorts : ℕ → ℕ) (fit : WellFormed rx shorts) (rs : List ℕ) where
  pub loaded_reach : (q : Loaded) → In q (loaded rx.actions rs) → (x : Reach) → In x q.reaches → ReachFits rx shorts x
  loaded_reach q i x j = let r = loaded_from rx.actions rs q i in fit.reaches r.0 r.1 x (subst (In x) (sym r.3) j)

  pub loaded_need : (q : Loaded) → In q (loaded rx.actions rs) → (n : ℕ) → In n q.needs → n < rx.nodes
  loaded_need q i n j = let r = loaded_from rx.actions rs q i in fit.needs r.0 r.1 n (subst (In n) (sym r.2) j)

  pub loaded_settles : Settles rx (loaded rx.actions rs) (values rx (loaded rx.actions rs))
  loaded_settles = values_settle rx (loaded rx.actions rs) fit.long (λ q i x j. (loaded_reach q i x j).inside)

-- ---- crossing edges

kept_in : {X : Type 0} (p : X → Bool) (xs : List X) (x : X) → In x xs → p x ≡ true → In x (filter p xs)
kept_in p [] x i e = absurd i
kept_in p (y ∷ ys) x i e = go (p y) refl (λ j. kept_in p ys x j e)
  where
    go : (b : Bool) → p y ≡ b → (In x ys → In x (filter p ys)) → In x (cond b (y ∷ filter p ys) (filter p ys))
    go true q ih = ⊎_elim (λ z. inl z) (λ j. inr (ih j)) i
    go false q ih = ⊎_elim (λ z. absurd (false≢true (sym q ∙ ap p z ∙ e))) ih i

in_kept : {X : Type 0} (p : X → Bool) (xs : List X) (x : X) → In x (filter p xs) → In x xs × (p x ≡ true)
in_kept p [] x i = absurd i
in_kept p (y ∷ ys) x i = go (p y) refl i (λ j. in_kept p ys x j)
  where
    go : (b : Bool) → p y ≡ b → In x (cond b (y ∷ filter p ys) (filter p ys)) → (In x (filter p ys) → In x ys × (p x ≡ true)) → In x (y ∷ ys) × (p x ≡ true)
    go true q j ih = ⊎_elim (λ z. (inl z, ap p (sym z) ∙ q)) (λ k. let r = ih k in (inr r.0, r.1)) j
    go false q j ih = let r = ih j in (inr r.0, r.1)

pub crossing_from : (near start : List Bool) (e : Edges) (x : Reach) → In x (crossing near start e).edges → (starts start e.source ≡ true) × In x e.reaches × (in_zone near x.node ≡ true)
crossing_from near start e x i = go (starts start e.source) refl i
  where
    go : (b : Bool) → starts start e.source ≡ b → In x (cond b (into near e.reaches) []) → (starts start e.source ≡ true) × In x e.reaches × (in_zone near x.node ≡ true)
    go true q j = let r = in_kept (λ (y : Reach). in_zone near y.node) e.reaches x j in (q, r.0, r.1)
    go false q j = absurd j

pub crossing_in : (near start : List Bool) (e : Edges) (x : Reach) → starts start e.source ≡ true → In x e.reaches → in_zone near x.node ≡ true → In x (crossing near start e).edges
crossing_in near start e x s i n = subst (In x) (sym (cond-true (starts start e.source) (into near e.reaches) [] s)) (kept_in (λ (y : Reach). in_zone near y.node) e.reaches x i n)

lightest_edge : (r : ℕ) (xs : List Reach) (x : Reach) → In x xs → lightest r xs ≼ Some (weight r x)
unfolding lightest
lightest_edge r [] x i = absurd i
lightest_edge r (y ∷ ys) x i =
    let here : Value = Some (weight r y) in
    ⊎_elim
    (λ e. subst (λ (z : Reach). smaller here (lightest r ys) ≼ Some (weight r z)) e (smaller_left here (lightest r ys)))
    (λ j. ≼_trans (smaller here (lightest r ys)) (lightest r ys) (Some (weight r x)) (smaller_right here (lightest r ys)) (lightest_edge r ys x j)) i

pub lightest_low : (cs : List Crossing) (c : Crossing) (x : Reach) → In c cs → In x c.edges → lightest_of cs ≼ Some (weight c.left x)
unfolding lightest_of
lightest_low [] c x i j = absurd i
lightest_low (d ∷ ds) c x i j =
    let here = lightest d.left d.edges in
    ⊎_elim
    (λ e. ≼_trans (smaller here (lightest_of ds)) here (Some (weight c.left x)) (smaller_left here (lightest_of ds))
    (subst (λ (z : Crossing). lightest z.left z.edges ≼ Some (weight c.left x)) (sym e) (lightest_edge c.left c.edges x j)))
    (λ k. ≼_trans (smaller here (lightest_of ds)) (lightest_of ds) (Some (weight c.left x)) (smaller_right here (lightest_of ds)) (lightest_low ds c x k j)) i

edge_lightest : (r : ℕ) (xs : List Reach) (b : ℕ) → lightest r xs ≡ Some b → (x : Reach) × In x xs × (weight r x ≡ b)
unfolding lightest
edge_lightest r [] b e = absurd (none-some b e)
edge_lightest r (x ∷ xs) b e = ⊎_elim
    (λ s. (x, inl refl, same_Some (weight r x) b (sym s ∙ e)))
    (λ s. let t = edge_lightest r xs b (sym s ∙ e) in (t.0, inr t.1, t.2))
    (smaller_is (Some (weight r x)) (lightest r xs))

pub record Lightest (cs : List Crossing) (b : ℕ) : Type 0 where
  pub by : Crossing
  pub among : In by cs
  pub edge : Reach
  pub crosses : In edge by.edges
  pub exact : weight by.left edge ≡ b

pub lightest_is : (cs : List Crossing) (b : ℕ) → lightest_of cs ≡ Some b → Lightest cs b
unfolding lightest_of
lightest_is [] b e = absurd (none-some b e)
lightest_is (c ∷ cs) b e = ⊎_elim
    (λ s. let t = edge_lightest c.left c.edges b (sym s ∙ e) in record { by = c; among = inl refl; edge = t.0; crosses = t.1; exact = t.2 })
    (λ s. let t = lightest_is cs b (sym s ∙ e) in record { by = t.by; among = inr t.among; edge = t.edge; crosses = t.crosses; exact = t.exact })
    (smaller_is (lightest c.left c.edges) (lightest_of cs))

pub weight_least : (cs : List Crossing) (c : Crossing) (x : Reach) → In c cs → In x c.edges → cut_weight cs ≤ weight c.left x
weight_least cs c x i j = go (lightest_of cs) (lightest_low cs c x i j)
  where
    go : (v : Value) → v ≼ Some (weight c.left x) → or_zero v ≤ weight c.left x
    go None h = absurd h
    go (Some b) h = h

-- ---- charges

pub charge_high : (μ : ℕ) (xs : List Reach) (x : Reach) → In x xs → ceil_div (μ * x.gain) x.short ≤ charge μ xs
unfolding charge
charge_high μ [] x i = absurd i
charge_high μ (y ∷ ys) x i = ⊎_elim
    (λ e. let s : ceil_div (μ * y.gain) y.short ≡ ceil_div (μ * x.gain) x.short = ap (λ (z : Reach). ceil_div (μ * z.gain) z.short) e in omega arith)
    (λ j. let h = charge_high μ ys x j in omega arith) i

pub charge_least : (μ k : ℕ) (xs : List Reach) → ((x : Reach) → In x xs → ceil_div (μ * x.gain) x.short ≤ k) → charge μ xs ≤ k
unfolding charge
charge_least μ k [] h = omega arith
charge_least μ k (y ∷ ys) h = let a = h y (inl refl) in let b = charge_least μ k ys (λ x i. h x (inr i)) in omega arith

-- what weighs at least μ is charged no more than is left
pub charge_fits : (μ r : ℕ) (x : Reach) → 1 ≤ x.short → μ ≤ weight r x → ceil_div (μ * x.gain) x.short ≤ r
charge_fits μ r x d h = ceil_least (μ * x.gain) x.short r d (let a = mul-le μ x.gain (weight r x) x.gain h (omega arith) in let b = div-mul-le_self (x.short * r) x.gain in omega arith)

-- ---- a round: the actions with what is left of their costs, values, edges, zones and cut

abbrev pub actions : Relaxed → List ℕ → List Loaded
actions rx rs = loaded rx.actions rs

abbrev pub worth : Relaxed → List ℕ → List Value
worth rx rs = values rx (actions rx rs)

abbrev pub drawn : Relaxed → List ℕ → List Edges
drawn rx rs = graph (worth rx rs) (actions rx rs)

abbrev pub near_goal : Relaxed → List ℕ → List Bool
near_goal rx rs = goal_zone rx (drawn rx rs)

abbrev pub near_start : Relaxed → List ℕ → List Bool
near_start rx rs = start_zone rx (drawn rx rs) (near_goal rx rs)

abbrev pub cut_now : Relaxed → List ℕ → List Crossing
cut_now rx rs = cut rx (worth rx rs) (actions rx rs)

abbrev pub weight_now : Relaxed → List ℕ → ℕ
weight_now rx rs = cut_weight (cut_now rx rs)

-- ---- the zones of a round in which the goal's value is a number above 0

module _ (rx : Relaxed) (shorts : ℕ → ℕ) (fit : WellFormed rx shorts) (rs : List ℕ) (v : ℕ) where
  module _ (positive : 1 ≤ v) (goal-value : value_at (worth rx rs) (goal rx) ≡ Some v) where
    -- values in the goal zone are at least the goal's
    goal_high : (i : ℕ) → in_zone (near_goal rx rs) i ≡ true → Some v ≼ value_at (worth rx rs) i
    goal_high = goal_zone_keeps rx (drawn rx rs) fit.some_node (λ i. Some v ≼ value_at (worth rx rs) i) (≼_eq (Some v) (value_at (worth rx rs) (goal rx)) (sym goal-value)) step
      where
        step : (z : List Bool) (i : ℕ) → i < rx.nodes → ((j : ℕ) → in_zone z j ≡ true → Some v ≼ value_at (worth rx rs) j) → leads_in (drawn rx rs) z i ≡ true → Some v ≼ value_at (worth rx rs) i
        step z i _ ih t =
            let e = leads_tells (drawn rx rs) z i t in
            let q = in_map (edges_of (worth rx rs)) (actions rx rs) e.0 e.1 in
            let s : chosen (worth rx rs) q.0.needs ≡ Some i = ap (λ (w : Edges). w.source) q.2 ∙ e.2 in
            let w = weightless_tells z q.0.left q.0.reaches (ap (λ (f : Edges). Rattle.landmarks.specs.Rounds.weightless_into z f.left f.reaches) q.2 ∙ e.3) in
            let x = w.0 in
            let lo = (loaded_settles rx shorts fit rs).low q.0 q.1 x w.1 in
            let up = plus_zero (largest (worth rx rs) q.0.needs) (weight q.0.left x) w.2 in
            let hi = chosen_high (worth rx rs) q.0.needs i s in
            ≼_trans (Some v) (value_at (worth rx rs) x.node) (value_at (worth rx rs) i) (ih x.node w.3)
            (≼_trans (value_at (worth rx rs) x.node) (plus (largest (worth rx rs) q.0.needs) (weight q.0.left x)) (value_at (worth rx rs) i) lo
            (≼_trans (plus (largest (worth rx rs) q.0.needs) (weight q.0.left x)) (largest (worth rx rs) q.0.needs) (value_at (worth rx rs) i) up hi))

    not_zero : (i : ℕ) → in_zone (near_goal rx rs) i ≡ true → value_at (worth rx rs) i ≼ Some 0 → ⊥
    not_zero i e h = let l : v ≤ 0 = ≼_trans (Some v) (value_at (worth rx rs) i) (Some 0) (goal_high i e) h in omega arith

    held_apart : (i : ℕ) → in_zone rx.holds i ≡ true → in_zone (near_goal rx rs) i ≡ true → ⊥
    held_apart i h e = not_zero i e (≼_eq (value_at (worth rx rs) i) (Some 0) ((loaded_settles rx shorts fit rs).held i h))

    pub zones_apart : (i : ℕ) → in_zone (near_start rx rs) i ≡ true → in_zone (near_goal rx rs) i ≡ true → ⊥
    zones_apart = start_apart rx (drawn rx rs) (near_goal rx rs) fit.long held_apart

    pub crossing_weighs : (q : Loaded) → In q (actions rx rs) → starts (near_start rx rs) (chosen (worth rx rs) q.needs) ≡ true → (x : Reach) → In x q.reaches → in_zone (near_goal rx rs) x.node ≡ true → 1 ≤ weight q.left x
    crossing_weighs q i s x j n = ⊎_elim (λ z. absurd (go (chosen (worth rx rs) q.needs) refl s z)) (λ ne. positive_of (weight q.left x) ne) (cases_eq (weight q.left x) 0)
      where
        positive_of : (w : ℕ) → (w ≡ 0 → ⊥) → 1 ≤ w
        positive_of zero ne = absurd (ne refl)
        positive_of (suc w) ne = omega arith

        go : (o : Option ℕ) → chosen (worth rx rs) q.needs ≡ o → starts (near_start rx rs) o ≡ true → weight q.left x ≡ 0 → ⊥
        go None c t z =
            let e : largest (worth rx rs) q.needs ≡ Some 0 = no_needs (worth rx rs) q.needs (chosen_ground (worth rx rs) q.needs c) in
            let lo = (loaded_settles rx shorts fit rs).low q i x j in
            let up = plus_zero (largest (worth rx rs) q.needs) (weight q.left x) z in
            not_zero x.node n (subst (λ y. value_at (worth rx rs) x.node ≼ y) e (≼_trans (value_at (worth rx rs) x.node) (plus (largest (worth rx rs) q.needs) (weight q.left x)) (largest (worth rx rs) q.needs) lo up))
        go (Some m) c t z =
            let inside = loaded_need rx shorts fit rs q i m (chosen_in (worth rx rs) q.needs m c) in
            zones_apart m t (goal_zone_closed rx (drawn rx rs) fit.some_node m inside
            (leads_from (drawn rx rs) (near_goal rx rs) m (edges_of (worth rx rs) q) (map_in (edges_of (worth rx rs)) (actions rx rs) q i) c (weightless_from (near_goal rx rs) q.left q.reaches x j z n)))

    -- without a crossing edge, every node of finite value would be in the start zone
    module _ (none : (q : Loaded) → In q (actions rx rs) → starts (near_start rx rs) (chosen (worth rx rs) q.needs) ≡ true → (x : Reach) → In x q.reaches → in_zone (near_goal rx rs) x.node ≡ false) where
      finite_in : (k n a : ℕ) → value_at (S rx (actions rx rs) fit.long k) n ≡ Some a → in_zone (near_start rx rs) n ≡ true
      finite_in zero n a e = ⊎_elim
          (λ l. ⊎_elim
          (λ h. held_in rx (drawn rx rs) (near_goal rx rs) fit.long n h)
          (λ h. absurd (none-some a (sym (first_at rx (actions rx rs) fit.long n l ∙ cond-false (in_zone rx.holds n) (Some 0) None h) ∙ e)))
          (cases_Bool (in_zone rx.holds n)))
          (λ l. absurd (none-some a (sym (S-past rx (actions rx rs) fit.long zero n l) ∙ e)))
          (cases_lt n rx.nodes)
      finite_in (suc k) n a e = ⊎_elim
          (λ l. ⊎_elim
          (λ h. held_in rx (drawn rx rs) (near_goal rx rs) fit.long n h)
          (λ h. go (λ m b q. finite_in k m b q) (best_is (S rx (actions rx rs) fit.long k) (actions rx rs) n a (sym (S-open rx (actions rx rs) fit.long k n l h) ∙ e)))
          (cases_Bool (in_zone rx.holds n)))
          (λ l. absurd (none-some a (sym (S-past rx (actions rx rs) fit.long (suc k) n l) ∙ e)))
          (cases_lt n rx.nodes)
        where
          go : ((m b : ℕ) → value_at (S rx (actions rx rs) fit.long k) m ≡ Some b → in_zone (near_start rx rs) m ≡ true) → Offered (S rx (actions rx rs) fit.long k) (actions rx rs) n a → in_zone (near_start rx rs) n ≡ true
          go ih r =
              let w = plus_some (largest (S rx (actions rx rs) fit.long k) r.by.needs) (weight r.by.left r.edge) a r.exact in
              let from : starts (near_start rx rs) (chosen (worth rx rs) r.by.needs) ≡ true = begins (chosen (worth rx rs) r.by.needs) refl w.0 w.1 in
              subst (λ m. in_zone (near_start rx rs) m ≡ true) r.here
              (start_closed rx (drawn rx rs) (near_goal rx rs) fit.long (edges_of (worth rx rs) r.by) r.edge (map_in (edges_of (worth rx rs)) (actions rx rs) r.by r.among) from r.reached
              (loaded_reach rx shorts fit rs r.by r.among r.edge r.reached).inside (none r.by r.among from r.edge r.reached))
            where
              begins : (o : Option ℕ) → chosen (worth rx rs) r.by.needs ≡ o → (b : ℕ) → largest (S rx (actions rx rs) fit.long k) r.by.needs ≡ Some b → starts (near_start rx rs) o ≡ true
              begins None c b z = refl
              begins (Some m) c b z =
                  let t = below_some (value_at (S rx (actions rx rs) fit.long k) m) b (subst (λ y. value_at (S rx (actions rx rs) fit.long k) m ≼ y) z (largest_high (S rx (actions rx rs) fit.long k) r.by.needs m (chosen_in (worth rx rs) r.by.needs m c))) in
                  ih m t.0 t.1

      goal_finite : value_at (S rx (actions rx rs) fit.long rx.nodes) (goal rx) ≡ Some v
      unfolding values
      goal_finite = goal-value

      pub no_cut : ⊥
      no_cut = zones_apart (goal rx) (finite_in rx.nodes (goal rx) v goal_finite) (goal_in rx (drawn rx rs) fit.some_node)

    -- ---- the cut

    pub crossing_of : (c : Crossing) → In c (cut_now rx rs) → (q : Loaded) × In q (actions rx rs) × (crossing (near_goal rx rs) (near_start rx rs) (edges_of (worth rx rs) q) ≡ c)
    unfolding cut
    crossing_of c i =
        let e = in_map (crossing (near_goal rx rs) (near_start rx rs)) (drawn rx rs) c i in
        let q = in_map (edges_of (worth rx rs)) (actions rx rs) e.0 e.1 in
        (q.0, q.1, ap (crossing (near_goal rx rs) (near_start rx rs)) q.2 ∙ e.2)

    pub of_crossing : (q : Loaded) → In q (actions rx rs) → In (crossing (near_goal rx rs) (near_start rx rs) (edges_of (worth rx rs) q)) (cut_now rx rs)
    unfolding cut
    of_crossing q i = map_in (crossing (near_goal rx rs) (near_start rx rs)) (drawn rx rs) (edges_of (worth rx rs) q) (map_in (edges_of (worth rx rs)) (actions rx rs) q i)

    pub cut_exists : (b : ℕ) × (lightest_of (cut_now rx rs) ≡ Some b)
    cut_exists = go (lightest_of (cut_now rx rs)) refl
      where
        go : (o : Value) → lightest_of (cut_now rx rs) ≡ o → (b : ℕ) × (lightest_of (cut_now rx rs) ≡ Some b)
        go (Some b) e = (b, e)
        go None e = absurd (no_cut none)
          where
            none : (q : Loaded) → In q (actions rx rs) → starts (near_start rx rs) (chosen (worth rx rs) q.needs) ≡ true → (x : Reach) → In x q.reaches → in_zone (near_goal rx rs) x.node ≡ false
            none q i s x j = ⊎_elim
                (λ n. absurd (subst (λ y. y ≼ Some (weight q.left x)) e (lightest_low (cut_now rx rs) (crossing (near_goal rx rs) (near_start rx rs) (edges_of (worth rx rs) q)) x (of_crossing q i) (crossing_in (near_goal rx rs) (near_start rx rs) (edges_of (worth rx rs) q) x s j n))))
                (λ n. n) (cases_Bool (in_zone (near_goal rx rs) x.node))

    -- the cut has an edge that weighs what the cut weighs
    pub cut_lightest : Lightest (cut_now rx rs) (weight_now rx rs)
    cut_lightest = let e = cut_exists in subst (Lightest (cut_now rx rs)) (ap or_zero (sym e.1)) (lightest_is (cut_now rx rs) e.0 e.1)

    pub cut_positive : 1 ≤ weight_now rx rs
    cut_positive =
        let l = cut_lightest in
        let q = crossing_of l.by l.among in
        let x = crossing_from (near_goal rx rs) (near_start rx rs) (edges_of (worth rx rs) q.0) l.edge (subst (λ (c : Crossing). In l.edge c.edges) (sym q.2) l.crosses) in
        let w = crossing_weighs q.0 q.1 x.0 l.edge x.1 x.2 in
        let same : weight q.0.left l.edge ≡ weight_now rx rs = ap (λ (c : Crossing). weight c.left l.edge) q.2 ∙ l.exact in
        omega arith

-- ---- no action is charged more than is left of its cost

module _ (rx : Relaxed) (shorts : ℕ → ℕ) (fit : WellFormed rx shorts) (rs : List ℕ) where
  pub crossing_is : (c : Crossing) → In c (cut_now rx rs) → (q : Loaded) × In q (actions rx rs) × (c.left ≡ q.left) × ((x : Reach) → In x c.edges → In x q.reaches)
  unfolding cut
  crossing_is c i =
      let es = drawn rx rs in
      let near = near_goal rx rs in
      let start = near_start rx rs in
      let e = in_map (crossing near start) es c i in
      let q = in_map (edges_of (worth rx rs)) (actions rx rs) e.0 e.1 in
      let same : crossing near start (edges_of (worth rx rs) q.0) ≡ c = ap (crossing near start) q.2 ∙ e.2 in
      (q.0, q.1, ap (λ (d : Crossing). d.left) (sym same), λ x j. (crossing_from near start (edges_of (worth rx rs) q.0) x (subst (λ (d : Crossing). In x d.edges) (sym same) j)).1)

  pub charge_within : (c : Crossing) → In c (cut_now rx rs) → charge_of (weight_now rx rs) c ≤ c.left
  charge_within c i =
      let cs = cut_now rx rs in
      let q = crossing_is c i in
      charge_least (cut_weight cs) c.left c.edges (λ x j.
      let f = loaded_reach rx shorts fit rs q.0 q.1 x (q.3 x j) in
      let d : 1 ≤ x.short = (let l = fit.lacking x.node f.unmet in let s = f.lacks in omega arith) in
      charge_fits (cut_weight cs) c.left x d (weight_least cs c x i j))
