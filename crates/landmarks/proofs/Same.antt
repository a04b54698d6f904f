-- The rounds look at what an action needs as a set: two relaxed tasks whose actions need the same nodes have one outcome.
use Rattle.std.proofs.Common.{◌≡◌, ℕ, zero, suc, ◌+◌, ◌-◌, ◌*◌, Bool, true, false, cond, not, ◌&&◌, ◌||◌, ltb, List, [], ◌∷◌, length, set, replicate, Some, None, Option, sym, refl, ap, ◌∙◌, subst, ap₂, ⊎_elim, arith}
use Rattle.std.proofs.lemmas.Option.{same_Some}
use Rattle.std.proofs.lemmas.Bool.{true≢false, cases_Bool}
use Rattle.std.proofs.lemmas.Bool.Decides.{nat_tests}
use Rattle.landmarks.specs.Laws.{In}
use Rattle.landmarks.specs.Relaxed.{Reach, Action, Relaxed, goal}
use Rattle.landmarks.specs.Rounds.{Value, repeated, above, Loaded, loaded, value_at, smaller, largest, offer, best, swept_from, sweep, first_values, values, beats, picked, chosen, Edges, graph, goal_turn, goal_zone, start_turn, start_zone, Crossing, crossings, cut, cut_in, cut_weight, left_after, grounds_of, noting, settled, Outcome, rounds, pairs, full_costs, outcome}
use Rattle.landmarks.proofs.Cuts.{chosen_in, chosen_ground}
use Rattle.landmarks.proofs.Orders.{≼_antisym}
use Rattle.landmarks.proofs.Sweeps.{largest_high, largest_least}

-- two lists with the same members
abbrev pub SameSet : List ℕ → List ℕ → Type 0
SameSet ns ms = ((n : ℕ) → In n ns → In n ms) × ((n : ℕ) → In n ms → In n ns)

pub record SameAction (a b : Action) : Type 0 where
  pub cost : a.cost ≡ b.cost
  pub reaches : a.reaches ≡ b.reaches
  pub needs : SameSet a.needs b.needs

abbrev pub SameActions : List Action → List Action → Type 0
SameActions [] [] = Unit {0}
SameActions [] (b ∷ bs) = ⊥
SameActions (a ∷ as') [] = ⊥
SameActions (a ∷ as') (b ∷ bs) = SameAction a b × SameActions as' bs

record SameLoaded (q r : Loaded) : Type 0 where
  left : q.left ≡ r.left
  reaches : q.reaches ≡ r.reaches
  needs : SameSet q.needs r.needs

abbrev SameLoads : List Loaded → List Loaded → Type 0
SameLoads [] [] = Unit {0}
SameLoads [] (r ∷ rs) = ⊥
SameLoads (q ∷ qs) [] = ⊥
SameLoads (q ∷ qs) (r ∷ rs) = SameLoaded q r × SameLoads qs rs

same_loads : (as' bs : List Action) (ls : List ℕ) → SameActions as' bs → SameLoads (loaded as' ls) (loaded bs ls)
unfolding loaded
same_loads [] [] ls s = tt
same_loads [] (b ∷ bs) ls s = absurd s
same_loads (a ∷ as') [] ls s = absurd s
same_loads (a ∷ as') (b ∷ bs) [] s = (record { left = refl; reaches = s.0.reaches; needs = s.0.needs }, same_loads as' bs [] s.1)
same_loads (a ∷ as') (b ∷ bs) (l ∷ ls) s = (record { left = refl; reaches = s.0.reaches; needs = s.0.needs }, same_loads as' bs ls s.1)

-- ---- values

largest_same : (vs : List Value) (ns ms : List ℕ) → SameSet ns ms → largest vs ns ≡ largest vs ms
largest_same vs ns ms s =
    ≼_antisym (largest vs ns) (largest vs ms)
    (largest_least vs ns (largest vs ms) (λ n h. largest_high vs ms n (s.0 n h)))
    (largest_least vs ms (largest vs ns) (λ n h. largest_high vs ns n (s.1 n h)))

best_same : (vs : List Value) (qs rs : List Loaded) (n : ℕ) → SameLoads qs rs → best vs qs n ≡ best vs rs n
unfolding best
best_same vs [] [] n s = refl
best_same vs [] (r ∷ rs) n s = absurd s
best_same vs (q ∷ qs) [] n s = absurd s
best_same vs (q ∷ qs) (r ∷ rs) n s =
    ap₂ smaller
    (ap₂ (λ l v. offer l v q.reaches n) s.0.left (largest_same vs q.needs r.needs s.0.needs) ∙ ap (λ xs. offer r.left (largest vs r.needs) xs n) s.0.reaches)
    (best_same vs qs rs n s.1)

swept_same : (vs : List Value) (qs rs : List Loaded) (n : ℕ) (hs : List Bool) → SameLoads qs rs → swept_from vs qs n hs ≡ swept_from vs rs n hs
unfolding swept_from
swept_same vs qs rs n [] s = refl
swept_same vs qs rs n (h ∷ hs) s = ap₂ (λ b rest. cond h (Some 0) b ∷ rest) (best_same vs qs rs n s) (swept_same vs qs rs (n + 1) hs s)

repeated_same : {X : Type 0} (f g : X → X) (k : ℕ) (x : X) → ((y : X) → f y ≡ g y) → repeated f k x ≡ repeated g k x
unfolding repeated
repeated_same f g zero x e = refl
repeated_same f g (suc k) x e = ap (repeated f k) (e x) ∙ repeated_same f g k (g x) e

values_same : (rx ry : Relaxed) (qs rs : List Loaded) → rx.nodes ≡ ry.nodes → rx.holds ≡ ry.holds → SameLoads qs rs → values rx qs ≡ values ry rs
unfolding values
values_same rx ry qs rs n h s =
    repeated_same (sweep rx qs) (sweep ry rs) rx.nodes (first_values rx.holds) (λ vs. swept_same vs qs rs 0 rx.holds s ∙ ap (swept_from vs rs 0) h)
    ∙ ap₂ (λ k hs. repeated (sweep ry rs) k (first_values hs)) n h

-- ---- the justification graph

-- one node beats another by value, or by number where the values are one
abbrev Beats : Value → Value → ℕ → ℕ → Bool
Beats x y m n = above x y || (not (above y x) && ltb m n)

beats_trans : (x y z : Value) (m n k : ℕ) → Beats x y m n ≡ true → Beats y z n k ≡ true → Beats x z m k ≡ true
beats_trans None None None m n k a b = grind (arith, nat_tests)
beats_trans None None (Some z) m n k a b = refl
beats_trans None (Some y) None m n k a b = grind (arith, nat_tests)
beats_trans None (Some y) (Some z) m n k a b = refl
beats_trans (Some x) None None m n k a b = grind (arith, nat_tests)
beats_trans (Some x) None (Some z) m n k a b = grind (arith, nat_tests)
beats_trans (Some x) (Some y) None m n k a b = grind (arith, nat_tests)
beats_trans (Some x) (Some y) (Some z) m n k a b = grind (arith, nat_tests)

beats_self : (x : Value) (m : ℕ) → Beats x x m m ≡ false
beats_self None m = grind (arith, nat_tests)
beats_self (Some x) m = grind (arith, nat_tests)

beats_one : (x y : Value) (m n : ℕ) → Beats x y m n ≡ false → Beats y x n m ≡ false → m ≡ n
beats_one None None m n a b = grind (arith, nat_tests)
beats_one None (Some y) m n a b = grind (arith, nat_tests)
beats_one (Some x) None m n a b = grind (arith, nat_tests)
beats_one (Some x) (Some y) m n a b = grind (arith, nat_tests)

-- the chosen need is beaten by no other
chosen_first : (vs : List Value) (ns : List ℕ) (i : ℕ) → chosen vs ns ≡ Some i → (m : ℕ) → In m ns → beats vs m i ≡ false
unfolding chosen
chosen_first vs [] i e m h = absurd h
chosen_first vs (n ∷ ns) i e m h = go (chosen vs ns) refl e (λ k q. chosen_first vs ns k q)
  where
    go : (o : Option ℕ) → chosen vs ns ≡ o → picked vs n o ≡ Some i → ((k : ℕ) → chosen vs ns ≡ Some k → (m' : ℕ) → In m' ns → beats vs m' k ≡ false) → beats vs m i ≡ false
    go None q e ih =
        let same : n ≡ i = same_Some n i e in
        let none = chosen_ground vs ns q in
        ⊎_elim (λ z. ap₂ (beats vs) (sym z ∙ same) refl ∙ beats_self (value_at vs i) i) (λ z. absurd (subst (In m) none z)) h
    go (Some k) q e ih = pick (beats vs n k) refl (same_Some (cond (beats vs n k) n k) i e)
      where
        pick : (b : Bool) → beats vs n k ≡ b → cond b n k ≡ i → beats vs m i ≡ false
        pick true t z = ⊎_elim
            (λ w. ap₂ (beats vs) (sym w ∙ z) refl ∙ beats_self (value_at vs i) i)
            (λ w. subst (λ j. beats vs m j ≡ false) z (⊎_elim
            (λ u. absurd (true≢false (sym (beats_trans (value_at vs m) (value_at vs n) (value_at vs k) m n k u t) ∙ ih k q m w)))
            (λ u. u) (cases_Bool (beats vs m n)))) h
        pick false t z = subst (λ j. beats vs m j ≡ false) z (⊎_elim (λ w. subst (λ j. beats vs j k ≡ false) w t) (λ w. ih k q m w) h)

chosen_same : (vs : List Value) (ns ms : List ℕ) → SameSet ns ms → chosen vs ns ≡ chosen vs ms
chosen_same vs ns ms s = go (chosen vs ns) (chosen vs ms) refl refl
  where
    empty : (xs ys : List ℕ) → ((n : ℕ) → In n ys → In n xs) → xs ≡ [] → (y : ℕ) → In y ys → ⊥
    empty xs ys f e y h = subst (In y) e (f y h)

    go : (o r : Option ℕ) → chosen vs ns ≡ o → chosen vs ms ≡ r → o ≡ r
    go None None a b = refl
    go None (Some j) a b = absurd (empty ns ms s.1 (chosen_ground vs ns a) j (chosen_in vs ms j b))
    go (Some i) None a b = absurd (empty ms ns s.0 (chosen_ground vs ms b) i (chosen_in vs ns i a))
    go (Some i) (Some j) a b =
        ap Some (beats_one (value_at vs i) (value_at vs j) i j (chosen_first vs ms j b i (s.0 i (chosen_in vs ns i a))) (chosen_first vs ns i a j (s.1 j (chosen_in vs ms j b))))

graph_same : (vs : List Value) (qs rs : List Loaded) → SameLoads qs rs → graph vs qs ≡ graph vs rs
graph_same vs [] [] s = refl
graph_same vs [] (r ∷ rs) s = absurd s
graph_same vs (q ∷ qs) [] s = absurd s
graph_same vs (q ∷ qs) (r ∷ rs) s =
    let make : Option ℕ → ℕ → List Reach → Edges = λ o l xs. record { source = o; left = l; reaches = xs } in
    ap₂ ◌∷◌ (ap₂ (λ o l. make o l q.reaches) (chosen_same vs q.needs r.needs s.0.needs) s.0.left ∙ ap (make (chosen vs r.needs) r.left) s.0.reaches) (graph_same vs qs rs s.1)

-- ---- rounds

pairs_same : (as' bs : List Action) → SameActions as' bs → pairs as' ≡ pairs bs
unfolding pairs
pairs_same [] [] s = refl
pairs_same [] (b ∷ bs) s = absurd s
pairs_same (a ∷ as') [] s = absurd s
pairs_same (a ∷ as') (b ∷ bs) s = ap₂ (λ xs k. length xs + k) s.0.reaches (pairs_same as' bs s.1)

costs_same : (as' bs : List Action) → SameActions as' bs → full_costs as' ≡ full_costs bs
costs_same [] [] s = refl
costs_same [] (b ∷ bs) s = absurd s
costs_same (a ∷ as') [] s = absurd s
costs_same (a ∷ as') (b ∷ bs) s = ap₂ (λ c cs. 5040 * c ∷ cs) s.0.cost (costs_same as' bs s.1)

module _ (rx ry : Relaxed) (n : rx.nodes ≡ ry.nodes) (h : rx.holds ≡ ry.holds) (s : SameActions rx.actions ry.actions) where
  cut_same : (vs : List Value) (qs rs : List Loaded) → SameLoads qs rs → cut rx vs qs ≡ cut ry vs rs
  unfolding cut goal_zone start_zone
  cut_same vs qs rs t =
      ap (cut_in rx) (graph_same vs qs rs t)
      ∙ ap₂ (λ k hs. let near = repeated (goal_turn (graph vs rs)) k (set (replicate k false) (k - 1) true) in crossings (graph vs rs) near (repeated (start_turn (graph vs rs) near) k hs)) n h

  pub rounds_same : (fuel k total : ℕ) (ls : List ℕ) → rounds rx fuel k total ls ≡ rounds ry fuel k total ls
  unfolding rounds
  rounds_same zero k total ls = refl
  rounds_same (suc fuel) k total ls =
      let t = same_loads rx.actions ry.actions ls s in
      let qs = loaded rx.actions ls in
      let rs = loaded ry.actions ls in
      let ev : values rx qs ≡ values ry rs = values_same rx ry qs rs n h t in
      let eg : value_at (values rx qs) (goal rx) ≡ value_at (values ry rs) (goal ry) = ap₂ (λ vs g. value_at vs (g - 1)) ev n in
      let ec : cut rx (values rx qs) qs ≡ cut ry (values ry rs) rs = ap (λ vs. cut rx vs qs) ev ∙ cut_same (values ry rs) qs rs t in
      let step : Value → List Crossing → Outcome = λ v cs. settled v total (λ _. noting (grounds_of k (cut_weight cs) 1 cs) (rounds rx fuel (k + 1) (total + cut_weight cs) (left_after (cut_weight cs) cs))) in
      let cs = cut ry (values ry rs) rs in
      ap₂ step eg ec
      ∙ ap (λ x. settled (value_at (values ry rs) (goal ry)) total (λ _. noting (grounds_of k (cut_weight cs) 1 cs) x)) (rounds_same fuel (k + 1) (total + cut_weight cs) (left_after (cut_weight cs) cs))

pub outcome_same : (rx ry : Relaxed) → rx.nodes ≡ ry.nodes → rx.holds ≡ ry.holds → SameActions rx.actions ry.actions → outcome rx ≡ outcome ry
unfolding outcome
outcome_same rx ry n h s =
    ap₂ (λ f ls. rounds rx f 1 0 ls) (ap (λ k. k + 1) (pairs_same rx.actions ry.actions s)) (costs_same rx.actions ry.actions s)
    ∙ rounds_same rx ry n h s (pairs ry.actions + 1) 1 0 (full_costs ry.actions)
