-- Runs of a relaxed task: lists of actions, by place, each of whose needs is covered by the actions before it. A node is covered
-- where it holds, or where the gains towards it add up to its shortfall. Every run that covers the goal pays for each cut.
use Rattle.std.proofs.Common.{◌≡◌, ℕ, zero, suc, ◌+◌, ◌<◌, ◌≤◌, max, Bool, true, false, cond, eqb, ◌⊎◌, List, [], ◌∷◌, length, get_or, Some, refl, ap, ◌∙◌, subst, ap₂, inl, inr, ⊎_elim, arith}
use Rattle.std.proofs.lemmas.Bool.{cases_eq, cases_Bool, eqb-true}
use Rattle.landmarks.specs.Relaxed.{Reach, Action, Relaxed}
use Rattle.landmarks.specs.Rounds.{ceil_div, weight, Value, plus, Loaded, loaded, value_at, largest, chosen, Edges, edges_of, in_zone, starts, Crossing, crossing, cut, charge, charge_of}
use Rattle.landmarks.specs.Laws.{In, ◌≼◌, WellFormed}
use Rattle.landmarks.proofs.Orders.{in_get_or, below_some}
use Rattle.landmarks.proofs.Cuts.{loaded_settles, actions, worth}

abbrev pub no_action : Action
no_action = record { cost = 0; needs = []; reaches = [] }

abbrev pub action_at : Relaxed → ℕ → Action
action_at rx i = get_or rx.actions i no_action

abbrev pub gain_to : List Reach → ℕ → ℕ
gain_to [] n = 0
gain_to (x ∷ xs) n = cond (eqb x.node n) x.gain (gain_to xs n)

-- what the actions of a list gain towards a node
abbrev pub credit : Relaxed → List ℕ → ℕ → ℕ
credit rx [] n = 0
credit rx (i ∷ is) n = gain_to (action_at rx i).reaches n + credit rx is n

abbrev pub Covered : Relaxed → (ℕ → ℕ) → List ℕ → ℕ → Type 0
Covered rx shorts done n = (in_zone rx.holds n ≡ true) ⊎ (shorts n ≤ credit rx done n)

pub record Ready (rx : Relaxed) (shorts : ℕ → ℕ) (done : List ℕ) (i : ℕ) : Type 0 where
  pub inside : i < length rx.actions
  pub covered : (n : ℕ) → In n (action_at rx i).needs → Covered rx shorts done n

-- a run after the actions of a list, the last of them first
abbrev pub RunFrom : Relaxed → (ℕ → ℕ) → List ℕ → List ℕ → Type 0
RunFrom rx shorts done [] = Unit {0}
RunFrom rx shorts done (i ∷ is) = Ready rx shorts done i × RunFrom rx shorts (i ∷ done) is

abbrev pub CoveredAfter : Relaxed → (ℕ → ℕ) → List ℕ → List ℕ → ℕ → Type 0
CoveredAfter rx shorts done [] n = Covered rx shorts done n
CoveredAfter rx shorts done (i ∷ is) n = CoveredAfter rx shorts (i ∷ done) is n

pub gain_cases : (xs : List Reach) (n : ℕ) → (gain_to xs n ≡ 0) ⊎ ((x : Reach) × In x xs × (x.node ≡ n) × (gain_to xs n ≡ x.gain))
gain_cases [] n = inl refl
gain_cases (x ∷ xs) n = go (eqb x.node n) refl (gain_cases xs n)
  where
    go : (b : Bool) → eqb x.node n ≡ b → (gain_to xs n ≡ 0) ⊎ ((y : Reach) × In y xs × (y.node ≡ n) × (gain_to xs n ≡ y.gain))
        → (cond b x.gain (gain_to xs n) ≡ 0) ⊎ ((y : Reach) × In y (x ∷ xs) × (y.node ≡ n) × (cond b x.gain (gain_to xs n) ≡ y.gain))
    go true e ih = inr (x, inl refl, eqb-true x.node n e, refl)
    go false e (inl z) = inl z
    go false e (inr y) = inr (y.0, inr y.1, y.2, y.3)

pub covered_first : (rx : Relaxed) (shorts : ℕ → ℕ) → WellFormed rx shorts → (n : ℕ) → Covered rx shorts [] n → in_zone rx.holds n ≡ true
covered_first rx shorts fit n c = ⊎_elim (λ h. h) (λ l. ⊎_elim (λ e. e) (λ e. let k = fit.lacking n e in absurd (omega arith)) (cases_Bool (in_zone rx.holds n))) c

-- an action covers a node only where it reaches it
pub covered_more : (rx : Relaxed) (shorts : ℕ → ℕ) (done : List ℕ) (i n : ℕ) → Covered rx shorts (i ∷ done) n → Covered rx shorts done n ⊎ ((x : Reach) × In x (action_at rx i).reaches × (x.node ≡ n))
covered_more rx shorts done i n c = ⊎_elim (λ h. inl (inl h))
    (λ l. ⊎_elim (λ z. inl (inr (omega arith))) (λ y. inr (y.0, y.1, y.2)) (gain_cases (action_at rx i).reaches n)) c

-- ---- what holds of what holds, and of what is reached from it, holds of every node that a run covers

module _ (rx : Relaxed) (shorts : ℕ → ℕ) (fit : WellFormed rx shorts) (P : ℕ → Type 0)
    (held : (n : ℕ) → in_zone rx.holds n ≡ true → P n)
    (closed : (i : ℕ) → i < length rx.actions → ((n : ℕ) → In n (action_at rx i).needs → P n) → (x : Reach) → In x (action_at rx i).reaches → P x.node) where
  run_from : (done todo : List ℕ) → ((n : ℕ) → Covered rx shorts done n → P n) → RunFrom rx shorts done todo → (n : ℕ) → CoveredAfter rx shorts done todo n → P n
  run_from done [] h r n c = h n c
  run_from done (i ∷ is) h r n c = run_from (i ∷ done) is more r.1 n c
    where
      more : (m : ℕ) → Covered rx shorts (i ∷ done) m → P m
      more m c = ⊎_elim (h m) (λ x. subst P x.2 (closed i r.0.inside (λ k j. h k (r.0.covered k j)) x.0 x.1)) (covered_more rx shorts done i m c)

  pub run_keeps : (todo : List ℕ) → RunFrom rx shorts [] todo → (n : ℕ) → CoveredAfter rx shorts [] todo n → P n
  run_keeps todo r n c = run_from [] todo (λ m k. held m (covered_first rx shorts fit m k)) r n c

-- ---- the actions with their remainders, by place

abbrev pub no_load : Loaded
no_load = record { left = 0; needs = []; reaches = [] }

pub length_loaded : (as' : List Action) (rs : List ℕ) → length (loaded as' rs) ≡ length as'
unfolding loaded
length_loaded [] rs = refl
length_loaded (a ∷ as') [] = ap suc (length_loaded as' [])
length_loaded (a ∷ as') (r ∷ rs) = ap suc (length_loaded as' rs)

pub loaded_at : (as' : List Action) (rs : List ℕ) (i : ℕ) → i < length as'
    → get_or (loaded as' rs) i no_load ≡ record { left = get_or rs i 0; needs = (get_or as' i no_action).needs; reaches = (get_or as' i no_action).reaches }
unfolding loaded
loaded_at [] rs i h = absurd (omega arith)
loaded_at (a ∷ as') [] zero h = refl
loaded_at (a ∷ as') [] (suc i) h = loaded_at as' [] i (omega arith)
loaded_at (a ∷ as') (r ∷ rs) zero h = refl
loaded_at (a ∷ as') (r ∷ rs) (suc i) h = loaded_at as' rs i (omega arith)

abbrev pub load_at : Relaxed → List ℕ → ℕ → Loaded
load_at rx rs i = record { left = get_or rs i 0; needs = (action_at rx i).needs; reaches = (action_at rx i).reaches }

pub load_in : (rx : Relaxed) (rs : List ℕ) (i : ℕ) → i < length rx.actions → In (load_at rx rs i) (actions rx rs)
load_in rx rs i h = subst (λ q. In q (actions rx rs)) (loaded_at rx.actions rs i h) (in_get_or (actions rx rs) i no_load (let l = length_loaded rx.actions rs in omega arith))

-- ---- where the goal's value is infinite, no run covers the goal

pub largest_finite : (vs : List Value) (ns : List ℕ) → ((n : ℕ) → In n ns → (a : ℕ) × (value_at vs n ≡ Some a)) → (b : ℕ) × (largest vs ns ≡ Some b)
unfolding largest
largest_finite vs [] h = (0, refl)
largest_finite vs (n ∷ ns) h =
    let a = h n (inl refl) in
    let b = largest_finite vs ns (λ m i. h m (inr i)) in
    (max a.0 b.0, ap₂ Rattle.landmarks.specs.Rounds.larger a.1 b.1)

pub run_finite : (rx : Relaxed) (shorts : ℕ → ℕ) → WellFormed rx shorts → (rs todo : List ℕ) → RunFrom rx shorts [] todo → (n : ℕ) → CoveredAfter rx shorts [] todo n → (a : ℕ) × (value_at (worth rx rs) n ≡ Some a)
run_finite rx shorts fit rs todo r n c =
    run_keeps rx shorts fit (λ m. (a : ℕ) × (value_at (worth rx rs) m ≡ Some a))
    (λ m h. (0, (loaded_settles rx shorts fit rs).held m h)) closed todo r n c
  where
    closed : (i : ℕ) → i < length rx.actions → ((m : ℕ) → In m (action_at rx i).needs → (a : ℕ) × (value_at (worth rx rs) m ≡ Some a)) → (x : Reach) → In x (action_at rx i).reaches → (a : ℕ) × (value_at (worth rx rs) x.node ≡ Some a)
    closed i h need x j =
        let b = largest_finite (worth rx rs) (action_at rx i).needs need in
        let lo = (loaded_settles rx shorts fit rs).low (load_at rx rs i) (load_in rx rs i h) x j in
        let w = weight (get_or rs i 0) x in
        let t = below_some (value_at (worth rx rs) x.node) (b.0 + w) (subst (λ y. value_at (worth rx rs) x.node ≼ plus y w) b.1 lo) in
        (t.0, t.1)

-- ---- a search below a bound

pub find_below : (t : ℕ → Bool) (n : ℕ) → ((k : ℕ) × (k < n) × (t k ≡ true)) ⊎ ((k : ℕ) → k < n → t k ≡ false)
find_below t zero = inr (λ k h. absurd (omega arith))
find_below t (suc n) = go (t n) refl (find_below t n)
  where
    go : (b : Bool) → t n ≡ b → ((k : ℕ) × (k < n) × (t k ≡ true)) ⊎ ((k : ℕ) → k < n → t k ≡ false) → ((k : ℕ) × (k < suc n) × (t k ≡ true)) ⊎ ((k : ℕ) → k < suc n → t k ≡ false)
    go true e r = inl (n, omega arith, e)
    go false e (inl f) = let l = f.1 in inl (f.0, omega arith, f.2)
    go false e (inr f) = inr (λ k h. ⊎_elim (λ q. ap t q ∙ e) (λ ne. f k (omega arith)) (cases_eq k n))
