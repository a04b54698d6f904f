-- The remainders after a round, action by action.
use Rattle.std.proofs.Common.{◌≡◌, ℕ, zero, suc, ◌+◌, ◌-◌, ◌*◌, ◌<◌, ◌≤◌, max, Bool, true, ltb, List, [], ◌∷◌, ◌++◌, length, get_or, take, drop, set, None, Option, sym, refl, ap, ◌∙◌, inl, inr, ⊎_elim, arith, below_more}
use Rattle.std.proofs.lemmas.List.{get_or-set_same, get_or-set_other, get_or-take, get_or-map, get_or-drop, get_or_append_left, get_or-append_right, length-map, length-set, length-take-le, take-append-le, take_all, ext_get_or}
use Rattle.std.proofs.lemmas.Nat.{mul-le}
use Rattle.std.proofs.lemmas.Bool.{cases_lt, cases_eq, lt-ltb}
use Rattle.lmcut.specs.Drawn.{edges_at, edges_from, edges_in, paid, Modest, Light}
use Rattle.landmarks.specs.Laws.{In}
use Rattle.lmcut.specs.Questions.{reach_of}
use Rattle.landmarks.specs.Relaxed.{Reach}
use Rattle.landmarks.specs.Rounds.{ceil_div, Edges, Crossing, crossing, crossings, starts, cut_weight, charge, charge_of, left_after, crosses}
use Rattle.lmcut.specs.declared.question.Question.{Question}
use Rattle.landmarks.proofs.Orders.{map_in}
use Rattle.landmarks.proofs.Cuts.{crossing_in, weight_least, ceil_high}
use Rattle.lmcut.proofs.Prepared.{in_reaches}

pub edges_in_from : (q : Question) (rs : List ℕ) (ss : List (Option ℕ)) (s k a : ℕ) → s ≤ a → a < s + k → In (edges_at q rs ss a) (edges_from q rs ss s k)
unfolding edges_from
edges_in_from q rs ss s zero a l h = absurd (omega arith)
edges_in_from q rs ss s (suc k) a l h = ⊎_elim (λ z. inl (ap (edges_at q rs ss) z)) (λ ne. inr (edges_in_from q rs ss (s + 1) k a (omega arith) (omega arith))) (cases_eq s a)

length_edges : (q : Question) (rs : List ℕ) (ss : List (Option ℕ)) (s k : ℕ) → length (edges_from q rs ss s k) ≡ k
unfolding edges_from
length_edges q rs ss s zero = refl
length_edges q rs ss s (suc k) = ap suc (length_edges q rs ss (s + 1) k)

edges_get : (q : Question) (rs : List ℕ) (ss : List (Option ℕ)) (s k i : ℕ) (d : Edges) → i < k → get_or (edges_from q rs ss s k) i d ≡ edges_at q rs ss (s + i)
unfolding edges_from
edges_get q rs ss s zero i d h = absurd (omega arith)
edges_get q rs ss s (suc k) zero d h = let e : s ≡ s + 0 = omega arith in ap (edges_at q rs ss) e
edges_get q rs ss s (suc k) (suc i) d h = let e : s + 1 + i ≡ s + suc i = omega arith in edges_get q rs ss (s + 1) k i d (omega arith) ∙ ap (edges_at q rs ss) e

-- no crossing edge weighs less than the cut
pub light_cut : (q : Question) (rs : List ℕ) (ss : List (Option ℕ)) (near start : List Bool) (a : ℕ) → a < q.actions → starts start (get_or ss a None) ≡ true
    → Light q (get_or rs a 0) near (cut_weight (crossings (edges_in q rs ss) near start)) a
light_cut q rs ss near start a h s n e k t z =
    weight_least (crossings (edges_in q rs ss) near start) (crossing near start (edges_at q rs ss a)) (reach_of n e)
    (map_in (crossing near start) (edges_in q rs ss) (edges_at q rs ss a) (edges_in_from q rs ss 0 q.actions a (omega arith) (omega arith)))
    (crossing_in near start (edges_at q rs ss a) (reach_of n e) s (in_reaches q a 0 q.nodes n e t (omega arith) (omega arith)) z)

-- ---- what has been paid

-- of the actions' remainders, those before the i-th are charged
pub record Paying (q : Question) (whole : List ℕ) (ss : List (Option ℕ)) (near start : List Bool) (μ i : ℕ) (rs : List ℕ) : Type 0 where
  pub long : length rs ≡ q.actions
  pub done : (k : ℕ) → k < i → get_or rs k 0 ≡ get_or whole k 0 - paid q ss near start μ k
  pub rest : (k : ℕ) → i ≤ k → k < q.actions → get_or rs k 0 ≡ get_or whole k 0

module _ (q : Question) (whole : List ℕ) (ss : List (Option ℕ)) (near start : List Bool) (μ : ℕ) where
  pub paying_start : q.actions ≤ length whole → Paying q whole ss near start μ 0 (take q.actions whole)
  paying_start h = record { long = length-take-le q.actions whole h; done = λ k l. absurd (omega arith); rest = λ k l m. get_or-take q.actions whole k 0 m }

  module _ (i : ℕ) (rs : List ℕ) (w : Paying q whole ss near start μ i rs) where
    pub paying_step : (x : ℕ) → i < q.actions → x ≡ get_or rs i 0 - paid q ss near start μ i → Paying q whole ss near start μ (i + 1) (set rs i x)
    paying_step x h e = record {
      long = length-set rs i x ∙ w.long;
      done = below_more (λ k. get_or (set rs i x) k 0 ≡ get_or whole k 0 - paid q ss near start μ k) i
          (λ k l. get_or-set_other rs i k x 0 (λ z. omega arith) ∙ w.done k l)
          (get_or-set_same rs i x 0 (let l = w.long in omega arith) ∙ e ∙ ap (λ r. r - paid q ss near start μ i) (w.rest i (omega arith) h));
      rest = λ k l m. get_or-set_other rs i k x 0 (λ z. omega arith) ∙ w.rest k (omega arith) m;
    }

    abbrev others : List ℕ
    others = drop q.actions whole

    -- those past the last action are as they were
    pub paying_modest : q.actions ≤ i → Modest whole → Modest (rs ++ others)
    paying_modest end m a = ⊎_elim
        (λ h. let e = get_or_append_left rs others 0 a (let l = w.long in omega arith) ∙ w.done a (omega arith) in let b = m a in omega arith)
        (λ h. let e = get_or-append_right rs others q.actions a 0 w.long h ∙ get_or-drop q.actions whole (a - q.actions) 0 in let z : q.actions + (a - q.actions) ≡ a = omega arith in let b = m (q.actions + (a - q.actions)) in omega arith)
        (cases_lt a q.actions)

    abbrev after : Crossing → ℕ
    after c = c.left - charge_of μ c

    abbrev es : List Edges
    es = edges_in q whole ss

    abbrev none : Edges
    none = record { source = None; left = 0; reaches = [] }

    crossings_long : length (crossings es near start) ≡ q.actions
    crossings_long = length-map es (crossing near start) ∙ length_edges q whole ss 0 q.actions

    pub paying_end : q.actions ≤ i → take q.actions (rs ++ others) ≡ left_after μ (crossings es near start)
    paying_end end =
        take-append-le q.actions rs others (let l = w.long in omega arith) ∙ take_all q.actions rs (let l = w.long in omega arith)
        ∙ ext_get_or 0 rs (left_after μ (crossings es near start)) (w.long ∙ sym (length-map (crossings es near start) after ∙ crossings_long)) each
      where
        each : (k : ℕ) → k < length rs → get_or rs k 0 ≡ get_or (left_after μ (crossings es near start)) k 0
        each k h =
            let h' : k < q.actions = (let l = w.long in omega arith) in
            let l = length_edges q whole ss 0 q.actions in
            w.done k (omega arith)
            ∙ sym (get_or-map after (crossings es near start) k (crossing near start none) 0 (let c = crossings_long in omega arith)
            ∙ ap after (get_or-map (crossing near start) es k none (crossing near start none) (omega arith) ∙ ap (crossing near start) (edges_get q whole ss 0 q.actions k none h' ∙ ap (edges_at q whole ss) (let z : 0 + k ≡ k = omega arith in z))))

-- ---- landmark records

-- in a cut that weighs something, what crosses is charged something
pub crosses_charged : (μ : ℕ) (xs : List Reach) → 1 ≤ μ → ((x : Reach) → In x xs → (1 ≤ x.short) × (1 ≤ x.gain)) → crosses xs ≡ ltb 0 (charge μ xs)
unfolding charge
crosses_charged μ [] h f = refl
crosses_charged μ (x ∷ xs) h f =
    let b = f x (inl refl) in
    let g = b.1 in
    let p = mul-le 1 1 μ x.gain h g in
    let c = ceil_high (μ * x.gain) x.short b.0 in
    sym (lt-ltb 0 (charge μ (x ∷ xs)) (positive (ceil_div (μ * x.gain) x.short) x.short (omega arith) (charge μ xs)))
  where
    positive : (n s : ℕ) → 1 ≤ s * n → (m : ℕ) → 0 < max n m
    positive zero s l m = let z = native.Mathlib.Nat.mul-zero s in absurd (omega arith)
    positive (suc n) s l m = omega arith
