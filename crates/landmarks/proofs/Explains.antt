-- The landmark records come in order, and their weights add up to the total.
use Rattle.std.proofs.Common.{◌≡◌, ℕ, zero, suc, ◌+◌, ◌^◌, ◌<◌, ◌≤◌, min, Bool, true, false, cond, ◌||◌, eqb, leb, List, [], ◌∷◌, ◌++◌, Some, None, sym, refl, ap, ◌∙◌, subst, inl, inr, ⊎_elim, arith}
use Rattle.std.specs.List.{AllByRecursion}
use Rattle.std.proofs.ByRecursion.{All-append, All-weaker}
use Rattle.std.proofs.lemmas.Bool.{cases_Bool, cond-true, cond-false, or_parts, eq-eqb, ne_eqb, eqb-false, true≢false}
use Rattle.tables.specs.Problem.{Problem}
use Rattle.tables.specs.Rules.{Keeps}
use Rattle.task.specs.States.{is_state}
use Rattle.task.specs.declared.state.State.{State}
use Rattle.tables.proofs.Accepts.{decides_accepted}
use Rattle.landmarks.specs.Relaxed.{Reach, Relaxed, goal, relaxed}
use Rattle.landmarks.specs.Rounds.{ceil_div, Value, value_at, Crossing, charge_of, crosses, grounds_of, Outcome, Dead, Found, noting, cap, unless_ended, settled, rounds, pairs, full_costs, outcome, told, listed, estimate, grounds}
use Rattle.landmarks.specs.declared.Ground.{Ground}
use Rattle.estimate.specs.declared.estimate.Estimate.{Estimate}
use Rattle.estimate.specs.declared.estimate.Estimate.TheVariants.{AtLeast as at_least, Dead as dead}
use Rattle.landmarks.specs.Laws.{In, WellFormed, Before, Ordered, weights_from, weights, Explained, GroundsExplain}
use Rattle.landmarks.proofs.Cuts.{cut_lightest, worth, cut_now, weight_now}
use Rattle.landmarks.proofs.Totals.{rest_now}
use Rattle.landmarks.proofs.Shapes.{shorts, relaxed_fits}

-- ---- the order of records

-- records of a round and of later moves
abbrev Later : ℕ → ℕ → Ground → Type 0
Later k m g = (g.round ≡ k) × (m ≤ g.number)

noted_later : (k μ m : ℕ) (cs : List Crossing) → AllByRecursion (Later k m) (grounds_of k μ m cs)
unfolding grounds_of
noted_later k μ m [] = tt
noted_later k μ m (c ∷ cs) = go (crosses c.edges) (All-weaker (Later k (m + 1)) (Later k m) (λ g h. (h.0, (let l = h.1 in omega arith))) (grounds_of k μ (m + 1) cs) (noted_later k μ (m + 1) cs))
  where
    go : (b : Bool) → AllByRecursion (Later k m) (grounds_of k μ (m + 1) cs) → AllByRecursion (Later k m) (cond b (record { round = k; weight = μ; number = m; charge = charge_of μ c } ∷ grounds_of k μ (m + 1) cs) (grounds_of k μ (m + 1) cs))
    go true h = ((refl, omega arith), h)
    go false h = h

noted_ordered : (k μ m : ℕ) (cs : List Crossing) → Ordered (grounds_of k μ m cs)
unfolding grounds_of
noted_ordered k μ m [] = tt
noted_ordered k μ m (c ∷ cs) = go (crosses c.edges) (noted_ordered k μ (m + 1) cs)
  where
    go : (b : Bool) → Ordered (grounds_of k μ (m + 1) cs) → Ordered (cond b (record { round = k; weight = μ; number = m; charge = charge_of μ c } ∷ grounds_of k μ (m + 1) cs) (grounds_of k μ (m + 1) cs))
    go true h = (All-weaker (Later k (m + 1)) (Before (record { round = k; weight = μ; number = m; charge = charge_of μ c })) (λ g l. inr (sym l.0, (let n = l.1 in omega arith))) (grounds_of k μ (m + 1) cs) (noted_later k μ (m + 1) cs), h)
    go false h = h

ordered_append : (k : ℕ) (gs hs : List Ground) → Ordered gs → Ordered hs → AllByRecursion (λ g. g.round ≡ k) gs → AllByRecursion (λ h. k + 1 ≤ h.round) hs → Ordered (gs ++ hs)
ordered_append k [] hs a b c d = b
ordered_append k (g ∷ gs) hs a b c d =
    (All-append (Before g) gs hs a.0 (All-weaker (λ h. k + 1 ≤ h.round) (Before g) (λ h l. inl (let e = c.0 in omega arith)) hs d), ordered_append k gs hs a.1 b c.1 d)

pub record InOrder (k : ℕ) (gs : List Ground) : Type 0 where
  pub ordered : Ordered gs
  pub from : AllByRecursion (λ g. k ≤ g.round) gs

abbrev pub Orderly : ℕ → Outcome → Type 0
Orderly k Dead = Unit {0}
Orderly k (Found t gs) = InOrder k gs

pub rounds_ordered : (rx : Relaxed) (fuel k total : ℕ) (rs : List ℕ) → Orderly k (rounds rx fuel k total rs)
unfolding rounds
rounds_ordered rx zero k total rs = record { ordered = tt; from = tt }
rounds_ordered rx (suc fuel) k total rs = go (value_at (worth rx rs) (goal rx)) (rounds_ordered rx fuel (k + 1) (total + weight_now rx rs) (rest_now rx rs))
  where
    rest : Outcome
    rest = rounds rx fuel (k + 1) (total + weight_now rx rs) (rest_now rx rs)

    noted : List Ground
    noted = grounds_of k (weight_now rx rs) 1 (cut_now rx rs)

    next : Unit {0} → Outcome
    next _ = noting noted rest

    onward : (o : Outcome) → Orderly (k + 1) o → Orderly k (noting noted o)
    onward Dead h = tt
    onward (Found t gs) h =
        let later = noted_later k (weight_now rx rs) 1 (cut_now rx rs) in
        record {
          ordered = ordered_append k noted gs (noted_ordered k (weight_now rx rs) 1 (cut_now rx rs)) h.ordered (All-weaker (Later k 1) (λ g. g.round ≡ k) (λ g l. l.0) noted later) h.from;
          from = All-append (λ g. k ≤ g.round) noted gs (All-weaker (Later k 1) (λ g. k ≤ g.round) (λ g l. let e = l.0 in omega arith) noted later) (All-weaker (λ g. k + 1 ≤ g.round) (λ g. k ≤ g.round) (λ g l. omega arith) gs h.from);
        }

    ends : Orderly (k + 1) rest → (b : Bool) → Orderly k (unless_ended b total next)
    ends ih true = record { ordered = tt; from = tt }
    ends ih false = onward rest ih

    go : (o : Value) → Orderly (k + 1) rest → Orderly k (settled o total next)
    go None ih = tt
    go (Some v) ih = ends ih (eqb v 0 || leb cap total)

-- ---- the sum of the rounds' weights

noted_same : (k μ m : ℕ) (cs : List Crossing) (hs : List Ground) → weights_from k (grounds_of k μ m cs ++ hs) ≡ weights_from k hs
unfolding grounds_of
noted_same k μ m [] hs = refl
noted_same k μ m (c ∷ cs) hs = go (crosses c.edges) (noted_same k μ (m + 1) cs hs)
  where
    go : (b : Bool) → weights_from k (grounds_of k μ (m + 1) cs ++ hs) ≡ weights_from k hs
        → weights_from k (cond b (record { round = k; weight = μ; number = m; charge = charge_of μ c } ∷ grounds_of k μ (m + 1) cs) (grounds_of k μ (m + 1) cs) ++ hs) ≡ weights_from k hs
    go true ih = let z : cond (eqb k k) 0 μ ≡ 0 = cond-true (eqb k k) 0 μ (eq-eqb k k refl) in omega arith
    go false ih = ih

noted_first : (last k μ m : ℕ) (cs : List Crossing) (hs : List Ground) → (k ≡ last → ⊥) → (c : Crossing) (x : Reach) → In c cs → In x c.edges → weights_from last (grounds_of k μ m cs ++ hs) ≡ μ + weights_from k hs
unfolding grounds_of
noted_first last k μ m [] hs ne c x i j = absurd i
noted_first last k μ m (d ∷ cs) hs ne c x i j = go (crosses d.edges) refl (λ q. noted_first last k μ (m + 1) cs hs ne c x q j)
  where
    crossed : (xs : List Reach) → In x xs → crosses xs ≡ false → ⊥
    crossed [] q e = absurd q
    crossed (y ∷ ys) q e = true≢false e

    go : (b : Bool) → crosses d.edges ≡ b → (In c cs → weights_from last (grounds_of k μ (m + 1) cs ++ hs) ≡ μ + weights_from k hs)
        → weights_from last (cond b (record { round = k; weight = μ; number = m; charge = charge_of μ d } ∷ grounds_of k μ (m + 1) cs) (grounds_of k μ (m + 1) cs) ++ hs) ≡ μ + weights_from k hs
    go true e ih = let z : cond (eqb k last) 0 μ ≡ μ = cond-false (eqb k last) 0 μ (ne_eqb k last ne) in let s = noted_same k μ (m + 1) cs hs in omega arith
    go false e ih = ⊎_elim (λ q. absurd (crossed d.edges (subst (λ (y : Crossing). In x y.edges) (sym q) j) e)) ih i

abbrev pub AddsUp : ℕ → ℕ → Outcome → Type 0
AddsUp last total Dead = Unit {0}
AddsUp last total (Found t gs) = t ≡ total + weights_from last gs

module _ (rx : Relaxed) (shorts : ℕ → ℕ) (fit : WellFormed rx shorts) where
  pub rounds_add : (fuel last k total : ℕ) (rs : List ℕ) → last < k → AddsUp last total (rounds rx fuel k total rs)
  unfolding rounds
  rounds_add zero last k total rs l = omega arith
  rounds_add (suc fuel) last k total rs l = go (value_at (worth rx rs) (goal rx)) refl (rounds_add fuel k (k + 1) (total + weight_now rx rs) (rest_now rx rs) (omega arith))
    where
      rest : Outcome
      rest = rounds rx fuel (k + 1) (total + weight_now rx rs) (rest_now rx rs)

      noted : List Ground
      noted = grounds_of k (weight_now rx rs) 1 (cut_now rx rs)

      next : Unit {0} → Outcome
      next _ = noting noted rest

      onward : (v : ℕ) → 1 ≤ v → value_at (worth rx rs) (goal rx) ≡ Some v → (o : Outcome) → AddsUp k (total + weight_now rx rs) o → AddsUp last total (noting noted o)
      onward v p e Dead h = tt
      onward v p e (Found t gs) h =
          let w = cut_lightest rx shorts fit rs v p e in
          let s = noted_first last k (weight_now rx rs) 1 (cut_now rx rs) gs (λ z. omega arith) w.by w.edge w.among w.crosses in
          omega arith

      ends : (v : ℕ) → value_at (worth rx rs) (goal rx) ≡ Some v → AddsUp k (total + weight_now rx rs) rest → (b : Bool) → (eqb v 0 || leb cap total) ≡ b → AddsUp last total (unless_ended b total next)
      ends v e ih true q = omega arith
      ends v e ih false q = onward v (positive_of v (eqb-false v 0 (or_parts (eqb v 0) (leb cap total) q).0)) e rest ih
        where
          positive_of : (w : ℕ) → (w ≡ 0 → ⊥) → 1 ≤ w
          positive_of zero ne = absurd (ne refl)
          positive_of (suc w) ne = omega arith

      go : (o : Value) → value_at (worth rx rs) (goal rx) ≡ o → AddsUp k (total + weight_now rx rs) rest → AddsUp last total (settled o total next)
      go None e ih = tt
      go (Some v) e ih = ends v e ih (eqb v 0 || leb cap total) refl

-- ---- the law

record Answers (e : Estimate) (gs : List Ground) : Type 0 where
  ordered : Ordered gs
  explained : (n : ℕ) → e ≡ at_least n → n ≡ min (10 ^ 12) (ceil_div (weights gs) 5040)
  dead_none : e ≡ dead → gs ≡ []

no_answer : Answers (at_least 0) []
no_answer = record { ordered = tt; explained = λ n e. cc; dead_none = λ e. refl }

outcome_answers : (p : Problem) → Keeps p → (s : State) → Answers (told (outcome (relaxed p s))) (listed (outcome (relaxed p s)))
unfolding outcome
outcome_answers p k s = go (outcome (relaxed p s))
    (rounds_ordered (relaxed p s) (pairs (relaxed p s).actions + 1) 1 0 (full_costs (relaxed p s).actions))
    (rounds_add (relaxed p s) (shorts p s) (relaxed_fits p s k) (pairs (relaxed p s).actions + 1) 0 1 0 (full_costs (relaxed p s).actions) (omega arith))
  where
    go : (o : Outcome) → Orderly 1 o → AddsUp 0 0 o → Answers (told o) (listed o)
    go Dead h a = record { ordered = tt; explained = λ n e. cc; dead_none = λ e. refl }
    go (Found t gs) h a = record {
      ordered = h.ordered;
      explained = λ n e.
          let z : min (10 ^ 12) (ceil_div t 5040) ≡ n = cc in
          let w : t ≡ weights gs = omega arith in
          sym z ∙ ap (λ m. min (10 ^ 12) (ceil_div m 5040)) w;
      dead_none = λ e. cc;
    }

pub grounds_explain : GroundsExplain
unfolding estimate grounds
grounds_explain p acc s = ⊎_elim
    (λ i. made (subst (λ b. Answers (cond b (told (outcome (relaxed p s))) (at_least 0)) (cond b (listed (outcome (relaxed p s))) [])) (sym i) (outcome_answers p ((decides_accepted p).0 acc) s)))
    (λ i. made (subst (λ b. Answers (cond b (told (outcome (relaxed p s))) (at_least 0)) (cond b (listed (outcome (relaxed p s))) [])) (sym i) no_answer))
    (cases_Bool (is_state p s))
  where
    made : Answers (estimate p s) (grounds p s) → Explained p s
    made a = record { ordered = a.ordered; explained = a.explained; dead_none = a.dead_none }
