-- How many rounds and landmark records there can be, and what stands in them.
use Rattle.std.proofs.Common.{◌≡◌, ℕ, zero, suc, ◌+◌, ◌-◌, ◌*◌, ◌<◌, ◌≤◌, Bool, true, false, cond, not, ◌&&◌, ◌||◌, eqb, leb, List, [], ◌∷◌, ◌++◌, map, length, get_or, nat_abs, Some, None, sym, refl, ap, ◌∙◌, subst, inl, ⊎_elim, add-mul, one-mul, arith}
use Rattle.std.proofs.lemmas.Nat.{le-div, mul-le}
use Rattle.std.proofs.lemmas.List.{length-append, length-map}
use Rattle.std.proofs.lemmas.Bool.{cases_Bool, or_parts, eqb-false, false≢true}
use Rattle.tables.specs.Chains.{chain}
use Rattle.task.specs.Meaning.{names}
use Rattle.tables.specs.Problem.{Problem}
use Rattle.tables.specs.Rules.{Keeps}
use Rattle.task.specs.States.{is_state, fact_holds, condition_holds}
use Rattle.task.specs.declared.state.State.{State}
use Rattle.tables.specs.declared.Condition.{Condition}
use Rattle.tables.specs.declared.Link.{Link}
use Rattle.tables.specs.declared.Move.{Move}
use Rattle.tables.proofs.Accepts.{decides_accepted}
use Rattle.landmarks.specs.Relaxed.{Reach, Action, Relaxed, goal, shortfall, gain_of, raises, fact_reaches, condition_reaches, action_of, helper, relaxed}
use Rattle.landmarks.specs.Rounds.{ceil_div, weight, Value, value_at, Crossing, charge_of, crosses, grounds_of, Outcome, Dead, Found, noting, cap, unless_ended, settled, rounds, pairs, full_costs, outcome, listed, grounds}
use Rattle.landmarks.specs.declared.Ground.{Ground}
use Rattle.landmarks.specs.Laws.{In, WellFormed, most_left, heaviest, Counts, CountsStand}
use Rattle.landmarks.proofs.Orders.{in_get_or}
use Rattle.landmarks.proofs.Cuts.{charge_high, cut_positive, crossing_is, loaded_reach, worth, cut_now, weight_now}
use Rattle.landmarks.proofs.Landmarks.{no_crossing, length_cut, charge_at_within}
use Rattle.landmarks.proofs.Totals.{rest_now, in_append}
use Rattle.landmarks.proofs.Shapes.{shorts, relaxed_fits}
use Rattle.landmarks.proofs.Follow.{length_actions, helper_action}
use Rattle.landmarks.proofs.Sizes.{cut_small, rest_small, full_small, action_weighs}

-- ---- how many pairs of an action and a node it reaches

few_facts : (w : ℕ) (es : List Link) (k n : ℕ) → length (fact_reaches w es k n) ≤ n
unfolding fact_reaches
few_facts w es k zero = omega arith
few_facts w es k (suc n) = go (names 4 es k && not (fact_holds w k)) (few_facts w es (k + 1) n)
  where
    go : (b : Bool) → length (fact_reaches w es (k + 1) n) ≤ n → length (cond b (record { node = k; short = 1; gain = 1 } ∷ fact_reaches w es (k + 1) n) (fact_reaches w es (k + 1) n)) ≤ suc n
    go true h = omega arith
    go false h = omega arith

few_conditions : (p : Problem) (s : State) (es : List Link) (n : ℕ) (cs : List Condition) → length (condition_reaches p s es n cs) ≤ length cs
unfolding condition_reaches
few_conditions p s es n [] = omega arith
few_conditions p s es n (c ∷ cs) = go (raises (gain_of (chain p.links c.terms) es) && not (condition_holds p s c)) (few_conditions p s es (n + 1) cs)
  where
    x : Reach
    x = record { node = n; short = shortfall p s c; gain = nat_abs (gain_of (chain p.links c.terms) es) }

    go : (b : Bool) → length (condition_reaches p s es (n + 1) cs) ≤ length cs → length (cond b (x ∷ condition_reaches p s es (n + 1) cs) (condition_reaches p s es (n + 1) cs)) ≤ suc (length cs)
    go true h = omega arith
    go false h = omega arith

pairs_append : (as' bs : List Action) → pairs (as' ++ bs) ≡ pairs as' + pairs bs
unfolding pairs
pairs_append [] bs = omega arith
pairs_append (a ∷ as') bs = let ih = pairs_append as' bs in omega arith

pairs_moves : (p : Problem) (s : State) (ms : List Move) → pairs (map (action_of p s) ms) ≤ length ms * (p.head.facts + length p.conditions)
unfolding pairs
pairs_moves p s [] = omega arith
pairs_moves p s (m ∷ ms) =
    let es = chain p.links m.effects in
    let n = p.head.facts + length p.conditions in
    let l = length-append (fact_reaches s.facts (chain p.links m.effects) 0 p.head.facts) (condition_reaches p s (chain p.links m.effects) p.head.facts p.conditions) in
    let a = few_facts s.facts (chain p.links m.effects) 0 p.head.facts in
    let b = few_conditions p s (chain p.links m.effects) p.head.facts p.conditions in
    let ih = pairs_moves p s ms in
    let e : suc (length ms) * (p.head.facts + length p.conditions) ≡ (p.head.facts + length p.conditions) + length ms * (p.head.facts + length p.conditions) =
    (let q : suc (length ms) ≡ 1 + length ms = omega arith in ap (λ j. j * (p.head.facts + length p.conditions)) q ∙ add-mul 1 (length ms) (p.head.facts + length p.conditions) ∙ ap (λ j. j + length ms * (p.head.facts + length p.conditions)) (one-mul (p.head.facts + length p.conditions))) in
    omega arith

one_pair : (p : Problem) → pairs (helper p ∷ []) ≡ 1
unfolding pairs
one_pair p = refl

pub pairs_few : (p : Problem) → Keeps p → (s : State) → pairs (relaxed p s).actions ≤ 32769
unfolding relaxed
pairs_few p k s =
    let a = pairs_append (map (action_of p s) p.moves) (helper p ∷ []) in
    let b = pairs_moves p s p.moves in
    let c = mul-le (length p.moves) (p.head.facts + length p.conditions) 256 128 k.few_moves (let f = k.facts in let g = k.few_conditions in omega arith) in
    let h = one_pair p in
    omega arith

-- ---- the records of a round

pub record Noted (k μ m : ℕ) (cs : List Crossing) (g : Ground) : Type 0 where
  pub place : ℕ
  pub inside : place < length cs
  pub round : g.round ≡ k
  pub weight : g.weight ≡ μ
  pub number : g.number ≡ m + place
  pub charge : g.charge ≡ charge_of μ (get_or cs place no_crossing)
  pub crosses_here : crosses (get_or cs place no_crossing).edges ≡ true

pub noted_is : (k μ m : ℕ) (cs : List Crossing) (g : Ground) → In g (grounds_of k μ m cs) → Noted k μ m cs g
unfolding grounds_of
noted_is k μ m [] g i = absurd i
noted_is k μ m (c ∷ cs) g i = go (crosses c.edges) refl i (λ j. noted_is k μ (m + 1) cs g j)
  where
    on : Noted k μ (m + 1) cs g → Noted k μ m (c ∷ cs) g
    on r = let a = r.inside in let b = r.number in record { place = suc r.place; inside = omega arith; round = r.round; weight = r.weight; number = omega arith; charge = r.charge; crosses_here = r.crosses_here }

    here : crosses c.edges ≡ true → Noted k μ m (c ∷ cs) (record { round = k; weight = μ; number = m; charge = charge_of μ c })
    here t = record { place = 0; inside = omega arith; round = refl; weight = refl; number = omega arith; charge = refl; crosses_here = t }

    go : (b : Bool) → crosses c.edges ≡ b → In g (cond b (record { round = k; weight = μ; number = m; charge = charge_of μ c } ∷ grounds_of k μ (m + 1) cs) (grounds_of k μ (m + 1) cs))
        → (In g (grounds_of k μ (m + 1) cs) → Noted k μ (m + 1) cs g) → Noted k μ m (c ∷ cs) g
    go true t j ih = ⊎_elim (λ e. subst (Noted k μ m (c ∷ cs)) e (here t)) (λ q. on (ih q)) j
    go false t j ih = on (ih j)

few_noted : (k μ m : ℕ) (cs : List Crossing) → length (grounds_of k μ m cs) ≤ length cs
unfolding grounds_of
few_noted k μ m [] = omega arith
few_noted k μ m (c ∷ cs) = go (crosses c.edges) (few_noted k μ (m + 1) cs)
  where
    go : (b : Bool) → length (grounds_of k μ (m + 1) cs) ≤ length cs → length (cond b (record { round = k; weight = μ; number = m; charge = charge_of μ c } ∷ grounds_of k μ (m + 1) cs) (grounds_of k μ (m + 1) cs)) ≤ suc (length cs)
    go true h = omega arith
    go false h = omega arith

-- an action in a cut of weight at least 1 is charged at least 1
some_ceil : (a b : ℕ) → 1 ≤ b → 1 ≤ a → 1 ≤ ceil_div a b
some_ceil a b h l = le-div 1 (a + (b - 1)) b h (let e = one-mul b in omega arith)

crossed_edge : (xs : List Reach) → crosses xs ≡ true → (x : Reach) × In x xs
crossed_edge [] e = absurd (false≢true e)
crossed_edge (x ∷ xs) e = (x, inl refl)

pub record Fine (k fuel helper-place : ℕ) (g : Ground) : Type 0 where
  pub from : k ≤ g.round
  pub upto : g.round < k + fuel
  pub first : 1 ≤ g.number
  pub last : g.number ≤ helper-place
  pub weighs : 1 ≤ g.weight
  pub light : g.weight ≤ heaviest
  pub pays : 1 ≤ g.charge
  pub cheap : g.charge ≤ most_left

module _ (rx : Relaxed) (shorts : ℕ → ℕ) (fit : WellFormed rx shorts)
    (light : (a : Action) → In a rx.actions → (x : Reach) → In x a.reaches → (r : ℕ) → r ≤ most_left → weight r x ≤ heaviest)
    (h : ℕ) (last-place : length rx.actions ≡ h + 1) where
  record Tidy (k fuel : ℕ) (gs : List Ground) : Type 0 where
    fine : (g : Ground) → In g gs → Fine k fuel h g
    few : length gs ≤ fuel * length rx.actions

  abbrev AllTidy : ℕ → ℕ → Outcome → Type 0
  AllTidy k fuel Dead = Unit {0}
  AllTidy k fuel (Found t gs) = Tidy k fuel gs

  noted_fine : (k fuel : ℕ) (rs : List ℕ) → ((i : ℕ) → get_or rs i 0 ≤ most_left) → get_or rs h 0 ≡ 0 → (v : ℕ) → 1 ≤ v → value_at (worth rx rs) (goal rx) ≡ Some v
      → (g : Ground) → In g (grounds_of k (weight_now rx rs) 1 (cut_now rx rs)) → Fine k (suc fuel) h g
  noted_fine k fuel rs small idle v pv gv g i =
      let r = noted_is k (weight_now rx rs) 1 (cut_now rx rs) g i in
      let lc = length_cut rx rs in
      let ins = r.inside in
      let inside : r.place < length rx.actions = omega arith in
      let x = crossed_edge (get_or (cut_now rx rs) r.place no_crossing).edges r.crosses_here in
      let q = crossing_is rx shorts fit rs (get_or (cut_now rx rs) r.place no_crossing) (in_get_or (cut_now rx rs) r.place no_crossing ins) in
      let f = loaded_reach rx shorts fit rs q.0 q.1 x.0 (q.3 x.0 x.1) in
      let d : 1 ≤ x.0.short = (let l = fit.lacking x.0.node f.unmet in let s = f.lacks in omega arith) in
      let μ = cut_positive rx shorts fit rs v pv gv in
      let pr = mul-le 1 1 (weight_now rx rs) x.0.gain μ f.gains in
      let cl = some_ceil (weight_now rx rs * x.0.gain) x.0.short d pr in
      let ch = charge_high (weight_now rx rs) (get_or (cut_now rx rs) r.place no_crossing).edges x.0 x.1 in
      let w = charge_at_within rx shorts fit rs r.place inside in
      let sm = small r.place in
      let rm = r.number in
      let rc = r.charge in
      let rw' = r.weight in
      let rr = r.round in
      let cs = cut_small rx shorts fit light rs small in
      let ne : r.place ≡ h → ⊥ = λ e. (let z : get_or rs r.place 0 ≡ 0 = ap (λ j. get_or rs j 0) e ∙ idle in omega arith) in
      let lt : r.place < h = omega arith in
      record { from = omega arith; upto = omega arith; first = omega arith; last = omega arith; weighs = omega arith; light = omega arith; pays = omega arith; cheap = omega arith }

  rounds_tidy : (fuel k total : ℕ) (rs : List ℕ) → ((i : ℕ) → get_or rs i 0 ≤ most_left) → get_or rs h 0 ≡ 0 → AllTidy k fuel (rounds rx fuel k total rs)
  unfolding rounds
  rounds_tidy zero k total rs small idle = record { fine = λ g i. absurd i; few = omega arith }
  rounds_tidy (suc fuel) k total rs small idle = go (value_at (worth rx rs) (goal rx)) refl
      (rounds_tidy fuel (k + 1) (total + weight_now rx rs) (rest_now rx rs) (rest_small rx shorts fit light rs small) (let e = Rattle.landmarks.proofs.Totals.rest_at rx rs h (omega arith) in omega arith))
    where
      rest : Outcome
      rest = rounds rx fuel (k + 1) (total + weight_now rx rs) (rest_now rx rs)

      noted : List Ground
      noted = grounds_of k (weight_now rx rs) 1 (cut_now rx rs)

      next : Unit {0} → Outcome
      next _ = noting noted rest

      onward : (v : ℕ) → 1 ≤ v → value_at (worth rx rs) (goal rx) ≡ Some v → (o : Outcome) → AllTidy (k + 1) fuel o → AllTidy k (suc fuel) (noting noted o)
      onward v p e Dead t = tt
      onward v p e (Found n gs) t = record {
        fine = λ g i. ⊎_elim
            (λ j. noted_fine k fuel rs small idle v p e g j)
            (λ j. let f = t.fine g j in let a = f.from in let b = f.upto in record { from = omega arith; upto = omega arith; first = f.first; last = f.last; weighs = f.weighs; light = f.light; pays = f.pays; cheap = f.cheap })
            (in_append noted gs g i);
        few = (
            let a = length-append noted gs in
            let b = few_noted k (weight_now rx rs) 1 (cut_now rx rs) in
            let c = length_cut rx rs in
            let d = t.few in
            let m : suc fuel * length rx.actions ≡ length rx.actions + fuel * length rx.actions = (let q : suc fuel ≡ 1 + fuel = omega arith in ap (λ j. j * length rx.actions) q ∙ add-mul 1 fuel (length rx.actions) ∙ ap (λ j. j + fuel * length rx.actions) (one-mul (length rx.actions))) in
            omega arith);
      }

      ends : (v : ℕ) → value_at (worth rx rs) (goal rx) ≡ Some v → AllTidy (k + 1) fuel rest → (b : Bool) → (eqb v 0 || leb cap total) ≡ b → AllTidy k (suc fuel) (unless_ended b total next)
      ends v e ih true q = record { fine = λ g i. absurd i; few = omega arith }
      ends v e ih false q = onward v (positive_of v (eqb-false v 0 (or_parts (eqb v 0) (leb cap total) q).0)) e rest ih
        where
          positive_of : (w : ℕ) → (w ≡ 0 → ⊥) → 1 ≤ w
          positive_of zero ne = absurd (ne refl)
          positive_of (suc w) ne = omega arith

      go : (o : Value) → value_at (worth rx rs) (goal rx) ≡ o → AllTidy (k + 1) fuel rest → AllTidy k (suc fuel) (settled o total next)
      go None e ih = tt
      go (Some v) e ih = ends v e ih (eqb v 0 || leb cap total) refl

-- ---- the law

record Counted (p : Problem) (gs : List Ground) : Type 0 where
  fine : (g : Ground) → In g gs → Fine 1 32770 (length p.moves) g
  few : length gs ≤ 32770 * 257

none_counted : (p : Problem) → Counted p []
none_counted p = record { fine = λ g i. absurd i; few = omega arith }

outcome_counted : (p : Problem) → Keeps p → (s : State) → is_state p s ≡ true → Counted p (listed (outcome (relaxed p s)))
unfolding outcome
outcome_counted p k s i = go (outcome (relaxed p s)) tidy
  where
    rx : Relaxed
    rx = relaxed p s

    light : (a : Action) → In a (relaxed p s).actions → (x : Reach) → In x a.reaches → (r : ℕ) → r ≤ most_left → weight r x ≤ heaviest
    light a j x q r l = (action_weighs p k s i a j x q r l).1

    idle : get_or (full_costs (relaxed p s).actions) (length p.moves) 0 ≡ 0
    idle = Rattle.std.proofs.lemmas.List.get_or-map (λ (a : Action). 5040 * a.cost) (relaxed p s).actions (length p.moves) Rattle.landmarks.proofs.Runs.no_action 0 (let l = length_actions p s in omega arith) ∙ ap (λ (a : Action). 5040 * a.cost) (helper_action p s)

    tidy : AllTidy (relaxed p s) (shorts p s) (relaxed_fits p s k) light (length p.moves) (length_actions p s) 1 (pairs (relaxed p s).actions + 1) (outcome (relaxed p s))
    tidy = rounds_tidy (relaxed p s) (shorts p s) (relaxed_fits p s k) light (length p.moves) (length_actions p s) (pairs (relaxed p s).actions + 1) 1 0 (full_costs (relaxed p s).actions) (full_small p k s i) idle

    go : (o : Outcome) → AllTidy (relaxed p s) (shorts p s) (relaxed_fits p s k) light (length p.moves) (length_actions p s) 1 (pairs (relaxed p s).actions + 1) o → Counted p (listed o)
    go Dead t = none_counted p
    go (Found n gs) t =
        let pf = pairs_few p k s in
        let la = length_actions p s in
        let fm = k.few_moves in
        let fw = t.few in
        let b = mul-le (pairs (relaxed p s).actions + 1) (length (relaxed p s).actions) 32770 257 (omega arith) (omega arith) in
        record {
          fine = λ g j. let f = t.fine g j in let u = f.upto in record { from = f.from; upto = omega arith; first = f.first; last = f.last; weighs = f.weighs; light = f.light; pays = f.pays; cheap = f.cheap };
          few = omega arith;
        }

pub counts_stand : CountsStand
unfolding grounds
counts_stand p acc s = ⊎_elim
    (λ i. made (subst (λ b. Counted p (cond b (listed (outcome (relaxed p s))) [])) (sym i) (outcome_counted p ((decides_accepted p).0 acc) s i)))
    (λ i. made (subst (λ b. Counted p (cond b (listed (outcome (relaxed p s))) [])) (sym i) (none_counted p)))
    (cases_Bool (is_state p s))
  where
    made : Counted p (grounds p s) → Counts p s
    made c = record {
      rounds = λ g j. let f = c.fine g j in let u = f.upto in (f.from, omega arith);
      moves = λ g j. let f = c.fine g j in (f.first, f.last);
      weights = λ g j. let f = c.fine g j in (f.weighs, f.light);
      charges = λ g j. let f = c.fine g j in (f.pays, f.cheap);
      records = c.few;
    }
