-- The rounds over an array of remainders: what a turn of the loop does is the next round, with its landmark records.
use Rattle.std.proofs.Common.{◌≡◌, ℕ, zero, suc, ◌+◌, ◌-◌, ◌*◌, ◌<◌, ◌≤◌, ltb, ◌⊎◌, List, [], ◌++◌, length, get_or, take, Some, None, Option, sym, refl, ap, ◌∙◌, subst, ap₂, ⊎_elim, add-mul, one-mul, div-le_self, arith}
use Rattle.std.specs.List.{flat_map}
use Rattle.std.proofs.lemmas.Nat.{mul-le}
use Rattle.std.proofs.lemmas.List.{append-nil, length-append, get_or-take, get_or_past, length-take, length-take-le, ext_get_or}
use Rattle.std.proofs.lemmas.Bool.{cases_lt}
use Rattle.lmcut.specs.Drawn.{read_value, values_of, cut_of, Modest}
use Rattle.landmarks.specs.Laws.{In, heavy_pairs, most_left, heaviest}
use Rattle.lmcut.specs.Questions.{edge_at, with_edge, reaches_from, actions_from, relaxed_of, Fits}
use Rattle.landmarks.specs.Relaxed.{Reach, Action, Relaxed, goal}
use Rattle.landmarks.specs.Rounds.{weight, loaded, value_at, Crossing, cut, cut_weight, charge_of, left_after, crosses, grounds_of, Dead, Found, noting, cap, pairs, full_costs, outcome}
use Rattle.landmarks.specs.declared.Ground.{Ground}
use Rattle.lmcut.specs.Totalled.{tally_of, laid}
use Rattle.lmcut.specs.Valued.{infinite, Valued}
use Rattle.lmcut.specs.declared.question.Edge.{Edge}
use Rattle.lmcut.specs.declared.question.Question.{Question}
use Rattle.lmcut.specs.declared.rounds.Tally.{Tally}
use Rattle.lmcut.proofs.Bridges.{loaded_front}
use Rattle.lmcut.proofs.Closing.{relaxed_nodes}
use Rattle.landmarks.proofs.Orders.{in_get_or}
use Rattle.landmarks.proofs.Cuts.{worth, cut_now, weight_now, cut_positive, crossing_is, loaded_reach}
use Rattle.landmarks.proofs.Ends.{heavy_pairs_upto, round_falls, values_settled}
use Rattle.landmarks.proofs.Landmarks.{no_crossing, length_cut, charge_at_within}
use Rattle.lmcut.proofs.Formed.{lack, fits_well, action_edges}
use Rattle.lmcut.proofs.Laying.{laid_none}
use Rattle.landmarks.proofs.Loop.{rounds_from, rounds_start, rounds_dead, rounds_over, rounds_next, noting_append, noting_none}
use Rattle.lmcut.proofs.Noting.{Share, shares, noted_at, Noting, noted_all, length-shares, share_at}
use Rattle.lmcut.proofs.Paying.{crosses_charged}
use Rattle.lmcut.proofs.Prepared.{told_some, told_none, tells_long, tells_at}
use Rattle.landmarks.proofs.Sizes.{cut_small}
use Rattle.landmarks.proofs.Totals.{rest_now, rest_at}

-- ---- how many edges there can be

few_reaches : (q : Question) (a n k : ℕ) → length (reaches_from q a n k) ≤ k
unfolding reaches_from
few_reaches q a n zero = omega arith
few_reaches q a n (suc k) = go (edge_at q a n) (few_reaches q a (n + 1) k)
  where
    go : (o : Option Edge) → length (reaches_from q a (n + 1) k) ≤ k → length (with_edge n o (reaches_from q a (n + 1) k)) ≤ suc k
    go None h = omega arith
    go (Some e) h = omega arith

pairs_from : (q : Question) (a k : ℕ) → pairs (actions_from q a k) ≤ k * q.nodes
unfolding pairs actions_from
pairs_from q a zero = omega arith
pairs_from q a (suc k) =
    let r = few_reaches q a 0 q.nodes in
    let ih = pairs_from q (a + 1) k in
    let e : suc k ≡ 1 + k = omega arith in
    let m : suc k * q.nodes ≡ q.nodes + k * q.nodes = ap (λ j. j * q.nodes) e ∙ add-mul 1 k q.nodes ∙ ap (λ j. j + k * q.nodes) (one-mul q.nodes) in
    omega arith

abbrev most_pairs : ℕ
most_pairs = 257 * 129

pairs_few : (q : Question) → Fits q → pairs (relaxed_of q).actions ≤ most_pairs
unfolding relaxed_of
pairs_few q f = let a = pairs_from q 0 q.actions in let b = mul-le q.actions q.nodes 257 129 f.few_actions f.few_nodes in omega arith

long_from : (q : Question) (a k : ℕ) → length (actions_from q a k) ≡ k
unfolding actions_from
long_from q a zero = refl
long_from q a (suc k) = ap suc (long_from q (a + 1) k)

relaxed_actions : (q : Question) → length (relaxed_of q).actions ≡ q.actions
unfolding relaxed_of
relaxed_actions q = long_from q 0 q.actions

-- ---- the rounds made so far

abbrev pub rest_pairs : Question → List ℕ → ℕ
rest_pairs q left = heavy_pairs (relaxed_of q).actions (take q.actions left)

-- the records so far and the rounds to come make the outcome; the records are written over a buffer, as far as there is room
pub record Rounding (q : Question) (buffer : List Ground) (left : List ℕ) (tally : Tally) (round : ℕ) (records : List Ground) : Type 0 where
  pub done : List Ground
  pub same : noting done (rounds_from (relaxed_of q) round tally.total (take q.actions left)) ≡ outcome (relaxed_of q)
  pub counted : tally.records ≡ length done
  pub written : records ≡ laid done buffer
  pub rounds_few : round + rest_pairs q left ≤ most_pairs + 1
  pub records_few : tally.records + 257 ≤ 257 * round

pub rounding_start : (q : Question) (buffer : List Ground) (left : List ℕ) → Fits q → take q.actions left ≡ full_costs (relaxed_of q).actions
    → Rounding q buffer left (record { total = 0; records = 0 }) 1 buffer
rounding_start q buffer left f e = record {
  done = [];
  same = noting_none (rounds_from (relaxed_of q) 1 0 (take q.actions left)) ∙ ap (rounds_from (relaxed_of q) 1 0) e ∙ rounds_start (relaxed_of q) (lack q) (fits_well q f);
  counted = refl;
  written = sym (laid_none buffer);
  rounds_few = (let a = heavy_pairs_upto (relaxed_of q).actions (take q.actions left) in let b = pairs_few q f in omega arith);
  records_few = omega arith;
}

-- how the buffer and the answer stand at the end
pub record Run (q : Question) (buffer records : List Ground) (answer : Option Tally) : Type 0 where
  pub tallied : answer ≡ tally_of (outcome (relaxed_of q))
  pub written : (t : ℕ) (gs : List Ground) → outcome (relaxed_of q) ≡ Found t gs → records ≡ laid gs buffer

dead_found : (t : ℕ) (gs : List Ground) → Dead ≡ Found t gs → ⊥
dead_found t gs e = let z : ◌≡◌ {A = ℕ} 0 1 = cc in omega arith

found_same : (t u : ℕ) (gs hs : List Ground) → Found t gs ≡ Found u hs → gs ≡ hs
found_same t u gs hs e = cc

module _ (q : Question) (left xs : List ℕ) (f : Fits q) (v : Valued q left xs) where
  abbrev rx : Relaxed
  rx = relaxed_of q

  abbrev rs : List ℕ
  rs = take q.actions left

  loads_same : loaded rx.actions left ≡ loaded rx.actions rs
  loads_same = loaded_front q left rs refl

  valued_at : (n : ℕ) → n < q.nodes → read_value (get_or xs n 0) ≡ value_at (worth rx rs) n
  valued_at n h = v.each n h ∙ ap (λ qs. value_at (Rattle.landmarks.specs.Rounds.values rx qs) n) loads_same

  values_same : values_of q.nodes xs ≡ worth rx rs
  values_same = ext_get_or None (values_of q.nodes xs) (worth rx rs) (long ∙ sym ((values_settled rx (lack q) (fits_well q f) rs).long ∙ relaxed_nodes q)) (λ n h. let l = long in let h' : n < q.nodes = omega arith in tells_at q xs v.long f.few_nodes n h' ∙ valued_at n h')
    where
      long : length (values_of q.nodes xs) ≡ q.nodes
      long = tells_long q xs v.long f.few_nodes

  goal_is : value_at (worth rx rs) (goal rx) ≡ read_value (get_or xs (q.nodes - 1) 0)
  goal_is = ap (λ n. value_at (worth rx rs) (n - 1)) (relaxed_nodes q) ∙ sym (valued_at (q.nodes - 1) (let s = f.some_nodes in omega arith))

  cut_same : cut_of q xs left ≡ cut_now rx rs
  cut_same = ap₂ (cut rx) values_same loads_same

  weight_same : (r : ℕ) → r ≡ cut_weight (cut_of q xs left) → r ≡ weight_now rx rs
  weight_same r e = e ∙ ap cut_weight cut_same

  after_same : (r : ℕ) (after : List ℕ) → r ≡ cut_weight (cut_of q xs left) → take q.actions after ≡ left_after r (cut_of q xs left) → take q.actions after ≡ rest_now rx rs
  after_same r after e t = t ∙ ap₂ left_after (weight_same r e) cut_same

  pub rounding_dead : (buffer : List Ground) (tally : Tally) (round : ℕ) (records : List Ground) → Rounding q buffer left tally round records → get_or xs (q.nodes - 1) 0 ≡ infinite → Run q buffer records None
  rounding_dead buffer tally round records w e = record {
    tallied = ap tally_of over;
    written = λ t gs o. absurd (dead_found t gs (over ∙ o));
  }
    where
      over : Dead ≡ outcome rx
      over = sym (ap (noting w.done) (rounds_dead rx round tally.total rs (goal_is ∙ told_none _ e))) ∙ w.same

  pub rounding_over : (buffer : List Ground) (tally : Tally) (round : ℕ) (records : List Ground) → Rounding q buffer left tally round records
      → (get_or xs (q.nodes - 1) 0 ≡ infinite → ⊥) → (get_or xs (q.nodes - 1) 0 ≡ 0) ⊎ (cap ≤ tally.total) → Run q buffer records (Some tally)
  rounding_over buffer tally round records w ne h = record {
    tallied = ap (λ n. let a : Option Tally = Some (record { total = tally.total; records = n }) in a) w.counted ∙ ap tally_of over;
    written = λ t gs o. w.written ∙ ap (λ ds. laid ds buffer) (found_same tally.total t w.done gs (over ∙ o));
  }
    where
      over : Found tally.total w.done ≡ outcome rx
      over = ap (Found tally.total) (sym (append-nil w.done)) ∙ sym (ap (noting w.done) (rounds_over rx round tally.total rs (get_or xs (q.nodes - 1) 0) (goal_is ∙ told_some _ ne) h)) ∙ w.same

  modest_front : Modest left → (i : ℕ) → get_or rs i 0 ≤ most_left
  modest_front m i = ⊎_elim
      (λ h. let e = get_or-take q.actions left i 0 h in let b = m i in omega arith)
      (λ h. let e = get_or_past rs i 0 (let l = length-take q.actions left in omega arith) in omega arith)
      (cases_lt i q.actions)

  pub weight_small : (r : ℕ) → Modest left → r ≡ cut_weight (cut_of q xs left) → r ≤ heaviest
  weight_small r m e = subst (λ n. n ≤ heaviest) (sym (e ∙ ap cut_weight cut_same)) (cut_small rx (lack q) (fits_well q f) light rs (modest_front m))
    where
      light : (a : Action) → In a rx.actions → (x : Reach) → In x a.reaches → (l : ℕ) → l ≤ most_left → weight l x ≤ heaviest
      light a i x j l h = let s = action_edges q f a i x j in let p = mul-le x.short l 36000001 50400000 s.0 h in let d = div-le_self (x.short * l) x.gain in omega arith

  -- ---- a round

  module _ (ne : get_or xs (q.nodes - 1) 0 ≡ infinite → ⊥) (nz : get_or xs (q.nodes - 1) 0 ≡ 0 → ⊥) (r : ℕ) (after : List ℕ) (e : r ≡ cut_weight (cut_of q xs left)) (t : take q.actions after ≡ left_after r (cut_of q xs left)) where
    goal_some : value_at (worth rx rs) (goal rx) ≡ Some (get_or xs (q.nodes - 1) 0)
    goal_some = goal_is ∙ told_some _ ne

    pub rounding_less : rest_pairs q after < rest_pairs q left
    rounding_less = subst (λ ys. heavy_pairs rx.actions ys < heavy_pairs rx.actions rs) (sym (after_same r after e t)) (round_falls rx (lack q) (fits_well q f) rs (get_or xs (q.nodes - 1) 0) (omega arith) goal_some)

    abbrev crossing-at : ℕ → Crossing
    crossing-at i = get_or (cut_now rx rs) i no_crossing

    -- an action pays its charge
    paid_at : (i : ℕ) → i < q.actions → (get_or after i 0 ≤ get_or left i 0) × (get_or left i 0 - get_or after i 0 ≡ charge_of r (crossing-at i))
    paid_at i h =
        let n = relaxed_actions q in
        let a = sym (get_or-take q.actions after i 0 h) ∙ ap (λ ys. get_or ys i 0) (after_same r after e t) ∙ rest_at rx rs i (omega arith) in
        let b : get_or rs i 0 ≡ get_or left i 0 = get_or-take q.actions left i 0 h in
        let c = charge_at_within rx (lack q) (fits_well q f) rs i (omega arith) in
        let d : charge_of r (crossing-at i) ≡ charge_of (weight_now rx rs) (crossing-at i) = ap (λ m. charge_of m (crossing-at i)) (weight_same r e) in
        (omega arith, omega arith)

    -- an action is in the cut just where its charge is above 0
    crosses_at : (i : ℕ) → i < q.actions → crosses (crossing-at i).edges ≡ ltb 0 (charge_of r (crossing-at i))
    crosses_at i h =
        let n = relaxed_actions q in
        let l = length_cut rx rs in
        let c = crossing_is rx (lack q) (fits_well q f) rs (crossing-at i) (in_get_or (cut_now rx rs) i no_crossing (omega arith)) in
        crosses_charged r (crossing-at i).edges (subst (λ m. 1 ≤ m) (sym (weight_same r e)) (cut_positive rx (lack q) (fits_well q f) rs (get_or xs (q.nodes - 1) 0) (omega arith) goal_some)) (λ x j.
        let z = loaded_reach rx (lack q) (fits_well q f) rs c.0 c.1 x (c.3 x j) in
        ((let a = (fits_well q f).lacking x.node z.unmet in let b = z.lacks in omega arith), z.gains))

    module _ (long : q.actions ≤ length left) (too : q.actions ≤ length after) where
      length_front : length rs ≡ q.actions
      length_front = length-take-le q.actions left long

      -- what a turn of the inner loop reads
      pub paid_least : (n : ℕ) (p : Share) → (n < length (shares rs after)) × (p ≡ get_or (shares rs after) n p) → p.1.1 ≤ p.1.0
      paid_least n p s =
          let l = length_front in
          let h = share_at rs after n p (omega arith) s in
          let i : n < q.actions = let j = h.0 in omega arith in
          let x = h.1.0 in
          let y = h.1.1 in
          let a = (paid_at n i).0 in
          let b = get_or-take q.actions left n 0 i in omega arith

      -- the records of a round are those of its cut
      noted_cut : (k : ℕ) → flat_map (noted_at k r) (shares rs after) ≡ grounds_of k r 1 (cut_now rx rs)
      noted_cut k =
          let l = length_front in
          let a = relaxed_actions q in
          let b = length_cut rx rs in
          noted_all k r 0 rs after (cut_now rx rs) (omega arith) (omega arith) (λ i h.
          let j : i < q.actions = omega arith in
          record { paid = ap (λ n. n - get_or after i 0) (get_or-take q.actions left i 0 j) ∙ (paid_at i j).1; crossed = crosses_at i j })

      pub rounding_next : (buffer : List Ground) (tally : Tally) (round : ℕ) (records : List Ground) → Rounding q buffer left tally round records → tally.total < cap
          → (ps : List Share) (later : Tally) (noted : List Ground) → ps ≡ shares rs after → Noting round r ps records tally.records noted later.records → later.total ≡ tally.total
          → Rounding q buffer after (record { total = later.total + r; records = later.records }) (round + 1) noted
      rounding_next buffer tally round records w l ps later noted all n kept = record {
        done = w.done ++ fresh;
        same =
            ap₂ (λ gs o. noting (w.done ++ gs) o) (ap (flat_map (noted_at round r)) all ∙ noted_cut round ∙ ap (λ v. grounds_of round v 1 (cut_now rx rs)) (weight_same r e))
            (ap₂ (λ u ys. rounds_from rx (round + 1) u ys) (ap₂ ◌+◌ kept (weight_same r e)) (after_same r after e t))
            ∙ sym (noting_append w.done (grounds_of round (weight_now rx rs) 1 (cut_now rx rs)) (rounds_from rx (round + 1) (tally.total + weight_now rx rs) (rest_now rx rs)))
            ∙ ap (noting w.done) (sym (rounds_next rx round tally.total rs (lack q) (fits_well q f) (get_or xs (q.nodes - 1) 0) goal_some (omega arith) l))
            ∙ w.same;
        counted = (let a = n.counted in let b = w.counted in let c = length-append w.done fresh in omega arith);
        written = n.written w.done buffer w.counted w.written;
        rounds_few = (let a = rounding_less in let b = w.rounds_few in omega arith);
        records_few = (let a = n.few in let b = n.counted in let c = w.records_few in let d = ap length all in let g = length_front in let h = length-shares rs after (omega arith) in let i = f.few_actions in omega arith);
      }
        where
          fresh : List Ground
          fresh = flat_map (noted_at round r) ps
