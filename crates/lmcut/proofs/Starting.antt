-- The nodes that hold, and the start zone.
use Rattle.std.proofs.Common.{◌≡◌, ℕ, zero, suc, ◌+◌, ◌-◌, ◌^◌, ◌<◌, ◌≤◌, Bool, true, false, not, ◌&&◌, ◌||◌, List, [], ◌∷◌, ◌++◌, length, get_or, take, set, Some, None, Option, sym, refl, ap, ◌∙◌, subst, ⊎_elim, arith, below_more}
use lib.Bits.{bit_and, bit_or, bit_xor}
use Rattle.std.proofs.lemmas.List.{get_or_past, get_or-set_same, get_or-set_other, get_or-take, length-set, length-take-le, length_push}
use Rattle.std.proofs.lemmas.Bool.{cases_lt, cases_Bool, eq-eqb, ne_eqb, and_parts, and_from, or_right, cond_both, not-true, true≢false}
use Rattle.task.specs.States.{fact_holds}
use Rattle.task.proofs.Words.{holds_or, holds_without, holds_power}
use Rattle.landmarks.specs.Laws.{In, StartClosed}
use Rattle.landmarks.specs.Relaxed.{Reach, Relaxed}
use Rattle.landmarks.specs.Rounds.{Edges, in_zone, starts, runs_to, led_to, start_zone}
use Rattle.landmarks.proofs.Zones.{runs_tells, led_tells, led_from, led_more, held_in, turns_closed, start_zone_only}
use Rattle.lmcut.specs.Drawn.{edges_at, edges_from, edges_in, zone_of, marked}
use Rattle.lmcut.specs.Questions.{edge_at, reach_of, reaches_from, relaxed_of, Fits}
use Rattle.lmcut.specs.Spreading.{Closed, Spreads, Stepped, joins, Joined}
use Rattle.lmcut.specs.declared.question.Edge.{Edge}
use Rattle.lmcut.specs.declared.question.Question.{Question}
use Rattle.lmcut.proofs.Closing.{Monotone, stepped_on, added, has_added, none≢some, from_edges, relaxed_nodes}
use Rattle.lmcut.proofs.Paying.{edges_in_from}
use Rattle.lmcut.proofs.Prepared.{reaches_in, in_reaches}
use Rattle.lmcut.proofs.Zoned.{zone_long, zone_at, zone_goal, zone_past, marked_starts, edge_none, edge_of}

-- ---- what an action adds

joins_monotone : (q : Question) (ss : List (Option ℕ)) (near : List Bool) → Monotone (joins q ss near)
joins_monotone q ss near y z s n t = let b = and_parts (not (in_zone near n)) (led_to (edges_in q [] ss) y n) t in and_from _ _ b.0 (led_more (edges_in q [] ss) y z s n b.1)

joins_edge : (q : Question) (ss : List (Option ℕ)) (near z : List Bool) (a n : ℕ) (e : Edge) → a < q.actions → n < q.nodes → starts z (get_or ss a None) ≡ true → edge_at q a n ≡ Some e → in_zone near n ≡ false → joins q ss near z n ≡ true
joins_edge q ss near z a n e h k s t f =
    and_from _ _ (ap not f) (led_from (edges_in q [] ss) z (edges_at q [] ss a) (reach_of n e) (edges_in_from q [] ss 0 q.actions a (omega arith) (omega arith)) s (in_reaches q a 0 q.nodes n e t (omega arith) (omega arith)))

edge_some : (q : Question) (a n : ℕ) → n + 1 < q.nodes → fact_holds (get_or q.reach a 0) n ≡ true → (e : Edge) × (edge_at q a n ≡ Some e)
edge_some q a n h t = cond_both _ _ _ (λ o. edge_at q a n ≡ o → (e : Edge) × (edge_at q a n ≡ Some e)) (λ _ i. (_, i)) (λ _ i. (_, i)) (edge_of q a n h t)

module _ (q : Question) (ss : List (Option ℕ)) (near a w : ℕ) (some : 1 ≤ q.nodes) (action : a < q.actions) (source : (n : ℕ) → get_or ss a None ≡ Some n → n + 1 < q.nodes) where
  -- the goal zone
  abbrev goals : List Bool
  goals = zone_of q true near

  abbrev reach : ℕ
  reach = get_or q.reach a 0

  -- what it reaches outside the goal zone
  abbrev new : ℕ
  new = bit_xor reach (bit_and reach near)

  begins : (b : Bool) → marked w (get_or ss a None) ≡ b → starts (zone_of q false w) (get_or ss a None) ≡ b
  begins b e = sym (marked_starts q false w some (get_or ss a None) source) ∙ e

  pub joined_not : marked w (get_or ss a None) ≡ false → Joined q ss goals a (zone_of q false w)
  joined_not e s = absurd (true≢false (sym s ∙ begins false e))

  pub joined_added : marked w (get_or ss a None) ≡ true → Stepped q false (joins q ss goals) (Joined q ss goals a) w (bit_or w new)
  joined_added t = added q false (joins q ss goals) (Joined q ss goals a) (joins_monotone q ss goals) some w new pass all
    where
      pass : (n : ℕ) → n + 1 < q.nodes → fact_holds new n ≡ true → joins q ss goals (zone_of q false w) n ≡ true
      pass n h b =
          let c = and_parts (fact_holds reach n) (not (fact_holds near n)) (sym (holds_without reach near n) ∙ b) in
          let e = edge_some q a n h c.0 in
          joins_edge q ss goals (zone_of q false w) a n e.0 action (omega arith) (begins true t) e.1 (zone_at q true near some n h ∙ not-true (fact_holds near n) c.1)

      all : bit_or w new ≡ w → Joined q ss goals a (zone_of q false w)
      all e s n x h i f = ⊎_elim
          (λ k.
          let r : fact_holds reach n ≡ true = ⊎_elim (λ b. b) (λ b. absurd (none≢some x (sym (edge_none q a n k b) ∙ i))) (cases_Bool (fact_holds reach n)) in
          let b = holds_without reach near n ∙ and_from _ _ r (ap not (sym (zone_at q true near some n k) ∙ f)) in
          zone_at q false w some n k ∙ has_added w new n e b)
          (λ k. let o : n ≡ q.nodes - 1 = omega arith in absurd (true≢false (sym (zone_goal q true near some) ∙ ap (in_zone goals) (sym o) ∙ f)))
          (cases_lt (n + 1) q.nodes)

abbrev pub JoinedAll : Question → List (Option ℕ) → List Bool → ℕ → List Bool → Type 0
JoinedAll q ss near i z = (a : ℕ) → a < i → Joined q ss near a z

-- one action more, after a list of those before
pub joined_next : (q : Question) (ss : List (Option ℕ)) (near from w v : ℕ) {X : Type 0} (xs : List X) (x : X)
    → Stepped q false (joins q ss (zone_of q true near)) (JoinedAll q ss (zone_of q true near) (length xs)) from w
    → Stepped q false (joins q ss (zone_of q true near)) (Joined q ss (zone_of q true near) (length xs)) w v
    → Stepped q false (joins q ss (zone_of q true near)) (JoinedAll q ss (zone_of q true near) (length (xs ++ (x ∷ [])))) from v
joined_next q ss near from w v xs x s t =
    let goals = zone_of q true near in
    let i = length xs in
    subst (λ k. Stepped q false (joins q ss goals) (JoinedAll q ss goals k) from v) (sym (length_push xs x))
    (stepped_on q false (joins q ss goals) (JoinedAll q ss goals i) (Joined q ss goals i) (JoinedAll q ss goals (i + 1)) from w v s t (λ l m. below_more (λ a. Joined q ss goals a (zone_of q false v)) i l m))

record Joining (q : Question) (ss : List (Option ℕ)) (near z : List Bool) (n : ℕ) : Type 0 where
  action : ℕ
  inside : action < q.actions
  begins : starts z (get_or ss action None) ≡ true
  edge : Edge
  node : n < q.nodes
  there : edge_at q action n ≡ Some edge
  outer : in_zone near n ≡ false

joins_tells : (q : Question) (ss : List (Option ℕ)) (near z : List Bool) (n : ℕ) → joins q ss near z n ≡ true → Joining q ss near z n
joins_tells q ss near z n t =
    let b = and_parts (not (in_zone near n)) (led_to (edges_in q [] ss) z n) t in
    let e = led_tells (edges_in q [] ss) z n b.1 in
    let f = from_edges q [] ss 0 q.actions e.0 e.1 in
    let x = runs_tells e.0.reaches n e.3 in
    let r = reaches_in q f.0 0 q.nodes x.0 (subst (λ (w : Edges). In x.0 w.reaches) (sym f.3) x.1) in
    let m = f.2 in
    let k = r.3 in
    let same : r.0 ≡ n = ap (λ (y : Reach). y.node) r.4 ∙ x.2 in
    record {
      action = f.0;
      inside = omega arith;
      begins = ap (λ (w : Edges). starts z w.source) f.3 ∙ e.2;
      edge = r.1;
      node = omega arith;
      there = ap (edge_at q f.0) (sym same) ∙ r.2;
      outer = not-true (in_zone near n) b.0;
    }

pub joined_closed : (q : Question) (ss : List (Option ℕ)) (near : List Bool) (i : ℕ) (z : List Bool) → q.actions ≤ i → JoinedAll q ss near i z → Closed (joins q ss near) q.nodes z
joined_closed q ss near i z h l n _ t =
    let j = joins_tells q ss near z n t in
    let m = j.inside in
    l j.action (omega arith) j.begins n j.edge j.node j.there j.outer

-- ---- the nodes that hold

pub record Holding (hs : List Bool) (i : ℕ) (z : List Bool) : Type 0 where
  pub long : length z ≡ 129
  pub done : (k : ℕ) → k < i → in_zone z k ≡ in_zone hs k
  pub rest : (k : ℕ) → i ≤ k → in_zone z k ≡ false

pub holding_step : (hs : List Bool) (i : ℕ) (z : List Bool) → i < 129 → Holding hs i z → Holding hs (i + 1) (set z i (in_zone hs i))
holding_step hs i z h w = record {
  long = length-set z i _ ∙ w.long;
  done = below_more (λ k. in_zone (set z i (in_zone hs i)) k ≡ in_zone hs k) i
      (λ k l. get_or-set_other z i k _ false (λ e. omega arith) ∙ w.done k l)
      (get_or-set_same z i _ false (let l = w.long in omega arith));
  rest = λ k l. get_or-set_other z i k _ false (λ e. omega arith) ∙ w.rest k (omega arith);
}

-- of the nodes below i, a word has those that hold, and no other
pub record Marking (hs : List Bool) (i w : ℕ) : Type 0 where
  pub done : (k : ℕ) → k < i → fact_holds w k ≡ in_zone hs k
  pub rest : (k : ℕ) → i ≤ k → fact_holds w k ≡ false

pub marking_set : (hs : List Bool) (i w : ℕ) → in_zone hs i ≡ true → Marking hs i w → Marking hs (i + 1) (bit_or w (2 ^ i))
marking_set hs i w t m = record {
  done = below_more (λ k. fact_holds (bit_or w (2 ^ i)) k ≡ in_zone hs k) i (λ k h. other k (λ e. omega arith) ∙ m.done k h) (holds_or w (2 ^ i) i ∙ or_right (fact_holds w i) _ (holds_power i i ∙ eq-eqb i i refl) ∙ sym t);
  rest = λ k h. other k (λ e. omega arith) ∙ m.rest k (omega arith);
}
  where
    other : (k : ℕ) → (i ≡ k → ⊥) → fact_holds (bit_or w (2 ^ i)) k ≡ fact_holds w k
    other k ne = holds_or w (2 ^ i) k ∙ ap (λ b. fact_holds w k || b) (holds_power i k ∙ ne_eqb i k ne) ∙ or_false (fact_holds w k)
      where
        or_false : (b : Bool) → (b || false) ≡ b
        or_false true = refl
        or_false false = refl

pub marking_skip : (hs : List Bool) (i w : ℕ) → in_zone hs i ≡ false → Marking hs i w → Marking hs (i + 1) w
marking_skip hs i w t m = record {
  done = below_more (λ k. fact_holds w k ≡ in_zone hs k) i m.done (m.rest i (omega arith) ∙ sym t);
  rest = λ k h. m.rest k (omega arith);
}

pub marking_end : (q : Question) (i w : ℕ) → Fits q → q.nodes - 1 ≤ i → Marking q.holds i w → (k : ℕ) → in_zone (zone_of q false w) k ≡ in_zone (take q.nodes q.holds) k
marking_end q i w fits h m k = ⊎_elim
    (λ l. zone_at q false w s k l ∙ m.done k (omega arith) ∙ sym (get_or-take q.nodes q.holds k false (omega arith)))
    (λ l. ⊎_elim
    (λ n. let e : k ≡ q.nodes - 1 = omega arith in subst (λ j. in_zone (zone_of q false w) j ≡ in_zone (take q.nodes q.holds) j) (sym e) (zone_goal q false w s ∙ sym (get_or-take q.nodes q.holds (q.nodes - 1) false (omega arith) ∙ fits.goal_open)))
    (λ n. zone_past q false w s k n ∙ sym (get_or_past (take q.nodes q.holds) k false (let e = length-take-le q.nodes q.holds (let a = fits.held_long in let b = fits.few_nodes in omega arith) in omega arith)))
    (cases_lt k q.nodes))
    (cases_lt (k + 1) q.nodes)
  where
    s : 1 ≤ q.nodes
    s = fits.some_nodes

-- ---- the start zone

led_same : (q : Question) (rs : List ℕ) (ss : List (Option ℕ)) (s k : ℕ) (z : List Bool) (n : ℕ) → led_to (edges_from q rs ss s k) z n ≡ led_to (edges_from q [] ss s k) z n
unfolding led_to edges_from
led_same q rs ss s zero z n = refl
led_same q rs ss s (suc k) z n = ap (λ b. (starts z (get_or ss s None) && runs_to (reaches_from q s 0 q.nodes) n) || b) (led_same q rs ss (s + 1) k z n)

relaxed_holds : (q : Question) → (relaxed_of q).holds ≡ take q.nodes q.holds
unfolding relaxed_of
relaxed_holds q = refl

module _ (q : Question) (ss : List (Option ℕ)) (near : List Bool) (w₀ w : ℕ) (fits : Fits q) (first : (i : ℕ) → in_zone (zone_of q false w₀) i ≡ in_zone (take q.nodes q.holds) i)
    (spreads : Spreads (joins q ss near) q.nodes (zone_of q false w₀) (zone_of q false w)) (closed : Closed (joins q ss near) q.nodes (zone_of q false w)) (rs : List ℕ) where
  abbrev rx : Relaxed
  rx = relaxed_of q

  abbrev es : List Edges
  es = edges_in q rs ss

  long : length rx.holds ≡ rx.nodes
  long = ap length (relaxed_holds q) ∙ length-take-le q.nodes q.holds (let l = fits.held_long in let f = fits.few_nodes in omega arith) ∙ sym (relaxed_nodes q)

  first_is : (i : ℕ) → in_zone (zone_of q false w₀) i ≡ in_zone rx.holds i
  first_is i = first i ∙ ap (λ y. in_zone y i) (sym (relaxed_holds q))

  led_is : (y : List Bool) (n : ℕ) → led_to es y n ≡ led_to (edges_in q [] ss) y n
  led_is y n = led_same q rs ss 0 q.actions y n

  -- the start zone is closed
  inner : Closed (joins q ss near) q.nodes (start_zone rx es near)
  unfolding start_zone
  inner n h t = turns_closed (λ y m. not (in_zone near m) && led_to es y m) rx.nodes rx.holds long n (let e = relaxed_nodes q in omega arith) (ap (λ b. not (in_zone near n) && b) (led_is _ n) ∙ t)

  shut : StartClosed rx es near (zone_of q false w)
  shut = record {
    long = zone_long q false w fits.some_nodes ∙ sym (relaxed_nodes q);
    begins = λ n e. spreads.keeps n (first_is n ∙ e);
    closed = λ n h f t. closed n (let e = relaxed_nodes q in omega arith) (and_from _ _ (ap not f) (sym (led_is (zone_of q false w) n) ∙ t));
  }

  pub start_zone_is : (i : ℕ) → in_zone (zone_of q false w) i ≡ in_zone (start_zone rx es near) i
  start_zone_is i = ap (λ z. in_zone z i) (start_zone_only rx es near long (zone_of q false w) shut
      (spreads.within (start_zone rx es near) inner (λ n e. held_in rx es near long n (sym (first_is n) ∙ e))))
