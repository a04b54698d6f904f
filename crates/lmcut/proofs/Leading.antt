-- The nodes that lead to a node by edges of weight 0, and the goal zone, which fresh nodes join one by one.
use Rattle.std.proofs.Common.{◌≡◌, ℕ, ◌+◌, ◌-◌, ◌*◌, ◌/◌, ◌%◌, ◌^◌, ◌<◌, ◌≤◌, Bool, true, false, cond, not, ◌&&◌, ◌||◌, eqb, ltb, List, [], get_or, Some, None, Option, sym, refl, ap, ◌∙◌, subst, ap₂, ⊎_elim, one-mul, arith, MatchOption}
use lib.Bits.{bit_and, bit_or, bit_xor, or_disjoint}
use lib.Count.{count_trailing_zeros}
use Rattle.std.proofs.lemmas.Nat.{pow_pos, le-div, shr-shr}
use Rattle.std.proofs.lemmas.Bool.{cases_lt, cases_Bool, eq-eqb, ne_eqb, eqb-true, lt-ltb, le-ltb, and_parts, or_cases, or_left, or_right, true≢false, false≢true}
use Rattle.task.specs.States.{fact_holds}
use Rattle.task.proofs.Words.{holds_or, holds_power, holds_without}
use Rattle.landmarks.specs.Relaxed.{Reach}
use Rattle.landmarks.specs.Rounds.{weight, in_zone, leads_in, goal_zone}
use Rattle.landmarks.proofs.Zones.{weightless_tells, weightless_from, leads_more}
use Rattle.lmcut.specs.Bitwise.{Lowest, holds_action, ActionStep}
use Rattle.lmcut.specs.Drawn.{edges_in, zone_of, Placed}
use Rattle.lmcut.specs.Questions.{unit_edge, edge_at, reach_of, reaches_from, relaxed_of, Fits}
use Rattle.lmcut.specs.Spreading.{Spreads, Leads, Leading, Sources}
use Rattle.lmcut.specs.declared.question.Edge.{Edge}
use Rattle.lmcut.specs.declared.question.Question.{Question}
use Rattle.lmcut.proofs.Bitwise.{ActionsLeft, actions_start, actions_step, actions_end, lowest_taken}
use Rattle.lmcut.proofs.Closing.{spreads_on, added, none≢some, weightless_zero, leads_source, led_closed, goal_zone_is}
use Rattle.lmcut.proofs.Prepared.{no_bit, no_bits, below_power, apart, reaches_in, in_reaches}
use Rattle.lmcut.proofs.Zoned.{zone_at, zone_goal, zone_past, edge_none, edge_of, edge_goal, edge_goal_none}

-- ---- the nodes that lead to a node

module _ (q : Question) (rs : List ℕ) (ss : List (Option ℕ)) (m : ℕ) where
  pub sources_none : (k : ℕ) → Sources q rs ss m k k 0
  sources_none k = record { only = λ n t. absurd (false≢true (sym (no_bit n) ∙ t)); all = λ n l x y. absurd (omega arith) }

  pub sources_or : (a b c w v : ℕ) → Sources q rs ss m a b w → Sources q rs ss m b c v → Sources q rs ss m a c (bit_or w v)
  sources_or a b c w v s t = record {
    only = λ n h. ⊎_elim (λ o. s.only n o) (λ o. t.only n o) (or_cases (fact_holds w n) (fact_holds v n) (sym (holds_or w v n) ∙ h));
    all = λ n l x y. holds_or w v n ∙ ⊎_elim (λ h. or_left (fact_holds w n) (fact_holds v n) (s.all n l x h)) (λ h. or_right (fact_holds w n) (fact_holds v n) (t.all n l h y)) (cases_lt l.action b);
  }

  -- a range is followed by actions without an edge to the node
  pub sources_past : (a b c w : ℕ) → ((k : ℕ) → b ≤ k → k < c → edge_at q k m ≡ None) → Sources q rs ss m a b w → Sources q rs ss m a c w
  sources_past a b c w none s = record {
    only = s.only;
    all = λ n l x y. ⊎_elim (λ h. s.all n l x h) (λ h. absurd (none≢some l.edge (sym (none l.action h y) ∙ l.is))) (cases_lt l.action b);
  }

  -- actions without an edge to the node come before a range
  pub sources_before : (a b c w : ℕ) → ((k : ℕ) → k < b → edge_at q k m ≡ None) → Sources q rs ss m b c w → Sources q rs ss m a c w
  sources_before a b c w none s = record {
    only = s.only;
    all = λ n l x y. ⊎_elim (λ h. absurd (none≢some l.edge (sym (none l.action h) ∙ l.is))) (λ h. s.all n l h y) (cases_lt l.action b);
  }

  -- no action is past the last
  pub sources_all : (a c w : ℕ) → Sources q rs ss m a q.actions w → Sources q rs ss m a c w
  sources_all a c w s = record { only = s.only; all = λ n l x y. s.all n l x l.inside }

  pub lead_one : (a n : ℕ) (e : Edge) → a < q.actions → get_or ss a None ≡ Some n → edge_at q a m ≡ Some e → e.short * get_or rs a 0 < e.gain → Sources q rs ss m a (a + 1) (2 ^ n)
  lead_one a n e h s i l = record {
    only = λ k t. subst (Leading q rs ss m) (eqb-true n k (sym (holds_power n k) ∙ t)) (record { action = a; inside = h; source = s; edge = e; is = i; light = l });
    all = λ k g x y.
        let same : a ≡ g.action = omega arith in
        subst (λ o. MatchOption o ⊥ (λ j. fact_holds (2 ^ n) j ≡ true)) (sym s ∙ ap (λ b. get_or ss b None) same ∙ g.source) (holds_power n n ∙ eq-eqb n n refl);
  }

-- an action that reaches the node
module _ (q : Question) (rs : List ℕ) (ss : List (Option ℕ)) (m a : ℕ) (f : Fits q) (reached : fact_holds (get_or q.reach a 0) m ≡ true) where
  has_edge : (e : Edge) × (edge_at q a m ≡ Some e)
  has_edge =
      let p = pick (ltb m q.facts) unit_edge (record { short = get_or q.shorts (m - q.facts) 0; gain = get_or (get_or q.gains a []) (m - q.facts) 0 }) in
      (p.0, edge_of q a m (f.reach_inside a m reached) reached ∙ p.1)
    where
      pick : (b : Bool) (x y : Edge) → (e : Edge) × (cond b (Some x) (Some y) ≡ Some e)
      pick true x y = (x, refl)
      pick false x y = (y, refl)

  pub lead_light : (n : ℕ) → a < q.actions → get_or ss a None ≡ Some n → ((e : Edge) → edge_at q a m ≡ Some e → true ≡ ltb (e.short * get_or rs a 0) e.gain) → Sources q rs ss m a (a + 1) (2 ^ n)
  lead_light n h s l =
      let p = has_edge in
      let e = p.0 in
      let r = get_or rs a 0 in
      lead_one q rs ss m a n e h s p.1 (⊎_elim (λ x. x) (λ x. absurd (true≢false (l e p.1 ∙ le-ltb (e.short * r) e.gain x))) (cases_lt (e.short * r) e.gain))

-- the goal node: an edge of the helper alone
module _ (q : Question) (rs : List ℕ) (ss : List (Option ℕ)) (f : Fits q) where
  last_only : (a w : ℕ) → a + 1 ≡ q.actions → Sources q rs ss (q.nodes - 1) a (a + 1) w → Sources q rs ss (q.nodes - 1) 0 384 w
  last_only a w h s = sources_all q rs ss (q.nodes - 1) 0 384 w (sources_before q rs ss (q.nodes - 1) 0 a q.actions w
      (λ k l. edge_goal_none q k f.some_nodes (λ e. omega arith))
      (subst (λ k. Sources q rs ss (q.nodes - 1) a k w) h s))

  pub last_one : (a n : ℕ) → a + 1 ≡ q.actions → get_or ss a None ≡ Some n → get_or rs a 0 ≡ 0 → Sources q rs ss (q.nodes - 1) 0 384 (2 ^ n)
  last_one a n h s z = last_only a (2 ^ n) h (lead_one q rs ss (q.nodes - 1) a n unit_edge (omega arith) s (edge_goal q a f.some_nodes h) (omega arith))

-- ---- the actions that reach a node

-- the actions before the next that reaches the node
pub record Finding (q : Question) (rs : List ℕ) (ss : List (Option ℕ)) (m : ℕ) (vs : List ℕ) (w : ℕ) : Type 0 where
  pub at : ℕ
  pub coming : ActionsLeft (get_or q.reaching m []) at vs
  pub sources : Sources q rs ss m 0 at w

module _ (q : Question) (rs : List ℕ) (ss : List (Option ℕ)) (m : ℕ) where
  pub finding_start : (vs : List ℕ) → vs ≡ get_or q.reaching m [] → Finding q rs ss m vs 0
  finding_start vs e = record { at = 0; coming = actions_start _ vs e; sources = sources_none q rs ss m 0 }

  module _ (f : Fits q) (inside : m + 1 < q.nodes) (vs : List ℕ) (w : ℕ) (g : Finding q rs ss m vs w) where
    -- an action of the node's set is one that reaches it
    reach_bit : (a : ℕ) → a < 384 → fact_holds (get_or q.reach a 0) m ≡ holds_action (get_or q.reaching m []) a
    reach_bit a h = let n = f.few_nodes in sym (f.reaching m a (omega arith) h)

    found_to : (j : ℕ) → j ≤ 384 → ((i : ℕ) → g.at ≤ i → i < j → holds_action (get_or q.reaching m []) i ≡ false) → Sources q rs ss m 0 j w
    found_to j h none = sources_past q rs ss m 0 g.at j w (λ k x y. edge_none q k m inside (reach_bit k (omega arith) ∙ none k x y)) g.sources

    module _ (a : ℕ) (us : List ℕ) (s : ActionStep vs (Some a) us) where
      pub finding_reached : fact_holds (get_or q.reach a 0) m ≡ true
      finding_reached = let c = actions_step _ g.at vs a us g.coming s in reach_bit a c.inside ∙ c.set

      pub finding_inside : a < q.actions
      finding_inside = ⊎_elim (λ l. l) (λ l. absurd (true≢false (sym finding_reached ∙ ap (λ x. fact_holds x m) (f.reach_past a l) ∙ no_bit m))) (cases_lt a q.actions)

      pub finding_more : (x : ℕ) → Sources q rs ss m a (a + 1) x → Finding q rs ss m us (bit_or w x)
      finding_more x t =
          let c = actions_step _ g.at vs a us g.coming s in
          let l = c.inside in
          record { at = a + 1; coming = c.rest; sources = sources_or q rs ss m 0 a (a + 1) w x (found_to a (omega arith) c.none) t }

    pub finding_end : (us : List ℕ) → ActionStep vs None us → Sources q rs ss m 0 384 w
    finding_end us s = found_to 384 (omega arith) (λ i x y. actions_end _ g.at vs us g.coming s i x)

-- ---- the goal zone

pub lowest : (w : ℕ) → 0 < w → w < 2 ^ 128 → Lowest w (count_trailing_zeros 128 w)
lowest w p h = (lowest_taken w p h).0

-- a word is as small as its bits
bits_below : (k w : ℕ) → ((m : ℕ) → fact_holds w m ≡ true → m < k) → w < 2 ^ k
bits_below k w h = ⊎_elim (λ l. l) (λ l. absurd (let z = none in let o = le-div 1 w (2 ^ k) (pow_pos k) (let e = one-mul (2 ^ k) in omega arith) in omega arith)) (cases_lt w (2 ^ k))
  where
    clear : (m : ℕ) → k ≤ m → fact_holds w m ≡ false
    clear m l = ⊎_elim (λ t. absurd (let b = h m t in omega arith)) (λ t. t) (cases_Bool (fact_holds w m))

    none : w / 2 ^ k ≡ 0
    none = no_bits (w / 2 ^ k) (w / 2 ^ k) (below_power (w / 2 ^ k)) (λ m. ap (λ x. eqb (x % 2) 1) (shr-shr w k m) ∙ clear (k + m) (omega arith))

-- nodes that have joined the zone, and fresh ones: together they are of the goal zone, and what leads to the goal node or to a node that has joined is among them
pub record Taking (q : Question) (rs : List ℕ) (ss : List (Option ℕ)) (zone fresh : ℕ) : Type 0 where
  pub whole : ℕ
  pub parts : (m : ℕ) → fact_holds whole m ≡ (fact_holds zone m || fact_holds fresh m)
  pub spreads : Spreads (leads_in (edges_in q rs ss)) q.nodes (zone_of q true 0) (zone_of q true whole)
  pub inside : (m : ℕ) → fact_holds whole m ≡ true → m + 1 < q.nodes
  pub apart : (m : ℕ) → fact_holds fresh m ≡ true → fact_holds zone m ≡ false
  pub goal : (n : ℕ) → Leading q rs ss (q.nodes - 1) n → fact_holds whole n ≡ true
  pub taken : (m n : ℕ) → fact_holds zone m ≡ true → Leading q rs ss m n → fact_holds whole n ≡ true

module _ (q : Question) (rs : List ℕ) (ss : List (Option ℕ)) (f : Fits q) where
  abbrev g : List Bool → ℕ → Bool
  g = leads_in (edges_in q rs ss)

  some : 1 ≤ q.nodes
  some = f.some_nodes

  few : (n m : ℕ) (l : Leading q rs ss m n) → l.action < 384
  few n m l = let x = l.inside in let y = f.few_actions in omega arith

  -- what leads to a node of a zone passes the test
  leading_on : (z : List Bool) (m n : ℕ) → m < q.nodes → Leading q rs ss m n → in_zone z m ≡ true → g z n ≡ true
  leading_on z m n h l t =
      let a = l.action in
      let e = l.edge in
      let r = get_or rs a 0 in
      let b = f.edges_small a m e l.inside h l.is in
      leads_source q rs ss z a n l.inside l.source
      (weightless_from z r (reaches_from q a 0 q.nodes) (reach_of m e) (in_reaches q a 0 q.nodes m e l.is (omega arith) (omega arith))
      (eqb-true (weight r (reach_of m e)) 0 (weightless_zero (e.short * r) e.gain b.2 ∙ lt-ltb (e.short * r) e.gain l.light)) t)

  joined : (w v : ℕ) → ((n : ℕ) → n + 1 < q.nodes → fact_holds v n ≡ true → g (zone_of q true w) n ≡ true) → Spreads g q.nodes (zone_of q true w) (zone_of q true (bit_or w v))
  joined w v pass = (added q true g (λ _. Unit {0}) (leads_more (edges_in q rs ss)) some w v pass (λ _. tt)).spreads

  module _ (placed : Placed q ss) where
    source_inside : (m n : ℕ) → Leading q rs ss m n → n + 1 < q.nodes
    source_inside m n l = placed l.action n l.inside l.source

    pub taking_start : (fresh : ℕ) → Sources q rs ss (q.nodes - 1) 0 384 fresh → Taking q rs ss 0 fresh
    taking_start fresh s = record {
      whole = bit_or 0 fresh;
      parts = holds_or 0 fresh;
      spreads = joined 0 fresh (λ n h t. let o = some in leading_on (zone_of q true 0) (q.nodes - 1) n (omega arith) (s.only n t) (zone_goal q true 0 some));
      inside = λ m t. ⊎_elim (λ o. absurd (false≢true (sym (no_bit m) ∙ o))) (λ o. source_inside _ m (s.only m o)) (or_cases (fact_holds 0 m) (fact_holds fresh m) (sym (holds_or 0 fresh m) ∙ t));
      apart = λ m t. no_bit m;
      goal = λ n l. holds_or 0 fresh n ∙ or_right (fact_holds 0 n) (fact_holds fresh n) (s.all n l (omega arith) (few n _ l));
      taken = λ m n t l. absurd (false≢true (sym (no_bit m) ∙ t));
    }

    module _ (zone fresh : ℕ) (t : Taking q rs ss zone fresh) where
      inside_small : (m : ℕ) → (fact_holds zone m || fact_holds fresh m) ≡ true → m < 128
      inside_small m o = let h = t.inside m (t.parts m ∙ o) in let k = f.few_nodes in omega arith

      pub taking_small : fresh < 2 ^ 128
      taking_small = bits_below 128 fresh (λ m o. inside_small m (or_right (fact_holds zone m) (fact_holds fresh m) o))

      pub taking_room : zone < 2 ^ 128
      taking_room = bits_below 128 zone (λ m o. inside_small m (or_left (fact_holds zone m) (fact_holds fresh m) o))

      module _ (n : ℕ) (here : fact_holds fresh n ≡ true) where
        there : fact_holds t.whole n ≡ true
        there = t.parts n ∙ or_right (fact_holds zone n) (fact_holds fresh n) here

        pub taking_inside : n + 1 < q.nodes
        taking_inside = t.inside n there

        pub taking_grows : zone < bit_or zone (2 ^ n)
        taking_grows =
            let own : (m : ℕ) → fact_holds zone m ≡ true → fact_holds (2 ^ n) m ≡ false = λ m h. holds_power n m ∙ ne_eqb n m (λ e. true≢false (sym h ∙ ap (fact_holds zone) (sym e) ∙ t.apart n here)) in
            let sum = or_disjoint zone (2 ^ n) (apart zone (2 ^ n) own) in
            let p = pow_pos n in
            omega arith

        pub taking_more : (found : ℕ) → Sources q rs ss n 0 384 found → Taking q rs ss (bit_or zone (2 ^ n)) (bit_xor (bit_or fresh found) (bit_and (bit_or fresh found) (bit_or zone (2 ^ n))))
        taking_more found s = record {
          whole = bit_or w found;
          parts = λ m. holds_or w found m ∙ ap (λ b. b || fact_holds found m) (t.parts m) ∙ bools (fact_holds zone m) (fact_holds (2 ^ n) m) (fact_holds fresh m) (fact_holds found m) (λ e. subst (λ k. fact_holds fresh k ≡ true) (power m e) here) ∙ sym (both m);
          spreads = spreads_on g q.nodes (zone_of q true 0) (zone_of q true w) (zone_of q true (bit_or w found)) t.spreads
              (joined w found (λ m h o. let i = taking_inside in leading_on (zone_of q true w) n m (omega arith) (s.only m o) (zone_at q true w some n i ∙ there)));
          inside = λ m o. ⊎_elim (λ x. t.inside m x) (λ x. source_inside n m (s.only m x)) (or_cases (fact_holds w m) (fact_holds found m) (sym (holds_or w found m) ∙ o));
          apart = λ m o. off (fact_holds (bit_or zone (2 ^ n)) m) (and_parts (fact_holds (bit_or fresh found) m) (not (fact_holds (bit_or zone (2 ^ n)) m)) (sym (holds_without (bit_or fresh found) (bit_or zone (2 ^ n)) m) ∙ o)).1;
          goal = λ m l. more m (t.goal m l);
          taken = λ m k o l. ⊎_elim (λ x. more k (t.taken m k x l)) (λ x. holds_or w found k ∙ or_right (fact_holds w k) (fact_holds found k) (known k (subst (λ i. Leading q rs ss i k) (sym (power m x)) l)))
              (or_cases (fact_holds zone m) (fact_holds (2 ^ n) m) (sym (holds_or zone (2 ^ n) m) ∙ o));
        }
          where
            w : ℕ
            w = t.whole

            more : (m : ℕ) → fact_holds w m ≡ true → fact_holds (bit_or w found) m ≡ true
            more m x = holds_or w found m ∙ or_left (fact_holds w m) (fact_holds found m) x

            known : (k : ℕ) → Leading q rs ss n k → fact_holds found k ≡ true
            known k l = s.all k l (omega arith) (few k n l)

            power : (m : ℕ) → fact_holds (2 ^ n) m ≡ true → n ≡ m
            power m e = eqb-true n m (sym (holds_power n m) ∙ e)

            off : (b : Bool) → not b ≡ true → b ≡ false
            off true e = absurd (false≢true e)
            off false e = refl

            bools : (z p x y : Bool) → (p ≡ true → x ≡ true) → ((z || x) || y) ≡ ((z || p) || ((x || y) && not (z || p)))
            bools true p x y h = refl
            bools false true x y h = ap (λ b. b || y) (h refl)
            bools false false true y h = refl
            bools false false false true h = refl
            bools false false false false h = refl

            both : (m : ℕ) → (fact_holds (bit_or zone (2 ^ n)) m || fact_holds (bit_xor (bit_or fresh found) (bit_and (bit_or fresh found) (bit_or zone (2 ^ n)))) m)
                ≡ ((fact_holds zone m || fact_holds (2 ^ n) m) || ((fact_holds fresh m || fact_holds found m) && not (fact_holds zone m || fact_holds (2 ^ n) m)))
            both m = ap₂ (λ x y. x || y) (holds_or zone (2 ^ n) m)
                (holds_without (bit_or fresh found) (bit_or zone (2 ^ n)) m ∙ ap₂ (λ x y. x && not y) (holds_or fresh found m) (holds_or zone (2 ^ n) m))

      pub taking_end : fresh ≡ 0 → (i : ℕ) → in_zone (zone_of q true zone) i ≡ in_zone (goal_zone (relaxed_of q) (edges_in q rs ss)) i
      taking_end e i = same i ∙ goal_zone_is q rs ss w some t.spreads (led_closed q rs ss q.actions z (omega arith) led) i
        where
          w : ℕ
          w = t.whole

          z : List Bool
          z = zone_of q true w

          drop : (b : Bool) → (b || false) ≡ b
          drop true = refl
          drop false = refl

          bits : (m : ℕ) → fact_holds w m ≡ fact_holds zone m
          bits m = t.parts m ∙ ap (λ b. fact_holds zone m || b) (ap (λ x. fact_holds x m) e ∙ no_bit m) ∙ drop (fact_holds zone m)

          same : (j : ℕ) → in_zone (zone_of q true zone) j ≡ in_zone (zone_of q true w) j
          same j = ⊎_elim
              (λ h. zone_at q true zone some j h ∙ sym (bits j) ∙ sym (zone_at q true w some j h))
              (λ h. ⊎_elim
              (λ k. let o : j ≡ q.nodes - 1 = omega arith in subst (λ x. in_zone (zone_of q true zone) x ≡ in_zone (zone_of q true w) x) (sym o) (zone_goal q true zone some ∙ sym (zone_goal q true w some)))
              (λ k. zone_past q true zone some j k ∙ sym (zone_past q true w some j k))
              (cases_lt j q.nodes))
              (cases_lt (j + 1) q.nodes)

          light : (a m : ℕ) (x : Edge) → a < q.actions → m < q.nodes → edge_at q a m ≡ Some x → weight (get_or rs a 0) (reach_of m x) ≡ 0 → x.short * get_or rs a 0 < x.gain
          light a m x h k s o =
              let r = get_or rs a 0 in
              ⊎_elim (λ l. l) (λ l. absurd (true≢false (sym (eq-eqb (weight r (reach_of m x)) 0 o) ∙ weightless_zero (x.short * r) x.gain (f.edges_small a m x h k s).2 ∙ le-ltb (x.short * r) x.gain l))) (cases_lt (x.short * r) x.gain)

          into : (m n : ℕ) → m < q.nodes → Leading q rs ss m n → in_zone z m ≡ true → fact_holds w n ≡ true
          into m n h l o = ⊎_elim
              (λ k. t.taken m n (sym (bits m) ∙ sym (zone_at q true w some m k) ∙ o) l)
              (λ k. let b : m ≡ q.nodes - 1 = omega arith in t.goal n (subst (λ x. Leading q rs ss x n) b l))
              (cases_lt (m + 1) q.nodes)

          led : (a : ℕ) → a < q.actions → Leads q rs ss a z
          led a h n s o =
              let x = weightless_tells z (get_or rs a 0) (reaches_from q a 0 q.nodes) o in
              let y = reaches_in q a 0 q.nodes x.0 x.1 in
              let m = y.0 in
              let below = y.3 in
              let k : m < q.nodes = omega arith in
              let l : Leading q rs ss m n = record { action = a; inside = h; source = s; edge = y.1; is = y.2; light = light a m y.1 h k y.2 (ap (weight (get_or rs a 0)) y.4 ∙ x.2) } in
              let there = into m n k l (ap (λ (p : Reach). in_zone z p.node) y.4 ∙ x.3) in
              zone_at q true w some n (t.inside n there) ∙ there
