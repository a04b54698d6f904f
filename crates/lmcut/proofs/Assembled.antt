-- A question that is prepared from a problem and a state keeps its limits, and its rounds are those of the problem and the state.
use Rattle.std.proofs.Common.{◌≡◌, ℕ, zero, suc, ◌+◌, ◌-◌, ◌<◌, ◌≤◌, Bool, true, false, cond, not, ◌&&◌, eqb, ltb, List, [], ◌∷◌, ◌++◌, map, length, get_or, take, nat_abs, Some, None, Option, sym, refl, ap, ◌∙◌, subst, ap₂, inl, inr, ⊎_elim, arith}
use Rattle.std.proofs.lemmas.List.{append-nil, get_or-take}
use Rattle.std.proofs.lemmas.Bool.{cases_lt, cases_eq, cond-true, cond-false, and_parts, not-true, eq-eqb, ne_eqb, lt-ltb, le-ltb, true≢false}
use Rattle.tables.specs.Chains.{chain}
use Rattle.tables.specs.Check.{accepted}
use Rattle.tables.specs.Problem.{Problem}
use Rattle.tables.specs.Rules.{Keeps}
use Rattle.tables.specs.declared.Condition.{Condition}
use Rattle.tables.specs.declared.Link.{Link}
use Rattle.tables.specs.declared.Move.{Move}
use Rattle.tables.proofs.Accepts.{decides_accepted}
use Rattle.task.specs.Meaning.{names}
use Rattle.task.specs.States.{fact_holds, condition_at, move_at, condition_holds, is_state}
use Rattle.task.specs.declared.state.State.{State}
use Rattle.task.proofs.Along.{move_keeps}
use Rattle.landmarks.specs.Laws.{In}
use Rattle.landmarks.specs.Relaxed.{Reach, Action, shortfall, raises, fact_reaches, condition_reaches, reaches_of, action_of, helper, node_count, nodes_hold, relaxed}
use Rattle.landmarks.specs.Rounds.{outcome}
use Rattle.landmarks.proofs.Orders.{in_get_or, map_in}
use Rattle.landmarks.proofs.Same.{SameSet, SameAction, SameActions, outcome_same}
use Rattle.landmarks.proofs.Shapes.{no_condition, need_inside, relaxed_fits}
use Rattle.landmarks.proofs.Sizes.{sizes_stand}
use Rattle.lmcut.specs.Prepared.{Word, gain_at, Row, Prepared}
use Rattle.lmcut.specs.Questions.{unit_edge, edge_at, bits_from, reach_of, with_edge, reaches_from, action_at, actions_from, relaxed_of, Fits}
use Rattle.lmcut.specs.declared.question.Edge.{Edge}
use Rattle.lmcut.specs.declared.question.Question.{Question}
use Rattle.lmcut.proofs.Prepared.{no_bit, bits_in, in_bits, in_reaches}

-- ---- lists

in_first : {X : Type 0} (xs ys : List X) (x : X) → In x xs → In x (xs ++ ys)
in_first [] ys x i = absurd i
in_first (y ∷ xs) ys x (inl e) = inl e
in_first (y ∷ xs) ys x (inr i) = inr (in_first xs ys x i)

in_second : {X : Type 0} (xs ys : List X) (x : X) → In x ys → In x (xs ++ ys)
in_second [] ys x i = i
in_second (y ∷ xs) ys x i = inr (in_second xs ys x i)

-- ---- reaches

with_both : (n : ℕ) (o : Option Edge) (xs ys : List Reach) → with_edge n o (xs ++ ys) ≡ with_edge n o xs ++ ys
with_both n None xs ys = refl
with_both n (Some e) xs ys = refl

with_cond : (b : Bool) (n : ℕ) (e f : Edge) (rest : List Reach) → (b ≡ true → e ≡ f) → with_edge n (cond b (Some e) None) rest ≡ cond b (reach_of n f ∷ rest) rest
with_cond true n e f rest h = ap (λ g. reach_of n g ∷ rest) (h refl)
with_cond false n e f rest h = refl

split : (q : Question) (a n k l : ℕ) → reaches_from q a n (k + l) ≡ reaches_from q a n k ++ reaches_from q a (n + k) l
unfolding reaches_from
split q a n zero l = let e : 0 + l ≡ l = omega arith in let f : n ≡ n + 0 = omega arith in ap₂ (λ j m. reaches_from q a m j) e f
split q a n (suc k) l =
    let e : suc k + l ≡ suc (k + l) = omega arith in
    let f : n + 1 + k ≡ n + suc k = omega arith in
    ap (reaches_from q a n) e
    ∙ ap (with_edge n (edge_at q a n)) (split q a (n + 1) k l ∙ ap (λ m. reaches_from q a (n + 1) k ++ reaches_from q a m l) f)
    ∙ with_both n (edge_at q a n) (reaches_from q a (n + 1) k) (reaches_from q a (n + suc k) l)

abbrev inner_edge : Question → ℕ → ℕ → Edge
inner_edge q a n = record { short = get_or q.shorts (n - q.facts) 0; gain = get_or (get_or q.gains a []) (n - q.facts) 0 }

edge_inner : (q : Question) (a n : ℕ) → (n + 1 ≡ q.nodes → ⊥) → edge_at q a n ≡ cond (fact_holds (get_or q.reach a 0) n) (cond (ltb n q.facts) (Some unit_edge) (Some (inner_edge q a n))) None
edge_inner q a n h = cond-false _ _ _ (ne_eqb (n + 1) q.nodes h)

edge_last : (q : Question) (a n : ℕ) → n + 1 ≡ q.nodes → edge_at q a n ≡ cond (eqb (a + 1) q.actions) (Some unit_edge) None
edge_last q a n h = cond-true _ _ _ (eq-eqb (n + 1) q.nodes h)

-- an action with an empty word reaches no inner node
empty_part : (q : Question) (a : ℕ) → get_or q.reach a 0 ≡ 0 → (n k : ℕ) → n + k + 1 ≤ q.nodes → reaches_from q a n k ≡ []
unfolding reaches_from
empty_part q a z n zero h = refl
empty_part q a z n (suc k) h =
    ap₂ (with_edge n)
    (edge_inner q a n (λ e. omega arith) ∙ cond-false _ _ _ (ap (λ w. fact_holds w n) z ∙ no_bit n))
    (empty_part q a z (n + 1) k (omega arith))

module _ (p : Problem) (s : State) (q : Question) (r : Prepared p s q) where
  abbrev P : ℕ
  P = p.head.facts

  abbrev C : ℕ
  C = length p.conditions

  abbrev M : ℕ
  M = length p.moves

  inner : (n : ℕ) → n < P + C → n + 1 ≡ q.nodes → ⊥
  inner n h e = let c = r.nodes in omega arith

  facts_part : (a : ℕ) (es : List Link) → Row p s es (get_or q.reach a 0) (get_or q.gains a []) → (n k : ℕ) → n + k ≤ P → reaches_from q a n k ≡ fact_reaches s.facts es n k
  unfolding reaches_from fact_reaches
  facts_part a es w n zero h = refl
  facts_part a es w n (suc k) h =
      let b : Bool = names 4 es n && not (fact_holds s.facts n) in
      let l : ltb n q.facts ≡ true = lt-ltb n q.facts (let c = r.facts in omega arith) in
      ap₂ (with_edge n)
      (edge_inner q a n (inner n (omega arith))
      ∙ ap₂ (λ x y. cond x (cond y (Some unit_edge) (Some (inner_edge q a n))) None) (w.facts n (omega arith)) l)
      (facts_part a es w (n + 1) k (omega arith))
      ∙ with_cond b n unit_edge unit_edge (fact_reaches s.facts es (n + 1) k) (λ _. refl)

  edge_is : (a : ℕ) (es : List Link) → Row p s es (get_or q.reach a 0) (get_or q.gains a []) → (c : ℕ) → c < C → (raises (gain_at p es c) && not (condition_holds p s (condition_at p (c + 1)))) ≡ true
      → inner_edge q a (P + c) ≡ record { short = shortfall p s (condition_at p (c + 1)); gain = nat_abs (gain_at p es c) }
  edge_is a es w c h t =
      let i : P + c - q.facts ≡ c = (let f = r.facts in omega arith) in
      let make : ℕ → ℕ → Edge = λ x y. record { short = x; gain = y } in
      ap₂ make
      (ap (λ j. get_or q.shorts j 0) i ∙ r.standing.lacks c h (not-true _ (and_parts _ _ t).1))
      (ap (λ j. get_or (get_or q.gains a []) j 0) i ∙ w.raised c h (w.conditions c h ∙ t))

  conditions_part : (a : ℕ) (es : List Link) → Row p s es (get_or q.reach a 0) (get_or q.gains a []) → (cs : List Condition) (c : ℕ) → c + length cs ≡ C → ((j : ℕ) → j < length cs → get_or cs j no_condition ≡ condition_at p (c + j + 1))
      → reaches_from q a (P + c) (length cs) ≡ condition_reaches p s es (P + c) cs
  unfolding reaches_from condition_reaches
  conditions_part a es w [] c l h = refl
  conditions_part a es w (d ∷ cs) c l h =
      let x = condition_at p (c + 1) in
      let b : Bool = raises (gain_at p es c) && not (condition_holds p s x) in
      let same : d ≡ x = (let e : c + 0 + 1 ≡ c + 1 = omega arith in h 0 (omega arith) ∙ ap (condition_at p) e) in
      let on : P + c + 1 ≡ P + (c + 1) = omega arith in
      let past : ltb (P + c) q.facts ≡ false = le-ltb (P + c) q.facts (let f = r.facts in omega arith) in
      let rest = condition_reaches p s es (P + c + 1) cs in
      ap₂ (with_edge (P + c))
      (edge_inner q a (P + c) (inner (P + c) (omega arith))
      ∙ ap₂ (λ y z. cond y (cond z (Some unit_edge) (Some (inner_edge q a (P + c)))) None) (w.conditions c (omega arith)) past)
      (ap (λ n. reaches_from q a n (length cs)) on
      ∙ conditions_part a es w cs (c + 1) (omega arith) (λ j i. let e : c + suc j + 1 ≡ c + 1 + j + 1 = omega arith in h (suc j) (omega arith) ∙ ap (condition_at p) e)
      ∙ ap (λ n. condition_reaches p s es n cs) (sym on))
      ∙ with_cond b (P + c) (inner_edge q a (P + c)) (record { short = shortfall p s x; gain = nat_abs (gain_at p es c) }) rest (edge_is a es w c (omega arith))
      ∙ ap (λ y. condition_reaches p s es (P + c) (y ∷ cs)) (sym same)

  last_part : (a : ℕ) → (o : Option Edge) → cond (eqb (a + 1) q.actions) (Some unit_edge) None ≡ o → reaches_from q a (0 + P + C) 1 ≡ with_edge (P + C) o []
  unfolding reaches_from
  last_part a o e =
      let z : 0 + P + C ≡ P + C = omega arith in
      ap (λ n. with_edge n (edge_at q a n) []) z ∙ ap (λ x. with_edge (P + C) x []) (edge_last q a (P + C) (let c = r.nodes in omega arith) ∙ e)

  parts : (a : ℕ) → reaches_from q a 0 q.nodes ≡ reaches_from q a 0 P ++ (reaches_from q a (0 + P) C ++ reaches_from q a (0 + P + C) 1)
  parts a =
      let e : q.nodes ≡ P + (C + 1) = (let c = r.nodes in omega arith) in
      ap (reaches_from q a 0) e ∙ split q a 0 P (C + 1) ∙ ap (λ xs. reaches_from q a 0 P ++ xs) (split q a (0 + P) C 1)

  move_reaches : (i : ℕ) → i < M → reaches_from q i 0 q.nodes ≡ reaches_of p s (chain p.links (move_at p (i + 1)).effects)
  move_reaches i h =
      let es = chain p.links (move_at p (i + 1)).effects in
      let w = r.rows i h in
      let no : cond (eqb (i + 1) q.actions) (Some unit_edge) None ≡ None = cond-false _ _ _ (ne_eqb (i + 1) q.actions (λ e. let m = r.actions in omega arith)) in
      let z : 0 + P ≡ P + 0 = omega arith in
      let y : P + 0 ≡ P = omega arith in
      parts i
      ∙ ap₂ ◌++◌ (facts_part i es w 0 P (omega arith))
      (ap₂ ◌++◌ (ap (λ n. reaches_from q i n C) z ∙ conditions_part i es w p.conditions 0 (omega arith) (λ j l. let e : j ≡ 0 + j + 1 - 1 = omega arith in ap (λ m. get_or p.conditions m no_condition) e) ∙ ap (λ n. condition_reaches p s es n p.conditions) y)
      (last_part i None no)
      ∙ append-nil (condition_reaches p s es P p.conditions))

  helper_reaches : reaches_from q M 0 q.nodes ≡ (helper p).reaches
  helper_reaches =
      let yes : cond (eqb (M + 1) q.actions) (Some unit_edge) None ≡ Some unit_edge = cond-true _ _ _ (eq-eqb (M + 1) q.actions (sym r.actions)) in
      let c = r.nodes in
      parts M
      ∙ ap₂ ◌++◌ (empty_part q M (r.no_reach M (omega arith)) 0 P (omega arith)) (ap₂ ◌++◌ (empty_part q M (r.no_reach M (omega arith)) (0 + P) C (omega arith)) (last_part M (Some unit_edge) yes))

  -- ---- needs

  word_same : (w : ℕ) (ns : List ℕ) → Word w ns → ((n : ℕ) → In n ns → n < P + C) → SameSet (bits_from w 0 (q.nodes - 1)) ns
  word_same w ns d h =
      let c = r.nodes in
      ((λ n i. d.only n (bits_in w 0 (q.nodes - 1) n i).0), (λ n i. in_bits w 0 (q.nodes - 1) n (d.set n i) (omega arith) (let l = h n i in omega arith)))

  -- ---- actions

  module _ (k : Keeps p) where
    move_same : (i : ℕ) → i < M → SameAction (action_at q i) (action_of p s (move_at p (i + 1)))
    move_same i h =
        let m = move_keeps p (i + 1) k (omega arith) (omega arith) in
        record { cost = r.costs i h; reaches = move_reaches i h; needs = word_same _ _ (r.needs i h) (need_inside p s (move_at p (i + 1)).needs m.needs) }

    helper_same : SameAction (action_at q M) (helper p)
    helper_same = record { cost = r.no_costs M (omega arith); reaches = helper_reaches; needs = word_same _ _ r.goal (need_inside p s p.head.goal k.goal) }

    all_same : (ms : List Move) (i : ℕ) → i + length ms ≡ M → ((j : ℕ) → j < length ms → get_or ms j (record { cost = lib.IntN.pos 0; needs = 0; effects = 0 }) ≡ move_at p (i + j + 1))
        → SameActions (actions_from q i (length ms + 1)) (map (action_of p s) ms ++ (helper p ∷ []))
    unfolding actions_from
    all_same [] i l h = (subst (λ j. SameAction (action_at q j) (helper p)) (let e : M ≡ i = omega arith in e) helper_same, tt)
    all_same (m ∷ ms) i l h =
        let e : i + 0 + 1 ≡ i + 1 = omega arith in
        let n : suc (length ms + 1) ≡ length (m ∷ ms) + 1 = omega arith in
        subst (λ x. SameActions (actions_from q i x) (map (action_of p s) (m ∷ ms) ++ (helper p ∷ []))) n (
          subst (λ x. SameAction (action_at q i) (action_of p s x)) (sym (h 0 (omega arith) ∙ ap (move_at p) e)) (move_same i (omega arith)),
          all_same ms (i + 1) (omega arith) (λ j g. let f : i + suc j + 1 ≡ i + 1 + j + 1 = omega arith in h (suc j) (omega arith) ∙ ap (move_at p) f),
        )

    actions_same : SameActions (actions_from q 0 q.actions) (map (action_of p s) p.moves ++ (helper p ∷ []))
    actions_same = subst (λ n. SameActions (actions_from q 0 n) (map (action_of p s) p.moves ++ (helper p ∷ []))) (sym r.actions)
        (all_same p.moves 0 (omega arith) (λ j g. let e : j ≡ 0 + j + 1 - 1 = omega arith in ap (λ m. get_or p.moves m (record { cost = lib.IntN.pos 0; needs = 0; effects = 0 })) e))

    pub prepared_outcome : outcome (relaxed_of q) ≡ outcome (relaxed p s)
    unfolding relaxed_of relaxed
    prepared_outcome = outcome_same (relaxed_of q) (relaxed p s) r.nodes (ap (λ n. take n q.holds) r.nodes ∙ r.standing.held) actions_same

  -- ---- limits

  bit_none : (w n : ℕ) → w ≡ 0 → fact_holds w n ≡ true → ⊥
  bit_none w n e h = true≢false (sym h ∙ ap (λ x. fact_holds x n) e ∙ no_bit n)

  row_inside : (a n : ℕ) → fact_holds (get_or q.reach a 0) n ≡ true → n < P + C
  row_inside a n h = ⊎_elim (λ l. (r.rows a l).inside n h) (λ l. absurd (bit_none (get_or q.reach a 0) n (r.no_reach a l) h)) (cases_lt a M)

  word_inside : Keeps p → (a n : ℕ) → fact_holds (get_or q.needs a 0) n ≡ true → n < P + C
  word_inside k a n h = ⊎_elim
      (λ l. need_inside p s (move_at p (a + 1)).needs (move_keeps p (a + 1) k (omega arith) (omega arith)).needs n ((r.needs a l).only n h))
      (λ l. ⊎_elim
      (λ e. need_inside p s p.head.goal k.goal n (r.goal.only n (subst (λ j. fact_holds (get_or q.needs j 0) n ≡ true) e h)))
      (λ e. absurd (bit_none (get_or q.needs a 0) n (r.no_needs a (omega arith)) h))
      (cases_eq a M))
      (cases_lt a M)

  record Acts (a : ℕ) : Type 0 where
    act : Action
    among : In act (relaxed p s).actions
    same : reaches_from q a 0 q.nodes ≡ act.reaches
    cost : get_or q.costs a 0 ≡ act.cost

  acts : (a : ℕ) → a < q.actions → Acts a
  unfolding relaxed
  acts a h = ⊎_elim
      (λ l. record {
        act = action_of p s (move_at p (a + 1));
        among = in_first (map (action_of p s) p.moves) (helper p ∷ []) _ (map_in (action_of p s) p.moves (move_at p (a + 1)) (in_get_or p.moves (a + 1 - 1) _ (omega arith)));
        same = move_reaches a l;
        cost = r.costs a l;
      })
      (λ l. let e : M ≡ a = (let m = r.actions in omega arith) in subst Acts e (record {
        act = helper p;
        among = in_second (map (action_of p s) p.moves) (helper p ∷ []) _ (inl refl);
        same = helper_reaches;
        cost = r.no_costs M (omega arith);
      }))
      (cases_lt a M)

  held_at : (n : ℕ) → n < node_count p → get_or (nodes_hold p s) n false ≡ get_or q.holds n false
  held_at n h = ap (λ hs. get_or hs n false) (sym r.standing.held) ∙ get_or-take (node_count p) q.holds n false h

  module _ (acc : accepted p ≡ true) (i : is_state p s ≡ true) where
    edge_small : (a n : ℕ) (e : Edge) → a < q.actions → n < q.nodes → edge_at q a n ≡ Some e → (1 ≤ e.short) × (e.short ≤ 36000001) × (1 ≤ e.gain) × (e.gain ≤ 32000000) × (get_or q.holds n false ≡ false)
    unfolding relaxed
    edge_small a n e ha hn t =
        let k = (decides_accepted p).0 acc in
        let z = sizes_stand p acc s i in
        let c = acts a ha in
        let j = subst (In (reach_of n e)) c.same (in_reaches q a 0 q.nodes n e t (omega arith) (omega arith)) in
        let f = (relaxed_fits p s k).reaches c.act c.among (reach_of n e) j in
        let u = f.unmet in (
          (let g = (relaxed_fits p s k).lacking n u in let y = f.lacks in omega arith),
          z.shorts c.act c.among (reach_of n e) j,
          f.gains,
          z.gainings c.act c.among (reach_of n e) j,
          sym (held_at n (let m = r.nodes in omega arith)) ∙ u,
        )

    cost_small : (a : ℕ) → get_or q.costs a 0 ≤ 10000
    cost_small a = ⊎_elim
        (λ h. let c = acts a h in let z = (sizes_stand p acc s i).costs c.act c.among in let y = c.cost in omega arith)
        (λ h. let z = r.no_costs a (let m = r.actions in omega arith) in omega arith)
        (cases_lt a q.actions)

    pub prepared_fits : Fits q
    unfolding relaxed
    prepared_fits =
        let k = (decides_accepted p).0 acc in
        let a = k.facts in
        let b = k.few_conditions in
        let c = k.few_moves in
        let f = r.facts in
        let n = r.nodes in
        let m = r.actions in
        record {
          some_nodes = omega arith;
          few_nodes = omega arith;
          facts_first = omega arith;
          few_facts = omega arith;
          few_conditions = omega arith;
          some_actions = omega arith;
          few_actions = omega arith;
          held_long = r.standing.long;
          costs_small = cost_small;
          helper_free = (let e : q.actions - 1 ≡ M = omega arith in ap (λ j. get_or q.reach j 0) e ∙ r.no_reach M (omega arith));
          reach_inside = λ j x h. let l = row_inside j x h in omega arith;
          needs_inside = λ j x h. let l = word_inside k j x h in omega arith;
          needs_past = λ j h. r.no_needs j (omega arith);
          reach_past = λ j h. r.no_reach j (omega arith);
          needing = r.needing;
          reaching = r.reaching;
          goal_open = (let e : q.nodes - 1 ≡ node_count p - 1 = omega arith in ap (λ j. get_or q.holds j false) e ∙ sym (held_at (node_count p - 1) (omega arith)) ∙ (relaxed_fits p s k).goal_unmet);
          edges_small = edge_small;
        }
