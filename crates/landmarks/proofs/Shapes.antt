-- The relaxed task of an accepted problem and a state is well formed.
use Rattle.std.proofs.Common.{◌≡◌, ℕ, zero, suc, ◌+◌, ◌-◌, ◌<◌, ◌≤◌, Bool, true, false, cond, not, ◌&&◌, eqb, List, [], ◌∷◌, ◌++◌, map, length, get_or, replicate, ℤ, pos, ◌-ℤ◌, nat_abs, sym, refl, ap, ◌∙◌, subst, inl, ⊎_elim, zero-add, arith}
use lib.Signed.{le_z}
use Rattle.std.proofs.lemmas.Int.{ints}
use Rattle.std.proofs.lemmas.List.{get_or-map, length-map, length-append, length-replicate, get_or_append_left, get_or-append_right, get_or_past, get_or-replicate}
use Rattle.std.proofs.lemmas.Bool.{cases_lt, cases_eq, and_parts, not-true, cond_both, eqb-true, eqb-false}
use Rattle.tables.specs.Chains.{chain}
use Rattle.task.specs.Meaning.{names}
use Rattle.tables.specs.Problem.{Problem}
use Rattle.tables.specs.Rules.{LinkFits, ChainKeeps, MoveKeeps, Keeps}
use Rattle.task.specs.States.{fact_holds, mark, total, condition_holds}
use Rattle.task.specs.declared.state.State.{State}
use Rattle.tables.specs.declared.Condition.{Condition}
use Rattle.tables.specs.declared.Link.{Link}
use Rattle.tables.specs.declared.Role.TheVariants.{Needs}
use Rattle.tables.proofs.Accepts.{decides_accepted, decides_int_le}
use Rattle.task.proofs.Along.{keeps_fit}
use Rattle.landmarks.specs.Relaxed.{Reach, Action, shortfall, gain_of, node_of, needs_of, fact_reaches, raises, condition_reaches, reaches_of, action_of, helper, facts_hold, nodes_hold, relaxed}
use Rattle.landmarks.specs.Rounds.{in_zone}
use Rattle.landmarks.specs.Laws.{In, ReachFits, WellFormed, RelaxedFits}
use Rattle.landmarks.proofs.Orders.{all_in, in_map}
use Rattle.landmarks.proofs.Totals.{in_append}

abbrev pub no_condition : Condition
no_condition = record { kind = 0; bound = pos 0; terms = 0 }

-- ---- a list with a place for each node

module _ {X : Type 0} (fs : List X) (f : Condition → X) (last : X) (cs : List Condition) where
  abbrev pub by_node : List X
  by_node = fs ++ (map f cs ++ (last ∷ []))

  pub by_node_long : length by_node ≡ length fs + length cs + 1
  by_node_long = length-append fs (map f cs ++ (last ∷ [])) ∙ (let a = length-append (map f cs) (last ∷ []) in let b = length-map cs f in omega arith)

  pub by_fact : (d : X) (k : ℕ) → k < length fs → get_or by_node k d ≡ get_or fs k d
  by_fact d k h = get_or_append_left fs (map f cs ++ (last ∷ [])) d k h

  pub by_condition : (d : X) (j : ℕ) → j < length cs → get_or by_node (length fs + j) d ≡ f (get_or cs j no_condition)
  by_condition d j h =
      let e : length fs + j - length fs ≡ j = omega arith in
      let m = length-map cs f in
      get_or-append_right fs (map f cs ++ (last ∷ [])) (length fs) (length fs + j) d refl (omega arith)
      ∙ ap (λ i. get_or (map f cs ++ (last ∷ [])) i d) e ∙ get_or_append_left (map f cs) (last ∷ []) d j (omega arith) ∙ get_or-map f cs j no_condition d h

  pub by_goal : (d : X) → get_or by_node (length fs + length cs) d ≡ last
  by_goal d =
      let e : length fs + length cs - length fs ≡ length cs = omega arith in
      let z : length cs - length cs ≡ 0 = omega arith in
      get_or-append_right fs (map f cs ++ (last ∷ [])) (length fs) (length fs + length cs) d refl (omega arith)
      ∙ ap (λ i. get_or (map f cs ++ (last ∷ [])) i d) e ∙ get_or-append_right (map f cs) (last ∷ []) (length cs) (length cs) d (length-map cs f) (omega arith) ∙ ap (λ i. get_or (last ∷ []) i d) z

  pub by_past : (d : X) (n : ℕ) → length fs + length cs < n → get_or by_node n d ≡ d
  by_past d n h = get_or_past by_node n d (let l = by_node_long in omega arith)

-- a node is a fact, a condition, the goal or none
pub data Place (facts conditions n : ℕ) : Type 0 where
  is_fact : n < facts → Place facts conditions n
  is_condition : (j : ℕ) → j < conditions → n ≡ facts + j → Place facts conditions n
  is_goal : n ≡ facts + conditions → Place facts conditions n
  is_none : facts + conditions < n → Place facts conditions n

pub place : (facts conditions n : ℕ) → Place facts conditions n
place f c n = ⊎_elim is_fact (λ h. ⊎_elim (λ l. is_condition (n - f) (omega arith) (omega arith)) (λ l. ⊎_elim is_goal (λ ne. is_none (omega arith)) (cases_eq n (f + c))) (cases_lt n (f + c))) (cases_lt n f)

-- ---- which nodes hold

pub length_facts : (w k n : ℕ) → length (facts_hold w k n) ≡ n
unfolding facts_hold
length_facts w k zero = refl
length_facts w k (suc n) = ap suc (length_facts w (k + 1) n)

pub facts_at : (w k n i : ℕ) → i < n → get_or (facts_hold w k n) i false ≡ fact_holds w (k + i)
unfolding facts_hold
facts_at w k zero i h = absurd (omega arith)
facts_at w k (suc n) zero h = let e : k ≡ k + 0 = omega arith in ap (fact_holds w) e
facts_at w k (suc n) (suc i) h = let e : k + 1 + i ≡ k + suc i = omega arith in facts_at w (k + 1) n i (omega arith) ∙ ap (fact_holds w) e

-- the shortfall of each node
abbrev pub shorts : Problem → State → ℕ → ℕ
shorts p s n = get_or (replicate p.head.facts 1 ++ (map (shortfall p s) p.conditions ++ (1 ∷ []))) n 1

abbrev pub condition_of : Problem → ℕ → Condition
condition_of p j = get_or p.conditions j no_condition

module _ (p : Problem) (s : State) where
  abbrev P : ℕ
  P = p.head.facts

  abbrev C : ℕ
  C = length p.conditions

  same_facts : length (facts_hold s.facts 0 P) ≡ P
  same_facts = length_facts s.facts 0 P

  same_shorts : length {A = ℕ} (replicate P 1) ≡ P
  same_shorts = length-replicate P 1

  pub holds_long : length (nodes_hold p s) ≡ P + C + 1
  holds_long = by_node_long (facts_hold s.facts 0 P) (condition_holds p s) false p.conditions ∙ ap (λ n. n + C + 1) same_facts

  pub holds_fact : (k : ℕ) → k < P → in_zone (nodes_hold p s) k ≡ fact_holds s.facts k
  holds_fact k h = by_fact (facts_hold s.facts 0 P) (condition_holds p s) false p.conditions false k (let l = same_facts in omega arith) ∙ facts_at s.facts 0 P k h ∙ ap (fact_holds s.facts) (zero-add k)

  pub holds_condition : (j : ℕ) → j < C → in_zone (nodes_hold p s) (P + j) ≡ condition_holds p s (condition_of p j)
  holds_condition j h = ap (λ n. in_zone (nodes_hold p s) (n + j)) (sym same_facts) ∙ by_condition (facts_hold s.facts 0 P) (condition_holds p s) false p.conditions false j h

  pub holds_goal : in_zone (nodes_hold p s) (P + C) ≡ false
  holds_goal = ap (λ n. in_zone (nodes_hold p s) (n + C)) (sym same_facts) ∙ by_goal (facts_hold s.facts 0 P) (condition_holds p s) false p.conditions false

  pub short_fact : (k : ℕ) → k < P → shorts p s k ≡ 1
  short_fact k h = by_fact (replicate P 1) (shortfall p s) 1 p.conditions 1 k (let l = same_shorts in omega arith) ∙ get_or-replicate P k 1 1 h

  pub short_condition : (j : ℕ) → j < C → shorts p s (P + j) ≡ shortfall p s (condition_of p j)
  short_condition j h = ap (λ n. shorts p s (n + j)) (sym same_shorts) ∙ by_condition (replicate P 1) (shortfall p s) 1 p.conditions 1 j h

  pub short_goal : shorts p s (P + C) ≡ 1
  short_goal = ap (λ n. shorts p s (n + C)) (sym same_shorts) ∙ by_goal (replicate P 1) (shortfall p s) 1 p.conditions 1

  pub short_past : (n : ℕ) → P + C < n → shorts p s n ≡ 1
  short_past n h = by_past (replicate P 1) (shortfall p s) 1 p.conditions 1 n (let l = same_shorts in omega arith)

-- a condition that does not hold lacks something
pub lacks_some : (p : Problem) (s : State) (c : Condition) → condition_holds p s c ≡ false → 1 ≤ shortfall p s c
unfolding condition_holds
lacks_some p s c e =
    let m = mark c in
    let t = total (chain p.links c.terms) s in
    go m t e
  where
    go : (m t : ℤ) → le_z m t ≡ false → 1 ≤ nat_abs (m -ℤ t)
    go m t e = grind (arith, ints)

-- ---- what actions reach

pub record FactReach (w : ℕ) (es : List Link) (k n : ℕ) (x : Reach) : Type 0 where
  pub from : k ≤ x.node
  pub below : x.node < k + n
  pub unmet : fact_holds w x.node ≡ false
  pub sets : names 4 es x.node ≡ true
  pub short : x.short ≡ 1
  pub gain : x.gain ≡ 1

pub fact_reach : (w : ℕ) (es : List Link) (k n : ℕ) (x : Reach) → In x (fact_reaches w es k n) → FactReach w es k n x
unfolding fact_reaches
fact_reach w es k zero x i = absurd i
fact_reach w es k (suc n) x i = go (names 4 es k && not (fact_holds w k)) refl i (λ j. fact_reach w es (k + 1) n x j)
  where
    on : FactReach w es (k + 1) n x → FactReach w es k (suc n) x
    on r = let a = r.from in let b = r.below in record { from = omega arith; below = omega arith; unmet = r.unmet; sets = r.sets; short = r.short; gain = r.gain }

    go : (b : Bool) → (names 4 es k && not (fact_holds w k)) ≡ b → In x (cond b (record { node = k; short = 1; gain = 1 } ∷ fact_reaches w es (k + 1) n) (fact_reaches w es (k + 1) n))
        → (In x (fact_reaches w es (k + 1) n) → FactReach w es (k + 1) n x) → FactReach w es k (suc n) x
    go true t j ih = ⊎_elim
        (λ e. let b = and_parts (names 4 es k) (not (fact_holds w k)) t in
        subst (FactReach w es k (suc n)) e (record { from = omega arith; below = omega arith; unmet = not-true (fact_holds w k) b.1; sets = b.0; short = refl; gain = refl }))
        (λ q. on (ih q)) j
    go false t j ih = on (ih j)

pub record ConditionReach (p : Problem) (s : State) (es : List Link) (n : ℕ) (cs : List Condition) (x : Reach) : Type 0 where
  pub place : ℕ
  pub inside : place < length cs
  pub node : x.node ≡ n + place
  pub unmet : condition_holds p s (get_or cs place no_condition) ≡ false
  pub short : x.short ≡ shortfall p s (get_or cs place no_condition)
  pub gain : x.gain ≡ nat_abs (gain_of (chain p.links (get_or cs place no_condition).terms) es)
  pub rises : raises (gain_of (chain p.links (get_or cs place no_condition).terms) es) ≡ true

pub condition_reach : (p : Problem) (s : State) (es : List Link) (n : ℕ) (cs : List Condition) (x : Reach) → In x (condition_reaches p s es n cs) → ConditionReach p s es n cs x
unfolding condition_reaches
condition_reach p s es n [] x i = absurd i
condition_reach p s es n (c ∷ cs) x i = go (raises g && not (condition_holds p s c)) refl i (λ j. condition_reach p s es (n + 1) cs x j)
  where
    g : ℤ
    g = gain_of (chain p.links c.terms) es

    on : ConditionReach p s es (n + 1) cs x → ConditionReach p s es n (c ∷ cs) x
    on r = let a = r.inside in let b = r.node in record { place = suc r.place; inside = omega arith; node = omega arith; unmet = r.unmet; short = r.short; gain = r.gain; rises = r.rises }

    go : (b : Bool) → (raises g && not (condition_holds p s c)) ≡ b → In x (cond b (record { node = n; short = shortfall p s c; gain = nat_abs g } ∷ condition_reaches p s es (n + 1) cs) (condition_reaches p s es (n + 1) cs))
        → (In x (condition_reaches p s es (n + 1) cs) → ConditionReach p s es (n + 1) cs x) → ConditionReach p s es n (c ∷ cs) x
    go true t j ih = ⊎_elim
        (λ e. let b = and_parts (raises g) (not (condition_holds p s c)) t in
        subst (ConditionReach p s es n (c ∷ cs)) e (record { place = 0; inside = omega arith; node = omega arith; unmet = not-true (condition_holds p s c) b.1; short = refl; gain = refl; rises = b.0 }))
        (λ q. on (ih q)) j
    go false t j ih = on (ih j)

rises_some : (g : ℤ) → raises g ≡ true → 1 ≤ nat_abs g
rises_some g e = let h = (decides_int_le (pos 1) g).0 e in omega (arith, ints)

module _ (p : Problem) (s : State) where
  reach_fits : (es : List Link) (x : Reach) → In x (reaches_of p s es) → ReachFits (relaxed p s) (shorts p s) x
  unfolding relaxed
  reach_fits es x i = ⊎_elim
      (λ j.
      let r = fact_reach s.facts es 0 p.head.facts x j in
      let h : x.node < p.head.facts = (let b = r.below in omega arith) in
      record { inside = omega arith; unmet = holds_fact p s x.node h ∙ r.unmet; lacks = r.short ∙ sym (short_fact p s x.node h); gains = (let g = r.gain in omega arith) })
      (λ j.
      let r = condition_reach p s es p.head.facts p.conditions x j in
      let l = r.inside in
      let n = r.node in
      record {
        inside = omega arith;
        unmet = ap (in_zone (nodes_hold p s)) n ∙ holds_condition p s r.place l ∙ r.unmet;
        lacks = r.short ∙ sym (short_condition p s r.place l) ∙ ap (shorts p s) (sym n);
        gains = (let g = r.gain in let a = rises_some (gain_of (chain p.links (condition_of p r.place).terms) es) r.rises in omega arith);
      })
      (in_append (fact_reaches s.facts es 0 p.head.facts) (condition_reaches p s es p.head.facts p.conditions) x i)

  helper_fits : (x : Reach) → In x (helper p).reaches → ReachFits (relaxed p s) (shorts p s) x
  unfolding relaxed
  helper_fits x i = ⊎_elim
      (λ e. subst (ReachFits (relaxed p s) (shorts p s)) e (record { inside = omega arith; unmet = holds_goal p s; lacks = sym (short_goal p s); gains = omega arith }))
      (λ j. absurd j) i

  pub need_inside : (k : ℕ) → ChainKeeps p Needs k → (n : ℕ) → In n (needs_of p k) → n < p.head.facts + length p.conditions
  need_inside k c n i =
      let l = in_map (node_of p) (chain p.links k) n i in
      let f = all_in (LinkFits p Needs) (chain p.links k) l.0 (keeps_fit p Needs k c) l.1 in
      subst (λ m. m < p.head.facts + length p.conditions) l.2
      (cond_both (eqb l.0.kind 2) l.0.subject (p.head.facts + l.0.subject - 1) (λ m. m < p.head.facts + length p.conditions)
      (λ e. let h = f.1.fact (inl (eqb-true _ _ e)) in omega arith)
      (λ e. let h = f.1.condition (⊎_elim (λ q. absurd (eqb-false _ _ e q)) (λ q. q) f.1.kind) in let a = h.0 in let b = h.1 in omega arith))

  lacking : (n : ℕ) → in_zone (nodes_hold p s) n ≡ false → 1 ≤ shorts p s n
  lacking n e = go (place p.head.facts (length p.conditions) n)
    where
      go : Place p.head.facts (length p.conditions) n → 1 ≤ shorts p s n
      go (is_fact h) = let a = short_fact p s n h in omega arith
      go (is_condition j h q) =
          let a : shorts p s n ≡ shortfall p s (condition_of p j) = ap (shorts p s) q ∙ short_condition p s j h in
          let b = lacks_some p s (condition_of p j) (sym (holds_condition p s j h) ∙ ap (in_zone (nodes_hold p s)) (sym q) ∙ e) in
          omega arith
      go (is_goal q) = let a : shorts p s n ≡ 1 = ap (shorts p s) q ∙ short_goal p s in omega arith
      go (is_none h) = let a = short_past p s n h in omega arith

  pub relaxed_fits : Keeps p → WellFormed (relaxed p s) (shorts p s)
  unfolding relaxed
  relaxed_fits k =
      record {
        some_node = omega arith;
        long = holds_long p s;
        goal_unmet = (let e : p.head.facts + length p.conditions + 1 - 1 ≡ p.head.facts + length p.conditions = omega arith in ap (in_zone (nodes_hold p s)) e ∙ holds_goal p s);
        lacking = lacking;
        needs = λ a i n j. ⊎_elim
            (λ m. let r = in_map (action_of p s) p.moves a m in let w = all_in (MoveKeeps p) p.moves r.0 k.moves r.1 in
            let l = need_inside r.0.needs w.needs n (subst (λ (b : Action). In n b.needs) (sym r.2) j) in omega arith)
            (λ m. ⊎_elim (λ e. let l = need_inside p.head.goal k.goal n (subst (λ (b : Action). In n b.needs) (sym e) j) in omega arith) (λ z. absurd z) m)
            (in_append (map (action_of p s) p.moves) (helper p ∷ []) a i);
        reaches = λ a i x j. ⊎_elim
            (λ m. let r = in_map (action_of p s) p.moves a m in reach_fits (chain p.links r.0.effects) x (subst (λ (b : Action). In x b.reaches) (sym r.2) j))
            (λ m. ⊎_elim (λ e. helper_fits x (subst (λ (b : Action). In x b.reaches) (sym e) j)) (λ z. absurd z) m)
            (in_append (map (action_of p s) p.moves) (helper p ∷ []) a i);
      }

pub all_fit : RelaxedFits
all_fit p acc s = (shorts p s, relaxed_fits p s ((decides_accepted p).0 acc))
