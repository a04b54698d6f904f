-- Plans are runs of the relaxed task: what holds after a list of moves is covered by them.
use Rattle.std.proofs.Common.{◌≡◌, ℕ, zero, suc, ◌+◌, ◌-◌, ◌<◌, ◌≤◌, Bool, true, false, cond, not, ◌&&◌, eqb, ◌⊎◌, List, [], ◌∷◌, ◌++◌, map, length, get_or, ℤ, pos, negsuc, ◌+ℤ◌, ◌-ℤ◌, ◌*ℤ◌, neg_ℤ, nat_abs, ◌≤ℤ◌, Some, None, fold, Option, sym, refl, ap, ◌∙◌, subst, ap₂, inl, inr, ⊎_elim, arith}
use lib.IntN.{+ℤ_assoc, +ℤ_idr, +ℤ-suc_ℤ, +ℤ-pred_ℤ, suc_ℤ-*ℤ, pred_ℤ-*ℤ, zero-*ℤ, *ℤ_comm}
use lib.Signed.{le_z}
use Rattle.std.specs.List.{AllByRecursion}
use Rattle.std.proofs.ByRecursion.{All-weaker}
use Rattle.std.proofs.lemmas.Int.{ints}
use Rattle.std.proofs.lemmas.List.{get_or-map, length-map, get_or_append_left, get_or-append_right, length-append}
use Rattle.std.proofs.lemmas.Bool.{cases_Bool, and_parts, and_from, or_cases, not_from_false, cond-true, cond-false, eqb-true, eqb-false, eq-eqb, ne_eqb}
use Rattle.tables.specs.Chains.{chain}
use Rattle.task.specs.Meaning.{names, change, effects_of, Follows}
use Rattle.task.specs.Plans.{and_then, after}
use Rattle.tables.specs.Problem.{Problem}
use Rattle.tables.specs.Rules.{LinkFits, ConditionKeeps, Keeps}
use Rattle.task.specs.States.{fact_holds, value_of, mark, add_term, total, condition_holds, condition_at, need_holds, all_hold, goal_holds, is_state, move_at, allowed, result_of}
use Rattle.task.specs.declared.state.State.{State}
use Rattle.tables.specs.declared.Condition.{Condition}
use Rattle.tables.specs.declared.Link.{Link}
use Rattle.tables.specs.declared.Role.TheVariants.{Terms, Needs}
use Rattle.tables.proofs.Accepts.{decides_int_le}
use Rattle.task.proofs.Along.{keeps_fit, term_of}
use Rattle.tables.proofs.Checked.{under_some}
use Rattle.task.proofs.Keep.{moves_mean}
use Rattle.landmarks.specs.Relaxed.{Reach, Action, shortfall, add_gain, gain_of, node_of, fact_reaches, raises, condition_reaches, reaches_of, action_of, helper, relaxed}
use Rattle.landmarks.specs.Laws.{In}
use Rattle.landmarks.proofs.Orders.{all_in, in_map}
use Rattle.landmarks.proofs.Runs.{no_action, action_at, gain_to, credit, Covered, Ready, RunFrom, CoveredAfter}
use Rattle.landmarks.proofs.Shapes.{no_condition, shorts, condition_of, holds_fact, holds_condition, short_fact, short_condition, short_goal, fact_reach}

-- ---- whole numbers: a product with a sum

distribute_pos : (a : ℤ) (n : ℕ) (c : ℤ) → (a +ℤ pos n) *ℤ c ≡ a *ℤ c +ℤ pos n *ℤ c
distribute_pos a zero c = ap (λ z. z *ℤ c) (+ℤ_idr a) ∙ sym (ap (λ z. a *ℤ c +ℤ z) (zero-*ℤ c) ∙ +ℤ_idr (a *ℤ c))
distribute_pos a (suc n) c =
    ap (λ z. z *ℤ c) (+ℤ-suc_ℤ a (pos n)) ∙ suc_ℤ-*ℤ (a +ℤ pos n) c ∙ ap (λ z. z +ℤ c) (distribute_pos a n c)
    ∙ +ℤ_assoc (a *ℤ c) (pos n *ℤ c) c ∙ ap (λ z. a *ℤ c +ℤ z) (sym (suc_ℤ-*ℤ (pos n) c))

distribute_neg : (a : ℤ) (n : ℕ) (c : ℤ) → (a +ℤ negsuc n) *ℤ c ≡ a *ℤ c +ℤ negsuc n *ℤ c
distribute_neg a zero c =
    ap (λ z. z *ℤ c) (+ℤ-pred_ℤ a (pos zero)) ∙ pred_ℤ-*ℤ (a +ℤ pos zero) c ∙ ap (λ z. z -ℤ c) (distribute_pos a zero c)
    ∙ +ℤ_assoc (a *ℤ c) (pos zero *ℤ c) (neg_ℤ c) ∙ ap (λ z. a *ℤ c +ℤ z) (sym (pred_ℤ-*ℤ (pos zero) c))
distribute_neg a (suc n) c =
    ap (λ z. z *ℤ c) (+ℤ-pred_ℤ a (negsuc n)) ∙ pred_ℤ-*ℤ (a +ℤ negsuc n) c ∙ ap (λ z. z -ℤ c) (distribute_neg a n c)
    ∙ +ℤ_assoc (a *ℤ c) (negsuc n *ℤ c) (neg_ℤ c) ∙ ap (λ z. a *ℤ c +ℤ z) (sym (pred_ℤ-*ℤ (negsuc n) c))

distribute : (a b c : ℤ) → (a +ℤ b) *ℤ c ≡ a *ℤ c +ℤ b *ℤ c
distribute a (pos n) c = distribute_pos a n c
distribute a (negsuc n) c = distribute_neg a n c

-- ---- the sum after effects is the sum before and their gain

sum_from : (t u : State) (es ls : List Link) (a b : ℤ) → AllByRecursion (λ l. value_of u l.subject ≡ value_of t l.subject +ℤ change es l.subject) ls
    → fold (add_term u) (a +ℤ b) ls ≡ fold (add_term t) a ls +ℤ fold (add_gain es) b ls
sum_from t u es [] a b h = refl
sum_from t u es (l ∷ ls) a b h =
    let w = l.amount in
    let v = value_of t l.subject in
    let c = change es l.subject in
    let e : w *ℤ value_of u l.subject ≡ w *ℤ v +ℤ w *ℤ c =
    ap (λ z. w *ℤ z) h.0 ∙ *ℤ_comm w (v +ℤ c) ∙ distribute v c w ∙ ap₂ ◌+ℤ◌ (*ℤ_comm v w) (*ℤ_comm c w) in
    ap (λ z. fold (add_term u) z ls) (ap (λ z. (a +ℤ b) +ℤ z) e ∙ omega (arith, ints))
    ∙ sum_from t u es ls (a +ℤ w *ℤ v) (b +ℤ w *ℤ c) h.1

pub sum_after : (p : Problem) → Keeps p → (t u : State) (es : List Link) → Follows t es u → (c : Condition) → ConditionKeeps p c
    → total (chain p.links c.terms) u ≡ total (chain p.links c.terms) t +ℤ gain_of (chain p.links c.terms) es
sum_after p k t u es f c w =
    sum_from t u es (chain p.links c.terms) (pos 0) (pos 0)
    (All-weaker (LinkFits p Terms) (λ l. value_of u l.subject ≡ value_of t l.subject +ℤ change es l.subject)
    (λ l h. let r = term_of p l k h in f.values l.subject r.0 r.1) (chain p.links c.terms) (keeps_fit p Terms c.terms w.terms))

-- ---- gains

gain_append : (xs ys : List Reach) (n : ℕ) → ((x : Reach) → In x xs → x.node ≡ n → ⊥) → gain_to (xs ++ ys) n ≡ gain_to ys n
gain_append [] ys n h = refl
gain_append (x ∷ xs) ys n h = cond-false (eqb x.node n) x.gain (gain_to (xs ++ ys) n) (ne_eqb _ _ (h x (inl refl))) ∙ gain_append xs ys n (λ y i. h y (inr i))

gain_left : (xs ys : List Reach) (n : ℕ) → 1 ≤ gain_to xs n → 1 ≤ gain_to (xs ++ ys) n
gain_left [] ys n h = absurd (omega arith)
gain_left (x ∷ xs) ys n h = go (eqb x.node n) h (λ l. gain_left xs ys n l)
  where
    go : (b : Bool) → 1 ≤ cond b x.gain (gain_to xs n) → (1 ≤ gain_to xs n → 1 ≤ gain_to (xs ++ ys) n) → 1 ≤ cond b x.gain (gain_to (xs ++ ys) n)
    go true l ih = l
    go false l ih = ih l

fact_gain_from : (w : ℕ) (es : List Link) (k n i : ℕ) → i < n → names 4 es (k + i) ≡ true → fact_holds w (k + i) ≡ false → 1 ≤ gain_to (fact_reaches w es k n) (k + i)
unfolding fact_reaches
fact_gain_from w es k zero i h t e = absurd (omega arith)
fact_gain_from w es k (suc n) zero h t e =
    let z : k + 0 ≡ k = omega arith in
    let c : (names 4 es k && not (fact_holds w k)) ≡ true = and_from _ _ (ap (names 4 es) (sym z) ∙ t) (not_from_false (fact_holds w k) (ap (fact_holds w) (sym z) ∙ e)) in
    subst (λ b. 1 ≤ gain_to (cond b (record { node = k; short = 1; gain = 1 } ∷ fact_reaches w es (k + 1) n) (fact_reaches w es (k + 1) n)) (k + 0)) (sym c)
    (let q = cond-true (eqb k (k + 0)) 1 (gain_to (fact_reaches w es (k + 1) n) (k + 0)) (eq-eqb k (k + 0) (sym z)) in omega arith)
fact_gain_from w es k (suc n) (suc i) h t e =
    let z : k + suc i ≡ k + 1 + i = omega arith in
    go (names 4 es k && not (fact_holds w k)) (subst (λ m. 1 ≤ gain_to (fact_reaches w es (k + 1) n) m) (sym z) (fact_gain_from w es (k + 1) n i (omega arith) (ap (names 4 es) (sym z) ∙ t) (ap (fact_holds w) (sym z) ∙ e)))
  where
    go : (b : Bool) → 1 ≤ gain_to (fact_reaches w es (k + 1) n) (k + suc i) → 1 ≤ gain_to (cond b (record { node = k; short = 1; gain = 1 } ∷ fact_reaches w es (k + 1) n) (fact_reaches w es (k + 1) n)) (k + suc i)
    go true ih = let q = cond-false (eqb k (k + suc i)) 1 (gain_to (fact_reaches w es (k + 1) n) (k + suc i)) (ne_eqb k (k + suc i) (λ d. omega arith)) in omega arith
    go false ih = ih

pub fact_gain : (p : Problem) (s : State) (es : List Link) (k : ℕ) → k < p.head.facts → names 4 es k ≡ true → fact_holds s.facts k ≡ false → 1 ≤ gain_to (reaches_of p s es) k
fact_gain p s es k h t e =
    let z : 0 + k ≡ k = omega arith in
    gain_left (fact_reaches s.facts es 0 p.head.facts) (condition_reaches p s es p.head.facts p.conditions) k
    (subst (λ m. 1 ≤ gain_to (fact_reaches s.facts es 0 p.head.facts) m) z (fact_gain_from s.facts es 0 p.head.facts k h (ap (names 4 es) z ∙ t) (ap (fact_holds s.facts) z ∙ e)))

condition_gain_from : (p : Problem) (s : State) (es : List Link) (n : ℕ) (cs : List Condition) (j : ℕ) → j < length cs → condition_holds p s (get_or cs j no_condition) ≡ false
    → gain_of (chain p.links (get_or cs j no_condition).terms) es ≤ℤ pos (gain_to (condition_reaches p s es n cs) (n + j))
unfolding condition_reaches
condition_gain_from p s es n [] j h e = absurd (omega arith)
condition_gain_from p s es n (c ∷ cs) zero h e = go (raises g) refl
  where
    g : ℤ
    g = gain_of (chain p.links c.terms) es

    go : (b : Bool) → raises g ≡ b → g ≤ℤ pos (gain_to (cond (raises g && not (condition_holds p s c)) (record { node = n; short = shortfall p s c; gain = nat_abs g } ∷ condition_reaches p s es (n + 1) cs) (condition_reaches p s es (n + 1) cs)) (n + 0))
    go true t =
        let k : (raises g && not (condition_holds p s c)) ≡ true = and_from _ _ t (not_from_false (condition_holds p s c) e) in
        let q : gain_to (record { node = n; short = shortfall p s c; gain = nat_abs g } ∷ condition_reaches p s es (n + 1) cs) (n + 0) ≡ nat_abs g = cond-true (eqb n (n + 0)) (nat_abs g) (gain_to (condition_reaches p s es (n + 1) cs) (n + 0)) (eq-eqb n (n + 0) (omega arith)) in
        subst (λ b. g ≤ℤ pos (gain_to (cond b (record { node = n; short = shortfall p s c; gain = nat_abs g } ∷ condition_reaches p s es (n + 1) cs) (condition_reaches p s es (n + 1) cs)) (n + 0))) (sym k)
        (subst (λ m. g ≤ℤ pos m) (sym q) (size g))
      where
        size : (x : ℤ) → x ≤ℤ pos (nat_abs x)
        size x = omega (arith, ints)
    go false t = low g (gain_to (cond (raises g && not (condition_holds p s c)) (record { node = n; short = shortfall p s c; gain = nat_abs g } ∷ condition_reaches p s es (n + 1) cs) (condition_reaches p s es (n + 1) cs)) (n + 0)) t
      where
        low : (x : ℤ) (m : ℕ) → le_z (pos 1) x ≡ false → x ≤ℤ pos m
        low x m t = grind (arith, ints)
condition_gain_from p s es n (c ∷ cs) (suc j) h e = go (raises (gain_of (chain p.links c.terms) es) && not (condition_holds p s c)) (condition_gain_from p s es (n + 1) cs j (omega arith) e)
  where
    g : ℤ
    g = gain_of (chain p.links c.terms) es

    z : n + 1 + j ≡ n + suc j
    z = omega arith

    G : ℤ
    G = gain_of (chain p.links (get_or cs j no_condition).terms) es

    rest : List Reach
    rest = condition_reaches p s es (n + 1) cs

    go : (b : Bool) → G ≤ℤ pos (gain_to rest (n + 1 + j)) → G ≤ℤ pos (gain_to (cond b (record { node = n; short = shortfall p s c; gain = nat_abs g } ∷ rest) rest) (n + suc j))
    go true ih =
        let q = cond-false (eqb n (n + suc j)) (nat_abs g) (gain_to rest (n + suc j)) (ne_eqb n (n + suc j) (λ d. omega arith)) in
        subst (λ m. G ≤ℤ pos m) (ap (gain_to rest) z ∙ sym q) ih
    go false ih = subst (λ m. G ≤ℤ pos (gain_to rest m)) z ih

pub condition_gain : (p : Problem) (s : State) (es : List Link) (j : ℕ) → j < length p.conditions → condition_holds p s (condition_of p j) ≡ false
    → gain_of (chain p.links (condition_of p j).terms) es ≤ℤ pos (gain_to (reaches_of p s es) (p.head.facts + j))
condition_gain p s es j h e =
    let n = p.head.facts in
    let xs = fact_reaches s.facts es 0 p.head.facts in
    let ys = condition_reaches p s es p.head.facts p.conditions in
    let q = gain_append xs ys (p.head.facts + j) (λ x i d. let r = fact_reach s.facts es 0 p.head.facts x i in let b = r.below in omega arith) in
    subst (λ m. gain_of (chain p.links (condition_of p j).terms) es ≤ℤ pos m) (sym q) (condition_gain_from p s es p.head.facts p.conditions j h e)

-- ---- the actions by place: move m is at place m - 1, the helper at the last

module _ (p : Problem) (s : State) where
  pub length_actions : length (relaxed p s).actions ≡ length p.moves + 1
  unfolding relaxed
  length_actions = length-append (map (action_of p s) p.moves) (helper p ∷ []) ∙ ap (λ n. n + 1) (length-map p.moves (action_of p s))

  pub move_action : (m : ℕ) → 1 ≤ m → m ≤ length p.moves → action_at (relaxed p s) (m - 1) ≡ action_of p s (move_at p m)
  unfolding relaxed
  move_action m a b =
      let l = length-map p.moves (action_of p s) in
      get_or_append_left (map (action_of p s) p.moves) (helper p ∷ []) no_action (m - 1) (omega arith)
      ∙ get_or-map (action_of p s) p.moves (m - 1) (record { cost = pos 0; needs = 0; effects = 0 }) no_action (omega arith)

  pub helper_action : action_at (relaxed p s) (length p.moves) ≡ helper p
  unfolding relaxed
  helper_action =
      let z : length p.moves - length p.moves ≡ 0 = omega arith in
      get_or-append_right (map (action_of p s) p.moves) (helper p ∷ []) (length p.moves) (length p.moves) no_action (length-map p.moves (action_of p s)) (omega arith)
      ∙ ap (λ i. get_or (helper p ∷ []) i no_action) z

-- ---- what a state that moves lead to has, the moves' places being in the list done

pub record Reached (p : Problem) (s : State) (done : List ℕ) (t : State) : Type 0 where
  pub facts : (k : ℕ) → k < p.head.facts → fact_holds t.facts k ≡ true → (fact_holds s.facts k ≡ true) ⊎ (1 ≤ credit (relaxed p s) done k)
  pub sums : (j : ℕ) → j < length p.conditions → condition_holds p s (condition_of p j) ≡ false
      → total (chain p.links (condition_of p j).terms) t ≤ℤ (total (chain p.links (condition_of p j).terms) s +ℤ pos (credit (relaxed p s) done (p.head.facts + j)))

pub reached_first : (p : Problem) (s : State) → Reached p s [] s
reached_first p s = record { facts = λ k h e. inl e; sums = λ j h e. same (total (chain p.links (condition_of p j).terms) s) }
  where
    same : (x : ℤ) → x ≤ℤ (x +ℤ pos 0)
    same x = omega (arith, ints)

pub reached_more : (p : Problem) → Keeps p → (s t u : State) (done : List ℕ) (m : ℕ) → 1 ≤ m → m ≤ length p.moves → Follows t (effects_of p m) u → Reached p s done t → Reached p s ((m - 1) ∷ done) u
reached_more p k s t u done m a b f r = record { facts = more_facts; sums = more_sums }
  where
    es : List Link
    es = effects_of p m

    gains : (n : ℕ) → gain_to (action_at (relaxed p s) (m - 1)).reaches n ≡ gain_to (reaches_of p s es) n
    gains n = ap (λ (x : Action). gain_to x.reaches n) (move_action p s m a b)

    more_facts : (j : ℕ) → j < p.head.facts → fact_holds u.facts j ≡ true → (fact_holds s.facts j ≡ true) ⊎ (1 ≤ credit (relaxed p s) ((m - 1) ∷ done) j)
    more_facts j h e = ⊎_elim
        (λ set. ⊎_elim (λ held. inl held) (λ unheld. inr (let g = fact_gain p s es j h set unheld in let q = gains j in omega arith)) (cases_Bool (fact_holds s.facts j)))
        (λ kept. ⊎_elim (λ held. inl held) (λ l. inr (omega arith)) (r.facts j h (and_parts (fact_holds t.facts j) (not (names 5 es j)) kept).0))
        (or_cases (names 4 es j) (fact_holds t.facts j && not (names 5 es j)) (sym (f.facts j) ∙ e))

    more_sums : (j : ℕ) → j < length p.conditions → condition_holds p s (condition_of p j) ≡ false
        → total (chain p.links (condition_of p j).terms) u ≤ℤ (total (chain p.links (condition_of p j).terms) s +ℤ pos (credit (relaxed p s) ((m - 1) ∷ done) (p.head.facts + j)))
    more_sums j h e =
        let w = all_in (ConditionKeeps p) p.conditions (condition_of p j) k.conditions (Rattle.landmarks.proofs.Orders.in_get_or p.conditions j no_condition h) in
        add (total (chain p.links (condition_of p j).terms) s) (total (chain p.links (condition_of p j).terms) t) (total (chain p.links (condition_of p j).terms) u)
        (gain_of (chain p.links (condition_of p j).terms) es) (credit (relaxed p s) done (p.head.facts + j)) (gain_to (reaches_of p s es) (p.head.facts + j)) (gain_to (action_at (relaxed p s) (m - 1)).reaches (p.head.facts + j))
        (sum_after p k t u es f (condition_of p j) w) (r.sums j h e) (condition_gain p s es j h e) (gains (p.head.facts + j))
      where
        add : (a b c g : ℤ) (x y z : ℕ) → c ≡ b +ℤ g → b ≤ℤ (a +ℤ pos x) → g ≤ℤ pos y → z ≡ y → c ≤ℤ (a +ℤ pos (z + x))
        add a b c g x y z e h l q = omega (arith, ints)

-- what holds in such a state is covered
pub reached_covers : (p : Problem) (s t : State) (done : List ℕ) → Reached p s done t → (l : Link) → LinkFits p Needs l → need_holds p t l ≡ true → Covered (relaxed p s) (shorts p s) done (node_of p l)
unfolding relaxed need_holds condition_holds
reached_covers p s t done r l f e = go (eqb l.kind 2) refl e
  where
    go : (b : Bool) → eqb l.kind 2 ≡ b → cond b (fact_holds t.facts l.subject) (condition_holds p t (condition_at p l.subject)) ≡ true
        → Covered (relaxed p s) (shorts p s) done (cond b l.subject (p.head.facts + l.subject - 1))
    go true q h =
        let i = f.1.fact (inl (eqb-true _ _ q)) in
        ⊎_elim (λ held. inl (holds_fact p s l.subject i ∙ held)) (λ c. inr (let z = short_fact p s l.subject i in omega arith)) (r.facts l.subject i h)
    go false q h =
        let i = f.1.condition (⊎_elim (λ d. absurd (eqb-false _ _ q d)) (λ d. d) f.1.kind) in
        let lo = i.0 in
        let hi = i.1 in
        let j = l.subject - 1 in
        let in' : l.subject - 1 < length p.conditions = omega arith in
        let n : p.head.facts + (l.subject - 1) ≡ p.head.facts + l.subject - 1 = omega arith in
        subst (Covered (relaxed p s) (shorts p s) done) n
        (⊎_elim
        (λ held. inl (holds_condition p s (l.subject - 1) in' ∙ held))
        (λ unheld. inr (subst (λ m. m ≤ credit (relaxed p s) done (p.head.facts + (l.subject - 1))) (sym (short_condition p s (l.subject - 1) in'))
        (fill (mark (condition_of p (l.subject - 1))) (total (chain p.links (condition_of p (l.subject - 1)).terms) s) (total (chain p.links (condition_of p (l.subject - 1)).terms) t) (credit (relaxed p s) done (p.head.facts + (l.subject - 1)))
        h unheld (r.sums (l.subject - 1) in' unheld))))
        (cases_Bool (condition_holds p s (condition_of p (l.subject - 1)))))
      where
        fill : (m a b : ℤ) (c : ℕ) → le_z m b ≡ true → le_z m a ≡ false → b ≤ℤ (a +ℤ pos c) → nat_abs (m -ℤ a) ≤ c
        fill m a b c h u q = let z = (decides_int_le m b).0 h in let y : a ≤ℤ m = over m a u in omega (arith, ints)
          where
            over : (m a : ℤ) → le_z m a ≡ false → a ≤ℤ m
            over m a u = grind (arith, ints)

covers_all : (p : Problem) (s t : State) (done : List ℕ) → Reached p s done t → (ls : List Link) → AllByRecursion (LinkFits p Needs) ls → all_hold p t ls ≡ true → (n : ℕ) → In n (map (node_of p) ls) → Covered (relaxed p s) (shorts p s) done n
covers_all p s t done r [] f h n i = absurd i
covers_all p s t done r (l ∷ ls) f h n i =
    let b = and_parts (need_holds p t l) (all_hold p t ls) h in
    ⊎_elim (λ e. subst (Covered (relaxed p s) (shorts p s) done) e (reached_covers p s t done r l f.0 b.0)) (λ j. covers_all p s t done r ls f.1 b.1 n j) i

result_allowed : (p : Problem) (t : State) (m : ℕ) (u : State) → result_of p t m ≡ Some u → allowed p t m ≡ true
unfolding result_of
result_allowed p t m u q = (under_some (allowed p t m) _ u q).0

-- ---- a plan as a run, the helper last

abbrev pub places : Problem → List ℕ → List ℕ
places p [] = length p.moves ∷ []
places p (m ∷ ms) = (m - 1) ∷ places p ms

module _ (p : Problem) (k : Keeps p) (s : State) where
  helper_ready : (t : State) (done : List ℕ) → Reached p s done t → goal_holds p t ≡ true → Ready (relaxed p s) (shorts p s) done (length p.moves)
  unfolding goal_holds
  helper_ready t done r g = record {
    inside = (let l = length_actions p s in omega arith);
    covered = λ n i. covers_all p s t done r (chain p.links p.head.goal) (keeps_fit p Needs p.head.goal k.goal) g n (subst (λ (a : Action). In n a.needs) (helper_action p s) i);
  }

  helper_covers : (done : List ℕ) → Covered (relaxed p s) (shorts p s) (length p.moves ∷ done) (p.head.facts + length p.conditions)
  helper_covers done = inr (
      let a = short_goal p s in
      let n = p.head.facts + length p.conditions in
      let b : gain_to (action_at (relaxed p s) (length p.moves)).reaches (p.head.facts + length p.conditions) ≡ 1 =
      ap (λ (x : Action). gain_to x.reaches (p.head.facts + length p.conditions)) (helper_action p s) ∙ cond-true (eqb (p.head.facts + length p.conditions) (p.head.facts + length p.conditions)) 1 0 (eq-eqb _ _ refl) in
      omega arith)

  pub record Run (done ms : List ℕ) : Type 0 where
    pub run : RunFrom (relaxed p s) (shorts p s) done (places p ms)
    pub wins : CoveredAfter (relaxed p s) (shorts p s) done (places p ms) (p.head.facts + length p.conditions)
    pub moves : AllByRecursion (λ m. (1 ≤ m) × (m ≤ length p.moves)) ms

  run_along : (t e : State) (done ms : List ℕ) → is_state p t ≡ true → Reached p s done t → after p t ms ≡ Some e → goal_holds p e ≡ true → Run done ms
  unfolding after
  run_along t e done [] i r a g =
      let g' : goal_holds p t ≡ true = ap (goal_holds p) (Rattle.tables.proofs.Checked.some_same a) ∙ g in
      record { run = (helper_ready t done r g', tt); wins = helper_covers done; moves = tt }
  run_along t e done (m ∷ ms) i r a g = go (result_of p t m) refl a (λ u i' r' a'. run_along u e ((m - 1) ∷ done) ms i' r' a' g)
    where
      go : (o : Option State) → result_of p t m ≡ o → and_then o (λ u. after p u ms) ≡ Some e
          → ((u : State) → is_state p u ≡ true → Reached p s ((m - 1) ∷ done) u → after p u ms ≡ Some e → Run ((m - 1) ∷ done) ms) → Run done (m ∷ ms)
      go None q z ih = let w : ◌≡◌ {A = ℕ} 0 1 = cc in absurd (omega arith)
      go (Some u) q z ih =
          let mm = moves_mean p k t i m in
          let al = mm.allows.0 (result_allowed p t m u q) in
          let lo = al.from in
          let hi = al.upto in
          let rest = ih u (mm.state u q) (reached_more p k s t u done m lo hi (mm.follows u q) r) z in
          record {
            run = (
              record {
                inside = (let l = length_actions p s in omega arith);
                covered = λ n j. covers_all p s t done r (chain p.links (move_at p m).needs) (keeps_fit p Needs (move_at p m).needs (Rattle.task.proofs.Along.move_keeps p m k lo hi).needs) al.needs n (subst (λ (x : Action). In n x.needs) (move_action p s m lo hi) j);
              },
              rest.run,
            );
            wins = rest.wins;
            moves = ((lo, hi), rest.moves);
          }

  pub plan_runs : (e : State) (ms : List ℕ) → is_state p s ≡ true → after p s ms ≡ Some e → goal_holds p e ≡ true → Run [] ms
  plan_runs e ms i a g = run_along s e [] ms i (reached_first p s) a g
