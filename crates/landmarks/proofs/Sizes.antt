-- How large the numbers of a question can be.
use Rattle.std.proofs.Common.{◌≡◌, ℕ, zero, suc, ◌+◌, ◌*◌, ◌<◌, ◌≤◌, Bool, true, false, cond, ◌&&◌, ◌||◌, eqb, leb, List, [], ◌∷◌, map, length, get_or, ℤ, pos, ◌+ℤ◌, ◌-ℤ◌, ◌*ℤ◌, nat_abs, Some, None, fold, sym, refl, ap, ◌∙◌, subst, inl, inr, ⊎_elim, add-mul, one-mul, div-le_self, arith}
use Rattle.std.proofs.lemmas.Option.{same_Some, none-some}
use lib.IntN.{+ℤ_idr}
use Rattle.std.specs.List.{AllByRecursion}
use Rattle.std.proofs.lemmas.Nat.{mul-le}
use Rattle.std.proofs.ByRecursion.{All-weaker}
use Rattle.std.proofs.lemmas.Int.{ints}
use Rattle.std.proofs.lemmas.List.{get_or-map, length-map, get_or_past}
use Rattle.std.proofs.lemmas.Bool.{cases_lt, cases_Bool, cond-true, cond-false, or_parts, or_left, leb-false, eqb-true, eq-eqb}
use Rattle.tables.specs.Chains.{chain}
use Rattle.tables.specs.Check.{names_quantity}
use Rattle.task.specs.Meaning.{change}
use Rattle.tables.specs.Problem.{Problem}
use Rattle.tables.specs.Rules.{LinkFits, ChainKeeps, ConditionKeeps, MoveKeeps, Keeps, quantities_of, Once}
use Rattle.task.specs.States.{value_of, mark, add_term, total, is_state}
use Rattle.task.specs.declared.state.State.{State}
use Rattle.tables.specs.declared.Condition.{Condition}
use Rattle.tables.specs.declared.Link.{Link}
use Rattle.tables.specs.declared.Move.{Move}
use Rattle.tables.specs.declared.Role.TheVariants.{Terms, Effects}
use Rattle.tables.proofs.Accepts.{decides_accepted, decides_names}
use Rattle.task.proofs.Along.{keeps_fit, quantity_holds, range_size}
use Rattle.task.proofs.Changes.{unnamed}
use Rattle.task.proofs.Ints.{nat_abs_add, product_size}
use Rattle.task.proofs.Keep.{IsState, state_is, state_range}
use Rattle.landmarks.specs.Relaxed.{Reach, Action, Relaxed, goal, shortfall, gain_of, reaches_of, fact_reaches, condition_reaches, action_of, helper, relaxed}
use Rattle.landmarks.specs.Rounds.{weight, Value, Loaded, loaded, value_at, largest, values, in_zone, lightest_of, or_zero, grounds_of, Outcome, Dead, Found, noting, cap, unless_ended, settled, rounds, pairs, full_costs, outcome}
use Rattle.landmarks.specs.declared.Ground.{Ground}
use Rattle.landmarks.specs.Laws.{In, ◌≼◌, WellFormed, most_left, heaviest, SizesStand}
use Rattle.landmarks.proofs.Orders.{all_in, in_map, in_get_or, below_some, plus_some}
use Rattle.landmarks.proofs.Sweeps.{pigeonhole, largest_high, largest_least, Offered, best_is, S, S-open, S-past, S-held, first_at}
use Rattle.landmarks.proofs.Cuts.{loaded_from, crossing_is, lightest_is, actions, worth, cut_now, weight_now}
use Rattle.landmarks.proofs.Totals.{in_append, rest_now, length_rest, rest_at}
use Rattle.landmarks.proofs.Shapes.{shorts, relaxed_fits, fact_reach, condition_reach, no_condition}

-- ---- a chain of terms has at most sixteen

term_names : (p : Problem) (l : Link) → LinkFits p Terms l → names_quantity l.kind ≡ true
term_names p l f = or_left (eqb l.kind 1) (eqb l.kind 6) (eq-eqb l.kind 1 f.1.kind)

terms_name : (p : Problem) (ls : List Link) → AllByRecursion (LinkFits p Terms) ls → length (quantities_of ls) ≡ length ls
unfolding quantities_of
terms_name p [] h = refl
terms_name p (l ∷ ls) h = ap length (cond-true (names_quantity l.kind) (l.subject ∷ quantities_of ls) (quantities_of ls) (term_names p l h.0)) ∙ ap suc (terms_name p ls h.1)

terms_range : (p : Problem) → Keeps p → (ls : List Link) → AllByRecursion (LinkFits p Terms) ls → AllByRecursion (λ q. (1 ≤ q) × (q ≤ 16)) (quantities_of ls)
unfolding quantities_of
terms_range p k [] h = tt
terms_range p k (l ∷ ls) h =
    let q = h.0.1.quantity (inl h.0.1.kind) in
    let few = k.few_quantities in
    let lo = q.0 in
    let hi = q.1 in
    subst (AllByRecursion (λ q. (1 ≤ q) × (q ≤ 16))) (sym (cond-true (names_quantity l.kind) (l.subject ∷ quantities_of ls) (quantities_of ls) (term_names p l h.0)))
    ((omega arith, omega arith), terms_range p k ls h.1)

pub few_terms : (p : Problem) → Keeps p → (n : ℕ) → ChainKeeps p Terms n → length (chain p.links n) ≤ 16
few_terms p k n c =
    let ls = chain p.links n in
    let fit = keeps_fit p Terms n c in
    let range = terms_range p k ls fit in
    let many = terms_name p ls fit in
    let ph = pigeonhole 17 (0 ∷ quantities_of ls)
    (All-weaker (λ q. (1 ≤ q) × (q ≤ 16)) (λ q. 0 ≡ q → ⊥) (λ q h e. let l = h.0 in omega arith) (quantities_of ls) range, c.once)
    (omega arith, All-weaker (λ q. (1 ≤ q) × (q ≤ 16)) (λ q. q < 17) (λ q h. let l = h.1 in omega arith) (quantities_of ls) range) in
    omega arith

-- ---- sums over terms

sum_size : (f : Link → ℤ) (b : ℕ) (ls : List Link) (a : ℤ) → AllByRecursion (λ l. nat_abs (f l) ≤ b) ls → nat_abs (fold (λ sum l. sum +ℤ f l) a ls) ≤ nat_abs a + length ls * b
sum_size f b [] a h = omega arith
sum_size f b (l ∷ ls) a h =
    let ih = sum_size f b ls (a +ℤ f l) h.1 in
    let n = nat_abs_add a (f l) in
    let m : suc (length ls) * b ≡ b + length ls * b = (let e : suc (length ls) ≡ 1 + length ls = omega arith in ap (λ k. k * b) e ∙ add-mul 1 (length ls) b ∙ ap (λ k. k + length ls * b) (one-mul b)) in
    let x = h.0 in
    omega arith

module _ (p : Problem) (k : Keeps p) where
  state_value : (s : State) → IsState p s → (l : Link) → LinkFits p Terms l → nat_abs (value_of s l.subject) ≤ 100000
  state_value s w l f =
      let q = f.1.quantity (inl f.1.kind) in
      range_size (Rattle.task.specs.States.quantity_at p l.subject) (value_of s l.subject) (quantity_holds p l.subject k q.0 q.1) (state_range p s k w l.subject q.0 q.1)

  pub sum_small : (s : State) → is_state p s ≡ true → (c : Condition) → ConditionKeeps p c → nat_abs (total (chain p.links c.terms) s) ≤ 16000000
  sum_small s i c w =
      let ls = chain p.links c.terms in
      let fit = keeps_fit p Terms c.terms w.terms in
      let few = few_terms p k c.terms w.terms in
      let z = sum_size (λ l. l.amount *ℤ value_of s l.subject) 1000000 (chain p.links c.terms) (pos 0)
      (All-weaker (LinkFits p Terms) (λ l. nat_abs (l.amount *ℤ value_of s l.subject) ≤ 1000000)
      (λ l f. product_size l.amount (value_of s l.subject) 10 100000 (f.1.weight f.1.kind).1 (state_value s (state_is p s i) l f)) (chain p.links c.terms) fit) in
      omega arith

  pub short_small : (s : State) → is_state p s ≡ true → (c : Condition) → ConditionKeeps p c → shortfall p s c ≤ 36000001
  short_small s i c w = go (mark c) (total (chain p.links c.terms) s) (marked (eqb c.kind 0)) (sum_small s i c w)
    where
      marked : (b : Bool) → nat_abs (cond b c.bound (c.bound +ℤ pos 1)) ≤ 20000001
      marked true = let h = w.bound in omega arith
      marked false = let h = w.bound in let a = nat_abs_add c.bound (pos 1) in omega arith

      go : (m t : ℤ) → nat_abs m ≤ 20000001 → nat_abs t ≤ 16000000 → nat_abs (m -ℤ t) ≤ 36000001
      go m t a b = omega (arith, ints)

  -- effects name a quantity at most once, so they change it by at most 200,000
  change_small : (es : List Link) → AllByRecursion (LinkFits p Effects) es → Once (quantities_of es) → (q : ℕ) → nat_abs (change es q) ≤ 200000
  unfolding change quantities_of
  change_small [] f o q = omega arith
  change_small (e ∷ es) f o q = go (eqb e.kind 6) refl (eqb e.subject q) refl o (λ o'. change_small es f.1 o' q)
    where
      named : (b : Bool) → Once (cond b (e.subject ∷ quantities_of es) (quantities_of es)) → Once (quantities_of es)
      named true h = h.1
      named false h = h

      go : (a : Bool) → eqb e.kind 6 ≡ a → (b : Bool) → eqb e.subject q ≡ b → Once (cond (names_quantity e.kind) (e.subject ∷ quantities_of es) (quantities_of es)) → (Once (quantities_of es) → nat_abs (change es q) ≤ 200000)
          → nat_abs (cond (a && b) (e.amount +ℤ change es q) (change es q)) ≤ 200000
      go true x true y h ih =
          let k6 = eqb-true e.kind 6 x in
          let o' = subst Once (cond-true (names_quantity e.kind) (e.subject ∷ quantities_of es) (quantities_of es) ((decides_names e.kind).1 (inr k6))) h in
          let none = unnamed p es q f.1 (subst (λ n. AllByRecursion (λ m. n ≡ m → ⊥) (quantities_of es)) (eqb-true e.subject q y) o'.0) in
          subst (λ z. nat_abs z ≤ 200000) (sym (ap (λ z. e.amount +ℤ z) none ∙ +ℤ_idr e.amount)) (f.0.1.change k6).1
      go true x false y h ih = ih (named (names_quantity e.kind) h)
      go false x b y h ih = ih (named (names_quantity e.kind) h)

  pub gain_small : (c : Condition) → ConditionKeeps p c → (m : Move) → MoveKeeps p m → nat_abs (gain_of (chain p.links c.terms) (chain p.links m.effects)) ≤ 32000000
  gain_small c w m v =
      let es = chain p.links m.effects in
      let few = few_terms p k c.terms w.terms in
      let small = change_small (chain p.links m.effects) (keeps_fit p Effects m.effects v.effects) v.effects.once in
      let z = sum_size (λ l. l.amount *ℤ change (chain p.links m.effects) l.subject) 2000000 (chain p.links c.terms) (pos 0)
      (All-weaker (LinkFits p Terms) (λ l. nat_abs (l.amount *ℤ change (chain p.links m.effects) l.subject) ≤ 2000000)
      (λ l f. product_size l.amount (change (chain p.links m.effects) l.subject) 10 200000 (f.1.weight f.1.kind).1 (small l.subject)) (chain p.links c.terms) (keeps_fit p Terms c.terms w.terms)) in
      omega arith

-- ---- weights and values

-- where no edge weighs more than w, values after k sweeps are at most k × w
module _ (rx : Relaxed) (qs : List Loaded) (long : length rx.holds ≡ rx.nodes) (w : ℕ) (light : (q : Loaded) → In q qs → (x : Reach) → In x q.reaches → weight q.left x ≤ w) where
  swept_small : (k n v : ℕ) → value_at (S rx qs long k) n ≡ Some v → v ≤ k * w
  swept_small zero n v e = ⊎_elim
      (λ h. ⊎_elim
      (λ t. let z = same_Some v 0 (sym e ∙ S-held rx qs long 0 n h t) in omega arith)
      (λ t. absurd (none-some v (sym (first_at rx qs long n h ∙ cond-false (in_zone rx.holds n) (Some 0) None t) ∙ e)))
      (cases_Bool (in_zone rx.holds n)))
      (λ h. absurd (none-some v (sym (S-past rx qs long 0 n h) ∙ e)))
      (cases_lt n rx.nodes)
  swept_small (suc k) n v e = ⊎_elim
      (λ h. ⊎_elim
      (λ t. let z = same_Some v 0 (sym e ∙ S-held rx qs long (suc k) n h t) in omega arith)
      (λ t. go (λ m u q. swept_small k m u q) (best_is (S rx qs long k) qs n v (sym (S-open rx qs long k n h t) ∙ e)))
      (cases_Bool (in_zone rx.holds n)))
      (λ h. absurd (none-some v (sym (S-past rx qs long (suc k) n h) ∙ e)))
      (cases_lt n rx.nodes)
    where
      go : ((m u : ℕ) → value_at (S rx qs long k) m ≡ Some u → u ≤ k * w) → Offered (S rx qs long k) qs n v → v ≤ suc k * w
      go ih r =
          let t = plus_some (largest (S rx qs long k) r.by.needs) (weight r.by.left r.edge) v r.exact in
          let b : t.0 ≤ k * w = subst (λ y. y ≼ Some (k * w)) t.1 (largest_least (S rx qs long k) r.by.needs (Some (k * w)) (λ m i.
          let u = below_some (value_at (S rx qs long k) m) t.0 (subst (λ y. value_at (S rx qs long k) m ≼ y) t.1 (largest_high (S rx qs long k) r.by.needs m i)) in
          subst (λ y. y ≼ Some (k * w)) (sym u.1) (ih m u.0 u.1))) in
          let l = light r.by r.among r.edge r.reached in
          let s = t.2 in
          let m : suc k * w ≡ w + k * w = (let e : suc k ≡ 1 + k = omega arith in ap (λ j. j * w) e ∙ add-mul 1 k w ∙ ap (λ j. j + k * w) (one-mul w)) in
          omega arith

  pub values_small : (n v : ℕ) → value_at (values rx qs) n ≡ Some v → v ≤ rx.nodes * w
  unfolding values
  values_small n v e = swept_small rx.nodes n v e

loaded_left : (as' : List Action) (rs : List ℕ) (q : Loaded) → ((i : ℕ) → get_or rs i 0 ≤ most_left) → In q (loaded as' rs) → q.left ≤ most_left
unfolding loaded
loaded_left [] rs q h i = absurd i
loaded_left (a ∷ as') [] q h i = ⊎_elim (λ e. let s = ap (λ (z : Loaded). z.left) e in omega arith) (λ j. loaded_left as' [] q h j) i
loaded_left (a ∷ as') (r ∷ rs) q h i = ⊎_elim (λ e. let s = ap (λ (z : Loaded). z.left) e in let l : r ≤ most_left = h 0 in omega arith) (λ j. loaded_left as' rs q (λ n. h (suc n)) j) i

-- ---- the total

module _ (rx : Relaxed) (shorts : ℕ → ℕ) (fit : WellFormed rx shorts) (light : (a : Action) → In a rx.actions → (x : Reach) → In x a.reaches → (r : ℕ) → r ≤ most_left → weight r x ≤ heaviest) where
  weighed : (rs : List ℕ) → ((i : ℕ) → get_or rs i 0 ≤ most_left) → (q : Loaded) → In q (actions rx rs) → (x : Reach) → In x q.reaches → weight q.left x ≤ heaviest
  weighed rs h q i x j = let r = loaded_from rx.actions rs q i in light r.0 r.1 x (subst (In x) (sym r.3) j) q.left (loaded_left rx.actions rs q h i)

  pub cut_small : (rs : List ℕ) → ((i : ℕ) → get_or rs i 0 ≤ most_left) → weight_now rx rs ≤ heaviest
  cut_small rs h = go (lightest_of (cut_now rx rs)) refl
    where
      go : (o : Value) → lightest_of (cut_now rx rs) ≡ o → or_zero o ≤ heaviest
      go None e = omega arith
      go (Some b) e =
          let t = lightest_is (cut_now rx rs) b e in
          let q = crossing_is rx shorts fit rs t.by t.among in
          let l = weighed rs h q.0 q.1 t.edge (q.3 t.edge t.crosses) in
          let same : weight q.0.left t.edge ≡ b = ap (λ r. weight r t.edge) (sym q.2) ∙ t.exact in
          omega arith

  pub rest_small : (rs : List ℕ) → ((i : ℕ) → get_or rs i 0 ≤ most_left) → (i : ℕ) → get_or (rest_now rx rs) i 0 ≤ most_left
  rest_small rs h i = ⊎_elim
      (λ l. let e = rest_at rx rs i l in let b = h i in omega arith)
      (λ l. let e = get_or_past (rest_now rx rs) i 0 (let m = length_rest rx rs in omega arith) in omega arith)
      (cases_lt i (length rx.actions))

  abbrev SmallTotal : Outcome → Type 0
  SmallTotal Dead = Unit {0}
  SmallTotal (Found t gs) = t ≤ cap + heaviest

  pub rounds_small : (fuel k total : ℕ) (rs : List ℕ) → ((i : ℕ) → get_or rs i 0 ≤ most_left) → total ≤ cap + heaviest → SmallTotal (rounds rx fuel k total rs)
  unfolding rounds
  rounds_small zero k total rs h l = l
  rounds_small (suc fuel) k total rs h l = go (value_at (worth rx rs) (goal rx)) (λ m. rounds_small fuel (k + 1) (total + weight_now rx rs) (rest_now rx rs) (rest_small rs h) m)
    where
      rest : Outcome
      rest = rounds rx fuel (k + 1) (total + weight_now rx rs) (rest_now rx rs)

      noted : List Ground
      noted = grounds_of k (weight_now rx rs) 1 (cut_now rx rs)

      next : Unit {0} → Outcome
      next _ = noting noted rest

      onward : (o : Outcome) → SmallTotal o → SmallTotal (noting noted o)
      onward Dead m = tt
      onward (Found t gs) m = m

      ends : (v : ℕ) → (total + weight_now rx rs ≤ cap + heaviest → SmallTotal rest) → (b : Bool) → (eqb v 0 || leb cap total) ≡ b → SmallTotal (unless_ended b total next)
      ends v ih true q = l
      ends v ih false q = let c = leb-false cap total (or_parts (eqb v 0) (leb cap total) q).1 in let d = cut_small rs h in onward rest (ih (omega arith))

      go : (o : Value) → (total + weight_now rx rs ≤ cap + heaviest → SmallTotal rest) → SmallTotal (settled o total next)
      go None ih = tt
      go (Some v) ih = ends v ih (eqb v 0 || leb cap total) refl

-- ---- the law

module _ (p : Problem) (k : Keeps p) (s : State) (i : is_state p s ≡ true) where
  condition_kept : (j : ℕ) → j < length p.conditions → ConditionKeeps p (get_or p.conditions j no_condition)
  condition_kept j h = all_in (ConditionKeeps p) p.conditions (get_or p.conditions j no_condition) k.conditions (in_get_or p.conditions j no_condition h)

  reach_small : (es : List Link) (x : Reach) → In x (reaches_of p s es) → x.short ≤ 36000001
  reach_small es x j = ⊎_elim
      (λ q. let r = fact_reach s.facts es 0 p.head.facts x q in let e = r.short in omega arith)
      (λ q. let r = condition_reach p s es p.head.facts p.conditions x q in
      let e = r.short in
      let l = short_small p k s i (get_or p.conditions r.place no_condition) (condition_kept r.place r.inside) in
      omega arith)
      (in_append (fact_reaches s.facts es 0 p.head.facts) (condition_reaches p s es p.head.facts p.conditions) x j)

  action_short : (a : Action) → In a (relaxed p s).actions → (x : Reach) → In x a.reaches → x.short ≤ 36000001
  unfolding relaxed
  action_short a j x q = ⊎_elim
      (λ m. let r = in_map (action_of p s) p.moves a m in reach_small (chain p.links r.0.effects) x (subst (λ (b : Action). In x b.reaches) (sym r.2) q))
      (λ m. ⊎_elim (λ e. helped (subst (λ (b : Action). In x b.reaches) (sym e) q)) (λ z. absurd z) m)
      (in_append (map (action_of p s) p.moves) (helper p ∷ []) a j)
    where
      helped : In x (helper p).reaches → x.short ≤ 36000001
      helped w = ⊎_elim (λ e. let z = ap (λ (y : Reach). y.short) e in omega arith) (λ z. absurd z) w

  reach_gain : (m : Move) → In m p.moves → (x : Reach) → In x (reaches_of p s (chain p.links m.effects)) → x.gain ≤ 32000000
  reach_gain m b x j = ⊎_elim
      (λ q. let r = fact_reach s.facts (chain p.links m.effects) 0 p.head.facts x q in let e = r.gain in omega arith)
      (λ q. let r = condition_reach p s (chain p.links m.effects) p.head.facts p.conditions x q in
      let e = r.gain in
      let l = gain_small p k (get_or p.conditions r.place no_condition) (condition_kept r.place r.inside) m (all_in (MoveKeeps p) p.moves m k.moves b) in
      omega arith)
      (in_append (fact_reaches s.facts (chain p.links m.effects) 0 p.head.facts) (condition_reaches p s (chain p.links m.effects) p.head.facts p.conditions) x j)

  action_gain : (a : Action) → In a (relaxed p s).actions → (x : Reach) → In x a.reaches → x.gain ≤ 32000000
  unfolding relaxed
  action_gain a j x q = ⊎_elim
      (λ m. let r = in_map (action_of p s) p.moves a m in reach_gain r.0 r.1 x (subst (λ (b : Action). In x b.reaches) (sym r.2) q))
      (λ m. ⊎_elim (λ e. helped (subst (λ (b : Action). In x b.reaches) (sym e) q)) (λ z. absurd z) m)
      (in_append (map (action_of p s) p.moves) (helper p ∷ []) a j)
    where
      helped : In x (helper p).reaches → x.gain ≤ 32000000
      helped w = ⊎_elim (λ e. let z = ap (λ (y : Reach). y.gain) e in omega arith) (λ z. absurd z) w

  action_cost : (a : Action) → In a (relaxed p s).actions → a.cost ≤ 10000
  unfolding relaxed
  action_cost a j = ⊎_elim
      (λ m. let r = in_map (action_of p s) p.moves a m in let w = all_in (MoveKeeps p) p.moves r.0 k.moves r.1 in let c = w.cost_high in let e = ap (λ (b : Action). b.cost) r.2 in omega arith)
      (λ m. ⊎_elim (λ e. let z = ap (λ (b : Action). b.cost) e in omega arith) (λ z. absurd z) m)
      (in_append (map (action_of p s) p.moves) (helper p ∷ []) a j)

  pub action_weighs : (a : Action) → In a (relaxed p s).actions → (x : Reach) → In x a.reaches → (r : ℕ) → r ≤ most_left → (x.short * r ≤ heaviest) × (weight r x ≤ heaviest)
  action_weighs a j x q r h =
      let l : x.short * r ≤ heaviest = mul-le x.short r 36000001 most_left (action_short a j x q) h in
      let d = div-le_self (x.short * r) x.gain in
      (l, omega arith)

  few_nodes : (relaxed p s).nodes ≤ 129
  unfolding relaxed
  few_nodes = let a = k.facts in let b = k.few_conditions in omega arith

  pub full_small : (n : ℕ) → get_or (full_costs (relaxed p s).actions) n 0 ≤ most_left
  full_small n = ⊎_elim
      (λ h.
      let e = get_or-map (λ a. 5040 * a.cost) (relaxed p s).actions n Rattle.landmarks.proofs.Runs.no_action 0 h in
      let c = action_cost (get_or (relaxed p s).actions n Rattle.landmarks.proofs.Runs.no_action) (in_get_or (relaxed p s).actions n Rattle.landmarks.proofs.Runs.no_action h) in
      omega arith)
      (λ h. let e = get_or_past (full_costs (relaxed p s).actions) n 0 (let l = length-map (relaxed p s).actions (λ a. 5040 * a.cost) in omega arith) in omega arith)
      (cases_lt n (length (relaxed p s).actions))

  value_small : (rs : List ℕ) → ((n : ℕ) → get_or rs n 0 ≤ most_left) → (n v : ℕ) → value_at (worth (relaxed p s) rs) n ≡ Some v → v ≤ 129 * heaviest
  value_small rs h n v e =
      let a = values_small (relaxed p s) (actions (relaxed p s) rs) (relaxed_fits p s k).long heaviest
      (weighed (relaxed p s) (shorts p s) (relaxed_fits p s k) (λ a j x q r l. (action_weighs a j x q r l).1) rs h) n v e in
      let b = mul-le (relaxed p s).nodes heaviest 129 heaviest few_nodes (omega arith) in
      omega arith

  total_small : (t : ℕ) (gs : List Ground) → outcome (relaxed p s) ≡ Found t gs → t ≤ cap + heaviest
  unfolding outcome
  total_small t gs e = subst (SmallTotal (relaxed p s) (shorts p s) (relaxed_fits p s k) (λ a j x q r l. (action_weighs a j x q r l).1)) e
      (rounds_small (relaxed p s) (shorts p s) (relaxed_fits p s k) (λ a j x q r l. (action_weighs a j x q r l).1) (pairs (relaxed p s).actions + 1) 1 0 (full_costs (relaxed p s).actions) full_small (omega arith))

pub sizes_stand : SizesStand
sizes_stand p acc s i =
    let k = (decides_accepted p).0 acc in
    record {
      sums = λ c j. sum_small p k s i c (all_in (ConditionKeeps p) p.conditions c k.conditions j);
      shortfalls = λ c j. short_small p k s i c (all_in (ConditionKeeps p) p.conditions c k.conditions j);
      gains = λ c j m q. gain_small p k c (all_in (ConditionKeeps p) p.conditions c k.conditions j) m (all_in (MoveKeeps p) p.moves m k.moves q);
      costs = action_cost p k s i;
      shorts = action_short p k s i;
      gainings = action_gain p k s i;
      weighings = action_weighs p k s i;
      finite = value_small p k s i;
      totals = total_small p k s i;
    }
