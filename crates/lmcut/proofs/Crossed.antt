-- The crossing edges of an action, node by node, and those of all actions, action by action.
use Rattle.std.proofs.Common.{◌≡◌, ℕ, zero, suc, ◌+◌, ◌-◌, ◌*◌, ◌/◌, ◌%◌, ◌<◌, ◌≤◌, min, max, Bool, true, false, cond, not, ◌&&◌, eqb, List, [], ◌∷◌, map, length, get_or, is_some, Some, None, filter, Option, unwrap_or, fold, sym, refl, ap, ◌∙◌, subst, ap₂, inl, inr, ⊎_elim, div-mul-le_self, arith, MatchOption}
use lib.Bits.{bit_and}
use Rattle.std.specs.Iterator.{YieldsFirst, MakesProgress, item_count}
use Rattle.std.specs.List.{reduce, filter_map, cons_option, range_with_len}
use Rattle.std.proofs.lemmas.Nat.{mul-le, div-mul-add, div-add-mod', mod_below}
use Rattle.std.proofs.lemmas.Bool.{cases_lt, cases_eq, cases_Bool, eq-eqb, ne_eqb, cond-true, cond-false, false≢true}
use Rattle.task.specs.States.{fact_holds}
use Rattle.lmcut.specs.Bitwise.{BitStep}
use Rattle.lmcut.specs.Drawn.{edges_from, zone_of, marked, Placed, Light}
use Rattle.lmcut.specs.Questions.{unit_edge, edge_at, reach_of, reach_edge, with_edge, reaches_from, Fits}
use Rattle.lmcut.specs.Valued.{edge_weight}
use Rattle.landmarks.specs.Laws.{In}
use Rattle.landmarks.specs.Relaxed.{Reach}
use Rattle.landmarks.specs.Rounds.{ceil_div, weight, Value, smaller, in_zone, into, starts, crossings, lightest, lightest_of, or_zero, charge}
use Rattle.lmcut.specs.declared.question.Edge.{Edge}
use Rattle.lmcut.specs.declared.question.Question.{Question}
use Rattle.landmarks.proofs.Cuts.{crossing_from, charge_least, charge_fits}
use Rattle.landmarks.proofs.Orders.{in_get_or, in_map}
use Rattle.lmcut.proofs.Bitwise.{upwards}
use Rattle.lmcut.proofs.Prepared.{holds_and, no_bit, reaches_in}
use Rattle.lmcut.proofs.Zoned.{zone_at, zone_goal, marked_starts, edge_none, edge_goal, edge_goal_none}

-- an iterator over a list that its state shows comes nearer its end
pub progress : {S A : Type 0} (rest : S → List A) (s t : S) (r : Option A) → YieldsFirst rest s r t → MakesProgress (λ _. Unit {0}) (item_count rest) s r t
progress rest s t None e = record { on = λ f. tt; keeps = tt; rests = λ f. tt }
progress rest s t (Some x) e = record { on = λ f. (tt, tt, (let l = ap length e in omega arith)); keeps = tt; rests = λ f. tt }

-- ---- an action's edges into a zone, from a node on

abbrev pub into_from : Question → List Bool → ℕ → ℕ → List Reach
into_from q near a i = into near (reaches_from q a i (q.nodes - i))

reaches_step : (q : Question) (a i k : ℕ) → reaches_from q a i (suc k) ≡ with_edge i (edge_at q a i) (reaches_from q a (i + 1) k)
unfolding reaches_from
reaches_step q a i k = refl

pub reaches_here : (q : Question) (a i : ℕ) → i < q.nodes → reaches_from q a i (q.nodes - i) ≡ with_edge i (edge_at q a i) (reaches_from q a (i + 1) (q.nodes - (i + 1)))
reaches_here q a i h = let e : q.nodes - i ≡ suc (q.nodes - (i + 1)) = omega arith in ap (reaches_from q a i) e ∙ reaches_step q a i (q.nodes - (i + 1))

module _ (q : Question) (near : List Bool) (a i : ℕ) (h : i < q.nodes) where
  abbrev rest : List Reach
  rest = reaches_from q a (i + 1) (q.nodes - (i + 1))

  pub into_none : edge_at q a i ≡ None → into_from q near a i ≡ into_from q near a (i + 1)
  into_none e = ap (into near) (reaches_here q a i h ∙ ap (λ o. with_edge i o rest) e)

  pub into_some : (e : Edge) → edge_at q a i ≡ Some e → in_zone near i ≡ true → into_from q near a i ≡ reach_of i e ∷ into_from q near a (i + 1)
  into_some e s n = ap (into near) (reaches_here q a i h ∙ ap (λ o. with_edge i o rest) s) ∙ cond-true (in_zone near i) _ _ n

  pub into_far : in_zone near i ≡ false → into_from q near a i ≡ into_from q near a (i + 1)
  into_far n = go (edge_at q a i) refl
    where
      go : (o : Option Edge) → edge_at q a i ≡ o → into_from q near a i ≡ into_from q near a (i + 1)
      go None s = into_none s
      go (Some e) s = ap (into near) (reaches_here q a i h ∙ ap (λ o. with_edge i o rest) s) ∙ cond-false (in_zone near i) _ _ n

pub into_end : (q : Question) (near : List Bool) (a i : ℕ) → q.nodes ≤ i → into_from q near a i ≡ []
unfolding reaches_from
into_end q near a i h = let e : q.nodes - i ≡ 0 = omega arith in ap (λ k. into near (reaches_from q a i k)) e

-- ---- an action's edges into the zone of a word, bit by bit

-- zones that agree where an action has edges
pub into_like : (q : Question) (a : ℕ) (y z : List Bool) (i k : ℕ) → ((m : ℕ) (e : Edge) → i ≤ m → m < i + k → edge_at q a m ≡ Some e → in_zone y m ≡ in_zone z m) → into y (reaches_from q a i k) ≡ into z (reaches_from q a i k)
unfolding reaches_from
into_like q a y z i zero h = refl
into_like q a y z i (suc k) h = go (edge_at q a i) refl (into_like q a y z (i + 1) k (λ m e l r. h m e (omega arith) (omega arith)))
  where
    go : (o : Option Edge) → edge_at q a i ≡ o → into y (reaches_from q a (i + 1) k) ≡ into z (reaches_from q a (i + 1) k) → into y (with_edge i o (reaches_from q a (i + 1) k)) ≡ into z (with_edge i o (reaches_from q a (i + 1) k))
    go None s same = same
    go (Some e) s same = ap₂ (λ b xs. cond b (reach_of i e ∷ xs) xs) (h i e (omega arith) (omega arith) s) same

module _ (q : Question) (a : ℕ) where
  -- the edges to the nodes of a word and, where it is so told, to the goal node
  abbrev pub to_come : Bool → ℕ → List Edge
  to_come g w = map reach_edge (into (zone_of q g w) (reaches_from q a 0 q.nodes))

  all_from : (z : List Bool) → into z (reaches_from q a 0 q.nodes) ≡ into_from q z a 0
  all_from z = let e : q.nodes ≡ q.nodes - 0 = omega arith in ap (λ k. into z (reaches_from q a 0 k)) e

  skip : (z : List Bool) (n : ℕ) → n ≤ q.nodes → ((m : ℕ) → m < n → in_zone z m ≡ false) → into z (reaches_from q a 0 q.nodes) ≡ into_from q z a n
  skip z n l none = all_from z ∙ upwards (λ m. into_from q z a 0 ≡ into_from q z a m) 0 n (omega arith) (λ m x y e. e ∙ into_far q z a m (omega arith) (none m y)) refl

  module _ (f : Fits q) where
    -- the last node of a word
    pub to_come_goal : (w : ℕ) (e : Edge) → w ≡ 0 → edge_at q a (q.nodes - 1) ≡ Some e → to_come true w ≡ e ∷ []
    to_come_goal w e z s =
        let o = f.some_nodes in
        ap (map reach_edge)
        (skip (zone_of q true w) (q.nodes - 1) (omega arith) (λ m h. zone_at q true w o m (omega arith) ∙ ap (λ x. fact_holds x m) z ∙ no_bit m)
        ∙ into_some q (zone_of q true w) a (q.nodes - 1) (omega arith) e s (zone_goal q true w o)
        ∙ ap (λ xs. reach_of (q.nodes - 1) e ∷ xs) (into_end q (zone_of q true w) a (q.nodes - 1 + 1) (omega arith)))

    pub to_come_none : (w : ℕ) → w ≡ 0 → to_come false w ≡ []
    to_come_none w z =
        let o = f.some_nodes in
        ap (map reach_edge)
        (skip (zone_of q false w) q.nodes (omega arith)
        (λ m h. ⊎_elim
        (λ l. zone_at q false w o m l ∙ ap (λ x. fact_holds x m) z ∙ no_bit m)
        (λ l. let e : m ≡ q.nodes - 1 = omega arith in ap (in_zone (zone_of q false w)) e ∙ zone_goal q false w o)
        (cases_lt (m + 1) q.nodes))
        ∙ into_end q (zone_of q false w) a q.nodes (omega arith))

    -- past the last node: the goal node, where it is still to come
    pub to_come_last : (goal : Option Edge) → ((e : Edge) → goal ≡ Some e → edge_at q a (q.nodes - 1) ≡ Some e) → (w v : ℕ) → BitStep w None v
        → MatchOption goal ((to_come (is_some goal) w ≡ []) × (to_come false v ≡ [])) (λ x. to_come (is_some goal) w ≡ x ∷ to_come false v)
    unfolding BitStep
    to_come_last None last w v e = (to_come_none w e.0, to_come_none v e.1)
    to_come_last (Some x) last w v e = to_come_goal w x e.0 (last x refl) ∙ ap (λ xs. x ∷ xs) (sym (to_come_none v e.1))

    -- the next node of a word
    pub to_come_node : (g : Bool) (w n v : ℕ) (e : Edge) → BitStep w (Some n) v → n + 1 < q.nodes → edge_at q a n ≡ Some e → to_come g w ≡ e ∷ to_come g v
    unfolding BitStep
    to_come_node g w n v e (l, t) h s =
        let o = f.some_nodes in
        ap (map reach_edge)
        (skip (zone_of q g w) n (omega arith) (λ m x. zone_at q g w o m (omega arith) ∙ l.below m x)
        ∙ into_some q (zone_of q g w) a n (omega arith) e s (zone_at q g w o n h ∙ l.set)
        ∙ ap (λ xs. reach_of n e ∷ xs)
        (into_like q a (zone_of q g w) (zone_of q g v) (n + 1) (q.nodes - (n + 1)) (λ m x y k _. above m (omega arith) (omega arith))
        ∙ sym (skip (zone_of q g v) (n + 1) (omega arith) (λ m x. zone_at q g v o m (omega arith) ∙ t m ∙ gone m (omega arith)))))
      where
        gone : (m : ℕ) → m ≤ n → (fact_holds w m && not (eqb m n)) ≡ false
        gone m x = ⊎_elim
            (λ k. ap (λ b. b && not (eqb m n)) (l.below m k))
            (λ k. ap (λ b. fact_holds w m && not b) (eq-eqb m n (omega arith)) ∙ off (fact_holds w m))
            (cases_lt m n)
          where
            off : (b : Bool) → (b && false) ≡ false
            off true = refl
            off false = refl

        above : (m : ℕ) → n + 1 ≤ m → m < q.nodes → in_zone (zone_of q g w) m ≡ in_zone (zone_of q g v) m
        above m x y = ⊎_elim
            (λ k. zone_at q g w f.some_nodes m k ∙ sym (zone_at q g v f.some_nodes m k ∙ t m ∙ ap (λ b. fact_holds w m && not b) (ne_eqb m n (λ e. omega arith)) ∙ kept (fact_holds w m)))
            (λ k. let e : m ≡ q.nodes - 1 = omega arith in subst (λ i. in_zone (zone_of q g w) i ≡ in_zone (zone_of q g v) i) (sym e) (zone_goal q g w f.some_nodes ∙ sym (zone_goal q g v f.some_nodes)))
            (cases_lt (m + 1) q.nodes)
          where
            kept : (b : Bool) → (b && true) ≡ b
            kept true = refl
            kept false = refl

    -- those into a goal zone
    pub to_come_start : (near : ℕ) (g : Bool) → g ≡ eqb (a + 1) q.actions → to_come g (bit_and (get_or q.reach a 0) near) ≡ to_come true near
    to_come_start near g is = ap (map reach_edge) (into_like q a (zone_of q g word) (zone_of q true near) 0 q.nodes (λ m e _ h s. ⊎_elim (λ l. below m e l s) (λ l. let i : m ≡ q.nodes - 1 = omega arith in at_goal m e i s) (cases_lt (m + 1) q.nodes)))
      where
        word : ℕ
        word = bit_and (get_or q.reach a 0) near

        below : (m : ℕ) (e : Edge) → m + 1 < q.nodes → edge_at q a m ≡ Some e → in_zone (zone_of q g word) m ≡ in_zone (zone_of q true near) m
        below m e l s =
            let r : fact_holds (get_or q.reach a 0) m ≡ true = ⊎_elim (λ b. b) (λ b. absurd (false≢true (ap is_some (sym (edge_none q a m l b) ∙ s)))) (cases_Bool (fact_holds (get_or q.reach a 0) m)) in
            zone_at q g word f.some_nodes m l ∙ holds_and (get_or q.reach a 0) near m ∙ ap (λ b. b && fact_holds near m) r ∙ sym (zone_at q true near f.some_nodes m l)

        at_goal : (m : ℕ) (e : Edge) → m ≡ q.nodes - 1 → edge_at q a m ≡ Some e → in_zone (zone_of q g word) m ≡ in_zone (zone_of q true near) m
        at_goal m e i s =
            let last : eqb (a + 1) q.actions ≡ true = ⊎_elim (λ x. eq-eqb _ _ x) (λ x. absurd (false≢true (ap is_some (sym (edge_goal_none q a f.some_nodes x) ∙ ap (edge_at q a) (sym i) ∙ s)))) (cases_eq (a + 1) q.actions) in
            subst (λ k. in_zone (zone_of q g word) k ≡ in_zone (zone_of q true near) k) (sym i) (zone_goal q g word f.some_nodes ∙ is ∙ last ∙ sym (zone_goal q true near f.some_nodes))

-- the helper's edge to the goal node, and none of another action
pub then_goal : (q : Question) (a : ℕ) (goal : Option Edge) → Fits q → goal ≡ cond (eqb (a + 1) q.actions) (Some unit_edge) None → (is_some goal ≡ eqb (a + 1) q.actions) × ((e : Edge) → goal ≡ Some e → edge_at q a (q.nodes - 1) ≡ Some e)
then_goal q a goal f is = ⊎_elim
    (λ h. let b = eq-eqb (a + 1) q.actions h in let g = is ∙ cond-true _ (Some unit_edge) None b in (ap is_some g ∙ sym b, λ e k. edge_goal q a f.some_nodes h ∙ sym g ∙ k))
    (λ h. let b = ne_eqb (a + 1) q.actions h in let g = is ∙ cond-false _ (Some unit_edge) None b in (ap is_some g ∙ sym b, λ e k. absurd (false≢true (ap is_some (sym g ∙ k)))))
    (cases_eq (a + 1) q.actions)

-- an edge into a goal zone
pub record Enters (q : Question) (near : List Bool) (a : ℕ) (x : Edge) : Type 0 where
  pub node : ℕ
  pub inside : node < q.nodes
  pub is : edge_at q a node ≡ Some x
  pub zoned : in_zone near node ≡ true

module _ (q : Question) (near : List Bool) (a : ℕ) where
  abbrev pub entering : List Edge
  entering = map reach_edge (into near (reaches_from q a 0 q.nodes))

  enters_reach : (x : Reach) → In x (into near (reaches_from q a 0 q.nodes)) → Enters q near a (reach_edge x)
  enters_reach x i =
      let c = crossing_from near [] (record { source = None; left = 0; reaches = reaches_from q a 0 q.nodes }) x i in
      let r = reaches_in q a 0 q.nodes x c.1 in
      let l = r.3 in
      record { node = r.0; inside = omega arith; is = r.2 ∙ ap (λ y. Some (reach_edge y)) r.4; zoned = ap (λ (y : Reach). in_zone near y.node) r.4 ∙ c.2 }

  pub enters_at : (k : ℕ) (x : Edge) → k < length entering → x ≡ get_or entering k x → Enters q near a x
  enters_at k x h e =
      let i = in_map reach_edge (into near (reaches_from q a 0 q.nodes)) x (subst (λ y. In y entering) (sym e) (in_get_or entering k x h)) in
      subst (Enters q near a) i.2 (enters_reach i.0 i.1)

-- ---- the lightest edge of an action

-- the edges' smallest weight, from the first on
fold_min : (a b : ℕ) (ys : List ℕ) → min a (fold min b ys) ≡ fold min (min a b) ys
fold_min a b [] = refl
fold_min a b (y ∷ ys) = fold_min a (min b y) ys ∙ (let e : min a (min b y) ≡ min (min a b) y = omega arith in ap (λ c. fold min c ys) e)

smaller_fold : (a : ℕ) (ys : List ℕ) → smaller (Some a) (reduce min ys) ≡ Some (fold min a ys)
smaller_fold a [] = refl
smaller_fold a (y ∷ ys) = ap Some (fold_min a y ys)

pub lightest_reduced : (r : ℕ) (xs : List Reach) → reduce min (map (edge_weight r) (map reach_edge xs)) ≡ lightest r xs
unfolding lightest
lightest_reduced r [] = refl
lightest_reduced r (x ∷ xs) = sym (smaller_fold (weight r x) (map (edge_weight r) (map reach_edge xs))) ∙ ap (smaller (Some (weight r x))) (lightest_reduced r xs)

-- ---- the largest charge of an action

pub ceil_is : (a b : ℕ) → 1 ≤ b → a / b + min 1 (a % b) ≡ ceil_div a b
ceil_is a b h = go (a % b) (a / b) (div-add-mod' a b) (mod_below a b h)
  where
    go : (r d : ℕ) → d * b + r ≡ a → r < b → d + min 1 r ≡ ceil_div a b
    go zero d e l =
        let w : a + (b - 1) ≡ d * b + (b - 1) = omega arith in
        let k = ap (λ n. n / b) w ∙ div-mul-add d b (b - 1) (omega arith) in omega arith
    go (suc r) d e l =
        let m = native.Mathlib.Nat.add-mul d 1 b ∙ ap (λ n. d * b + n) (native.Mathlib.Nat.one-mul b) in
        let w : a + (b - 1) ≡ (d + 1) * b + r = omega arith in
        let k = ap (λ n. n / b) w ∙ div-mul-add (d + 1) b r (omega arith) in omega arith

-- what the quotient that is rounded up computes
abbrev pub edge_charge : ℕ → Edge → ℕ
edge_charge μ e = μ * e.gain / e.short + min 1 (μ * e.gain % e.short)

fold_max : (a b : ℕ) (ys : List ℕ) → max a (fold max b ys) ≡ fold max (max a b) ys
fold_max a b [] = refl
fold_max a b (y ∷ ys) = fold_max a (max b y) ys ∙ (let e : max a (max b y) ≡ max (max a b) y = omega arith in ap (λ c. fold max c ys) e)

max_fold : (a : ℕ) (ys : List ℕ) → max a (unwrap_or (reduce max ys) 0) ≡ fold max a ys
max_fold a [] = omega arith
max_fold a (y ∷ ys) = fold_max a y ys

pub charge_reduced : (μ : ℕ) (xs : List Reach) → ((x : Reach) → In x xs → 1 ≤ x.short) → unwrap_or (reduce max (map (edge_charge μ) (map reach_edge xs))) 0 ≡ charge μ xs
unfolding charge
charge_reduced μ [] h = refl
charge_reduced μ (x ∷ xs) h =
    sym (max_fold (edge_charge μ (reach_edge x)) (map (edge_charge μ) (map reach_edge xs)))
    ∙ ap₂ max (ceil_is (μ * x.gain) x.short (h x (inl refl))) (charge_reduced μ xs (λ y i. h y (inr i)))

-- an edge's charge, and what is computed for it, are small
pub record Small (short gain r μ : ℕ) : Type 0 where
  pub product : μ * gain ≤ 1814400050400000
  pub within : ceil_div (μ * gain) short ≤ r

pub small_charge : (q : Question) (r : ℕ) (near : List Bool) (μ a n : ℕ) (e : Edge) → Fits q → a < q.actions → n < q.nodes → r ≤ 50400000 → Light q r near μ a → edge_at q a n ≡ Some e → in_zone near n ≡ true → Small e.short e.gain r μ
small_charge q r near μ a n e f h k m l s z =
    let b = f.edges_small a n e h k s in
    let light = l n e k s z in
    let p = mul-le μ e.gain (weight r (reach_of n e)) e.gain light (omega arith) in
    let d = div-mul-le_self (e.short * r) e.gain in
    let t = mul-le e.short r 36000001 50400000 b.1 m in
    record { product = omega arith; within = charge_fits μ r (reach_of n e) b.0 light }

module _ (q : Question) (r : ℕ) (near : List Bool) (μ a : ℕ) (f : Fits q) (inside : a < q.actions) where
  pub entering_short : (x : Reach) → In x (into near (reaches_from q a 0 q.nodes)) → 1 ≤ x.short
  entering_short x i = let e = enters_reach q near a x i in (f.edges_small a e.node (reach_edge x) inside e.inside e.is).0

  pub charge_within : r ≤ 50400000 → Light q r near μ a → charge μ (into near (reaches_from q a 0 q.nodes)) ≤ r
  charge_within m l = charge_least μ r (into near (reaches_from q a 0 q.nodes))
      (λ x i. let e = enters_reach q near a x i in (small_charge q r near μ a e.node (reach_edge x) f inside e.inside m l e.is e.zoned).within)

-- ---- the cut, action by action

-- an action's source is a node below the goal node
pub source_small : (q : Question) (ss : List (Option ℕ)) (a : ℕ) → Fits q → Placed q ss → a < q.actions → (n : ℕ) → get_or ss a None ≡ Some n → n < 128
source_small q ss a f p h n e = let l = p a n h e in let k = f.few_nodes in omega arith

pub source_starts : (q : Question) (ss : List (Option ℕ)) (a : ℕ) → Fits q → Placed q ss → a < q.actions → (g : Bool) (w : ℕ) → marked w (get_or ss a None) ≡ starts (zone_of q g w) (get_or ss a None)
source_starts q ss a f p h g w = marked_starts q g w f.some_nodes (get_or ss a None) (λ n e. p a n h e)

smaller_cons : (v : Value) (ys : List ℕ) → smaller v (reduce min ys) ≡ reduce min (cons_option v ys)
smaller_cons None ys = refl
smaller_cons (Some a) ys = smaller_fold a ys

-- the smallest weight of those actions that pass a test, from the i-th on
module _ (q : Question) (rs : List ℕ) (ss : List (Option ℕ)) (near start : List Bool) (p : ℕ → Bool) where
  abbrev pub action_weight : ℕ → Value
  action_weight a = lightest (get_or rs a 0) (into near (reaches_from q a 0 q.nodes))

  pub weight_reduced : (i k : ℕ) → ((a : ℕ) → i ≤ a → a < i + k → p a ≡ starts start (get_or ss a None)) → reduce min (filter_map action_weight (filter p (range_with_len i k))) ≡ lightest_of (crossings (edges_from q rs ss i k) near start)
  unfolding lightest lightest_of edges_from
  weight_reduced i zero h = refl
  weight_reduced i (suc k) h = go (p i) refl (weight_reduced (i + 1) k (λ a l r. h a (omega arith) (omega arith)))
    where
      here : p i ≡ starts start (get_or ss i None)
      here = h i (omega arith) (omega arith)

      go : (b : Bool) → p i ≡ b → reduce min (filter_map action_weight (filter p (range_with_len (i + 1) k))) ≡ lightest_of (crossings (edges_from q rs ss (i + 1) k) near start)
          → reduce min (filter_map action_weight (cond b (i ∷ filter p (range_with_len (i + 1) k)) (filter p (range_with_len (i + 1) k)))) ≡ smaller (lightest (get_or rs i 0) (cond (starts start (get_or ss i None)) (into near (reaches_from q i 0 q.nodes)) [])) (lightest_of (crossings (edges_from q rs ss (i + 1) k) near start))
      go true e rest =
          sym (smaller_cons (action_weight i) (filter_map action_weight (filter p (range_with_len (i + 1) k))))
          ∙ ap₂ smaller (ap (lightest (get_or rs i 0)) (sym (cond-true _ _ _ (sym here ∙ e)))) rest
      go false e rest = rest ∙ ap (λ xs. smaller (lightest (get_or rs i 0) xs) (lightest_of (crossings (edges_from q rs ss (i + 1) k) near start))) (sym (cond-false _ _ _ (sym here ∙ e)))

-- the smaller of a number and the smallest so far, if there is one
abbrev pub least_with : Value → ℕ → Value
least_with v x = Some (min (unwrap_or v x) x)

least_folded : (a : ℕ) (xs : List ℕ) → fold least_with (Some a) xs ≡ Some (fold min a xs)
least_folded a [] = refl
least_folded a (x ∷ xs) = least_folded (min a x) xs

pub least_reduced : (xs : List ℕ) → fold least_with None xs ≡ reduce min xs
least_reduced [] = refl
least_reduced (x ∷ xs) = least_folded (min x x) xs ∙ (let e : min x x ≡ x = omega arith in ap (λ a. Some (fold min a xs)) e)

pub unwrapped : (v : Value) → unwrap_or v 0 ≡ or_zero v
unwrapped None = refl
unwrapped (Some a) = refl

pub small_weight : (q : Question) (r a n : ℕ) (e : Edge) → Fits q → a < q.actions → n < q.nodes → r ≤ 50400000 → edge_at q a n ≡ Some e → e.short * r ≤ 1814400050400000
small_weight q r a n e f h k m s = let b = f.edges_small a n e h k s in mul-le e.short r 36000001 50400000 b.1 m
