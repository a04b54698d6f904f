-- The turns of the loops that make offers: the first values and open nodes, the offers of one action and of all that are due.
use Rattle.std.proofs.Common.{◌≡◌, ℕ, ◌+◌, ◌-◌, ◌*◌, ◌^◌, ◌<◌, ◌≤◌, Bool, true, false, cond, not, ◌&&◌, ◌||◌, eqb, ltb, ◌≢◌, ◌⊎◌, List, [], length, get_or, set, take, replicate, Some, None, Option, sym, refl, ap, ◌∙◌, subst, ap₂, subst₂, inl, inr, ⊎_elim, div-le_self, MatchBool, arith}
use lib.Bits.{bit_and, bit_or}
use Rattle.std.proofs.lemmas.Nat.{mul-le}
use Rattle.std.proofs.lemmas.List.{length-set, get_or-set_same, get_or-set_other, get_or-replicate, get_or-take, length-take-le}
use Rattle.std.proofs.lemmas.Bool.{cases_lt, cases_eq, eq-eqb, ne_eqb, lt-ltb, le-ltb, ltb-true, ltb-false, cond-true, cond-false, cond_both, and_parts, true≢false}
use Rattle.task.specs.States.{fact_holds}
use Rattle.task.proofs.Words.{holds_or, holds_power}
use Rattle.lmcut.specs.Bitwise.{BitStep, holds_action, ActionStep}
use Rattle.lmcut.specs.Questions.{unit_edge, edge_at, Fits}
use Rattle.lmcut.specs.Valued.{infinite, most_weight, edge_weight, lowered, FiredTo, Fired, ready_at, fires_at, Came, ReachedTo, Begun, Opened}
use Rattle.lmcut.specs.Queued.{put}
use Rattle.lmcut.specs.declared.question.Question.{Question}
use Rattle.lmcut.specs.declared.question.Edge.{Edge}
use Rattle.lmcut.proofs.Bitwise.{Coming, coming_step, coming_end, ActionsLeft, NextAction, actions_step, actions_end, upwards}
use Rattle.lmcut.proofs.Prepared.{no_bit}
use Rattle.lmcut.proofs.Zoned.{edge_none, edge_goal, edge_goal_none}

-- ---- weights

pub weight_small : (r : ℕ) (e : Edge) → r ≤ 50400000 → e.short ≤ 36000001 → edge_weight r e ≤ most_weight
weight_small r e a b = let m = mul-le e.short r 36000001 50400000 b a in let d = div-le_self (e.short * r) e.gain in omega arith

-- ---- the first values and the first open nodes

-- the first k nodes are told, and those of them that do not hold are open
pub record BegunTo (q : Question) (k : ℕ) (xs : List ℕ) (w : ℕ) : Type 0 where
  pub long : length xs ≡ 129
  pub each : (n : ℕ) → n < k → get_or xs n 0 ≡ cond (get_or q.holds n false) 0 infinite
  pub rest : (n : ℕ) → k ≤ n → n < 129 → get_or xs n 0 ≡ infinite
  pub opens : (n : ℕ) → fact_holds w n ≡ (ltb n k && not (get_or q.holds n false))

pub begun_none : (q : Question) → BegunTo q 0 (replicate 129 infinite) 0
begun_none q =
    record {
      long = refl;
      each = λ n h. absurd (omega arith);
      rest = λ n h k. get_or-replicate 129 n infinite 0 k;
      opens = λ n. no_bit n ∙ sym (ap (λ x. x && not (get_or q.holds n false)) (le-ltb n 0 (omega arith)));
    }

-- a number that is not k is below k where it is below the next
below_next : (n k : ℕ) → (n ≡ k → ⊥) → ltb n k ≡ ltb n (k + 1)
below_next n k ne = ⊎_elim
    (λ l. lt-ltb n k l ∙ sym (lt-ltb n (k + 1) (omega arith)))
    (λ l. le-ltb n k l ∙ sym (le-ltb n (k + 1) (⊎_elim (λ x. omega arith) (λ x. absurd (ne (omega arith))) (cases_lt k n))))
    (cases_lt n k)

pub begun_hold : (q : Question) (k : ℕ) (xs : List ℕ) (w : ℕ) → BegunTo q k xs w → k < 129 → get_or q.holds k false ≡ true → BegunTo q (k + 1) (set xs k 0) w
begun_hold q k xs w b l h = record { long = length-set xs k 0 ∙ b.long; each = each; rest = λ n a c. let ne : n ≢ k = λ e. omega arith in get_or-set_other xs k n 0 0 ne ∙ b.rest n (omega arith) c; opens = λ n. b.opens n ∙ same n }
  where
    each : (n : ℕ) → n < k + 1 → get_or (set xs k 0) n 0 ≡ cond (get_or q.holds n false) 0 infinite
    each n a = ⊎_elim
        (λ e. subst (λ m. get_or (set xs k 0) m 0 ≡ cond (get_or q.holds m false) 0 infinite) (sym e) (get_or-set_same xs k 0 0 (let z = b.long in omega arith) ∙ sym (cond-true (get_or q.holds k false) 0 infinite h)))
        (λ ne. get_or-set_other xs k n 0 0 ne ∙ b.each n (⊎_elim (λ x. x) (λ x. absurd (ne (omega arith))) (cases_lt n k)))
        (cases_eq n k)

    off : (x y : Bool) → (x && not true) ≡ (y && not true)
    off true true = refl
    off true false = refl
    off false true = refl
    off false false = refl

    same : (n : ℕ) → (ltb n k && not (get_or q.holds n false)) ≡ (ltb n (k + 1) && not (get_or q.holds n false))
    same n = ⊎_elim
        (λ e. subst (λ x. (ltb n k && not x) ≡ (ltb n (k + 1) && not x)) (sym (ap (λ m. get_or q.holds m false) e ∙ h)) (off (ltb n k) (ltb n (k + 1))))
        (λ ne. ap (λ x. x && not (get_or q.holds n false)) (below_next n k ne))
        (cases_eq n k)

pub begun_open : (q : Question) (k : ℕ) (xs : List ℕ) (w : ℕ) → BegunTo q k xs w → k < 129 → get_or q.holds k false ≡ false → BegunTo q (k + 1) xs (bit_or w (2 ^ k))
begun_open q k xs w b l h = record { long = b.long; each = each; rest = λ n a c. b.rest n (omega arith) c; opens = λ n. holds_or w (2 ^ k) n ∙ ap₂ (λ x y. x || y) (b.opens n) (holds_power k n) ∙ more n }
  where
    each : (n : ℕ) → n < k + 1 → get_or xs n 0 ≡ cond (get_or q.holds n false) 0 infinite
    each n a = ⊎_elim
        (λ e. subst (λ m. get_or xs m 0 ≡ cond (get_or q.holds m false) 0 infinite) (sym e) (b.rest k (omega arith) l ∙ sym (cond-false (get_or q.holds k false) 0 infinite h)))
        (λ ne. b.each n (⊎_elim (λ x. x) (λ x. absurd (ne (omega arith))) (cases_lt n k)))
        (cases_eq n k)

    on : (x : Bool) → (x || true) ≡ true
    on true = refl
    on false = refl

    kept : (x : Bool) → (x || false) ≡ x
    kept true = refl
    kept false = refl

    more : (n : ℕ) → ((ltb n k && not (get_or q.holds n false)) || eqb k n) ≡ (ltb n (k + 1) && not (get_or q.holds n false))
    more n = ⊎_elim
        (λ e. ap (λ x. (ltb n k && not (get_or q.holds n false)) || x) (eq-eqb k n (sym e)) ∙ on (ltb n k && not (get_or q.holds n false))
        ∙ sym (ap₂ (λ x y. x && not y) (lt-ltb n (k + 1) (omega arith)) (ap (λ m. get_or q.holds m false) e ∙ h)))
        (λ ne. ap (λ x. (ltb n k && not (get_or q.holds n false)) || x) (ne_eqb k n (λ e. ne (sym e))) ∙ kept (ltb n k && not (get_or q.holds n false))
        ∙ ap (λ x. x && not (get_or q.holds n false)) (below_next n k ne))
        (cases_eq n k)

-- the nodes below the goal node, as the code walks them
abbrev pub inner_holds : Question → List Bool
inner_holds q = take (q.nodes - 1) q.holds

length_inner : (q : Question) → Fits q → length (inner_holds q) ≡ q.nodes - 1
length_inner q f = length-take-le (q.nodes - 1) q.holds (let a = f.few_nodes in let b = f.held_long in omega arith)

pub begun_more : (q : Question) (k : ℕ) → Fits q → k < length (inner_holds q) → (k < 128) × (get_or q.holds k false ≡ get_or (inner_holds q) k false)
begun_more q k f l = let e = length_inner q f in let few = f.few_nodes in (omega arith, sym (get_or-take (q.nodes - 1) q.holds k false (omega arith)))

-- the goal node does not hold
pub begun_all : (q : Question) (k : ℕ) (xs : List ℕ) (w : ℕ) → Fits q → BegunTo q k xs w → k ≤ length (inner_holds q) → length (inner_holds q) ≤ k → Begun q xs × Opened q w
begun_all q k xs w f b low high = (record { long = b.long; each = each }, λ n. b.opens n ∙ ap (λ m. ltb n m && not (get_or q.holds n false)) e)
  where
    e : k ≡ q.nodes - 1
    e = let i = length_inner q f in omega arith

    each : (n : ℕ) → n < q.nodes → get_or xs n 0 ≡ cond (get_or q.holds n false) 0 infinite
    each n h = ⊎_elim (b.each n)
        (λ l. let j = e in let i : q.nodes - 1 ≡ n = omega arith in let few = f.few_nodes in
        b.rest n l (omega arith) ∙ sym (cond-false (get_or q.holds n false) 0 infinite (subst (λ m. get_or q.holds m false ≡ false) i f.goal_open)))
        (cases_lt n k)

-- ---- the offers of an action

pub fired_none : (q : Question) (a r top : ℕ) (xs : List ℕ) → FiredTo q a r top 0 xs xs
fired_none q a r top xs = record { long = refl; each = λ n h. absurd (omega arith); rest = λ n h. refl }

module _ (q : Question) (a r top k : ℕ) (xs ys : List ℕ) (f : FiredTo q a r top k xs ys) where
  fired_same : get_or ys k 0 ≡ lowered (edge_at q a k) top r (get_or ys k 0) → FiredTo q a r top (k + 1) xs ys
  fired_same e = record { long = f.long; each = each; rest = λ n h. f.rest n (omega arith) }
    where
      each : (n : ℕ) → n < k + 1 → get_or ys n 0 ≡ lowered (edge_at q a n) top r (get_or xs n 0)
      each n h = ⊎_elim
          (λ i. subst (λ m. get_or ys m 0 ≡ lowered (edge_at q a m) top r (get_or xs m 0)) (sym i) (e ∙ ap (lowered (edge_at q a k) top r) (f.rest k (omega arith))))
          (λ ne. f.each n (⊎_elim (λ x. x) (λ x. absurd (ne (omega arith))) (cases_lt n k)))
          (cases_eq n k)

  fired_set : (y : ℕ) → k < length ys → y ≡ lowered (edge_at q a k) top r (get_or ys k 0) → FiredTo q a r top (k + 1) xs (set ys k y)
  fired_set y l e = record { long = length-set ys k y ∙ f.long; each = each; rest = λ n h. let ne : n ≢ k = λ i. omega arith in get_or-set_other ys k n y 0 ne ∙ f.rest n (omega arith) }
    where
      each : (n : ℕ) → n < k + 1 → get_or (set ys k y) n 0 ≡ lowered (edge_at q a n) top r (get_or xs n 0)
      each n h = ⊎_elim
          (λ i. subst (λ m. get_or (set ys k y) m 0 ≡ lowered (edge_at q a m) top r (get_or xs m 0)) (sym i) (get_or-set_same ys k y 0 l ∙ e ∙ ap (lowered (edge_at q a k) top r) (f.rest k (omega arith))))
          (λ ne. get_or-set_other ys k n y 0 ne ∙ f.each n (⊎_elim (λ x. x) (λ x. absurd (ne (omega arith))) (cases_lt n k)))
          (cases_eq n k)

  pub fired_skip : edge_at q a k ≡ None → FiredTo q a r top (k + 1) xs ys
  fired_skip e = fired_same (sym (ap (λ o. lowered o top r (get_or ys k 0)) e))

  fired_high : (e : Edge) → edge_at q a k ≡ Some e → get_or ys k 0 ≤ top + edge_weight r e → FiredTo q a r top (k + 1) xs ys
  fired_high e i h = fired_same (sym (ap (λ o. lowered o top r (get_or ys k 0)) i ∙ cond-false (ltb (top + edge_weight r e) (get_or ys k 0)) (top + edge_weight r e) (get_or ys k 0) (le-ltb (top + edge_weight r e) (get_or ys k 0) h)))

  fired_low : (e : Edge) → edge_at q a k ≡ Some e → k < length ys → top + edge_weight r e < get_or ys k 0 → FiredTo q a r top (k + 1) xs (set ys k (top + edge_weight r e))
  fired_low e i l h = fired_set (top + edge_weight r e) l (sym (ap (λ o. lowered o top r (get_or ys k 0)) i ∙ cond-true (ltb (top + edge_weight r e) (get_or ys k 0)) (top + edge_weight r e) (get_or ys k 0) (lt-ltb (top + edge_weight r e) (get_or ys k 0) h)))

  pub fired_put : (e : Edge) → edge_at q a k ≡ Some e → k < length ys → FiredTo q a r top (k + 1) xs (put ys k (top + edge_weight r e))
  fired_put e i l = cond_both (ltb (top + edge_weight r e) (get_or ys k 0)) (set ys k (top + edge_weight r e)) ys (FiredTo q a r top (k + 1) xs)
      (λ t. fired_low e i l (ltb-true (top + edge_weight r e) (get_or ys k 0) t))
      (λ t. fired_high e i (ltb-false (top + edge_weight r e) (get_or ys k 0) t))

-- the nodes before the next that the action's word has are passed over, and so are those past its last
pub record Firing (q : Question) (a r top w : ℕ) (xs ys : List ℕ) : Type 0 where
  pub at : ℕ
  pub inside : at < q.nodes
  pub coming : Coming (get_or q.reach a 0) at w
  pub fired : FiredTo q a r top at xs ys

module _ (q : Question) (a r top w : ℕ) (xs : List ℕ) where
  module _ (ys : List ℕ) (g : Firing q a r top w xs ys) where
    fired_over : (n : ℕ) → g.at ≤ n → n < q.nodes → ((m : ℕ) → g.at ≤ m → m < n → fact_holds (get_or q.reach a 0) m ≡ false) → FiredTo q a r top n xs ys
    fired_over n l h none = upwards (λ m. FiredTo q a r top m xs ys) g.at n l (λ m i j s. fired_skip q a r top m xs ys s (edge_none q a m (omega arith) (none m i j))) g.fired

    pub firing_next : (n v : ℕ) (e : Edge) → Fits q → BitStep w (Some n) v → edge_at q a n ≡ Some e → n < length ys → Firing q a r top v xs (put ys n (top + edge_weight r e))
    firing_next n v e f s i l =
        let c = coming_step _ g.at w n v g.coming s in
        let h = f.reach_inside a n c.set in
        record { at = n + 1; inside = h; coming = c.rest; fired = fired_put q a r top n xs ys (fired_over n c.from (omega arith) c.none) e i l }

    pub firing_end : (v : ℕ) → BitStep w None v → FiredTo q a r top (q.nodes - 1) xs ys
    firing_end v s = let h = g.inside in fired_over (q.nodes - 1) (omega arith) (omega arith) (λ m i j. coming_end _ g.at w v g.coming s m i)

-- the helper's edge into the goal node
module _ (q : Question) (a r top : ℕ) (xs ys : List ℕ) (f : Fits q) (s : FiredTo q a r top (q.nodes - 1) xs ys) where
  last : q.nodes - 1 + 1 ≡ q.nodes
  last = let z = f.some_nodes in omega arith

  pub fired_goal : (zs : List ℕ) → a + 1 ≡ q.actions → length ys ≡ 129 → zs ≡ put ys (q.nodes - 1) (top + r) → FiredTo q a r top q.nodes xs zs
  fired_goal zs e long is =
      let few = f.few_nodes in
      let some = f.some_nodes in
      let unit : edge_weight r unit_edge ≡ r = omega arith in
      let same : put ys (q.nodes - 1) (top + edge_weight r unit_edge) ≡ zs = ap (λ x. put ys (q.nodes - 1) (top + x)) unit ∙ sym is in
      subst₂ (λ n vs. FiredTo q a r top n xs vs) last same (fired_put q a r top (q.nodes - 1) xs ys s unit_edge (edge_goal q a f.some_nodes e) (omega arith))

  pub fired_no_goal : (a + 1 ≡ q.actions → ⊥) → FiredTo q a r top q.nodes xs ys
  fired_no_goal ne = subst (λ n. FiredTo q a r top n xs ys) last (fired_skip q a r top (q.nodes - 1) xs ys s (edge_goal_none q a f.some_nodes ne))

pub fired_ready : (q : Question) (rs : List ℕ) (w a top : ℕ) (xs ys : List ℕ) → bit_and (get_or q.needs a 0) w ≡ 0 → FiredTo q a (get_or rs a 0) top q.nodes xs ys → Fired q rs w a top xs ys
fired_ready q rs w a top xs ys e f = subst (λ b. MatchBool b (FiredTo q a (get_or rs a 0) top q.nodes xs ys) (ys ≡ xs)) (sym (eq-eqb _ 0 e)) f

-- ---- the offers of all actions that are due

pub reached_none : (q : Question) (rs : List ℕ) (due : ℕ → Bool) (top : ℕ) (xs : List ℕ) → ReachedTo q rs due top 0 xs xs
reached_none q rs due top xs = record { long = refl; fell = λ n h. omega arith; low = λ a n e l. absurd (omega arith); from = λ n h. inl refl }

lowered_fell : (o : Option Edge) (top r x : ℕ) → lowered o top r x ≤ x
lowered_fell None top r x = omega arith
lowered_fell (Some e) top r x = cond_both (ltb (top + edge_weight r e) x) (top + edge_weight r e) x (λ y. y ≤ x) (λ t. let l = ltb-true (top + edge_weight r e) x t in omega arith) (λ _. omega arith)

lowered_low : (o : Option Edge) (e : Edge) (top r x : ℕ) → o ≡ Some e → lowered o top r x ≤ top + edge_weight r e
lowered_low o e top r x i = subst (λ p. lowered p top r x ≤ top + edge_weight r e) (sym i) (cond_both (ltb (top + edge_weight r e) x) (top + edge_weight r e) x (λ y. y ≤ top + edge_weight r e) (λ _. omega arith) (λ t. ltb-false (top + edge_weight r e) x t))

lowered_from : (o : Option Edge) (top r x : ℕ) → (lowered o top r x ≡ x) ⊎ ((e : Edge) × (o ≡ Some e) × (lowered o top r x ≡ top + edge_weight r e))
lowered_from None top r x = inl refl
lowered_from (Some e) top r x = cond_both (ltb (top + edge_weight r e) x) (top + edge_weight r e) x (λ y. (y ≡ x) ⊎ ((f : Edge) × (Some e ≡ Some f) × (y ≡ top + edge_weight r f))) (λ _. inr (e, refl, refl)) (λ _. inl refl)

module _ (q : Question) (rs : List ℕ) (due : ℕ → Bool) (top k : ℕ) (xs ys : List ℕ) (s : ReachedTo q rs due top k xs ys) where
  came_more : (n y : ℕ) → Came q rs due top k n y → Came q rs due top (k + 1) n y
  came_more n y c = let l = c.inside in record { action = c.action; inside = omega arith; fires = c.fires; edge = c.edge; is = c.is; exact = c.exact }

  pub reached_skip : (b : Bool) → b ≡ due k → b ≡ false → ReachedTo q rs due top (k + 1) xs ys
  reached_skip b t u =
      let d = sym t ∙ u in
      record {
        long = s.long;
        fell = s.fell;
        low = λ a n e l v h i. s.low a n e (⊎_elim (λ x. x) (λ x. let j : a ≡ k = omega arith in absurd (true≢false (sym v ∙ ap due j ∙ d))) (cases_lt a k)) v h i;
        from = λ n h. ⊎_elim inl (λ c. inr (came_more n (get_or ys n 0) c)) (s.from n h);
      }

  pub reached_fire : (zs : List ℕ) (b : Bool) → b ≡ due k → b ≡ true → FiredTo q k (get_or rs k 0) top q.nodes ys zs → ReachedTo q rs due top (k + 1) xs zs
  reached_fire zs b t u f =
      record { long = f.long ∙ s.long; fell = λ n h. let a = s.fell n h in let b = below n h in omega arith; low = low; from = from }
    where
      d : due k ≡ true
      d = sym t ∙ u

      below : (n : ℕ) → n < q.nodes → get_or zs n 0 ≤ get_or ys n 0
      below n h = subst (λ z. z ≤ get_or ys n 0) (sym (f.each n h)) (lowered_fell (edge_at q k n) top (get_or rs k 0) (get_or ys n 0))

      low : (a n : ℕ) (e : Edge) → a < k + 1 → due a ≡ true → n < q.nodes → edge_at q a n ≡ Some e → get_or zs n 0 ≤ top + edge_weight (get_or rs a 0) e
      low a n e l v h i = ⊎_elim
          (λ x. let p = s.low a n e x v h i in let b = below n h in omega arith)
          (λ x. let j : k ≡ a = omega arith in
          subst (λ m. get_or zs n 0 ≤ top + edge_weight (get_or rs m 0) e) j
          (subst (λ z. z ≤ top + edge_weight (get_or rs k 0) e) (sym (f.each n h)) (lowered_low (edge_at q k n) e top (get_or rs k 0) (get_or ys n 0) (ap (λ m. edge_at q m n) j ∙ i))))
          (cases_lt a k)

      from : (n : ℕ) → n < q.nodes → (get_or zs n 0 ≡ get_or xs n 0) ⊎ Came q rs due top (k + 1) n (get_or zs n 0)
      from n h = ⊎_elim
          (λ e. ⊎_elim (λ g. inl (f.each n h ∙ e ∙ g)) (λ c. inr (subst (Came q rs due top (k + 1) n) (sym (f.each n h ∙ e)) (came_more n (get_or ys n 0) c))) (s.from n h))
          (λ c. inr (record { action = k; inside = omega arith; fires = d; edge = c.0; is = c.1; exact = f.each n h ∙ c.2 }))
          (lowered_from (edge_at q k n) top (get_or rs k 0) (get_or ys n 0))

  pub reached_more : (w : ℕ) (zs : List ℕ) → due k ≡ ready_at q w k → Fired q rs w k top ys zs → ReachedTo q rs due top (k + 1) xs zs
  reached_more w zs d = go (ready_at q w k) d
    where
      go : (b : Bool) → due k ≡ b → MatchBool b (FiredTo q k (get_or rs k 0) top q.nodes ys zs) (zs ≡ ys) → ReachedTo q rs due top (k + 1) xs zs
      go true t f = reached_fire zs true (sym t) refl f
      go false t e = subst (ReachedTo q rs due top (k + 1) xs) (sym e) (reached_skip false (sym t) refl)

-- ---- the actions that need a node

module _ (q : Question) (rs : List ℕ) (w n top : ℕ) (f : Fits q) where
  -- an action past the last needs nothing
  fires_inside : (a : ℕ) → fires_at q w n a ≡ true → a < q.actions
  fires_inside a d = ⊎_elim (λ l. l) (λ l. absurd (true≢false (sym (and_parts _ _ d).1 ∙ ap (λ x. fact_holds x n) (f.needs_past a l) ∙ no_bit n))) (cases_lt a q.actions)

  pub reached_all : (k : ℕ) (xs ys : List ℕ) → 257 ≤ k → ReachedTo q rs (fires_at q w n) top k xs ys → ReachedTo q rs (fires_at q w n) top q.actions xs ys
  reached_all k xs ys l s =
      let few = f.few_actions in
      record {
        long = s.long;
        fell = s.fell;
        low = λ a m e i. s.low a m e (omega arith);
        from = λ m h. ⊎_elim inl (λ c. inr (record { action = c.action; inside = fires_inside c.action c.fires; fires = c.fires; edge = c.edge; is = c.is; exact = c.exact })) (s.from m h);
      }

-- the actions before the next that needs the node are passed over
pub record Passing (q : Question) (rs : List ℕ) (w n top : ℕ) (ws xs ys : List ℕ) : Type 0 where
  pub at : ℕ
  pub inside : at ≤ 384
  pub left : ActionsLeft (get_or q.needing n []) at ws
  pub reached : ReachedTo q rs (fires_at q w n) top at xs ys

module _ (q : Question) (rs : List ℕ) (w n top : ℕ) (ws xs : List ℕ) where
  module _ (f : Fits q) (inside : n < 128) (ys : List ℕ) (g : Passing q rs w n top ws xs ys) where
    passed_over : (m : ℕ) → g.at ≤ m → m ≤ 384 → ((a : ℕ) → g.at ≤ a → a < m → holds_action (get_or q.needing n []) a ≡ false) → ReachedTo q rs (fires_at q w n) top m xs ys
    passed_over m l h none = upwards (λ a. ReachedTo q rs (fires_at q w n) top a xs ys) g.at m l
        (λ a i j s. reached_skip q rs (fires_at q w n) top a xs ys s false (sym (clear (ready_at q w a) _ (sym (f.needing n a inside (omega arith)) ∙ none a i j))) refl)
        g.reached
      where
        clear : (x y : Bool) → y ≡ false → (x && y) ≡ false
        clear true y e = e
        clear false y e = refl

    module _ (a : ℕ) (vs : List ℕ) (s : ActionStep ws (Some a) vs) where
      next : NextAction (get_or q.needing n []) g.at a vs
      next = actions_step _ g.at ws a vs g.left s

      needs : fact_holds (get_or q.needs a 0) n ≡ true
      needs = sym (f.needing n a inside next.inside) ∙ next.set

      pub passing_inside : a < q.actions
      passing_inside = ⊎_elim (λ l. l) (λ l. absurd (true≢false (sym needs ∙ ap (λ x. fact_holds x n) (f.needs_past a l) ∙ no_bit n))) (cases_lt a q.actions)

      due : fires_at q w n a ≡ ready_at q w a
      due = both (ready_at q w a) _ needs
        where
          both : (x y : Bool) → y ≡ true → (x && y) ≡ x
          both true y e = e
          both false y e = refl

      pub passing_more : (zs : List ℕ) → Fired q rs w a top ys zs → Passing q rs w n top vs xs zs
      passing_more zs r =
          let l = next.inside in
          record { at = a + 1; inside = omega arith; left = next.rest; reached = reached_more q rs (fires_at q w n) top a xs ys (passed_over a next.from (omega arith) next.none) w zs due r }

    pub passing_end : (vs : List ℕ) → ActionStep ws None vs → ReachedTo q rs (fires_at q w n) top q.actions xs ys
    passing_end vs s = reached_all q rs w n top f 384 xs ys (omega arith) (passed_over 384 g.inside (omega arith) (λ a i j. actions_end _ g.at ws vs g.left s a i))
