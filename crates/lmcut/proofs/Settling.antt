-- Finding values lowest first: what is known while nodes leave the open ones, and that what it ends with is justified.
use Rattle.std.proofs.Common.{◌≡◌, ℕ, zero, suc, ◌+◌, ◌-◌, ◌*◌, ◌^◌, ◌<◌, ◌≤◌, Bool, true, false, cond, not, ◌&&◌, eqb, ltb, ◌⊎◌, List, [], ◌∷◌, length, get_or, take, Some, None, sym, refl, ap, ◌∙◌, subst, inl, inr, ⊎_elim, arith}
use Rattle.std.proofs.lemmas.Option.{none-some}
use lib.Bits.{bit_and, bit_xor}
use Rattle.std.specs.List.{AllByRecursion}
use Rattle.std.proofs.lemmas.Nat.{mul-le}
use Rattle.std.proofs.lemmas.List.{get_or-take, get_or_past, length-take-le}
use Rattle.std.proofs.lemmas.Bool.{cases_lt, cases_eq, cases_Bool, eqb-true, eq-eqb, ne_eqb, lt-ltb, ltb-true, cond-true, cond-false, cond_both, and_parts, and_from, true≢false, false≢true}
use Rattle.tables.specs.Rules.{Once}
use Rattle.task.specs.States.{fact_holds}
use Rattle.landmarks.specs.Relaxed.{Reach}
use Rattle.lmcut.specs.Questions.{edge_at, reach_of, relaxed_of, Fits}
use Rattle.landmarks.specs.Rounds.{plus, weight, Loaded, value_at, largest, in_zone}
use Rattle.landmarks.specs.Laws.{In, ◌≼◌, Supported, Justified}
use Rattle.lmcut.specs.Drawn.{read_value, Modest}
use Rattle.lmcut.specs.Valued.{infinite, most_weight, edge_weight, needs_at, loads, ready_at, fires_at, Came, ReachedTo, Begun, Opened, Valued}
use Rattle.lmcut.specs.declared.question.Question.{Question}
use Rattle.lmcut.specs.declared.question.Edge.{Edge}
use Rattle.landmarks.proofs.Orders.{in_all}
use Rattle.landmarks.proofs.Sweeps.{pigeonhole, justified_is}
use Rattle.lmcut.proofs.Offers.{weight_small}
use Rattle.lmcut.proofs.Prepared.{apart, apart_at, dropped_at, dropped_other, bits_in, in_bits, reaches_in, in_reaches, load_at, loads_in, in_loads, told_some, told_none, told_back, tells_all, tells_long, tells_at, tells_past, peak, peak_same, peak_most, peak_least, largest_peak, largest_none}

-- p is an open node of finite value, at most that of each open node
pub record Lowest (xs : List ℕ) («open» nodes p : ℕ) : Type 0 where
  pub inside : p + 1 < nodes
  pub waits : fact_holds «open» p ≡ true
  pub finite : get_or xs p 0 ≡ infinite → ⊥
  pub least : (n : ℕ) → n + 1 < nodes → fact_holds «open» n ≡ true → get_or xs p 0 ≤ get_or xs n 0

-- no open node has a finite value
abbrev pub NoneLow : List ℕ → ℕ → ℕ → Type 0
NoneLow xs «open» nodes = (n : ℕ) → n + 1 < nodes → fact_holds «open» n ≡ true → infinite ≤ get_or xs n 0

-- a node that is no longer open
abbrev pub Shut : ℕ → ℕ → Type 0
Shut w n = fact_holds w n ≡ false

-- all needs of an action are shut
abbrev pub Ready : Question → ℕ → ℕ → Type 0
Ready q w a = (m : ℕ) → In m (needs_at q a) → Shut w m

-- an action reaches a node with exactly its value, from needs that are shut, and of smaller rank
pub record Made (q : Question) (rs xs : List ℕ) (w : ℕ) (rank : ℕ → ℕ) (n : ℕ) : Type 0 where
  pub action : ℕ
  pub inside : action < q.actions
  pub edge : Edge
  pub is : edge_at q action n ≡ Some edge
  pub exact : get_or xs n 0 ≡ peak xs (needs_at q action) + edge_weight (get_or rs action 0) edge
  pub shut : Ready q w action
  pub earlier : (m : ℕ) → In m (needs_at q action) → rank m < rank n

-- the values xs, where w has the open nodes, top is the value of the last node that was shut, and the actions that are due have yet
-- to make their offers
pub record Going (q : Question) (rs xs : List ℕ) (w top : ℕ) (due : ℕ → Bool) : Type 0 where
  pub long : length xs ≡ 129
  pub inside : (n : ℕ) → fact_holds w n ≡ true → n + 1 < q.nodes
  pub done : List ℕ
  pub rank : ℕ → ℕ
  pub once : Once done
  pub within : AllByRecursion (λ n. n < q.nodes - 1) done
  pub done_shut : (n : ℕ) → In n done → Shut w n
  pub rank_low : (n : ℕ) → n + 1 < q.nodes → Shut w n → rank n < length done
  pub rank_most : (n : ℕ) → rank n < q.nodes
  pub rank_high : (n : ℕ) → (n + 1 < q.nodes → Shut w n → ⊥) → rank n ≡ q.nodes - 1
  pub top_small : top ≤ length done * most_weight
  pub sized : (n : ℕ) → n < q.nodes → (get_or xs n 0 ≡ infinite) ⊎ (get_or xs n 0 ≤ top + most_weight)
  pub low : (n : ℕ) → n + 1 < q.nodes → Shut w n → get_or xs n 0 ≤ top
  pub high : (n : ℕ) → fact_holds w n ≡ true → top ≤ get_or xs n 0
  pub held : (n : ℕ) → n < q.nodes → get_or q.holds n false ≡ true → get_or xs n 0 ≡ 0
  pub offers : (a n : ℕ) (e : Edge) → a < q.actions → due a ≡ false → Ready q w a → n < q.nodes → edge_at q a n ≡ Some e → get_or xs n 0 ≤ peak xs (needs_at q a) + edge_weight (get_or rs a 0) e
  pub peaks : (a : ℕ) → a < q.actions → due a ≡ true → Ready q w a × (peak xs (needs_at q a) ≡ top)
  pub made : (n : ℕ) → n < q.nodes → get_or q.holds n false ≡ false → (get_or xs n 0 ≡ infinite → ⊥) → Made q rs xs w rank n

abbrev pub none_due : ℕ → Bool
none_due a = false

-- what an action needs is below the goal node
pub need_inside : (q : Question) (a m : ℕ) → In m (needs_at q a) → m + 1 < q.nodes
need_inside q a m i = let h = (bits_in (get_or q.needs a 0) 0 (q.nodes - 1) m i).1 in omega arith

-- the word test tells whether an action is ready
pub ready_if : (q : Question) (w a : ℕ) → bit_and (get_or q.needs a 0) w ≡ 0 → Ready q w a
ready_if q w a e m i = apart_at (get_or q.needs a 0) w m e (bits_in (get_or q.needs a 0) 0 (q.nodes - 1) m i).0

pub if_ready : (q : Question) (w a : ℕ) → ((n : ℕ) → fact_holds w n ≡ true → n + 1 < q.nodes) → Ready q w a → bit_and (get_or q.needs a 0) w ≡ 0
if_ready q w a inside r = apart (get_or q.needs a 0) w (λ m h. go m h (fact_holds w m) refl)
  where
    go : (m : ℕ) → fact_holds (get_or q.needs a 0) m ≡ true → (b : Bool) → fact_holds w m ≡ b → fact_holds w m ≡ false
    go m h false e = e
    go m h true e = r m (in_bits (get_or q.needs a 0) 0 (q.nodes - 1) m h (omega arith) (let l = inside m e in omega arith))

pub top_most : (q : Question) (rs xs : List ℕ) (w top : ℕ) (due : ℕ → Bool) → Fits q → Going q rs xs w top due → top ≤ 128 * most_weight
top_most q rs xs w top due f g =
    let p = pigeonhole (q.nodes - 1) g.done g.once g.within in
    let few = f.few_nodes in
    let m = mul-le (length g.done) most_weight 128 most_weight (omega arith) (omega arith) in
    let t = g.top_small in omega arith

-- ---- the offers of the actions that are due

module _ (q : Question) (rs xs ys : List ℕ) (w top : ℕ) (due : ℕ → Bool) (f : Fits q) (small : Modest rs) (g : Going q rs xs w top due) (r : ReachedTo q rs due top q.actions xs ys) where
  came_small : (n y : ℕ) → n < q.nodes → Came q rs due top q.actions n y → y ≤ top + most_weight
  came_small n y h c =
      let e = f.edges_small c.action n c.edge c.inside h c.is in
      let s = weight_small (get_or rs c.action 0) c.edge (small c.action) e.1 in
      let x = c.exact in omega arith

  same : (n : ℕ) → n + 1 < q.nodes → Shut w n → get_or ys n 0 ≡ get_or xs n 0
  same n h s = ⊎_elim (λ e. e) (λ c. let l = g.low n h s in let k = r.fell n (omega arith) in let x = c.exact in omega arith) (r.from n (omega arith))

  same_peak : (a : ℕ) → Ready q w a → peak ys (needs_at q a) ≡ peak xs (needs_at q a)
  same_peak a s = peak_same xs ys (needs_at q a) (λ m i. same m (need_inside q a m i) (s m i))

  old_made : (n : ℕ) → get_or ys n 0 ≡ get_or xs n 0 → Made q rs xs w g.rank n → Made q rs ys w g.rank n
  old_made n e m =
      record {
        action = m.action;
        inside = m.inside;
        edge = m.edge;
        is = m.is;
        exact = e ∙ m.exact ∙ ap (λ p. p + edge_weight (get_or rs m.action 0) m.edge) (sym (same_peak m.action m.shut));
        shut = m.shut;
        earlier = m.earlier;
      }

  new_made : (n : ℕ) → (n + 1 < q.nodes → Shut w n → ⊥) → Came q rs due top q.actions n (get_or ys n 0) → Made q rs ys w g.rank n
  new_made n ne c =
      let p = g.peaks c.action c.inside c.fires in
      let few = pigeonhole (q.nodes - 1) g.done g.once g.within in
      record {
        action = c.action;
        inside = c.inside;
        edge = c.edge;
        is = c.is;
        exact = c.exact ∙ ap (λ t. t + edge_weight (get_or rs c.action 0) c.edge) (sym (same_peak c.action p.0 ∙ p.1));
        shut = p.0;
        earlier = λ m i. let a = g.rank_low m (need_inside q c.action m i) (p.0 m i) in let b = g.rank_high n ne in omega arith;
      }

  made_now : (n : ℕ) → n < q.nodes → get_or q.holds n false ≡ false → (get_or ys n 0 ≡ infinite → ⊥) → Made q rs ys w g.rank n
  made_now n h o fin = ⊎_elim inner outer (cases_lt (n + 1) q.nodes)
    where
      kept : get_or ys n 0 ≡ get_or xs n 0 → Made q rs ys w g.rank n
      kept e = old_made n e (g.made n h o (λ i. fin (e ∙ i)))

      by_from : (n + 1 < q.nodes → Shut w n → ⊥) → Made q rs ys w g.rank n
      by_from ne = ⊎_elim kept (λ c. new_made n ne c) (r.from n h)

      inner : n + 1 < q.nodes → Made q rs ys w g.rank n
      inner l = ⊎_elim (λ t. by_from (λ _ s. true≢false (sym t ∙ s))) (λ s. kept (same n l s)) (cases_Bool (fact_holds w n))

      outer : q.nodes ≤ n + 1 → Made q rs ys w g.rank n
      outer l = by_from (λ k _. omega arith)

  pub going_fired : Going q rs ys w top none_due
  going_fired =
      record {
        long = r.long ∙ g.long;
        inside = g.inside;
        done = g.done;
        rank = g.rank;
        once = g.once;
        within = g.within;
        done_shut = g.done_shut;
        rank_low = g.rank_low;
        rank_most = g.rank_most;
        rank_high = g.rank_high;
        top_small = g.top_small;
        sized = λ n h. ⊎_elim (λ e. ⊎_elim (λ i. inl (e ∙ i)) (λ l. inr (omega arith)) (g.sized n h)) (λ c. inr (came_small n (get_or ys n 0) h c)) (r.from n h);
        low = λ n h s. let e = same n h s in let l = g.low n h s in omega arith;
        high = λ n t. let h = g.inside n t in let l = g.high n t in ⊎_elim (λ e. omega arith) (λ c. let x = c.exact in omega arith) (r.from n (omega arith));
        held = λ n h t. let z = g.held n h t in let k = r.fell n h in omega arith;
        offers = offers;
        peaks = λ a h t. absurd (false≢true t);
        made = made_now;
      }
    where
      offers : (a n : ℕ) (e : Edge) → a < q.actions → false ≡ false → Ready q w a → n < q.nodes → edge_at q a n ≡ Some e → get_or ys n 0 ≤ peak ys (needs_at q a) + edge_weight (get_or rs a 0) e
      offers a n e l _ s h i = ⊎_elim
          (λ t. let p = g.peaks a l t in let z = same_peak a s in let y = p.1 in let k = r.low a n e l t h i in omega arith)
          (λ t. let o = g.offers a n e l t s h i in let z = same_peak a s in let k = r.fell n h in omega arith)
          (cases_Bool (due a))

-- ---- the next node

module _ (q : Question) (rs xs : List ℕ) (w top p : ℕ) (g : Going q rs xs w top none_due) (lowest : Lowest xs w q.nodes p) where
  abbrev next_word : ℕ
  next_word = bit_xor w (bit_and w (2 ^ p))

  abbrev next-due : ℕ → Bool
  next-due = fires_at q next_word p

  abbrev next-rank : ℕ → ℕ
  next-rank n = cond (eqb n p) (length g.done) (g.rank n)

  rank_here : next-rank p ≡ length g.done
  rank_here = cond-true (eqb p p) (length g.done) (g.rank p) (eq-eqb p p refl)

  rank_there : (n : ℕ) → (n ≡ p → ⊥) → next-rank n ≡ g.rank n
  rank_there n ne = cond-false (eqb n p) (length g.done) (g.rank n) (ne_eqb n p ne)

  was_shut : (n : ℕ) → Shut w n → n ≡ p → ⊥
  was_shut n s e = true≢false (sym lowest.waits ∙ ap (fact_holds w) (sym e) ∙ s)

  still_shut : (n : ℕ) → Shut w n → Shut next_word n
  still_shut n s = dropped_other w p n (was_shut n s) ∙ s

  now_shut : (n : ℕ) → Shut next_word n → (n ≡ p → ⊥) → Shut w n
  now_shut n s ne = sym (dropped_other w p n ne) ∙ s

  was_open : (n : ℕ) → fact_holds next_word n ≡ true → (n ≡ p → ⊥) × (fact_holds w n ≡ true)
  was_open n t =
      let ne : n ≡ p → ⊥ = λ e. true≢false (sym t ∙ ap (fact_holds next_word) e ∙ dropped_at w p) in
      (ne, sym (dropped_other w p n ne) ∙ t)

  few : length g.done < q.nodes - 1
  few =
      let apart_from : AllByRecursion (λ y. p ≡ y → ⊥) g.done = in_all (λ y. p ≡ y → ⊥) g.done (λ y i e. was_shut y (g.done_shut y i) (sym e)) in
      let l = lowest.inside in
      let h = pigeonhole (q.nodes - 1) (p ∷ g.done) (apart_from, g.once) (omega arith, g.within) in omega arith

  top_up : top ≤ get_or xs p 0
  top_up = g.high p lowest.waits

  next_small : get_or xs p 0 ≤ top + most_weight
  next_small = let l = lowest.inside in ⊎_elim (λ e. absurd (lowest.finite e)) (λ h. h) (g.sized p (omega arith))

  shut_low : (n : ℕ) → n + 1 < q.nodes → Shut next_word n → get_or xs n 0 ≤ get_or xs p 0
  shut_low n h s = ⊎_elim
      (λ e. subst (λ m. get_or xs m 0 ≤ get_or xs p 0) (sym e) (omega arith))
      (λ ne. let l = g.low n h (now_shut n s ne) in let t = top_up in omega arith)
      (cases_eq n p)

  ready_before : (a : ℕ) → Ready q next_word a → (In p (needs_at q a) → ⊥) → Ready q w a
  ready_before a s free m i = now_shut m (s m i) (λ e. free (subst (λ k. In k (needs_at q a)) e i))

  next_inside : (n : ℕ) → fact_holds next_word n ≡ true → n + 1 < q.nodes
  next_inside n t = g.inside n (was_open n t).1

  next_offers : (a n : ℕ) (e : Edge) → a < q.actions → next-due a ≡ false → Ready q next_word a → n < q.nodes → edge_at q a n ≡ Some e → get_or xs n 0 ≤ peak xs (needs_at q a) + edge_weight (get_or rs a 0) e
  next_offers a n e l d s h i =
      let z = if_ready q next_word a next_inside s in
      g.offers a n e l refl (ready_before a s (λ j. true≢false (sym (and_from (eqb (bit_and (get_or q.needs a 0) next_word) 0) (fact_holds (get_or q.needs a 0) p) (eq-eqb (bit_and (get_or q.needs a 0) next_word) 0 z) (bits_in (get_or q.needs a 0) 0 (q.nodes - 1) p j).0) ∙ d))) h i

  next_peaks : (a : ℕ) → a < q.actions → next-due a ≡ true → Ready q next_word a × (peak xs (needs_at q a) ≡ get_or xs p 0)
  next_peaks a l d =
      let b = and_parts (eqb (bit_and (get_or q.needs a 0) next_word) 0) (fact_holds (get_or q.needs a 0) p) d in
      let s = ready_if q next_word a (eqb-true (bit_and (get_or q.needs a 0) next_word) 0 b.0) in
      let k = lowest.inside in
      let i = in_bits (get_or q.needs a 0) 0 (q.nodes - 1) p b.1 (omega arith) (omega arith) in
      let up = peak_most xs (needs_at q a) (get_or xs p 0) (λ m j. shut_low m (need_inside q a m j) (s m j)) in
      let down = peak_least xs (needs_at q a) p i in
      (s, omega arith)

  next_made : (n : ℕ) → n < q.nodes → get_or q.holds n false ≡ false → (get_or xs n 0 ≡ infinite → ⊥) → Made q rs xs next_word next-rank n
  next_made n h o fin =
      let m = g.made n h o fin in
      record {
        action = m.action;
        inside = m.inside;
        edge = m.edge;
        is = m.is;
        exact = m.exact;
        shut = λ k i. still_shut k (m.shut k i);
        earlier = λ k i.
            let a = rank_there k (was_shut k (m.shut k i)) in
            let b = m.earlier k i in
            let c = g.rank_low k (need_inside q m.action k i) (m.shut k i) in
            ⊎_elim
            (λ e. subst (λ j. next-rank k < next-rank j) (sym e) (let d = rank_here in omega arith))
            (λ ne. let d = rank_there n ne in omega arith)
            (cases_eq n p);
      }

  pub going_next : Going q rs xs next_word (get_or xs p 0) next-due
  going_next =
      let l = lowest.inside in
      record {
        long = g.long;
        inside = next_inside;
        done = p ∷ g.done;
        rank = next-rank;
        once = (in_all (λ y. p ≡ y → ⊥) g.done (λ y i e. was_shut y (g.done_shut y i) (sym e)), g.once);
        within = (omega arith, g.within);
        done_shut = λ n i. ⊎_elim (λ e. subst (Shut next_word) e (dropped_at w p)) (λ j. still_shut n (g.done_shut n j)) i;
        rank_low = λ n h s. ⊎_elim
            (λ e. subst (λ m. next-rank m < suc (length g.done)) (sym e) (let d = rank_here in omega arith))
            (λ ne. let d = rank_there n ne in let b = g.rank_low n h (now_shut n s ne) in omega arith)
            (cases_eq n p);
        rank_most = λ n. ⊎_elim
            (λ e. subst (λ m. next-rank m < q.nodes) (sym e) (let d = rank_here in let b = few in omega arith))
            (λ ne. let d = rank_there n ne in let b = g.rank_most n in omega arith)
            (cases_eq n p);
        rank_high = λ n ne. let other : n ≡ p → ⊥ = λ e. ne (omega arith) (ap (fact_holds next_word) e ∙ dropped_at w p) in rank_there n other ∙ g.rank_high n (λ h s. ne h (still_shut n s));
        top_small = let a = g.top_small in let b = next_small in omega arith;
        sized = λ n h. let t = top_up in ⊎_elim inl (λ k. inr (omega arith)) (g.sized n h);
        low = shut_low;
        high = λ n t. lowest.least n (next_inside n t) (was_open n t).1;
        held = g.held;
        offers = next_offers;
        peaks = next_peaks;
        made = next_made;
      }

pub next_most : (q : Question) (rs xs : List ℕ) (w top p : ℕ) → Fits q → Going q rs xs w top none_due → Lowest xs w q.nodes p → get_or xs p 0 ≤ 129 * most_weight
next_most q rs xs w top p f g l = let t = top_most q rs xs w top none_due f g in let n = next_small q rs xs w top p g l in omega arith

-- ---- the start

-- a node below k that holds, if there is one
held_one : (q : Question) (k : ℕ) → ((n : ℕ) → n < k → get_or q.holds n false ≡ false) ⊎ ((m : ℕ) × (m < k) × (get_or q.holds m false ≡ true))
held_one q zero = inl (λ n h. absurd (omega arith))
held_one q (suc k) = ⊎_elim
    (λ t. inr (k, omega arith, t))
    (λ o. ⊎_elim
    (λ none. inl (λ n h. ⊎_elim (none n) (λ l. let e : k ≡ n = omega arith in subst (λ m. get_or q.holds m false ≡ false) e o) (cases_lt n k)))
    (λ m. inr (m.0, (let l = m.1 in omega arith), m.2))
    (held_one q k))
    (cases_Bool (get_or q.holds k false))

module _ (q : Question) (rs xs : List ℕ) (w : ℕ) (f : Fits q) (b : Begun q xs) (o : Opened q w) where
  start_inside : (n : ℕ) → fact_holds w n ≡ true → n + 1 < q.nodes
  start_inside n t = let l = ltb-true n (q.nodes - 1) (and_parts _ _ (sym (o n) ∙ t)).0 in omega arith

  shut_held : (n : ℕ) → n + 1 < q.nodes → Shut w n → get_or q.holds n false ≡ true
  shut_held n h s = go (get_or q.holds n false) (sym (ap (λ x. x && not (get_or q.holds n false)) (lt-ltb n (q.nodes - 1) (omega arith))) ∙ sym (o n) ∙ s)
    where
      go : (x : Bool) → not x ≡ false → x ≡ true
      go true e = refl
      go false e = absurd (true≢false e)

  held_shut : (n : ℕ) → get_or q.holds n false ≡ true → Shut w n
  held_shut n t = o n ∙ ap (λ x. ltb n (q.nodes - 1) && not x) t ∙ off (ltb n (q.nodes - 1))
    where
      off : (x : Bool) → (x && false) ≡ false
      off true = refl
      off false = refl

  zero_at : (n : ℕ) → n < q.nodes → get_or q.holds n false ≡ true → get_or xs n 0 ≡ 0
  zero_at n h t = b.each n h ∙ cond-true (get_or q.holds n false) 0 infinite t

  infinite_at : (n : ℕ) → n < q.nodes → get_or q.holds n false ≡ false → get_or xs n 0 ≡ infinite
  infinite_at n h t = b.each n h ∙ cond-false (get_or q.holds n false) 0 infinite t

  -- no open node has a value yet
  pub start_blank : (n : ℕ) → n + 1 < q.nodes → fact_holds w n ≡ true → get_or xs n 0 ≡ infinite
  start_blank n h t = infinite_at n (omega arith) (go (get_or q.holds n false) (and_parts _ _ (sym (o n) ∙ t)).1)
    where
      go : (x : Bool) → not x ≡ true → x ≡ false
      go true e = absurd (false≢true e)
      go false e = refl

  abbrev start-rank : ℕ → ℕ
  start-rank n = cond (ltb n (q.nodes - 1) && get_or q.holds n false) 0 (q.nodes - 1)

  rank_held : (n : ℕ) → n + 1 < q.nodes → Shut w n → start-rank n ≡ 0
  rank_held n h s = cond-true _ 0 (q.nodes - 1) (and_from (ltb n (q.nodes - 1)) (get_or q.holds n false) (lt-ltb n (q.nodes - 1) (omega arith)) (shut_held n h s))

  rank_open : (n : ℕ) → (n + 1 < q.nodes → Shut w n → ⊥) → start-rank n ≡ q.nodes - 1
  rank_open n ne = ⊎_elim
      (λ t. let p = and_parts _ _ t in let l = ltb-true n (q.nodes - 1) p.0 in absurd (ne (omega arith) (held_shut n p.1)))
      (λ t. cond-false _ 0 (q.nodes - 1) t)
      (cases_Bool (ltb n (q.nodes - 1) && get_or q.holds n false))

  -- one node that holds stands for all that do
  going_from : (done : List ℕ) → Once done → AllByRecursion (λ n. n < q.nodes - 1) done → ((n : ℕ) → In n done → Shut w n) → ((n : ℕ) → n + 1 < q.nodes → Shut w n → 0 < length done) → Going q rs xs w 0 (ready_at q w)
  going_from done once within shut some =
      record {
        long = b.long;
        inside = start_inside;
        done = done;
        rank = start-rank;
        once = once;
        within = within;
        done_shut = shut;
        rank_low = λ n h s. let e = rank_held n h s in let l = some n h s in omega arith;
        rank_most = λ n. cond_both (ltb n (q.nodes - 1) && get_or q.holds n false) 0 (q.nodes - 1) (λ r. r < q.nodes) (λ _. let z = f.some_nodes in omega arith) (λ _. let z = f.some_nodes in omega arith);
        rank_high = rank_open;
        top_small = omega arith;
        sized = λ n h. ⊎_elim (λ t. inr (let z = zero_at n h t in omega arith)) (λ t. inl (infinite_at n h t)) (cases_Bool (get_or q.holds n false));
        low = λ n h s. let z = zero_at n (omega arith) (shut_held n h s) in omega arith;
        high = λ n t. omega arith;
        held = zero_at;
        offers = λ a n e l d s h i. absurd (true≢false (sym (eq-eqb (bit_and (get_or q.needs a 0) w) 0 (if_ready q w a start_inside s)) ∙ d));
        peaks = peaks;
        made = λ n h t fin. absurd (fin (infinite_at n h t));
      }
    where
      peaks : (a : ℕ) → a < q.actions → ready_at q w a ≡ true → Ready q w a × (peak xs (needs_at q a) ≡ 0)
      peaks a l d =
          let s = ready_if q w a (eqb-true (bit_and (get_or q.needs a 0) w) 0 d) in
          let m = peak_most xs (needs_at q a) 0 (λ k i. let h = need_inside q a k i in let z = zero_at k (omega arith) (shut_held k h (s k i)) in omega arith) in
          (s, omega arith)

  pub going_start : Going q rs xs w 0 (ready_at q w)
  going_start = ⊎_elim
      (λ none. going_from [] tt tt (λ n i. absurd i) (λ n h s. absurd (true≢false (sym (shut_held n h s) ∙ none n (omega arith)))))
      (λ m. going_from (m.0 ∷ []) (tt, tt) (m.1, tt) (λ n i. ⊎_elim (λ e. subst (Shut w) e (held_shut m.0 m.2)) (λ j. absurd j) i) (λ n h s. omega arith))
      (held_one q (q.nodes - 1))

-- ---- the end

ready_or : (w : ℕ) (ms : List ℕ) → ((m : ℕ) → In m ms → Shut w m) ⊎ ((m : ℕ) × In m ms × (fact_holds w m ≡ true))
ready_or w [] = inl (λ m i. absurd i)
ready_or w (m ∷ ms) = ⊎_elim
    (λ t. inr (m, inl refl, t))
    (λ s. ⊎_elim (λ all. inl (λ k i. ⊎_elim (λ e. subst (Shut w) e s) (λ j. all k j) i)) (λ o. inr (o.0, inr o.1, o.2)) (ready_or w ms))
    (cases_Bool (fact_holds w m))

module _ (q : Question) (rs xs : List ℕ) (w top : ℕ) (f : Fits q) (small : Modest rs) (g : Going q rs xs w top none_due) (none : NoneLow xs w q.nodes) where
  bound : top + most_weight < infinite
  bound = let t = top_most q rs xs w top none_due f g in omega arith

  finite_peak : (a : ℕ) → Ready q w a → largest (tells_all q xs) (needs_at q a) ≡ Some (peak xs (needs_at q a))
  finite_peak a s = largest_peak (tells_all q xs) xs (needs_at q a) (λ m i.
      let h = need_inside q a m i in
      let l = g.low m h (s m i) in
      let b = bound in
      tells_at q xs g.long f.few_nodes m (omega arith) ∙ told_some (get_or xs m 0) (λ e. omega arith))

  open_none : (m : ℕ) → fact_holds w m ≡ true → value_at (tells_all q xs) m ≡ None
  open_none m t =
      let h = g.inside m t in
      let n = none m h t in
      let b = bound in
      tells_at q xs g.long f.few_nodes m (omega arith) ∙ told_none (get_or xs m 0) (⊎_elim (λ e. e) (λ l. absurd (omega arith)) (g.sized m (omega arith)))

  low_at : (a n : ℕ) (e : Edge) → a < q.actions → n < q.nodes → edge_at q a n ≡ Some e → value_at (tells_all q xs) n ≼ plus (largest (tells_all q xs) (needs_at q a)) (edge_weight (get_or rs a 0) e)
  low_at a n e l h i = ⊎_elim ready (λ o. subst (λ v. value_at (tells_all q xs) n ≼ plus v (edge_weight (get_or rs a 0) e)) (sym (largest_none (tells_all q xs) (needs_at q a) o.0 o.1 (open_none o.0 o.2))) tt) (ready_or w (needs_at q a))
    where
      ready : Ready q w a → value_at (tells_all q xs) n ≼ plus (largest (tells_all q xs) (needs_at q a)) (edge_weight (get_or rs a 0) e)
      ready s =
          let o = g.offers a n e l refl s h i in
          let p = peak_most xs (needs_at q a) top (λ m j. g.low m (need_inside q a m j) (s m j)) in
          let b = bound in
          let k = f.edges_small a n e l h i in
          let z = weight_small (get_or rs a 0) e (small a) k.1 in
          let t : value_at (tells_all q xs) n ≡ Some (get_or xs n 0) = tells_at q xs g.long f.few_nodes n h ∙ told_some (get_or xs n 0) (λ j. omega arith) in
          subst (λ v. v ≼ plus (largest (tells_all q xs) (needs_at q a)) (edge_weight (get_or rs a 0) e)) (sym t) (subst (λ v. Some (get_or xs n 0) ≼ plus v (edge_weight (get_or rs a 0) e)) (sym (finite_peak a s)) o)

  exact_at : (n : ℕ) → n < q.nodes → (get_or xs n 0 ≡ infinite → ⊥) → (m : Made q rs xs w g.rank n) → value_at (tells_all q xs) n ≡ plus (largest (tells_all q xs) (needs_at q m.action)) (edge_weight (get_or rs m.action 0) m.edge)
  exact_at n l fin m =
      let wt = edge_weight (get_or rs m.action 0) m.edge in
      let here : value_at (tells_all q xs) n ≡ Some (get_or xs n 0) = tells_at q xs g.long f.few_nodes n l ∙ told_some (get_or xs n 0) fin in
      let there : plus (largest (tells_all q xs) (needs_at q m.action)) wt ≡ Some (peak xs (needs_at q m.action) + wt) = ap (λ u. plus u wt) (finite_peak m.action m.shut) in
      here ∙ ap Some m.exact ∙ sym there

  zone_inside : (n : ℕ) → in_zone (take q.nodes q.holds) n ≡ true → n < q.nodes
  zone_inside n t = ⊎_elim (λ l. l) (λ l. absurd (true≢false (sym t ∙ get_or_past (take q.nodes q.holds) n false (let z = f.held_long in let k = f.few_nodes in let c = length-take-le q.nodes q.holds (omega arith) in omega arith)))) (cases_lt n q.nodes)

  pub going_justified : Justified (relaxed_of q) (loads q rs) (tells_all q xs) g.rank
  unfolding relaxed_of
  going_justified =
      record {
        settles = record {
          long = tells_long q xs g.long f.few_nodes;
          held = λ n t. let l = zone_inside n t in
              let z = g.held n l (sym (get_or-take q.nodes q.holds n false l) ∙ t) in
              tells_at q xs g.long f.few_nodes n l ∙ ap read_value z;
          low = low_in;
        };
        ranks = g.rank_most;
        supported = supported;
      }
    where
      low_in : (l : Loaded) → In l (loads q rs) → (x : Reach) → In x l.reaches → value_at (tells_all q xs) x.node ≼ plus (largest (tells_all q xs) l.needs) (weight l.left x)
      low_in l i x j =
          let a = loads_in q rs l i in
          let r = reaches_in q a.0 0 q.nodes x (subst (λ (k : Loaded). In x k.reaches) (sym a.2) j) in
          let at = low_at a.0 r.0 r.1 a.1 (let z = r.3 in omega arith) r.2 in
          let one = subst (λ (y : Reach). value_at (tells_all q xs) y.node ≼ plus (largest (tells_all q xs) (needs_at q a.0)) (weight (get_or rs a.0 0) y)) r.4 at in
          subst (λ (k : Loaded). value_at (tells_all q xs) x.node ≼ plus (largest (tells_all q xs) k.needs) (weight k.left x)) a.2 one

      supported : (n v : ℕ) → in_zone (take q.nodes q.holds) n ≡ false → value_at (tells_all q xs) n ≡ Some v → Supported (relaxed_of q) (loads q rs) (tells_all q xs) g.rank n
      supported n v o t =
          let l : n < q.nodes = ⊎_elim (λ h. h) (λ h. absurd (none-some v (sym (tells_past q xs g.long f.few_nodes n h) ∙ t))) (cases_lt n q.nodes) in
          let at = tells_at q xs g.long f.few_nodes n l in
          let back = told_back (get_or xs n 0) v (sym at ∙ t) in
          let m = g.made n l (sym (get_or-take q.nodes q.holds n false l) ∙ o) back.1 in
          record {
            by = load_at q rs m.action;
            among = in_loads q rs m.action m.inside;
            edge = reach_of n m.edge;
            reached = in_reaches q m.action 0 q.nodes n m.edge m.is (omega arith) (omega arith);
            here = refl;
            exact = exact_at n l back.1 m;
            earlier = λ k i. inr (m.earlier k i);
          }

  zone_long : length (relaxed_of q).holds ≡ (relaxed_of q).nodes
  unfolding relaxed_of
  zone_long = let z = f.held_long in let k = f.few_nodes in length-take-le q.nodes q.holds (omega arith)

  pub going_valued : Valued q rs xs
  going_valued = record { long = g.long; each = λ n h. sym (tells_at q xs g.long f.few_nodes n h) ∙ ap (λ vs. value_at vs n) (justified_is (relaxed_of q) (loads q rs) zone_long (tells_all q xs) g.rank going_justified) }
