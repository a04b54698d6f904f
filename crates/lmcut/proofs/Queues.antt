-- The heap of the nodes that wait: what each call does to it, and that its first entry is of lowest value.
use Rattle.std.proofs.Common.{min, length-take, ◌≡◌, ℕ, ◌+◌, ◌-◌, ◌*◌, ◌%◌, ◌^◌, ◌<◌, ◌≤◌, true, false, eqb, ◌⊎◌, List, [], ◌∷◌, map, length, get_or, take, set, sum_by, Ordering, Less, Equal, Greater, sym, refl, ap, ◌∙◌, subst, ap₂, inl, inr, ⊎_elim, arith}
use lib.Bits.{bit_and, bit_xor}
use mathlib.Core.Logic.{∥∥₁_elim, ∥∥₁_map}
use Rattle.std.proofs.Props.{props}
use Rattle.std.proofs.lemmas.Nat.{one_shl}
use Rattle.std.proofs.lemmas.List.Elements.{All-contains, All-contains_itself, All-map, All-weaker, recursion_from_All}
use Rattle.std.proofs.lemmas.List.{get_or-set_same, get_or-set_other, length-map}
use Rattle.std.proofs.lemmas.List.Sums.{sum_by-cons, get_or-le-sum_by}
use Rattle.std.proofs.lemmas.Bool.{cases_eq, eq-eqb, ne_eqb, cond-true, cond-false, true≢false}
use Rattle.std.specs.Cmp.{IsTotalOrder, nat_cmp_total, on_total, tied_itself as tied_with_itself}
use Rattle.std.specs.Ordering.{is_eq, is_lt, ordering_reverse, ordering_then, nat_cmp, on}
use Rattle.std.specs.List.{AllByRecursion, Contains}
use Rattle.order.specs.Laws.{held, room, First, Lowered, Popped, Pushed, Same, Unmet}
use Rattle.order.specs.Ranks.{AtMost}
use Rattle.order.proofs.Fields.{unsigned_less, unsigned_tied, fields_at_most, fields_tied}
use Rattle.order.proofs.Members.{has_here, has_there, has_cons, pushed_has_new, pushed_has, pushed_only, pushed_sum, popped_has, popped_only, popped_sum, lowered_has_new, lowered_has, lowered_only, lowered_was, lowered_sum, first_at_most}
use Rattle.tables.specs.Rules.{Once}
use Rattle.task.specs.States.{fact_holds}
use Rattle.lmcut.specs.Valued.{infinite}
use Rattle.lmcut.specs.Queued.{NodeHeap, orders, by_node, entry, named, Waits, NoneWaits, Taken, Queued, Requeued}
use Rattle.lmcut.specs.declared.node.Node.{Node}
use Rattle.lmcut.proofs.Prepared.{dropped_at, dropped_other}
use Rattle.landmarks.proofs.Sweeps.{pigeonhole}

-- ---- the order of nodes

by_value : IsTotalOrder (on (λ (x : Node). x.value) nat_cmp)
by_value = on_total (λ (x : Node). x.value) nat_cmp_total

by_number : IsTotalOrder (on (λ (x : Node). x.number) nat_cmp)
by_number = on_total (λ (x : Node). x.number) nat_cmp_total

pub lower_value : (x y : Node) → AtMost by_node x y → x.value ≤ y.value
lower_value x y h = ⊎_elim
    (λ l. let k = unsigned_less x.value y.value l in omega arith)
    (λ e. let k = unsigned_tied x.value y.value e.0 in omega arith)
    (fields_at_most by_value by_number x y h)

same_node : (x y : Node) → orders x y ≡ Equal → x ≡ y
same_node x y e =
    let t = fields_tied by_value by_number x y e in
    let p = unsigned_tied x.value y.value t.0 in
    let q = unsigned_tied x.number y.number t.1 in
    (λ i. record { value = p i; number = q i })

tied_itself : (x : Node) → orders x x ≡ Equal
tied_itself x = tied_with_itself by_node x

then_greater : (r s : Ordering) → ordering_then r s ≡ Greater → (r ≡ Greater) ⊎ (r ≡ Equal)
then_greater Less s e = absurd (true≢false (ap is_lt e))
then_greater Equal s e = inr refl
then_greater Greater s e = inl refl

not_above : (x y : Node) → x.value < y.value → orders x y ≡ Greater → ⊥
not_above x y l e = ⊎_elim
    (λ g. let k = unsigned_less y.value x.value (nat_cmp_total.antisymm y.value x.value ∙ ap ordering_reverse g) in omega arith)
    (λ t. let k = unsigned_tied x.value y.value t in omega arith)
    (then_greater (nat_cmp x.value y.value) (nat_cmp x.number y.number) e)

-- ---- how often a node is named

named_own : (n : ℕ) (z : Node) → z.number ≡ n → named n z ≡ 1
named_own n z e = cond-true (eqb z.number n) 1 0 (eq-eqb z.number n e)

named_other : (n : ℕ) (z : Node) → (z.number ≡ n → ⊥) → named n z ≡ 0
named_other n z ne = cond-false (eqb z.number n) 1 0 (ne_eqb z.number n ne)

count_has : (n : ℕ) (xs : List Node) (z : Node) → Contains xs z → z.number ≡ n → 1 ≤ sum_by (named n) xs
count_has n xs z h e =
    let l = get_or-le-sum_by (named n) xs h.0 z h.1 in
    let s : named n (get_or xs h.0 z) ≡ 1 = ap (named n) h.2 ∙ named_own n z e in omega arith

count_none : (n : ℕ) (xs : List Node) → ((z : Node) → Contains xs z → z.number ≡ n → ⊥) → sum_by (named n) xs ≡ 0
count_none n [] h = refl
count_none n (x ∷ xs) h =
    let a = sum_by-cons (named n) x xs in
    let b = named_other n x (h x (has_here x xs)) in
    let c = count_none n xs (λ z i. h z (has_there x xs z i)) in omega arith

one_only : (n : ℕ) (xs : List Node) → sum_by (named n) xs ≤ 1 → (y z : Node) → Contains xs y → Contains xs z → y.number ≡ n → z.number ≡ n → y ≡ z
one_only n [] l y z h i a b = absurd (let k = h.1 in omega arith)
one_only n (x ∷ xs) l y z h i a b = go (one_only n xs (let s = sum_by-cons (named n) x xs in omega arith) y z) (has_cons x xs y h) (has_cons x xs z i)
  where
    twice : (v : Node) → x.number ≡ n → Contains xs v → v.number ≡ n → ⊥
    twice v e j f = let s = sum_by-cons (named n) x xs in let o = named_own n x e in let c = count_has n xs v j f in omega arith

    go : (Contains xs y → Contains xs z → y.number ≡ n → z.number ≡ n → y ≡ z) → (y ≡ x) ⊎ Contains xs y → (z ≡ x) ⊎ Contains xs z → y ≡ z
    go rest (inl p) (inl r) = p ∙ sym r
    go rest (inl p) (inr j) = absurd (twice z (ap (λ (v : Node). v.number) (sym p) ∙ a) j b)
    go rest (inr j) (inl r) = absurd (twice y (ap (λ (v : Node). v.number) (sym r) ∙ b) j a)
    go rest (inr j) (inr k) = rest j k a b

abbrev numbers : List Node → List ℕ
numbers xs = map (λ (z : Node). z.number) xs

none_named : (n : ℕ) (xs : List Node) → sum_by (named n) xs ≡ 0 → AllByRecursion (λ y. n ≡ y → ⊥) (numbers xs)
none_named n [] h = tt
none_named n (x ∷ xs) h =
    let s = sum_by-cons (named n) x xs in
    ((λ e. let o = named_own n x (sym e) in omega arith), none_named n xs (omega arith))

once_numbers : (xs : List Node) → ((n : ℕ) → sum_by (named n) xs ≤ 1) → Once (numbers xs)
once_numbers [] h = tt
once_numbers (x ∷ xs) h = (
  none_named x.number xs (let s = sum_by-cons (named x.number) x xs in let o = named_own x.number x refl in let k = h x.number in omega arith),
  once_numbers xs (λ n. let s = sum_by-cons (named n) x xs in let k = h n in omega arith),
)

-- ---- values that are set

module _ (xs : List ℕ) (w nodes : ℕ) where
  wait_moved : (ys : List ℕ) (m : ℕ) → get_or ys m 0 ≡ get_or xs m 0 → Waits xs w nodes m → Waits ys w nodes m
  wait_moved ys m e t = record { inside = t.inside; waits = t.waits; finite = λ i. t.finite (sym e ∙ i) }

wait_back : (xs : List ℕ) (w nodes : ℕ) (ys : List ℕ) (m : ℕ) → get_or ys m 0 ≡ get_or xs m 0 → Waits ys w nodes m → Waits xs w nodes m
wait_back xs w nodes ys m e t = wait_moved ys w nodes xs m (sym e) t

entry_same : (n a b : ℕ) → a ≡ b → entry a n ≡ entry b n
entry_same n a b e = ap (λ v. entry v n) e

-- ---- no entry

held_long : (h : NodeHeap) → length (held h) ≡ min h.len (room h)
held_long h = length-take h.len h.entries.now

pub queued_none_yet : (xs : List ℕ) (w nodes : ℕ) (h : NodeHeap) → ((n : ℕ) → n + 1 < nodes → fact_holds w n ≡ true → get_or xs n 0 ≡ infinite) → h.len ≡ 0 → room h ≡ 129 → Queued xs w nodes h
queued_none_yet xs w nodes h b z r =
    record {
      roomy = r;
      once = λ n. subst (λ k. sum_by (named n) (take k h.entries.now) ≤ 1) (sym z) (omega arith);
      only = λ v m. absurd (let k = held_long h in let i = m.1 in omega arith);
      each = λ n t. absurd (t.finite (b n t.inside t.waits));
    }

module _ (xs : List ℕ) (w nodes : ℕ) (h : NodeHeap) (qd : Queued xs w nodes h) where
  pub queued_few : nodes ≤ 129 → 1 ≤ nodes → h.len < room h
  queued_few few some =
      let below = recursion_from_All (λ n. n < nodes - 1) (numbers (held h))
      (All-map (λ n. n < nodes - 1) (λ (z : Node). z.number) (held h)
      (All-weaker (Contains (held h)) (λ z. z.number < nodes - 1) (λ z i. let t = (qd.only z i).0.inside in omega arith) (held h) (All-contains_itself (held h)))) in
      let p = pigeonhole (nodes - 1) (numbers (held h)) (once_numbers (held h) qd.once) below in
      let l = length-map (held h) (λ (z : Node). z.number) in
      let k = held_long h in
      let r = qd.roomy in omega arith

  -- ---- the end

  pub queued_none : h.len ≡ 0 → NoneWaits xs w nodes
  queued_none z n t = let i = (qd.each n t).1 in let k = held_long h in omega arith

  -- ---- nothing is altered

  pub queued_same : (k : NodeHeap) → Same h k → Queued xs w nodes k
  queued_same k s =
      let e : held k ≡ held h = ap₂ take s.0 s.1 in
      record {
        roomy = ap length s.1 ∙ qd.roomy;
        once = λ n. subst (λ zs. sum_by (named n) zs ≤ 1) (sym e) (qd.once n);
        only = λ z i. qd.only z (subst (λ zs. Contains zs z) e i);
        each = λ n t. subst (λ zs. Contains zs (entry (get_or xs n 0) n)) (sym e) (qd.each n t);
      }

  -- ---- a node that does not wait

  module _ (n y : ℕ) where
    abbrev ys : List ℕ
    ys = set xs n y

    other_at : (m : ℕ) → (m ≡ n → ⊥) → get_or (set xs n y) m 0 ≡ get_or xs m 0
    other_at m ne = get_or-set_other xs n m y 0 ne

    only_other : (z : Node) → (z.number ≡ n → ⊥) → Waits xs w nodes z.number × (z.value ≡ get_or xs z.number 0) → Waits (set xs n y) w nodes z.number × (z.value ≡ get_or (set xs n y) z.number 0)
    only_other z ne o = (wait_moved xs w nodes (set xs n y) z.number (other_at z.number ne) o.0, o.1 ∙ sym (other_at z.number ne))

    pub queued_apart : (n + 1 < nodes → fact_holds w n ≡ true → ⊥) → Queued (set xs n y) w nodes h
    queued_apart free =
        record {
          roomy = qd.roomy;
          once = qd.once;
          only = λ z i. let o = qd.only z i in only_other z (λ e. free (subst (λ m. m + 1 < nodes) e o.0.inside) (ap (fact_holds w) (sym e) ∙ o.0.waits)) o;
          each = λ m t. let ne : m ≡ n → ⊥ = λ e. free (subst (λ k. k + 1 < nodes) e t.inside) (ap (fact_holds w) (sym e) ∙ t.waits) in
              subst (Contains (held h)) (entry_same m (get_or xs m 0) (get_or (set xs n y) m 0) (sym (other_at m ne))) (qd.each m (wait_back xs w nodes (set xs n y) m (other_at m ne) t));
        }

    module _ (l : n < length xs) (inner : n + 1 < nodes) (opens : fact_holds w n ≡ true) (low : y < infinite) where
      here_at : get_or (set xs n y) n 0 ≡ y
      here_at = get_or-set_same xs n y 0 l

      wait_here : Waits (set xs n y) w nodes n
      wait_here = record { inside = inner; waits = opens; finite = λ e. let a = here_at in omega arith }

      only_here : (z : Node) → z ≡ entry y n → Waits (set xs n y) w nodes z.number × (z.value ≡ get_or (set xs n y) z.number 0)
      only_here z e = subst (λ (v : Node). Waits (set xs n y) w nodes v.number × (v.value ≡ get_or (set xs n y) v.number 0)) (sym e) (wait_here, sym here_at)

      -- ---- a new entry

      pub queued_push : (k : NodeHeap) → get_or xs n 0 ≡ infinite → Pushed h (entry y n) k → Queued (set xs n y) w nodes k
      queued_push k inf p =
          record {
            roomy = p.same_room ∙ qd.roomy;
            once = once;
            only = λ z i. ⊎_elim (only_here z) (λ j. only_other z (absent z j) (qd.only z j)) (pushed_only p z i);
            each = each;
          }
        where
          absent : (z : Node) → Contains (held h) z → z.number ≡ n → ⊥
          absent z i e = (qd.only z i).0.finite (ap (λ m. get_or xs m 0) e ∙ inf)

          once : (m : ℕ) → sum_by (named m) (held k) ≤ 1
          once m =
              let s = pushed_sum p (named m) in
              ⊎_elim
              (λ e. let a = named_own m (entry y n) e in let b = count_none m (held h) (λ z i j. absent z i (j ∙ sym e)) in omega arith)
              (λ ne. let a = named_other m (entry y n) ne in let b = qd.once m in omega arith)
              (cases_eq n m)

          each : (m : ℕ) → Waits (set xs n y) w nodes m → Contains (held k) (entry (get_or (set xs n y) m 0) m)
          each m t = ⊎_elim
              (λ e. subst (λ j. Contains (held k) (entry (get_or (set xs n y) j 0) j)) (sym e) (subst (Contains (held k)) (entry_same n y (get_or (set xs n y) n 0) (sym here_at)) (pushed_has_new p)))
              (λ ne. subst (Contains (held k)) (entry_same m (get_or xs m 0) (get_or (set xs n y) m 0) (sym (other_at m ne))) (pushed_has p (entry (get_or xs m 0) m) (qd.each m (wait_back xs w nodes (set xs n y) m (other_at m ne) t))))
              (cases_eq m n)

      -- ---- a lower entry

      module _ (fin : get_or xs n 0 ≡ infinite → ⊥) (less : y < get_or xs n 0) where
        pub queued_met : Unmet orders h (entry (get_or xs n 0) n) (entry y n) → ⊥
        queued_met (inl f) = not_above (entry y n) (entry (get_or xs n 0) n) less (f by_node)
        queued_met (inr f) =
            let i = qd.each n (record { inside = inner; waits = opens; finite = fin }) in
            let e = All-contains (λ z. is_eq (orders z (entry (get_or xs n 0) n)) ≡ false) (held h) (entry (get_or xs n 0) n) (f by_node) i in
            true≢false (sym (ap is_eq (tied_itself (entry (get_or xs n 0) n))) ∙ e)

        pub queued_lower : (k : NodeHeap) → Lowered orders h (entry (get_or xs n 0) n) (entry y n) k → Queued (set xs n y) w nodes k
        queued_lower k p =
            record {
              roomy = p.same_room ∙ qd.roomy;
              once = once;
              only = λ z i. ⊎_elim (only_here z) (λ j. only_was z i j) (lowered_only p z i);
              each = each;
            }
          where
            was : p.was ≡ entry (get_or xs n 0) n
            was = lowered_was p by_node same_node

            once : (m : ℕ) → sum_by (named m) (held k) ≤ 1
            once m = let s = lowered_sum p (named m) in let a = ap (named m) was in let b = qd.once m in omega arith

            only_was : (z : Node) → Contains (held k) z → Contains (held h) z → Waits (set xs n y) w nodes z.number × (z.value ≡ get_or (set xs n y) z.number 0)
            only_was z i j = ⊎_elim
                (λ e. only_here z (one_only n (held k) (once n) z (entry y n) i (lowered_has_new p) e refl))
                (λ ne. only_other z ne (qd.only z j))
                (cases_eq z.number n)

            each : (m : ℕ) → Waits (set xs n y) w nodes m → Contains (held k) (entry (get_or (set xs n y) m 0) m)
            each m t = ⊎_elim
                (λ e. subst (λ j. Contains (held k) (entry (get_or (set xs n y) j 0) j)) (sym e) (subst (Contains (held k)) (entry_same n y (get_or (set xs n y) n 0) (sym here_at)) (lowered_has_new p)))
                (λ ne. subst (Contains (held k)) (entry_same m (get_or xs m 0) (get_or (set xs n y) m 0) (sym (other_at m ne)))
                (⊎_elim (λ s. absurd (ne (ap (λ (v : Node). v.number) (s ∙ was)))) (λ i. i)
                (lowered_has p (entry (get_or xs m 0) m) (qd.each m (wait_back xs w nodes (set xs n y) m (other_at m ne) t)))))
                (cases_eq m n)

      pub queued_in : (k : NodeHeap) → nodes ≤ 129 → y < get_or xs n 0 → Requeued h n (get_or xs n 0) y k → Queued (set xs n y) w nodes k
      queued_in k few less r = ⊎_elim
          (λ e. queued_push k e (r.fresh e (queued_few few (omega arith))))
          (λ ne. queued_lower ne less k (r.again ne (queued_met ne less)))
          (cases_eq (get_or xs n 0) infinite)

  -- ---- the first entry

  module _ (x : Node) (first : First orders h x) where
    pub queued_inside : nodes ≤ 129 → x.number < 128
    queued_inside few = let i = (qd.only x first.has).0.inside in omega arith

    pub queued_taken : Taken xs w nodes x (bit_xor w (bit_and w (2 ^ x.number)))
    queued_taken =
        let o = qd.only x first.has in
        record {
          waits = o.0;
          value = o.1;
          least = λ n t. lower_value x (entry (get_or xs n 0) n) (first_at_most first by_node (entry (get_or xs n 0) n) (qd.each n t));
          gone = refl;
        }

    pub queued_pop : (k : NodeHeap) → Popped h x k → Queued xs (bit_xor w (bit_and w (2 ^ x.number))) nodes k
    queued_pop k p =
        record {
          roomy = p.same_room ∙ qd.roomy;
          once = λ n. let s = popped_sum p (named n) in let b = qd.once n in omega arith;
          only = λ z i. let o = qd.only z (popped_has p z i) in (record { inside = o.0.inside; waits = dropped_other w x.number z.number (gone z i) ∙ o.0.waits; finite = o.0.finite }, o.1);
          each = λ n t.
              let ne : n ≡ x.number → ⊥ = λ e. true≢false (sym t.waits ∙ ap (fact_holds (bit_xor w (bit_and w (2 ^ x.number)))) e ∙ dropped_at w x.number) in
              let i = qd.each n (record { inside = t.inside; waits = sym (dropped_other w x.number n ne) ∙ t.waits; finite = t.finite }) in
              ⊎_elim (λ s. absurd (ne (ap (λ (v : Node). v.number) s))) (λ j. j) (popped_only p (entry (get_or xs n 0) n) i);
        }
      where
        gone : (z : Node) → Contains (held k) z → z.number ≡ x.number → ⊥
        gone z i e =
            let s = popped_sum p (named x.number) in
            let a = named_own x.number x refl in
            let b = count_has x.number (held k) z i e in
            let c = qd.once x.number in omega arith

-- ---- the first entry leaves the heap, and its node the open nodes

-- a word without a bit, as the code takes it out
abbrev pub without : ℕ → ℕ → ℕ
without w p = bit_xor w (bit_and w ((1 * 2 ^ p) % 2 ^ 128))

module _ (xs : List ℕ) (w nodes : ℕ) (h : NodeHeap) (few : nodes ≤ 129) (some : ∥ Queued xs w nodes h ∥₁) where
  pub heap_ended : (k : NodeHeap) → Same h k → ∥ Queued xs w nodes k ∥₁
  heap_ended k s = ∥∥₁_map some (λ qd. queued_same xs w nodes h qd k s)

  pub heap_none : h.len ≡ 0 → NoneWaits xs w nodes
  heap_none z n t = ∥∥₁_elim some (hlevel props) (λ qd. queued_none xs w nodes h qd z n t)

  module _ (x : Node) (first : First orders h x) where
    pub lowest_inside : x.number < 128
    lowest_inside = ∥∥₁_elim some (hlevel props) (λ qd. queued_inside xs w nodes h qd x first few)

    gone : (1 * 2 ^ x.number) % 2 ^ 128 ≡ 2 ^ x.number
    gone = one_shl x.number 128 lowest_inside

    pub lowest_taken : Taken xs w nodes x (without w x.number)
    lowest_taken = subst (λ y. Taken xs w nodes x (bit_xor w (bit_and w y))) (sym gone) (∥∥₁_elim some (hlevel props) (λ qd. queued_taken xs w nodes h qd x first))

    pub lowest_queued : (k : NodeHeap) → Popped h x k → ∥ Queued xs (without w x.number) nodes k ∥₁
    lowest_queued k p = subst (λ y. ∥ Queued xs (bit_xor w (bit_and w y)) nodes k ∥₁) (sym gone) (∥∥₁_map some (λ qd. queued_pop xs w nodes h qd x first k p))
