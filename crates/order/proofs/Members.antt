-- For callers: which entries are held after a call, from what its contract says of them.
-- `count_by p` is a `sum_by`, so each lemma on sums counts too.
use Rattle.std.proofs.Common.{◌≤◌, ◌≡◌, ℕ, zero, suc, ◌+◌, ◌<◌, Bool, true, false, ◌⊎◌, List, [], ◌∷◌, length, get_or, take, IfSome, Some, None, Ok, Err, MatchBool, sum_by, Option, Result, Ordering, Equal, sym, refl, ap, ◌∙◌, subst, inl, inr, ⊎_elim, arith, length-take, MatchOption, MatchResult}
use Rattle.std.specs.Cmp.{IsTotalOrder}
use Rattle.std.specs.List.{All, Contains}
use Rattle.std.specs.List.Sorted.{IsPermutation}
use Rattle.std.proofs.lemmas.List.Elements.{All-nil, All-cons, All-head, All-tail, All-contains, Contains-get_or, Contains-append_right}
use Rattle.std.proofs.lemmas.List.{get_or-take, length-take-le}
use Rattle.std.proofs.lemmas.List.Sorted.{IsPermutation-sym, All-permutation, Contains-permutation, sum_by_pushed}
use Rattle.order.specs.declared.Heap.{Heap}
use Rattle.order.specs.Laws.{held, room, First, Lawful, Lowered, Popped, Pushed, Refused, Same, Unmet}
use Rattle.order.specs.Ranks.{AtMost}

module _ {X : Type 0} where
  -- ---- one entry more

  pub has_here : (x : X) (xs : List X) → Contains (x ∷ xs) x
  has_here x xs = Contains-get_or (x ∷ xs) 0 x (omega arith)

  pub has_there : (x : X) (xs : List X) (z : X) → Contains xs z → Contains (x ∷ xs) z
  has_there x xs z h = Contains-append_right (x ∷ []) xs z h

  pub has_cons : (x : X) (xs : List X) (z : X) → Contains (x ∷ xs) z → (z ≡ x) ⊎ Contains xs z
  has_cons x xs z (zero, lt, is) = inl (sym is)
  has_cons x xs z (suc k, lt, is) = inr (k, omega (arith, lt), is)

  module _ (x : X) (xs ys : List X) (s : IsPermutation (x ∷ xs) ys) where
    has_new : Contains ys x
    has_new = Contains-permutation (x ∷ xs) ys x s (has_here x xs)

    has_still : (z : X) → Contains xs z → Contains ys z
    has_still z h = Contains-permutation (x ∷ xs) ys z s (has_there x xs z h)

    has_only : (z : X) → Contains ys z → (z ≡ x) ⊎ Contains xs z
    has_only z h = has_cons x xs z (Contains-permutation ys (x ∷ xs) z (IsPermutation-sym (x ∷ xs) ys s) h)

    all_with : (P : X → Type 0) → P x → All P xs → All P ys
    all_with P p h = All-permutation P (x ∷ xs) ys s (All-cons P x xs p h)

    all_without : (P : X → Type 0) → All P ys → P x × All P xs
    all_without P h = let a = All-permutation P ys (x ∷ xs) (IsPermutation-sym (x ∷ xs) ys s) h in (All-head P x xs a, All-tail P x xs a)

module _ {X : Type 0} where
  -- ---- after `push`

  module _ {h : Heap X} {x : X} {k : Heap X} (p : Pushed h x k) where
    pub pushed_has_new : Contains (held k) x
    pushed_has_new = has_new x (held h) (held k) p.entries

    pub pushed_has : (z : X) → Contains (held h) z → Contains (held k) z
    pushed_has = has_still x (held h) (held k) p.entries

    pub pushed_only : (z : X) → Contains (held k) z → (z ≡ x) ⊎ Contains (held h) z
    pushed_only = has_only x (held h) (held k) p.entries

    pub pushed_all : (P : X → Type 0) → P x → All P (held h) → All P (held k)
    pushed_all = all_with x (held h) (held k) p.entries

    pub pushed_all_back : (P : X → Type 0) → All P (held k) → P x × All P (held h)
    pushed_all_back = all_without x (held h) (held k) p.entries

    pub pushed_sum : (f : X → ℕ) → sum_by f (held k) ≡ f x + sum_by f (held h)
    pushed_sum f = sum_by_pushed f x (held h) (held k) p.entries

  -- ---- after `pop`

  module _ {h : Heap X} {x : X} {k : Heap X} (p : Popped h x k) where
    back : IsPermutation (x ∷ held k) (held h)
    back = IsPermutation-sym (held h) (x ∷ held k) p.entries

    pub popped_had : Contains (held h) x
    popped_had = has_new x (held k) (held h) back

    pub popped_has : (z : X) → Contains (held k) z → Contains (held h) z
    popped_has = has_still x (held k) (held h) back

    pub popped_only : (z : X) → Contains (held h) z → (z ≡ x) ⊎ Contains (held k) z
    popped_only = has_only x (held k) (held h) back

    pub popped_all : (P : X → Type 0) → All P (held h) → P x × All P (held k)
    popped_all = all_without x (held k) (held h) back

    pub popped_all_back : (P : X → Type 0) → P x → All P (held k) → All P (held h)
    popped_all_back = all_with x (held k) (held h) back

    pub popped_sum : (f : X → ℕ) → sum_by f (held h) ≡ f x + sum_by f (held k)
    popped_sum f = sum_by_pushed f x (held k) (held h) back

  -- ---- after `lower`

  module _ {R : X → X → Ordering} {h : Heap X} {x y : X} {k : Heap X} (l : Lowered R h x y k) where
    had : IsPermutation (l.was ∷ l.others) (held h)
    had = IsPermutation-sym (held h) (l.was ∷ l.others) l.before

    pub lowered_has_new : Contains (held k) y
    lowered_has_new = has_new y l.others (held k) l.after

    pub lowered_had : Contains (held h) l.was
    lowered_had = has_new l.was l.others (held h) had

    pub lowered_has : (z : X) → Contains (held h) z → (z ≡ l.was) ⊎ Contains (held k) z
    lowered_has z m =
        ⊎_elim inl (λ rest. inr (has_still y l.others (held k) l.after z rest)) (has_only l.was l.others (held h) had z m)

    pub lowered_only : (z : X) → Contains (held k) z → (z ≡ y) ⊎ Contains (held h) z
    lowered_only z m =
        ⊎_elim inl (λ rest. inr (has_still l.was l.others (held h) had z rest)) (has_only y l.others (held k) l.after z m)

    -- where only equal entries are tied, it is x itself that is replaced
    pub lowered_was : (o : IsTotalOrder R) → ((a b : X) → R a b ≡ Equal → a ≡ b) → l.was ≡ x
    lowered_was o same = same l.was x (l.tied o)

    pub lowered_all : (P : X → Type 0) → P y → All P (held h) → All P (held k)
    lowered_all P p a = all_with y l.others (held k) l.after P p (all_without l.was l.others (held h) had P a).1

    pub lowered_all_back : (P : X → Type 0) → P l.was → All P (held k) → All P (held h)
    lowered_all_back P p a = all_with l.was l.others (held h) had P p (all_without y l.others (held k) l.after P a).1

    pub lowered_sum : (f : X → ℕ) → sum_by f (held k) + f l.was ≡ sum_by f (held h) + f y
    lowered_sum f =
        let new = sum_by_pushed f y l.others (held k) l.after in
        let old = sum_by_pushed f l.was l.others (held h) had in
        omega (arith, new, old)

  -- ---- whether a call succeeds

  pub pushed_fits : (h : Heap X) (x : X) (k : Heap X) (r : Result (Unit {0}) X) → MatchResult r (λ _. Pushed h x k) (λ y. Refused h x y k) → h.len < room h → Pushed h x k
  pushed_fits h x k (Ok u) p lt = p
  pushed_fits h x k (Err y) p lt = absurd (omega (arith, p.1))

  pub pushed_full : (h : Heap X) (x : X) (k : Heap X) (r : Result (Unit {0}) X) → MatchResult r (λ _. Pushed h x k) (λ y. Refused h x y k) → h.len ≡ room h → k.len ≤ room k → (r ≡ Err x) × Same h k
  pushed_full h x k (Ok u) p full le = absurd (omega (arith, p.len, p.same_room))
  pushed_full h x k (Err y) p full le = (ap Err p.0, p.2)

  pub first_told : {R : X → X → Ordering} (h : Heap X) (r : Option X) → MatchOption r (h.len ≡ 0) (First R h) → 0 < h.len → (x : X) × (r ≡ Some x) × First R h x
  first_told h None z some = absurd (omega arith)
  first_told h (Some x) f some = (x, refl, f)

  -- ---- whichever way a call ends

  pub same_held : (h k : Heap X) → Same h k → held k ≡ held h
  same_held h k s = λ i. take (s.0 i) (s.1 i)

  pub empty_all : (h : Heap X) → h.len ≡ 0 → (P : X → Type 0) → All P (held h)
  empty_all h z P = subst (λ n. All P (take n h.entries.now)) (sym z) (All-nil P)

  pub push_all : (h : Heap X) (x : X) (k : Heap X) (r : Result (Unit {0}) X) → MatchResult r (λ _. Pushed h x k) (λ y. Refused h x y k) → (P : X → Type 0) → P x → All P (held h) → All P (held k)
  push_all h x k (Ok u) p P new all = pushed_all p P new all
  push_all h x k (Err y) p P new all = subst (All P) (sym (same_held h k p.2)) all

  pub pop_all : (h k : Heap X) (r : Option X) → MatchOption r (Same h k) (λ x. Popped h x k) → (P : X → Type 0) → All P (held h) → All P (held k)
  pop_all h k None p P all = subst (All P) (sym (same_held h k p)) all
  pop_all h k (Some x) p P all = (popped_all p P all).1

  pub pop_each : (h k : Heap X) (r : Option X) → MatchOption r (Same h k) (λ x. Popped h x k) → (P : X → Type 0) → All P (held h) → IfSome r P
  pop_each h k None p P all = tt
  pop_each h k (Some x) p P all = (popped_all p P all).0

  pub lower_all : (R : X → X → Ordering) (h : Heap X) (x y : X) (k : Heap X) (r : Bool) → MatchBool r (Lowered R h x y k) (Unmet R h x y × Same h k) → (P : X → Type 0) → P y → All P (held h) → All P (held k)
  lower_all R h x y k true p P new all = lowered_all p P new all
  lower_all R h x y k false p P new all = subst (All P) (sym (same_held h k p.1)) all

  -- ---- how many are held, and where

  pub length_held : {R : X → X → Ordering} (h : Heap X) → Lawful R h → length (held h) ≡ h.len
  length_held h l = length-take-le h.len h.entries.now l.0

  pub has_held : (h : Heap X) (i : ℕ) (d : X) → h.len ≤ room h → i < h.len → Contains (held h) (get_or h.entries.now i d)
  has_held h i d le lt =
      let in' : i < length (held h) = simp length-take (omega arith) in
      subst (Contains (held h)) (get_or-take h.len h.entries.now i d lt) (Contains-get_or (held h) i d in')

  -- ---- what is told

  -- `first` and a `pop` that follows give the same entry
  pub first_same : {R : X → X → Ordering} {h : Heap X} {x y : X} → First R h x → First R h y → x ≡ y
  first_same {x = x} f g = f.front x ∙ sym (g.front x)

  pub first_at_most : {R : X → X → Ordering} {h : Heap X} {x : X} → First R h x → (o : IsTotalOrder R) (z : X) → Contains (held h) z → AtMost o x z
  first_at_most {h = h} {x = x} f o z m = All-contains (AtMost o x) (held h) z (f.least o) m
