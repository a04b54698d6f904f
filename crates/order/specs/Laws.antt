-- What each call does to a heap h, which is then k. R is `T.cmp`, and o any total order that R allows.
--     held h            the entries held
--     room h            how many entries the slice has place for
--     Lawful R h        the entries stand within the slice, and none is below its parent
--     Same h k          nothing is altered
--     First R h x       x is held, stands first, and is the least
--     Pushed h x k      x is added
--     Refused h x y k   y is x, there is no room, and nothing is altered
--     Popped h x k      x is taken out, and left in the place past the last
--     Lacks R h x       no entry is tied with x
--     Found R h x i     the entry at i is tied with x
--     Lowered R h x y k     y stands for an entry that was tied with x
--     Unmet R h x y     y is above x, or no entry is tied with x
use Rattle.std.specs.Prelude.{◌≡◌, ℕ, ◌+◌, ◌<◌, false, ◌⊎◌, List, ◌∷◌, length, take, drop, slice_index_or}
use Rattle.std.specs.declared.cmp.Ordering.TheVariants.{Equal, Greater}
use Rattle.std.specs.declared.cmp.Ordering.{Ordering}
use Rattle.std.specs.Cmp.{IsTotalOrder}
use Rattle.std.specs.Ordering.{is_eq}
use Rattle.std.specs.List.{All, Contains}
use Rattle.std.specs.List.Sorted.{IsPermutation}
use Rattle.order.specs.declared.Heap.{Heap}
use Rattle.order.specs.Ranks.{AtMost, Least}
use Rattle.order.specs.Shape.{Keeps}

module _ {X : Type 0} where
  abbrev pub held : Heap X → List X
  held h = take h.len h.entries.now

  abbrev pub room : Heap X → ℕ
  room h = length h.entries.now

  abbrev pub Lawful : (X → X → Ordering) → Heap X → Type 0
  Lawful R h = Keeps R h.entries.now h.len

  abbrev pub Same : Heap X → Heap X → Type 0
  Same h k = (k.len ≡ h.len) × (k.entries.now ≡ h.entries.now)

  pub record First (R : X → X → Ordering) (h : Heap X) (x : X) : Type 0 where
    pub front : (d : X) → x ≡ slice_index_or h.entries.now 0 d
    pub has : Contains (held h) x
    pub least : (o : IsTotalOrder R) → Least o x (held h)

  pub record Pushed (h : Heap X) (x : X) (k : Heap X) : Type 0 where
    pub len : k.len ≡ h.len + 1
    pub same_room : room k ≡ room h
    pub entries : IsPermutation (x ∷ held h) (held k)
    pub past : drop k.len k.entries.now ≡ drop k.len h.entries.now

  abbrev pub Refused : Heap X → X → X → Heap X → Type 0
  Refused h x y k = (y ≡ x) × (h.len ≡ room h) × Same h k

  pub record Popped (h : Heap X) (x : X) (k : Heap X) : Type 0 where
    pub len : h.len ≡ k.len + 1
    pub same_room : room k ≡ room h
    pub entries : IsPermutation (held h) (x ∷ held k)
    pub past : drop k.len k.entries.now ≡ x ∷ drop h.len h.entries.now

  abbrev pub Lacks : (X → X → Ordering) → Heap X → X → Type 0
  Lacks R h x = (o : IsTotalOrder R) → All (λ z. is_eq (R z x) ≡ false) (held h)

  abbrev pub Found : (X → X → Ordering) → Heap X → X → ℕ → Type 0
  Found R h x i = (i < h.len) × ((o : IsTotalOrder R) (d : X) → R (slice_index_or h.entries.now i d) x ≡ Equal)

  pub record Lowered (R : X → X → Ordering) (h : Heap X) (x y : X) (k : Heap X) : Type 0 where
    pub len : k.len ≡ h.len
    pub same_room : room k ≡ room h
    pub not_above : (o : IsTotalOrder R) → AtMost o y x
    pub was : X
    pub tied : (o : IsTotalOrder R) → R was x ≡ Equal
    pub others : List X
    pub before : IsPermutation (held h) (was ∷ others)
    pub after : IsPermutation (y ∷ others) (held k)
    pub past : drop k.len k.entries.now ≡ drop h.len h.entries.now

  abbrev pub Unmet : (X → X → Ordering) → Heap X → X → X → Type 0
  Unmet R h x y = ((o : IsTotalOrder R) → R y x ≡ Greater) ⊎ Lacks R h x
