-- The shape of a heap: the first n of xs, where the children of p stand at 2p + 1 and 2p + 2.
-- R is `T.cmp`, and o any total order that R allows.
--     Child p k              k is a child of p
--     Heaped o xs n          no entry is below its parent
--     Keeps R xs n           n is at most the length of xs, and its first n are heaped
--     Skips o xs j n         no child of j is below the parent of j
--     Rising o xs j n        heaped, but that the entry at j may be below its parent
--     Sinking o xs j n       heaped, but that the entry at j may be above its children
--     LowerChild R xs p c n  the entry at c is at most each child of p
--     Stirred xs n ys        ys has the first n of xs in some order, and the others as they were
--     Raised R xs j ys       ys is xs after the entry at j rose to its place
--     Sunk R xs n ys         ys is xs after the first entry sank to its place among n
use Rattle.std.specs.Prelude.{◌≡◌, ℕ, ◌+◌, ◌*◌, ◌<◌, ◌≤◌, List, take, drop, ◌≢◌, length, slice_index_or}
use Rattle.std.specs.declared.cmp.Ordering.{Ordering}
use Rattle.std.specs.Cmp.{IsTotalOrder}
use Rattle.std.specs.List.Sorted.{IsPermutation}
use Rattle.order.specs.Ranks.{AtMost}

abbrev pub Child : ℕ → ℕ → Type 0
Child p k = (p * 2 + 1 ≤ k) × (k ≤ p * 2 + 2)

module _ {X : Type 0} {R : X → X → Ordering} (o : IsTotalOrder R) where
  unfoldable pub Heaped : List X → ℕ → Type 0
  Heaped xs n = (p k : ℕ) (d : X) → Child p k → k < n → AtMost o (slice_index_or xs p d) (slice_index_or xs k d)

  abbrev pub Skips : List X → ℕ → ℕ → Type 0
  Skips xs j n = (p k : ℕ) (d : X) → Child p j → Child j k → k < n → AtMost o (slice_index_or xs p d) (slice_index_or xs k d)

  unfoldable pub Rising : List X → ℕ → ℕ → Type 0
  Rising xs j n = ((p k : ℕ) (d : X) → Child p k → k < n → (k ≢ j) → AtMost o (slice_index_or xs p d) (slice_index_or xs k d)) × Skips xs j n

  unfoldable pub Sinking : List X → ℕ → ℕ → Type 0
  Sinking xs j n = ((p k : ℕ) (d : X) → Child p k → k < n → (p ≢ j) → AtMost o (slice_index_or xs p d) (slice_index_or xs k d)) × Skips xs j n

-- in `∥ ∥₁`, so that it can stand in a ghost field
abbrev pub Keeps : {X : Type 0} → (X → X → Ordering) → List X → ℕ → Type 0
Keeps R xs n = (n ≤ length xs) × ∥ ((o : IsTotalOrder R) → Heaped o xs n) ∥₁

abbrev pub LowerChild : {X : Type 0} → (X → X → Ordering) → List X → ℕ → ℕ → ℕ → Type 0
LowerChild {X} R xs p c n = (o : IsTotalOrder R) (k : ℕ) (d : X) → Child p k → k < n → AtMost o (slice_index_or xs c d) (slice_index_or xs k d)

pub record Stirred {X : Type 0} (xs : List X) (n : ℕ) (ys : List X) : Type 0 where
  pub held : IsPermutation (take n xs) (take n ys)
  pub rest : drop n ys ≡ drop n xs

pub record Raised {X : Type 0} (R : X → X → Ordering) (xs : List X) (j : ℕ) (ys : List X) : Type 0 where
  pub stirred : (n : ℕ) → j < n → Stirred xs n ys
  pub heaped : (o : IsTotalOrder R) (n : ℕ) → j < n → Rising o xs j n → Heaped o ys n

pub record Sunk {X : Type 0} (R : X → X → Ordering) (xs : List X) (n : ℕ) (ys : List X) : Type 0 where
  pub stirred : Stirred xs n ys
  pub heaped : (o : IsTotalOrder R) → Sinking o xs 0 n → Heaped o ys n
