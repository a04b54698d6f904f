-- The entry has risen from where it began to `at`.
use Rattle.std.proofs.Common.{◌≡◌, ℕ, ◌<◌, ◌≤◌, length}
use Rattle.std.specs.Cmp.{IsTotalOrder}
use Rattle.order.specs.Shape.{Rising, Stirred}
use Rattle.order.proofs.sift.sift_up.Given as goal

abbrev pub invariant-loop-at : goal.invariant-loop-at
invariant-loop-at g l =
    (l.«at» ≤ l.from) × (l.from < length l.entries) × (length l.entries ≡ length l.initial.entries) × ((n : ℕ) → l.from < n → Stirred l.initial.entries n l.entries) × ((o : IsTotalOrder g.T.Ord.cmp) (n : ℕ) → l.from < n → Rising o l.initial.entries l.from n → Rising o l.entries l.«at» n)

abbrev pub decreases-loop-at : goal.decreases-loop-at
decreases-loop-at g l = l.«at»
