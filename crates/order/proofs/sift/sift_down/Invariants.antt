-- The first entry has sunk to `at`.
use Rattle.std.proofs.Common.{◌≡◌, ◌-◌, ◌≤◌, length}
use Rattle.std.specs.Cmp.{IsTotalOrder}
use Rattle.order.specs.Shape.{Sinking, Stirred}
use Rattle.order.proofs.sift.sift_down.Given as goal

abbrev pub invariant-loop-at : goal.invariant-loop-at
invariant-loop-at g l =
    (l.len ≤ length l.entries) × (length l.entries ≡ length l.initial.entries) × Stirred l.initial.entries l.len l.entries × ((o : IsTotalOrder g.T.Ord.cmp) → Sinking o l.initial.entries 0 l.len → Sinking o l.entries l.«at» l.len)

abbrev pub decreases-loop-at : goal.decreases-loop-at
decreases-loop-at g l = l.len - l.«at»
