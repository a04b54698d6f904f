-- The heap of the open nodes of finite value.
--   orders         the order that `Node` derives: by value, then by number
--   by_node        it is total
--   NodeHeap       a heap of nodes, in that order
--   entry          a node with a value
--   named          1 for an entry of a node, else 0
--   Waits          a node below the goal node that is open, and of finite value
--   NoneWaits      no node waits
--   Taken          a node that waits leaves the open ones, with its value, which is at most that of each node that waits
--   Queued         the heap holds one entry for each node that waits, with its value
--   Requeued       a new entry is pushed, or an old one lowered
--   put            a list after a candidate for one of its places
use Rattle.std.specs.Prelude.{◌≡◌, ℕ, ◌+◌, ◌^◌, ◌<◌, ◌≤◌, true, cond, List, sum_by, ◌==◌, ◌≢◌, bit_and, bit_xor, nat_lt, slice_index, slice_index_or, slice_set}
use Rattle.std.specs.declared.cmp.Ordering.{Ordering}
use Rattle.std.specs.Cmp.{IsTotalOrder, nat_cmp_total, on_total, then_total}
use Rattle.std.specs.List.{Contains}
use Rattle.order.specs.declared.Heap.{Heap}
use Rattle.order.specs.Laws.{held, room, Pushed, Lowered, Unmet}
use Rattle.task.specs.States.{fact_holds}
use Rattle.lmcut.specs.Valued.{infinite}
use Rattle.lmcut.specs.declared.node.Node.{Node}
use Rattle.lmcut.specs.contracts.node.NodeOrd.TheImpl as node_order

abbrev pub orders : Node → Node → Ordering
orders = (node_order.ghosts).cmp

abbrev pub by_node : IsTotalOrder orders
by_node = then_total (on_total (λ (x : Node). x.value) nat_cmp_total) (on_total (λ (x : Node). x.number) nat_cmp_total)

abbrev pub NodeHeap : Type 0
NodeHeap = Heap Node

abbrev pub entry : ℕ → ℕ → Node
entry v n = record { value = v; number = n }

abbrev pub named : ℕ → Node → ℕ
named n z = cond (z.number == n) 1 0

pub record Waits (xs : List ℕ) (w nodes n : ℕ) : Type 0 where
  pub inside : n + 1 < nodes
  pub waits : fact_holds w n ≡ true
  pub finite : slice_index_or xs n 0 ≡ infinite → ⊥

abbrev pub NoneWaits : List ℕ → ℕ → ℕ → Type 0
NoneWaits xs w nodes = (n : ℕ) → Waits xs w nodes n → ⊥

pub record Taken (xs : List ℕ) (w nodes : ℕ) (x : Node) (v : ℕ) : Type 0 where
  pub waits : Waits xs w nodes x.number
  pub value : x.value ≡ slice_index xs x.number
  pub least : (n : ℕ) → Waits xs w nodes n → x.value ≤ slice_index xs n
  pub gone : v ≡ bit_xor w (bit_and w (2 ^ x.number))

pub record Queued (xs : List ℕ) (w nodes : ℕ) (h : NodeHeap) : Type 0 where
  pub roomy : room h ≡ 129
  pub once : (n : ℕ) → sum_by (named n) (held h) ≤ 1
  pub only : (z : Node) → Contains (held h) z → Waits xs w nodes z.number × (z.value ≡ slice_index xs z.number)
  pub each : (n : ℕ) → Waits xs w nodes n → Contains (held h) (entry (slice_index xs n) n)

pub record Requeued (h : NodeHeap) (n old new : ℕ) (k : NodeHeap) : Type 0 where
  pub fresh : old ≡ infinite → h.len < room h → Pushed h (entry new n) k
  pub again : (old ≢ infinite) → (Unmet orders h (entry old n) (entry new n) → ⊥) → Lowered orders h (entry old n) (entry new n) k

abbrev pub put : List ℕ → ℕ → ℕ → List ℕ
put xs n y = cond (nat_lt y (slice_index xs n)) (slice_set xs n y) xs
