-- Only entries that were held have been moved.
use Rattle.std.proofs.Common.{◌≡◌}
use Rattle.order_tests.proofs.Emptied.{Emptying}
use Rattle.order_tests.proofs.queue.Queue.clear.Given as goal

abbrev pub invariant-loop : goal.invariant-loop
invariant-loop l = (l.self.heap.entries.ghost_name ≡ l.initial.self.heap.entries.ghost_name) × Emptying l.initial.self.heap l.self.heap

abbrev pub decreases-loop : goal.decreases-loop
decreases-loop l = l.self.heap.len
