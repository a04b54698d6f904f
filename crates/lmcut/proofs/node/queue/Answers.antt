use Rattle.std.proofs.Common.{Bool, true, false, MatchBool}
use Rattle.order.specs.Laws.{Lowered, Unmet, Same}
use Rattle.lmcut.specs.Queued.{NodeHeap, orders, entry}
use Rattle.lmcut.specs.declared.node.Node.{Node}
use Rattle.lmcut.proofs.node.queue.Goals as goal

lowered_if : (h : NodeHeap) (x y : Node) (k : NodeHeap) (r : Bool) → MatchBool r (Lowered orders h x y k) (Unmet orders h x y × Same h k) → (Unmet orders h x y → ⊥) → Lowered orders h x y k
lowered_if h x y k true l met = l
lowered_if h x y k false l met = absurd (met l.0)

pub returns-else-old-eq-INFINITE-clause-queued : goal.returns-else-old-eq-INFINITE-clause-queued
returns-else-old-eq-INFINITE-clause-queued c =
    record {
      fresh = λ e. absurd (c.if-old-eq-INFINITE.false e);
      again = λ _. lowered_if c.args.heap.now (entry c.args.old c.args.number) (entry c.args.new c.args.number) c.lower.new.self c.lower.result c.lower.ensures.lowered;
    }
