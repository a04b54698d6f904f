use Rattle.order.specs.Laws.{Lawful}
use Rattle.order_tests.specs.Numbered.{orders}
use Rattle.order_tests.proofs.tests.twos_come_in_order.Given as goal

abbrev pub invariant-loop-x : goal.invariant-loop-x
invariant-loop-x g l = Lawful orders l.heap

abbrev pub invariant-loop-x-2 : goal.invariant-loop-x-2
invariant-loop-x-2 g l = Lawful orders l.heap
