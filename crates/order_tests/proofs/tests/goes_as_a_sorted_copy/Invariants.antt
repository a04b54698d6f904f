use Rattle.order.specs.Laws.{Lawful}
use Rattle.order_tests.specs.Numbered.{orders_three}
use Rattle.order_tests.proofs.tests.goes_as_a_sorted_copy.Given as goal

abbrev pub invariant-loop : goal.invariant-loop
invariant-loop g l = Lawful orders_three l.heap
