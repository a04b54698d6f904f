use Rattle.order.proofs.Members.{pop_all}
use Rattle.order_tests.specs.Numbered.{Small}
use Rattle.order_tests.proofs.queue.Queue.take.Goals as goal

pub invariant_of-self : goal.invariant_of-self
invariant_of-self c = record { lawful = c.pop.ensures.lawful; small = pop_all c.args.self.now.heap c.pop.new.self c.pop.result c.pop.ensures.popped Small c.args.self.now.small }
