use Rattle.order.proofs.Members.{push_all}
use Rattle.order_tests.specs.Numbered.{Small}
use Rattle.order_tests.proofs.queue.Queue.add.Goals as goal

pub invariant_of-self : goal.invariant_of-self
invariant_of-self c = record { lawful = c.push.ensures.lawful; small = push_all c.args.self.now.heap _ c.push.new.self c.push.result c.push.ensures.pushed Small c.if-x-lt100.true c.args.self.now.small }
