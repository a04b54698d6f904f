use Rattle.std.proofs.Common.{◌∙◌}
use Rattle.order.proofs.Members.{pop_all}
use Rattle.order_tests.specs.Numbered.{Small}
use Rattle.order_tests.proofs.Emptied.{emptying_more}
use Rattle.order_tests.proofs.queue.Queue.clear.Goals as goal

pub invariant_of-self : goal.invariant_of-self
invariant_of-self c = record { lawful = c.pop.ensures.lawful; small = pop_all c.loop.self.heap c.pop.new.self c.pop.result c.pop.ensures.popped Small c.loop.self.small }

pub loop-preserved : goal.loop-preserved
loop-preserved c =
    let l = c.loop in
    (c.pop.ensures.lender ∙ l.invariant.0, emptying_more c.args.self.now.heap l.self.heap c.pop.new.self c.in-Some.field-0 l.invariant.1 c.in-Some.ensures.popped)
