use Rattle.std.proofs.Common.{◌∙◌}
use Rattle.order.proofs.Holding.{first_answer}
use Rattle.order.proofs.Heap.first.Goals as goal

pub returns : goal.returns
returns g c = first_answer c.args.self.now c.copied.result (c.copied.ensures ∙ c.first.ensures.value) c.requires
