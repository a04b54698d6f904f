use Rattle.order.proofs.Holding.{keeps_none}
use Rattle.order.proofs.Heap.new.Goals as goal

pub returns-clause-lawful : goal.returns-clause-lawful
returns-clause-lawful g c = keeps_none c.args.entries.now
