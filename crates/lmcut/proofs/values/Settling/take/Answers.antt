use Rattle.lmcut.proofs.Queues.{heap_ended, heap_none, lowest_inside, lowest_taken, lowest_queued}
use Rattle.lmcut.proofs.values.Settling.take.Goals as goal

pub invariant_of-self : goal.invariant_of-self
invariant_of-self c =
    let s = c.args.self.now in
    record { long = s.long; lawful = c.pop.ensures.lawful; queued = heap_ended s.values.now s.open_nodes s.asked.question.now.nodes s.heap s.asked.fits.few_nodes s.queued c.pop.new.self c.in_err-lowest.ensures.popped }

pub returns-in_err-lowest-clause-taken : goal.returns-in_err-lowest-clause-taken
returns-in_err-lowest-clause-taken c =
    let s = c.args.self.now in
    rw c.from_residual.ensures (heap_none s.values.now s.open_nodes s.asked.question.now.nodes s.heap s.asked.fits.few_nodes s.queued c.in_err-lowest.ensures.first)

pub overflow_shl-self : goal.overflow_shl-self
overflow_shl-self c = let s = c.args.self.now in lowest_inside s.values.now s.open_nodes s.asked.question.now.nodes s.heap s.asked.fits.few_nodes s.queued c.in_ok-lowest.lowest c.in_ok-lowest.ensures.first

pub invariant_of-self-2 : goal.invariant_of-self-2
invariant_of-self-2 c =
    let s = c.args.self.now in
    record { long = s.long; lawful = c.pop.ensures.lawful; queued = lowest_queued s.values.now s.open_nodes s.asked.question.now.nodes s.heap s.asked.fits.few_nodes s.queued c.in_ok-lowest.lowest c.in_ok-lowest.ensures.first c.pop.new.self c.in_ok-lowest.ensures.popped }

pub returns-clause-taken : goal.returns-clause-taken
returns-clause-taken c = let s = c.args.self.now in lowest_taken s.values.now s.open_nodes s.asked.question.now.nodes s.heap s.asked.fits.few_nodes s.queued c.in_ok-lowest.lowest c.in_ok-lowest.ensures.first
