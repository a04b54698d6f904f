use Rattle.lmcut.proofs.Offers.{BegunTo}
use Rattle.lmcut.proofs.values.Settling.new.Given as goal

abbrev pub invariant-loop-node : goal.invariant-loop-node
invariant-loop-node l = BegunTo l.asked.question.now l.node l.values l.open_nodes
