use Rattle.std.proofs.Common.{get_or}
use Rattle.lmcut.proofs.Picks.{Taking}
use Rattle.lmcut.proofs.question.Asked.chosen.Given as goal

abbrev pub invariant-loop-node : goal.invariant-loop-node
invariant-loop-node l = Taking l.self.question.now.nodes l.values (get_or l.self.question.now.needs l.action 0) l.best l.node-iterator.word
