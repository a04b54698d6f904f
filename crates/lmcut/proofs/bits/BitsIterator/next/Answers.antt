use Rattle.lmcut.specs.Bitwise.{BitStep}
use Rattle.lmcut.proofs.Bitwise.{step_some}
use Rattle.lmcut.proofs.bits.BitsIterator.next.Goals as goal

pub returns-then-self-eq0-clause-steps : goal.returns-then-self-eq0-clause-steps
unfolding BitStep
returns-then-self-eq0-clause-steps c = (c.if-self-eq0.true, c.if-self-eq0.true)

pub returns-clause-steps : goal.returns-clause-steps
returns-clause-steps c = step_some _ _ _ c.take_lowest.ensures.lowest c.take_lowest.ensures.rest
