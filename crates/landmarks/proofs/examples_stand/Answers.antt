use Rattle.landmarks.proofs.examples_stand.Goals as goal
use Rattle.landmarks.proofs.Examples.{worked}

pub returns : goal.returns
returns c = worked
