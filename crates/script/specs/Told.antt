-- told_estimate   the answer to a question to an estimator
use Rattle.estimate.specs.declared.estimate.Estimate.{Estimate}
use Rattle.estimate.specs.declared.estimate.Estimate.TheVariants as estimate
use Rattle.script.specs.Said.{Said, AtLeast, Dead}

abbrev pub told_estimate : Estimate → Said
told_estimate (estimate.AtLeast n) = AtLeast n
told_estimate estimate.Dead = Dead
