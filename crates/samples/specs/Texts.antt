-- What the programs print.
--   name            the name of a move of the pads task
--   estimate_text   an estimate
use Rattle.std.specs.Prelude.{ℕ, List, ◌==◌, if◌then◌else◌, ◌++◌, codes, decimal}
use Rattle.estimate.specs.declared.estimate.Estimate.{Estimate}
use Rattle.estimate.specs.declared.estimate.Estimate.TheVariants.{AtLeast, Dead}

abbrev pub name : ℕ → List ℕ
name number = if number == 1 then codes "big" else codes "small"

abbrev pub estimate_text : Estimate → List ℕ
estimate_text (AtLeast n) = codes "at least " ++ decimal n
estimate_text Dead = codes "dead"
