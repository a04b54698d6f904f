-- What the simplest estimators answer is sound, and is 'at least 0' at a record that is no state.
--   zero_sound, zero_plain       of `Zero`
--   larger_sound, larger_plain   of the larger of two answers, where each is
use Rattle.std.specs.Prelude.{◌≡◌, refl}
use Rattle.std.proofs.Common.{ap₂, arith}
use Rattle.estimate.specs.Answers.{zero_answer}
use Rattle.estimate.specs.Estimates.{Claims, larger}
use Rattle.estimate.specs.declared.estimate.Estimate.{Estimate}
use Rattle.estimate.specs.declared.estimate.Estimate.TheVariants.{AtLeast, Dead}
use Rattle.tables.specs.Problem.{Problem}
use Rattle.task.specs.declared.state.State.{State}

pub zero_sound : (p : Problem) (s : State) → Claims p s (zero_answer p s)
zero_sound p s = (omega arith, λ _ _. omega arith)

pub zero_plain : (p : Problem) (s : State) → zero_answer p s ≡ AtLeast 0
zero_plain p s = refl

pub larger_sound : (p : Problem) (s : State) (a b : Estimate) → Claims p s a → Claims p s b → Claims p s (larger a b)
larger_sound p s (AtLeast m) (AtLeast n) h k = (omega (arith, h.0, k.0), λ ms w. omega (arith, h.1 ms w, k.1 ms w))
larger_sound p s (AtLeast m) Dead h k = k
larger_sound p s Dead (AtLeast n) h k = h
larger_sound p s Dead Dead h k = h

pub larger_plain : (a b : Estimate) → a ≡ AtLeast 0 → b ≡ AtLeast 0 → larger a b ≡ AtLeast 0
larger_plain a b h k = ap₂ larger h k
