-- The laws of an estimator, for the one that a name stands for.
--   basic_sound   what it answers is sound at every state of an accepted task
--   basic_plain   it is 'at least 0' at a record that is no state
--   asked_sound, asked_plain   the same of the estimator that a line names
use Rattle.std.specs.Prelude.{◌≡◌, true, false}
use Rattle.estimate.specs.Cheapest.{floor_sound, floor_plain}
use Rattle.estimate.specs.Estimates.{Claims}
use Rattle.estimate.specs.Simple.{zero_sound, zero_plain, larger_sound, larger_plain}
use Rattle.estimate.specs.declared.estimate.Estimate.TheVariants.{AtLeast}
use Rattle.script.specs.declared.estimators.Basic.{Basic}
use Rattle.script.specs.declared.estimators.Basic.TheVariants.{Zero, Floor, LmCut}
use Rattle.landmarks.proofs.Soundness.{estimate_claims}
use Rattle.lmcut.specs.Answering.{none_estimate}
use Rattle.tables.specs.Check.{accepted}
use Rattle.tables.specs.Problem.{Problem}
use Rattle.task.specs.States.{is_state}
use Rattle.task.specs.declared.state.State.{State}
use Rattle.script.specs.Asked.{basic_answer, asked_answer}
use Rattle.script.specs.declared.estimators.Asked.{Asked}
use Rattle.script.specs.declared.estimators.Asked.TheVariants.{One, Larger}

-- one line for each estimator
pub basic_sound : (b : Basic) (p : Problem) (s : State) → accepted p ≡ true → is_state p s ≡ true → Claims p s (basic_answer b p s)
basic_sound Zero p s a e = zero_sound p s
basic_sound Floor p s a e = floor_sound p s e
basic_sound LmCut p s a e = estimate_claims p a s

pub basic_plain : (b : Basic) (p : Problem) (s : State) → is_state p s ≡ false → basic_answer b p s ≡ AtLeast 0
basic_plain Zero p s e = zero_plain p s
basic_plain Floor p s e = floor_plain p s e
basic_plain LmCut p s e = none_estimate p s e

pub asked_sound : (b : Asked) (p : Problem) (s : State) → accepted p ≡ true → is_state p s ≡ true → Claims p s (asked_answer b p s)
asked_sound (One b) p s a e = basic_sound b p s a e
asked_sound (Larger b c) p s a e = larger_sound p s (basic_answer b p s) (basic_answer c p s) (basic_sound b p s a e) (basic_sound c p s a e)

pub asked_plain : (b : Asked) (p : Problem) (s : State) → is_state p s ≡ false → asked_answer b p s ≡ AtLeast 0
asked_plain (One b) p s e = basic_plain b p s e
asked_plain (Larger b c) p s e = larger_plain (basic_answer b p s) (basic_answer c p s) (basic_plain b p s e) (basic_plain c p s e)
