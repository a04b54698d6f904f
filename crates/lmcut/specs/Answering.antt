-- What LM-cut answers, from what its rounds add up to.
--   Ended                     an outcome with the total of a tally, and as many records as it counts
--   ended_some, ended_none    the outcome of a tally that there is, and of none
--   tally_count               1 where there is a tally, else 0
--   none_estimate, none_grounds      the answer and the records at a record that is no state
--   estimate_is, grounds_are         the same at a state, from the outcome of the rounds
--   recorded_all, recorded_short     what the call for the records answers where they fit, and where not
--   buffer_all, buffer_none, buffer_short   what the buffer holds then
use Rattle.std.specs.Prelude.{◌≡◌, ℕ, ◌<◌, ◌≤◌, true, false, cond, List, [], ◌++◌, length, drop, Some, None, Ok, Err, Option, nat_le, refl}
use Rattle.std.proofs.Math.Path.{sym, ap}
use Rattle.std.proofs.Common.{◌∙◌, arith}
use Rattle.std.proofs.lemmas.List.{take_all}
use Rattle.std.proofs.lemmas.Bool.{cond-true, cond-false, le-leb, lt-leb}
use Rattle.estimate.specs.declared.estimate.Estimate.TheVariants.{AtLeast}
use Rattle.tables.specs.Problem.{Problem}
use Rattle.task.specs.States.{is_state}
use Rattle.task.specs.declared.state.State.{State}
use Rattle.landmarks.specs.Relaxed.{relaxed}
use Rattle.landmarks.specs.Rounds.{Outcome, Dead, Found, outcome, told, listed, estimate, grounds}
use Rattle.landmarks.specs.declared.Ground.{Ground}
use Rattle.lmcut.specs.Recorded.{recorded, record_buffer}
use Rattle.lmcut.specs.Totalled.{tally_of, laid}
use Rattle.lmcut.specs.declared.estimator.GroundsFault.TheVariants.{TooShort}
use Rattle.lmcut.specs.declared.rounds.Tally.{Tally}

pub record Ended (o : Outcome) (t : Tally) : Type 0 where
  pub records : List Ground
  pub is : o ≡ Found t.total records
  pub long : length records ≡ t.records

tally_count : Option Tally → ℕ
tally_count None = 0
tally_count (Some t) = 1

the : Option Tally → Tally
the None = record { total = 0; records = 0 }
the (Some t) = t

pub ended_some : (o : Outcome) (t : Tally) → Some t ≡ tally_of o → Ended o t
unfolding tally_count the
ended_some Dead t e = absurd (let z : 1 ≡ 0 = ap tally_count e in omega arith)
ended_some (Found n gs) t e = let z = ap the e in record { records = gs; is = ap (λ (x : Tally). Found x.total gs) (sym z); long = ap (λ (x : Tally). x.records) (sym z) }

pub ended_none : (o : Outcome) → None ≡ tally_of o → o ≡ Dead
unfolding tally_count
ended_none Dead e = refl
ended_none (Found n gs) e = absurd (let z : 0 ≡ 1 = ap tally_count e in omega arith)

module _ (p : Problem) (s : State) where
  pub none_estimate : is_state p s ≡ false → estimate p s ≡ AtLeast 0
  unfolding estimate
  none_estimate i = cond-false (is_state p s) _ _ i

  pub none_grounds : is_state p s ≡ false → grounds p s ≡ []
  unfolding grounds
  none_grounds i = cond-false (is_state p s) _ _ i

  module _ (i : is_state p s ≡ true) where
    pub estimate_is : (o : Outcome) → outcome (relaxed p s) ≡ o → estimate p s ≡ told o
    unfolding estimate
    estimate_is o e = cond-true (is_state p s) _ _ i ∙ ap told e

    pub grounds_are : (o : Outcome) → outcome (relaxed p s) ≡ o → grounds p s ≡ listed o
    unfolding grounds
    grounds_are o e = cond-true (is_state p s) _ _ i ∙ ap listed e

  -- ---- the call that tells the records

  pub recorded_all : (gs : List Ground) (room : ℕ) → grounds p s ≡ gs → length gs ≤ room → Ok (length gs) ≡ recorded p s room
  unfolding recorded
  recorded_all gs room e h =
      sym (ap (λ (hs : List Ground). cond (nat_le (length hs) room) (Ok (length hs)) (Err TooShort)) e ∙ cond-true (nat_le (length gs) room) _ _ (le-leb (length gs) room h))

  pub buffer_all : (gs bs : List Ground) → grounds p s ≡ gs → length gs ≤ length bs → laid gs bs ≡ record_buffer p s bs
  unfolding record_buffer
  buffer_all gs bs e h =
      ap (λ (hs : List Ground). hs ++ drop (length gs) bs) (take_all (length bs) gs h)
      ∙ sym (ap (λ (hs : List Ground). cond (nat_le (length hs) (length bs)) (hs ++ drop (length hs) bs) bs) e ∙ cond-true (nat_le (length gs) (length bs)) _ _ (le-leb (length gs) (length bs) h))

  pub buffer_none : (bs : List Ground) → grounds p s ≡ [] → bs ≡ record_buffer p s bs
  unfolding record_buffer
  buffer_none bs e = sym (ap (λ (hs : List Ground). cond (nat_le (length hs) (length bs)) (hs ++ drop (length hs) bs) bs) e ∙ cond-true (nat_le 0 (length bs)) _ _ (le-leb 0 (length bs) (omega arith)))

  pub recorded_short : (gs : List Ground) (room : ℕ) → grounds p s ≡ gs → room < length gs → Err TooShort ≡ recorded p s room
  unfolding recorded
  recorded_short gs room e h =
      sym (ap (λ (hs : List Ground). cond (nat_le (length hs) room) (Ok (length hs)) (Err TooShort)) e ∙ cond-false (nat_le (length gs) room) _ _ (lt-leb (length gs) room h))

  pub buffer_short : (gs bs : List Ground) → grounds p s ≡ gs → length bs < length gs → bs ≡ record_buffer p s bs
  unfolding record_buffer
  buffer_short gs bs e h =
      sym (ap (λ (hs : List Ground). cond (nat_le (length hs) (length bs)) (hs ++ drop (length hs) bs) bs) e ∙ cond-false (nat_le (length gs) (length bs)) _ _ (lt-leb (length gs) (length bs) h))
