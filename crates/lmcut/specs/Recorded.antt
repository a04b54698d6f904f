-- The call that tells the landmark records of LM-cut.
--   fault_number, fault_place   the number and the place of its fault
--   fault_text      what its fault is written as
--   recorded        what it answers: how many records there are, or that the buffer is too short for them
--   record_buffer   what the buffer holds then: the records, and past them what it held before; all that it held where it is too short
use Rattle.std.specs.Prelude.{ℕ, cond, List, ◌++◌, length, drop, Ok, Err, Result, codes, decimal, nat_le}
use Rattle.tables.specs.Problem.{Problem}
use Rattle.task.specs.declared.state.State.{State}
use Rattle.landmarks.specs.Rounds.{grounds}
use Rattle.landmarks.specs.declared.Ground.{Ground}
use Rattle.lmcut.specs.declared.estimator.GroundsFault.{GroundsFault}
use Rattle.lmcut.specs.declared.estimator.GroundsFault.TheVariants.{TooShort}

abbrev pub fault_number : GroundsFault → ℕ
fault_number TooShort = 8

abbrev pub fault_place : GroundsFault → ℕ
fault_place TooShort = 0

abbrev pub fault_text : GroundsFault → List ℕ
fault_text fault = codes "rule " ++ decimal (fault_number fault)

unfoldable pub recorded : Problem → State → ℕ → Result ℕ GroundsFault
recorded p s room = cond (nat_le (length (grounds p s)) room) (Ok (length (grounds p s))) (Err TooShort)

unfoldable pub record_buffer : Problem → State → List Ground → List Ground
record_buffer p s buffer = cond (nat_le (length (grounds p s)) (length buffer)) (grounds p s ++ drop (length (grounds p s)) buffer) buffer
