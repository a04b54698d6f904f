-- What the rounds add up to, and where their landmark records are written.
--   tally_of   the total of the rounds and how many records they have, none where they end dead
--   laid       a buffer with a list written over its front, as far as there is room
use Rattle.std.specs.Prelude.{List, ◌++◌, length, take, drop, Some, None, Option}
use Rattle.landmarks.specs.Rounds.{Outcome, Dead, Found}
use Rattle.lmcut.specs.declared.rounds.Tally.{Tally}

abbrev pub tally_of : Outcome → Option Tally
tally_of Dead = None
tally_of (Found t gs) = Some (record { total = t; records = length gs })

abbrev pub laid : {X : Type 0} → List X → List X → List X
laid gs buffer = take (length buffer) gs ++ drop (length gs) buffer
