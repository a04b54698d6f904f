-- What a block takes in.
--   Stays     a block holds, asks and is closed as before
--   Takes     what a line with a number does to a block, by what it says
--   flow_of   a line goes on with the block, or ends it
use Rattle.std.specs.Prelude.{◌≡◌, ℕ, true, false, [], ◌∷◌, ◌++◌, if◌then◌else◌}
use Rattle.std.specs.declared.ops.ControlFlow.{ControlFlow}
use Rattle.std.specs.declared.ops.ControlFlow.TheVariants.{Continue, Break}
use Rattle.script.specs.Filled.{filled, asks, added, closes}
use Rattle.script.specs.declared.block.Block.{Block}
use Rattle.script.specs.declared.directive.Directive.TheVariants.{Malformed}
use Rattle.script.specs.declared.directive.Line.{Line}
use Rattle.script.specs.declared.directive.Line.TheVariants.{Blank, Fill, Ask, End}

abbrev pub Stays : Block → Block → Type 0
Stays b after = (filled after ≡ filled b) × (asks after ≡ asks b) × (after.closed ≡ b.closed)

abbrev pub Takes : Block → ℕ → Line → Block → Type 0
Takes b n Blank after = Stays b after
Takes b n (Fill r) after =
    (b.closed ≡ false → (filled after ≡ added (filled b) r) × (asks after ≡ asks b))
    × (b.closed ≡ true → (filled after ≡ filled b) × (asks after ≡ asks b ++ Malformed n ∷ []))
    × (after.closed ≡ b.closed)
Takes b n (Ask d) after = (filled after ≡ filled b) × (asks after ≡ asks b ++ d ∷ []) × (after.closed ≡ (if closes d then true else b.closed))
Takes b n End after = Stays b after

abbrev pub flow_of : Line → ControlFlow (Unit {0}) (Unit {0})
flow_of Blank = Continue tt
flow_of (Fill r) = Continue tt
flow_of (Ask d) = Continue tt
flow_of End = Break tt
