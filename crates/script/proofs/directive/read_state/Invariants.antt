use Rattle.std.proofs.Common.{◌≡◌, ℕ, List, length, take}
use Rattle.script.specs.Lines.{Natural, Integers}
use Rattle.script.specs.Unread.{unread}
use Rattle.script.proofs.directive.read_state.Given as goal

abbrev pub invariant-loop-value : goal.invariant-loop-value
invariant-loop-value l =
    (length l.value-items ≡ 16)
    × ((t : List ℕ) × Natural 64 (unread l.fn.words) l.facts t × Integers t (take l.value-index l.value-items) (unread l.words))
