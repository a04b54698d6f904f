use Rattle.std.proofs.Common.{◌≡◌, map}
use Rattle.lmcut.proofs.Noting.{told, Noting}
use Rattle.lmcut.proofs.Rounding.{Rounding, rest_pairs}
use Rattle.lmcut.proofs.question.Asked.run.Given as goal

abbrev pub invariant-charged : goal.invariant-charged
invariant-charged l =
    (goal.iterator-charged).can_next l.action-iterator
    × (goal.iterator-charged).is_finite l.action-iterator
    × Noting l.round l.weight (map told l.yielded) l.initial.records l.initial.tally.records l.records l.tally.records
    × (l.tally.total ≡ l.initial.tally.total)

abbrev pub invariant-rounds : goal.invariant-rounds
invariant-rounds l = Rounding l.self.question.now l.initial.records l.left.of l.tally l.round l.records

abbrev pub decreases-rounds : goal.decreases-rounds
decreases-rounds l = rest_pairs l.self.question.now l.left.of
