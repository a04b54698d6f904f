use Rattle.std.proofs.Common.{◌≡◌}
use Rattle.task.specs.Tasks.{problem}
use Rattle.lmcut.specs.Marked.{unmarked}
use Rattle.lmcut.proofs.Filling.{Filling}
use Rattle.lmcut.proofs.prepare.draw.Given as goal

abbrev pub invariant-loop-index : goal.invariant-loop-index
invariant-loop-index l =
    Filling (problem l.position.task.now) l.position.state.now l.index l.question.costs l.question.needs l.question.reach l.question.gains
    × (l.question.needing ≡ unmarked)
    × (l.question.reaching ≡ unmarked)
