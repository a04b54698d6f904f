use Rattle.std.proofs.Common.{◌≡◌, ℕ, ◌<◌, length, get_or, None}
use Rattle.lmcut.specs.Drawn.{values_of}
use Rattle.lmcut.specs.Questions.{action_at}
use Rattle.landmarks.specs.Rounds.{chosen}
use Rattle.lmcut.proofs.question.Asked.sources.Given as goal

abbrev pub invariant-loop-action : goal.invariant-loop-action
invariant-loop-action l =
    (length l.source-items ≡ l.self.question.now.actions) × ((a : ℕ) → a < l.action → get_or l.source-items a None ≡ chosen (values_of l.self.question.now.nodes l.values) (action_at l.self.question.now a).needs)
