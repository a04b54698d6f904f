use Rattle.std.proofs.Common.{◌≡◌, ℕ, ◌*◌, ◌<◌, length, get_or}
use Rattle.lmcut.proofs.question.Asked.full_costs.Given as goal

abbrev pub invariant-loop-action : goal.invariant-loop-action
invariant-loop-action l =
    (length l.left-items ≡ 257) × ((a : ℕ) → a < l.action → get_or l.left-items a 0 ≡ 5040 * get_or l.self.question.now.costs a 0)
