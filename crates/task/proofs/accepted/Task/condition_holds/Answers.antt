use Rattle.std.proofs.Common.{ap, ◌∙◌, pos, w64, SFits, rules}
use lib.Signed.{le_z}
use Rattle.std.proofs.lemmas.Int.{to_z-of_z}
use Rattle.task.proofs.Results.{gap_holds}
use Rattle.task.proofs.accepted.Task.condition_holds.Goals as goal

pub returns : goal.returns
returns c =
    let f : SFits w64 c.gap.result = search rules in
    ap (λ z. le_z z (pos 0)) (to_z-of_z w64 _ f ∙ c.gap.ensures) ∙ gap_holds _ _ _ c.requires.0 c.requires.1
