use Rattle.std.proofs.Common.{◌≤◌, nat_abs, ap, ◌∙◌, subst, sym, w32, SFits, rules}
use Rattle.std.proofs.lemmas.Int.{to_z-of_z}
use Rattle.task.proofs.Along.{move_found}
use Rattle.task.proofs.accepted.Task.cost.Goals as goal

pub returns-clause-small : goal.returns-clause-small
returns-clause-small c =
    let f : SFits w32 c.in_ok-action.action.cost = search rules in
    let same = c.from.ensures ∙ c.unsigned_abs.ensures.value ∙ ap nat_abs (to_z-of_z w32 _ f) in
    subst (λ n. n ≤ 10000) (sym same) (move_found c.args.self.now _ _ c.in_ok-action.ensures).cost_high
