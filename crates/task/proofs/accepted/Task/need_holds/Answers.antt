use Rattle.std.proofs.Common.{◌/◌, ◌^◌, eqb, sym, ap, ◌∙◌}
use Rattle.std.proofs.lemmas.Nat.{and_mask}
use Rattle.std.proofs.lemmas.Bool.{eq-eqb, ne_eqb, cond-true, cond-false}
use Rattle.task.specs.States.{need_holds}
use Rattle.task.proofs.Along.{kept_rules, need_fact}
use Rattle.task.proofs.accepted.Task.need_holds.Goals as goal

pub overflow_shr-result : goal.overflow_shr-result
overflow_shr-result c = need_fact _ _ (kept_rules c.args.self.now) c.requires c.if-need.true

pub returns-then-need : goal.returns-then-need
unfolding need_holds
returns-then-need c =
    ap (λ x. eqb x 1) (and_mask (c.args.state.now.facts / 2 ^ c.args.need.now.subject) 1)
    ∙ sym (cond-true (eqb c.args.need.now.kind 2) _ _ (eq-eqb _ 2 c.if-need.true))

pub returns-else-need : goal.returns-else-need
unfolding need_holds
returns-else-need c = c.condition_holds.ensures ∙ sym (cond-false (eqb c.args.need.now.kind 2) _ _ (ne_eqb _ 2 c.if-need.false))
