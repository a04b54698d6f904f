use Rattle.std.proofs.Common.{is_some, sym, ap, ◌∙◌, rules}
use Rattle.std.proofs.lemmas.Bool.{and_parts}
use Rattle.task.specs.States.{fact_holds}
use Rattle.lmcut.specs.Entered.{edges_to_come}
use Rattle.lmcut.proofs.Crossed.{to_come, to_come_start, then_goal}
use Rattle.lmcut.proofs.Prepared.{holds_and}
use Rattle.lmcut.proofs.entering.Entering.new.Goals as goal

pub invariant_of-result-clause-reached : goal.invariant_of-result-clause-reached
invariant_of-result-clause-reached c n h =
    (and_parts _ _ (sym (holds_and _ c.args.zone n) ∙ ap (λ w. fact_holds w n) (sym c.new.ensures) ∙ h)).0

pub invariant_of-result-clause-last : goal.invariant_of-result-clause-last
invariant_of-result-clause-last c e h = (then_goal c.args.asked.question.now c.args.action _ c.args.asked.fits (search rules)).1 e h

pub returns : goal.returns
unfolding edges_to_come
returns c =
    let g = then_goal c.args.asked.question.now c.args.action c.then_some.result c.args.asked.fits (search rules) in
    ap (to_come c.args.asked.question.now c.args.action (is_some c.then_some.result)) c.new.ensures ∙ to_come_start c.args.asked.question.now c.args.action c.args.asked.fits c.args.zone _ g.0
