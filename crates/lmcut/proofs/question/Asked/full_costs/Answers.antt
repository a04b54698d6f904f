use Rattle.std.proofs.Common.{◌*◌, ap, ◌∙◌, arith, below_more}
use Rattle.std.proofs.lemmas.List.{get_or-set_same, get_or-set_other, length-set}
use Rattle.lmcut.proofs.Costing.{costs_whole, costs_modest}
use Rattle.lmcut.proofs.question.Asked.full_costs.Goals as goal

pub loop-action-preserved : goal.loop-action-preserved
loop-action-preserved c =
    let rs = c.loop-action.left-items in
    let i = c.loop-action.action in
    let long = c.loop-action.invariant.0 in (
      length-set rs i _ ∙ long,
      below_more _ i
          (λ k h. get_or-set_other rs i k _ 0 (λ e. omega arith) ∙ c.loop-action.invariant.1 k h)
          (get_or-set_same rs i _ 0 (omega arith) ∙ ap (λ n. 5040 * n) c.from.ensures),
    )

pub returns : goal.returns
returns c = costs_whole c.args.self.question.now c.loop-action.left-items c.args.self.fits c.loop-action.invariant.0 (λ i h. c.loop-action.invariant.1 i (omega arith))

pub invariant_of-result : goal.invariant_of-result
invariant_of-result c = record { modest = costs_modest c.args.self.question.now c.loop-action.left-items c.args.self.fits c.loop-action.invariant.0 (λ i h. c.loop-action.invariant.1 i (omega arith)); long = c.loop-action.invariant.0 }
