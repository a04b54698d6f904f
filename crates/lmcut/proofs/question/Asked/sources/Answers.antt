use Rattle.std.proofs.Common.{None, sym, ◌∙◌, arith, below_more}
use Rattle.std.proofs.lemmas.List.{get_or-set_same, get_or-set_other, get_or_append_left, length-set}
use Rattle.lmcut.proofs.Picks.{chosen_inside}
use Rattle.lmcut.proofs.question.Asked.sources.Goals as goal

pub loop-action-preserved : goal.loop-action-preserved
loop-action-preserved c =
    let ss = c.loop-action.source-items in
    let i = c.loop-action.action in
    let long = c.loop-action.invariant.0 in (
      length-set ss i c.chosen.result ∙ long,
      below_more _ i
          (λ k h. get_or-set_other ss i k c.chosen.result None (λ e. omega arith) ∙ c.loop-action.invariant.1 k h)
          (get_or-set_same ss i c.chosen.result None (omega arith) ∙ c.chosen.ensures),
    )

pub returns-clause-chosen : goal.returns-clause-chosen
returns-clause-chosen c a h =
    let l = c.loop-action.invariant.0 in
    get_or_append_left c.loop-action.source-items _ None a (omega arith) ∙ c.loop-action.invariant.1 a (omega arith)

pub returns-clause-placed : goal.returns-clause-placed
returns-clause-placed c a n h e = let k = chosen_inside _ _ _ n (sym (returns-clause-chosen c a h) ∙ e) in omega arith
