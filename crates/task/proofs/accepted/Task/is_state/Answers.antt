use Rattle.std.proofs.Common.{◌≡◌, ◌&&◌, length, sym, ◌∙◌, ap₂, rules}
use Rattle.std.proofs.lemmas.Bool.{eq-eqb, and_left}
use Rattle.std.proofs.lemmas.Iterator.{YieldsList-from_slice}
use Rattle.std.proofs.lemmas.Iterator.Consumers.{YieldsList-at, YieldsList-from_enumerate}
use Rattle.std.proofs.lemmas.Iterator.Search.{all_from_yields_List}
use borrow.Author.Tests.{tests}
use Rattle.task.specs.States.{is_state, value_fits, values_fit}
use Rattle.task.specs.Tasks.{problem}
use Rattle.task.proofs.Starts.{fit_all}
use Rattle.task.proofs.accepted.Task.is_state.Goals as goal

pub returns-then-is_below : goal.returns-then-is_below
unfolding is_state
returns-then-is_below c =
    let qs = (problem c.args.self.now).quantities in
    let vs = c.args.state.now.values in
    let len : length vs ≡ 16 = search rules in
    all_from_yields_List (λ p. value_fits qs p.0 p.1) c.all.new.self _ c.all.result c.all.ensures.ran (YieldsList-from_enumerate (YieldsList-at c.enumerate.ensures.source (YieldsList-from_slice vs cc)) cc) (λ x b q k. search (rules, tests))
    ∙ fit_all qs 0 vs ∙ sym (ap₂ (λ a b. a && b && values_fit qs 0 vs) (sym c.if-is_below.ensures) (eq-eqb _ 16 len))

pub returns-else-is_below : goal.returns-else-is_below
unfolding is_state
returns-else-is_below c = c.if-is_below.false ∙ sym (and_left _ _ (and_left _ _ (sym c.is_below.ensures ∙ c.if-is_below.false)))
