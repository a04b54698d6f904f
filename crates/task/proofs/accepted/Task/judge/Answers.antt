use Rattle.std.proofs.Common.{◌≡◌, ◌+◌, ◌≤◌, length, IfSome, Err, sym, ap, ◌∙◌, subst, subst₂, arith, rules}
use Rattle.std.proofs.lemmas.Bool.{cond-true, cond-false}
use Rattle.tables.proofs.Checked.{under_some, under_none}
use Rattle.task.specs.Tasks.{problem}
use Rattle.task.specs.declared.plan.PlanFault.TheVariants.{NoSuchMove, NotAllowed}
use Rattle.task.proofs.Judged.{Judging, judging_start, judging_no_move, judging_not_allowed, judging_on, judging_end, refused, accepted}
use Rattle.task.proofs.accepted.Task.judge.Goals as goal

pub loop-position-init : goal.loop-position-init
loop-position-init c = judging_start _ _ _ _ _ (search rules) (search rules) c.start_state-state.ensures.is

pub returns-in_err-spent : goal.returns-in_err-spent
returns-in_err-spent c =
    let s = c.in-Some.ensures.steps in
    let none = refused _ _ _ (sym c.ok_or.ensures.value ∙ c.in_err-spent.was) in
    let e : c.from_residual.result ≡ Err (NoSuchMove c.loop-position.position-iterator.a.start) = search rules in
    e ∙ judging_no_move _ _ _ _ _ _ c.loop-position.invariant _ _ s.1 (under_none _ _ (sym c.cost.ensures.is ∙ none.0))

pub overflow_add-spent : goal.overflow_add-spent
overflow_add-spent c =
    let some = accepted _ _ _ (sym c.ok_or.ensures.value ∙ c.in_ok-spent.was) in
    let small = subst (λ o. IfSome o (λ n. n ≤ 10000)) some c.cost.ensures.small in
    let w = c.loop-position.invariant in
    record { fits = omega (arith, small, w.small, w.long, c.requires) }

pub returns-in_err-state : goal.returns-in_err-state
returns-in_err-state c =
    let s = c.in-Some.ensures.steps in
    let some = under_some _ _ _ (sym c.cost.ensures.is ∙ accepted _ _ _ (sym c.ok_or.ensures.value ∙ c.in_ok-spent.was)) in
    let none = refused _ _ _ (sym c.ok_or-in-loop-position.ensures.value ∙ c.in_err-state.was) in
    let e : c.from_residual-in_err-state.result ≡ Err (NotAllowed c.loop-position.position-iterator.a.start) = search rules in
    e ∙ judging_not_allowed _ _ _ _ _ _ c.loop-position.invariant _ _ s.1 some.0 (sym c.result.ensures.is ∙ none.0)

pub loop-position-preserved : goal.loop-position-preserved
loop-position-preserved c =
    let s = c.in-Some.ensures.steps in
    let paid = accepted _ _ _ (sym c.ok_or.ensures.value ∙ c.in_ok-spent.was) in
    let some = under_some _ _ _ (sym c.cost.ensures.is ∙ paid) in
    let small = subst (λ o. IfSome o (λ n. n ≤ 10000)) paid c.cost.ensures.small in
    let next = accepted _ _ _ (sym c.ok_or-in-loop-position.ensures.value ∙ c.in_ok-state.was) in
    let w = judging_on _ _ _ _ _ _ c.loop-position.invariant _ _ s.1 _ some.0 (sym c.result.ensures.is ∙ next) (omega (arith, small, some.1)) in
    subst₂ (λ k n. Judging (problem c.args.self.now) c.args.list.now k c.next.new.self.b.rest.now c.in_ok-state.state (c.loop-position.spent + n)) (sym (s.0.1 ∙ ap (λ k. k + 1) s.0.0)) some.1 w

pub returns-then-goal_holds : goal.returns-then-goal_holds
returns-then-goal_holds c =
    let w = c.loop-position.invariant in
    let end : length c.loop-position.position-iterator.b.rest.now ≡ 0 = search rules in
    sym (cond-true _ _ _ (sym c.if-goal_holds.ensures)) ∙ judging_end _ _ _ _ _ _ w end

pub returns-else-goal_holds : goal.returns-else-goal_holds
returns-else-goal_holds c =
    let w = c.loop-position.invariant in
    let end : length c.loop-position.position-iterator.b.rest.now ≡ 0 = search rules in
    sym (cond-false _ _ _ (sym c.if-goal_holds.ensures)) ∙ judging_end _ _ _ _ _ _ w end
