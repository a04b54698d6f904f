use Rattle.std.proofs.Common.{ap, ◌∙◌, refl, arith, rules}
use borrow.Author.Tests.{tests}
use Rattle.task.specs.States.{start_value, start_state, is_state}
use Rattle.task.specs.Tasks.{problem}
use Rattle.task.specs.declared.state.State.{State}
use Rattle.task.proofs.Along.{kept_rules}
use Rattle.task.proofs.Keep.{start_is_state}
use Rattle.task.proofs.Starts.{made_at, starts}
use Rattle.task.proofs.accepted.Task.start_state.Goals as goal

pub returns : goal.returns
unfolding start_state
returns c =
    let p = problem c.args.self.now in
    let made = c.from_fn.ensures.items in
    let at = made_at _ (start_value p.quantities) _ (λ i y q k. search (rules, tests)) c.from_fn.result 0 16 _ refl made.each in
    let values = starts p.quantities c.from_fn.result (kept_rules c.args.self.now).few_quantities made.long (λ j d h. at j d (omega arith) h) in
    let make : _ → State = λ vs. record { facts = p.head.start; values = vs } in
    record { is = ap make values; state = ap (λ vs. is_state p (make vs)) values ∙ start_is_state p (kept_rules c.args.self.now) }
