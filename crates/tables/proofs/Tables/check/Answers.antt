use Rattle.std.proofs.Common.{rules, ◌≡◌, is_ok, Ok, Err, Decides, Result, sym, ap, ◌∙◌}
use Rattle.tables.specs.Check.{told, first_fault, accepted, sizes_fault, quantity_fault, condition_fault, move_fault, goal_fault}
use Rattle.std.proofs.lemmas.Bool.Decides.{Decides-at}
use Rattle.tables.specs.Problem.{Problem, contents}
use Rattle.tables.specs.Rules.{Keeps}
use Rattle.tables.specs.declared.fault.TaskFault.{TaskFault}
use Rattle.tables.proofs.Accepts.{decides_accepted, told_accepts}
use Rattle.tables.proofs.Checked.{told_here, told_next}
use Rattle.tables.proofs.Tables.check.Goals as goal

-- the answer says which fault is first, and so whether the tables keep the rules
full : (p : Problem) (r : Result (Unit {0}) TaskFault) → r ≡ told (first_fault p) → record { told : r ≡ told (first_fault p); accepts : is_ok r ≡ accepted p; exact : Decides (is_ok r) (Keeps p) }
full p r e =
    let same : is_ok r ≡ accepted p = ap is_ok e ∙ told_accepts p in
    record { told = e; accepts = same; exact = Decides-at (is_ok r) (accepted p) same (decides_accepted p) }

pub returns-in_err-bounded : goal.returns-in_err-bounded
unfolding first_fault
returns-in_err-bounded c =
    let sizes : told (sizes_fault (contents c.args.self.now)) ≡ Err c.in_err-bounded.field-0.0 = search rules in
    let is : c.from_residual.result ≡ Err c.in_err-bounded.field-0.0 = search rules in
    full _ _ (is ∙ sym (told_here _ _ _ sizes))

pub returns-in_err-check_each : goal.returns-in_err-check_each
unfolding first_fault
returns-in_err-check_each c =
    let sizes : told (sizes_fault (contents c.args.self.now)) ≡ Ok tt = search rules in
    let quantities = c.check_each.ensures quantity_fault (λ k x r post. search rules) in
    let is : c.from_residual-in_err-check_each.result ≡ Err c.in_err-check_each.field-0.0 = search rules in
    full _ _ (is ∙ sym (told_next _ _ sizes ∙ told_here _ _ _ (sym quantities ∙ c.in_err-check_each.was)))

pub returns-in_err-check_each-2 : goal.returns-in_err-check_each-2
unfolding first_fault
returns-in_err-check_each-2 c =
    let same : c.in_ok-bounded.bounded.tables ≡ c.args.self.now = search rules in
    let sizes : told (sizes_fault (contents c.args.self.now)) ≡ Ok tt = search rules in
    let quantities = c.check_each.ensures quantity_fault (λ k x r post. search rules) in
    let conditions = c.check_each-2.ensures (condition_fault (contents c.args.self.now)) (λ k x r post. search rules) in
    let is : c.from_residual-in_err-check_each-2.result ≡ Err c.in_err-check_each-2.field-0.0 = search rules in
    full _ _ (is ∙ sym (told_next _ _ sizes ∙ told_next _ _ (sym quantities ∙ c.in_ok-check_each.was) ∙ told_here _ _ _ (sym conditions ∙ c.in_err-check_each-2.was)))

pub returns-in_err-check_each-3 : goal.returns-in_err-check_each-3
unfolding first_fault
returns-in_err-check_each-3 c =
    let same : c.in_ok-bounded.bounded.tables ≡ c.args.self.now = search rules in
    let sizes : told (sizes_fault (contents c.args.self.now)) ≡ Ok tt = search rules in
    let quantities = c.check_each.ensures quantity_fault (λ k x r post. search rules) in
    let conditions = c.check_each-2.ensures (condition_fault (contents c.args.self.now)) (λ k x r post. search rules) in
    let moves = c.check_each-3.ensures (move_fault (contents c.args.self.now)) (λ k x r post. search rules) in
    let is : c.from_residual-in_err-check_each-3.result ≡ Err c.in_err-check_each-3.field-0.0 = search rules in
    full _ _ (is ∙ sym (told_next _ _ sizes ∙ told_next _ _ (sym quantities ∙ c.in_ok-check_each.was) ∙ told_next _ _ (sym conditions ∙ c.in_ok-check_each-2.was) ∙ told_here _ _ _ (sym moves ∙ c.in_err-check_each-3.was)))

pub returns : goal.returns
unfolding first_fault
returns c =
    let same : c.in_ok-bounded.bounded.tables ≡ c.args.self.now = search rules in
    let sizes : told (sizes_fault (contents c.args.self.now)) ≡ Ok tt = search rules in
    let quantities = c.check_each.ensures quantity_fault (λ k x r post. search rules) in
    let conditions = c.check_each-2.ensures (condition_fault (contents c.args.self.now)) (λ k x r post. search rules) in
    let moves = c.check_each-3.ensures (move_fault (contents c.args.self.now)) (λ k x r post. search rules) in
    let goal : c.check_goal.result ≡ told (goal_fault (contents c.args.self.now)) = search rules in
    full _ _ (goal ∙ sym (told_next _ _ sizes ∙ told_next _ _ (sym quantities ∙ c.in_ok-check_each.was) ∙ told_next _ _ (sym conditions ∙ c.in_ok-check_each-2.was) ∙ told_next _ _ (sym moves ∙ c.in_ok-check_each-3.was)))
