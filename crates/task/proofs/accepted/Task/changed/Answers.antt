use Rattle.std.proofs.Common.{◌≡◌, true, ◌+ℤ◌, sym, ◌∙◌, subst, ap₂, ⊎_elim, arith, w32, SFits, rules}
use Rattle.std.proofs.lemmas.Int.{to_z-of_z}
use Rattle.std.proofs.lemmas.Bool.{cases_Bool, cond-false}
use Rattle.tables.specs.Check.{in_range}
use Rattle.task.specs.States.{quantity_at, value_of, changed}
use Rattle.task.specs.Tasks.{problem}
use Rattle.task.proofs.Along.{kept_rules, range_fits, quantity_holds}
use Rattle.task.proofs.accepted.Task.changed.Goals as goal

pub bounds-state-at : goal.bounds-state-at
bounds-state-at c = let few = (kept_rules c.args.self.now).few_quantities in omega (arith, c.requires.1)

pub returns-in_err-value : goal.returns-in_err-value
returns-in_err-value c =
    let p = problem c.args.self.now in
    let l = c.args.change.now in
    let s = c.args.state.now in
    let fv : SFits w32 (value_of s l.subject) = search rules in
    let fa : SFits w32 l.amount = search rules in
    let out : in_range (quantity_at p l.subject) (changed s l) ≡ true → ⊥ = λ h.
    c.in_err-value.ensures (subst (SFits w32) (ap₂ ◌+ℤ◌ (sym (to_z-of_z w32 _ fv)) (sym (to_z-of_z w32 _ fa))) (range_fits _ _ (quantity_holds p l.subject (kept_rules c.args.self.now) c.requires.0 c.requires.1) h)) in
    c.from_residual.ensures ∙ sym (cond-false _ _ _ (⊎_elim (λ h. absurd (out h)) (λ h. h) (cases_Bool _)))
