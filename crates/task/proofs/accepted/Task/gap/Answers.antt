use Rattle.std.proofs.Common.{◌≡◌, ◌-ℤ◌, sym, ◌∙◌, subst, ap₂, arith, w64, to_z, of_z}
use Rattle.std.proofs.lemmas.Int.{ints}
use Rattle.tables.specs.Chains.{chain}
use Rattle.tables.specs.Rules.{ChainKeeps}
use Rattle.tables.specs.declared.Role.TheVariants.{Terms}
use Rattle.task.specs.States.{mark, total, gap}
use Rattle.task.specs.Tasks.{problem}
use Rattle.task.proofs.Along.{kept_rules, condition_keeps}
use Rattle.task.proofs.Results.{gap_none, gap_at}
use Rattle.task.proofs.accepted.Task.gap.Goals as goal

pub returns-in_default : goal.returns-in_default
returns-in_default c = sym (gap_none _ _ _ c.in_default.ensures)

pub total-requires : goal.total-requires
total-requires c =
    let p = problem c.args.self.now in
    let e = c.in-Some.ensures in
    subst (λ x. ChainKeeps p Terms x.terms) (sym (e.2 _)) (condition_keeps p _ (kept_rules c.args.self.now) e.0 e.1).terms

pub returns : goal.returns
returns c =
    let p = problem c.args.self.now in
    let e = c.in-Some.ensures in
    let both : to_z w64 (of_z w64 (to_z w64 (of_z w64 c.mark.result) -ℤ to_z w64 (of_z w64 c.total.result))) ≡ c.mark.result -ℤ c.total.result = omega (arith, ints, c.mark.ensures.small, c.total.ensures.small) in
    both ∙ ap₂ ◌-ℤ◌ c.mark.ensures.is c.total.ensures.is
    ∙ subst (λ x. mark x -ℤ total (chain p.links x.terms) c.args.state.now ≡ gap p c.args.state.now c.args.number) (sym (e.2 _)) (sym (gap_at p c.args.state.now c.args.number e.0 e.1))
