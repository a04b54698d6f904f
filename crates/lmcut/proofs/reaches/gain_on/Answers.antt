use Rattle.std.proofs.Common.{◌≤◌, get_or, pos, sym, subst, arith}
use Rattle.std.proofs.ByRecursion.{All-get_or}
use Rattle.tables.specs.Rules.{ChainKeeps, ConditionKeeps}
use Rattle.tables.specs.declared.Condition.{Condition}
use Rattle.tables.specs.declared.Role.TheVariants.{Terms}
use Rattle.tables.specs.declared.Tables.{Tables}
use Rattle.task.specs.Tasks.{problem}
use Rattle.task.proofs.Along.{kept_rules}
use Rattle.lmcut.proofs.reaches.gain_on.Goals as goal

pub bounds-holds-tables : goal.bounds-holds-tables
bounds-holds-tables c =
    let k = kept_rules c.args.task.now in
    let f : c.tables-tables.result.head.facts ≤ 64 = subst (λ (t : Tables). t.head.facts ≤ 64) (sym c.tables-tables.ensures) k.facts in
    omega (arith, f, k.few_conditions, c.requires.inside)

pub gain-gain-requires : goal.gain-gain-requires
gain-gain-requires c =
    let p = problem c.args.task.now in
    let at : Tables → Condition = λ t. get_or t.conditions.now c.args.index (record { kind = 0; bound = pos 0; terms = 0 }) in
    subst (λ t. ChainKeeps p Terms (at t).terms) (sym c.tables-tables.ensures) (All-get_or (ConditionKeeps p) p.conditions c.args.index _ c.requires.inside (kept_rules c.args.task.now).conditions).terms
