use Rattle.std.proofs.Common.{◌-◌, set, sym, ap, ◌∙◌, subst, inl, arith, w32, SFits, rules}
use lib.Bits.{bit_or}
use Rattle.std.proofs.lemmas.Nat.{one_shl}
use Rattle.tables.specs.Chains.{chain}
use Rattle.tables.specs.declared.Role.TheVariants.{Effects}
use Rattle.task.specs.Tasks.{problem}
use Rattle.task.proofs.Along.{Gone, going_step, going_end, kept_rules}
use Rattle.task.proofs.Effects.{effect_fact}
use Rattle.lmcut.proofs.Adding.{Added, added_start, added_set, added_other, added_quantity, added_sum, added_change, added_end}
use Rattle.lmcut.proofs.effects.Doing.new.Goals as goal
use Rattle.lmcut.proofs.effects.Doing.new.Goals.{In-Some}

pub loop-link-init : goal.loop-link-init
loop-link-init c =
    let it = c.into_iter-link-iterator.ensures.into_iter_gives in
    let links = ap (λ k. k.links.now) it ∙ c.new-link-items.ensures.0 ∙ ap (λ t. t.links.now) c.tables.ensures in
    let s = added_start (problem c.args.task.now) c.args.first _ _ (kept_rules c.args.task.now) c.requires links (ap (λ k. k.at) it ∙ c.new-link-items.ensures.1) in
    (s.going.can, tt, s)

gone : (c : In-Some) → Gone (problem c.args.task.now) Effects c.in-Some.link c.loop-link.link-iterator.links.now c.loop-link.link-iterator.at c.next.new.self.links.now c.next.new.self.at
gone c = let e = c.in-Some.ensures in going_step _ Effects c.in-Some.link _ _ _ _ c.loop-link.invariant.2.going e.steps (e.goes.on tt)

pub overflow_shl-sets : goal.overflow_shl-sets
overflow_shl-sets c = effect_fact _ _ (kept_rules c.args.task.now) (gone (goal.at.overflow_shl-sets c).In-Some).fits (inl c.if-link.true)

pub loop-link-preserved-then-link : goal.loop-link-preserved-then-link
loop-link-preserved-then-link c =
    let g = gone (goal.at.loop-link-preserved-then-link c).In-Some in
    let is = c.if-link.true in
    let k = effect_fact _ _ (kept_rules c.args.task.now) g.fits (inl is) in
    let w = added_set _ _ _ _ _ _ _ _ _ c.loop-link.invariant.2 g is k in
    (g.rest.can, tt, subst (λ b. Added (chain (problem c.args.task.now).links c.args.first) c.next.new.self.links.now c.next.new.self.at (bit_or c.loop-link.sets b) c.loop-link.changes (problem c.args.task.now)) (sym (one_shl _ 64 k)) w)

pub overflow_sub-changes : goal.overflow_sub-changes
overflow_sub-changes c = (added_quantity _ _ (kept_rules c.args.task.now) (gone (goal.at.overflow_sub-changes c).In-Some).fits c.if-link-2.true).0

pub bounds-changes-link : goal.bounds-changes-link
bounds-changes-link c =
    let k = c.if-link-2.true in
    let q = added_quantity _ _ (kept_rules c.args.task.now) (gone (goal.at.bounds-changes-link c).In-Some).fits k in
    omega (arith, q.0, q.1)

pub bounds-changes-link-then-link-2 : goal.bounds-changes-link-then-link-2
bounds-changes-link-then-link-2 c =
    let k = c.if-link-2.true in
    let q = added_quantity _ _ (kept_rules c.args.task.now) (gone (goal.at.bounds-changes-link-then-link-2 c).In-Some).fits k in
    omega (arith, q.0, q.1)

pub loop-link-preserved-then-link-2 : goal.loop-link-preserved-then-link-2
loop-link-preserved-then-link-2 c =
    let k = c.if-link-2.true in
    let g = gone (goal.at.loop-link-preserved-then-link-2 c).In-Some in
    let f : SFits w32 c.in-Some.link.amount = search rules in
    let e = added_sum _ _ _ _ _ _ _ _ _ c.loop-link.invariant.2 g k f c.from.ensures in
    let w = added_change _ _ _ _ _ _ _ _ _ c.loop-link.invariant.2 g k (kept_rules c.args.task.now) in
    (g.rest.can, tt, subst (λ v. Added (chain (problem c.args.task.now).links c.args.first) c.next.new.self.links.now c.next.new.self.at c.loop-link.sets (set c.loop-link.changes (c.in-Some.link.subject - 1) v) (problem c.args.task.now)) (sym e) w)

pub loop-link-preserved : goal.loop-link-preserved
loop-link-preserved c =
    let g = gone (goal.at.loop-link-preserved c).In-Some in
    (g.rest.can, tt, added_other _ _ _ _ _ _ _ _ _ c.loop-link.invariant.2 g c.if-link.false c.if-link-2.false)

pub returns : goal.returns
returns c =
    let w = added_end _ _ _ _ _ _ c.loop-link.invariant.2 (going_end _ _ _ _ c.in-None.ensures.steps) in
    record { sets = w.0; changes = w.1 }
