use Rattle.std.proofs.Common.{Some, sym, ap, ◌∙◌, ap₂, inl, inr, arith, w32, SFits, rules}
use Rattle.std.proofs.lemmas.Int.{to_z-of_z}
use Rattle.tables.specs.Chains.{chain}
use Rattle.task.specs.States.{stays, made, cleared, values_after}
use Rattle.task.specs.Tasks.{problem}
use Rattle.tables.specs.declared.Role.TheVariants.{Effects}
use Rattle.task.proofs.Along.{going_start, going_end, kept_rules}
use Rattle.task.proofs.Effects.{turn_fact, turn_sets, turn_clears, turn_quantity, turn_change, turn_out, effected_end}
use Rattle.task.proofs.accepted.Task.effected.Goals as goal

pub loop-link-init : goal.loop-link-init
loop-link-init c =
    let it = c.into_iter-link-iterator.ensures.into_iter_gives in
    let p = problem c.args.self.now in
    let s = c.args.state.now in
    let links = ap (λ k. k.links.now) it ∙ c.new-link-items.ensures.0 in
    let at = ap (λ k. k.at) it ∙ c.new-link-items.ensures.1 in
    let same = ap₂ chain links at in
    let g = going_start p Effects c.args.first _ _ (kept_rules c.args.self.now) c.requires links at in (
      g.can,
      tt,
      record { going = g; keeps = ap (stays p s) same; sets_left = ap made same; clears_left = ap cleared same; values_left = ap (values_after s) same; long = search rules; sets_fit = omega arith; clears_fit = omega arith },
    )

pub overflow_shl-sets : goal.overflow_shl-sets
overflow_shl-sets c = turn_fact c.args.self.now _ _ _ _ _ _ _ _ _ _ c.loop-link.invariant.2 c.in-Some.ensures.steps (c.in-Some.ensures.goes.on tt) (inl c.if-link.true)

pub overflow_shl-clears : goal.overflow_shl-clears
overflow_shl-clears c = turn_fact c.args.self.now _ _ _ _ _ _ _ _ _ _ c.loop-link.invariant.2 c.in-Some.ensures.steps (c.in-Some.ensures.goes.on tt) (inr c.if-link-2.true)

pub loop-link-preserved-then-link : goal.loop-link-preserved-then-link
loop-link-preserved-then-link c = turn_sets c.args.self.now _ _ _ _ _ _ _ _ _ _ c.loop-link.invariant.2 c.in-Some.ensures.steps (c.in-Some.ensures.goes.on tt) c.if-link.true

pub loop-link-preserved-then-link-2 : goal.loop-link-preserved-then-link-2
loop-link-preserved-then-link-2 c = turn_clears c.args.self.now _ _ _ _ _ _ _ _ _ _ c.loop-link.invariant.2 c.in-Some.ensures.steps (c.in-Some.ensures.goes.on tt) c.if-link-2.true

pub changed-requires : goal.changed-requires
changed-requires c = let q = turn_quantity c.args.self.now _ _ _ _ _ _ _ _ _ _ c.loop-link.invariant.2 c.in-Some.ensures.steps (c.in-Some.ensures.goes.on tt) c.if-link.false c.if-link-2.false in (q.0, q.1)

pub overflow_sub-values : goal.overflow_sub-values
overflow_sub-values c = (turn_quantity c.args.self.now _ _ _ _ _ _ _ _ _ _ c.loop-link.invariant.2 c.in-Some.ensures.steps (c.in-Some.ensures.goes.on tt) c.if-link.false c.if-link-2.false).0

pub bounds-values-link : goal.bounds-values-link
bounds-values-link c = let q = turn_quantity c.args.self.now _ _ _ _ _ _ _ _ _ _ c.loop-link.invariant.2 c.in-Some.ensures.steps (c.in-Some.ensures.goes.on tt) c.if-link.false c.if-link-2.false in omega (arith, q.0, q.2)

pub returns-in_err-values : goal.returns-in_err-values
returns-in_err-values c = c.from_residual.ensures ∙ turn_out c.args.self.now _ _ _ _ _ _ _ _ _ _ c.loop-link.invariant.2 c.in-Some.ensures.steps (c.in-Some.ensures.goes.on tt) c.if-link.false c.if-link-2.false (sym c.changed.ensures ∙ c.in_err-values.was)

pub loop-link-preserved : goal.loop-link-preserved
loop-link-preserved c =
    let f : SFits w32 c.in_ok-values.field-0 = search rules in
    turn_change c.args.self.now _ _ _ _ _ _ _ _ _ _ c.loop-link.invariant.2 c.in-Some.ensures.steps (c.in-Some.ensures.goes.on tt) c.if-link.false c.if-link-2.false _ (sym c.changed.ensures ∙ c.in_ok-values.was ∙ ap Some (sym (to_z-of_z w32 _ f)))

pub returns : goal.returns
returns c = effected_end _ _ _ _ _ _ _ _ c.loop-link.invariant.2 (going_end _ _ _ _ c.in-None.ensures.steps)
