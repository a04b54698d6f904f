use Rattle.std.proofs.Common.{◌≡◌, ℕ, ◌+◌, ◌<◌, T, length, set, ℤ, pos, nat_abs, sym, ap, ◌∙◌, subst, arith, w32, w64, Fits, SFits, to_z, of_z, rules}
use lib.Signed.{le_z, non_neg}
use Rattle.std.specs.Int.{int_max}
use Rattle.std.proofs.lemmas.Int.{to_z-of_z}
use Rattle.std.proofs.lemmas.List.{length-take-le}
use Rattle.tables.specs.declared.Tables.{Tables}
use Rattle.task.specs.States.{gap}
use Rattle.task.specs.Tasks.{problem}
use Rattle.task.proofs.Along.{kept_rules}
use Rattle.lmcut.proofs.Lent.{lent}
use Rattle.lmcut.proofs.Shortfalls.{Stood, stood_start, stood_step, stood_end, gap_small, above_fits}
use Rattle.lmcut.proofs.standing.Position.standing.Goals as goal
use Rattle.lmcut.proofs.standing.Position.standing.Goals.{In-loop-index}

pub loop-index-init : goal.loop-index-init
loop-index-init c =
    let k = lent c.args.self.now.task.now c.tables-tables.result c.tables-tables.ensures in
    stood_start _ _ _ _ (search rules) (length-take-le (length c.tables-tables.result.conditions.now) _ (omega arith) ∙ k.conditions) c.facts_hold-holds.ensures.facts c.facts_hold-holds.ensures.rest

-- an index of the loop is one of a condition
inside : (c : In-loop-index) → c.loop-index.index < length (problem c.args.self.now.task.now).conditions
inside c = let l = c.loop-index.invariant.long in omega arith

pub slice_bounds-shorts-end : goal.slice_bounds-shorts-end
slice_bounds-shorts-end c = let k = lent c.args.self.now.task.now c.tables-tables.result c.tables-tables.ensures in omega arith

pub slice_bounds-short-items-end : goal.slice_bounds-short-items-end
slice_bounds-short-items-end c = let k = lent c.args.self.now.task.now c.tables-tables.result c.tables-tables.ensures in sym (length-take-le (length c.tables-tables.result.conditions.now) _ (omega arith))

pub bounds-holds-facts : goal.bounds-holds-facts
bounds-holds-facts c = let k = lent c.args.self.now.task.now c.tables-tables.result c.tables-tables.ensures in let h = inside (goal.at.bounds-holds-facts c).In-loop-index in omega arith

-- the gap, and the larger of it and 0, as the code's bits have them
module _ (c : goal.After-max) where
  abbrev the-gap : ℤ
  the-gap = gap (problem c.args.self.now.task.now) c.args.self.now.state.now (c.loop-index.index + 1)

  told : to_z w64 (of_z w64 c.gap-gap.result) ≡ the-gap
  told = let f : SFits w64 c.gap-gap.result = search rules in to_z-of_z w64 _ f ∙ c.gap-gap.ensures

  above : to_z w64 (of_z w64 c.max.result) ≡ int_max the-gap (pos 0)
  above = let f : SFits w64 c.max.result = search rules in to_z-of_z w64 _ f ∙ c.max.ensures.value ∙ ap (λ z. int_max z (pos 0)) told

pub overflow_cast-short : goal.overflow_cast-short
overflow_cast-short c =
    let small = gap_small (problem c.args.self.now.task.now) c.args.self.now.state.now c.loop-index.index (inside (goal.at.overflow_cast-short c).In-loop-index) (kept_rules c.args.self.now.task.now) c.args.self.now.state_of in
    subst (λ z. T (non_neg z) × Fits w32 (nat_abs z)) (sym (above c)) (above_fits (the-gap c) small)

pub loop-index-preserved : goal.loop-index-preserved
loop-index-preserved c =
    let f = ap (λ (t : Tables). t.head.facts) c.tables-tables.ensures in
    let zone = λ (i : ℕ). set c.loop-index.holds (i + c.loop-index.index) (le_z (to_z w64 (of_z w64 c.gap-gap.result)) (pos 0)) in
    let shorts = set c.loop-index.short-items c.loop-index.index (nat_abs (to_z w64 (of_z w64 c.max.result))) in
    subst (λ i. Stood (problem c.args.self.now.task.now) c.args.self.now.state.now (c.loop-index.index + 1) (zone i) shorts) (sym f)
    (stood_step (problem c.args.self.now.task.now) c.args.self.now.state.now c.loop-index.index c.loop-index.holds c.loop-index.short-items _ _ (kept_rules c.args.self.now.task.now) (inside (goal.at.loop-index-preserved c).In-loop-index)
    (ap (λ z. le_z z (pos 0)) (told c)) (ap nat_abs (above c)) c.loop-index.invariant)

pub returns : goal.returns
returns c =
    let l = c.loop-index.invariant.long in
    let all : c.loop-index.index ≡ length (problem c.args.self.now.task.now).conditions = omega arith in
    stood_end _ _ _ _ _ (kept_rules c.args.self.now.task.now) (subst (λ n. Stood (problem c.args.self.now.task.now) c.args.self.now.state.now n c.loop-index.holds c.loop-index.short-items) all c.loop-index.invariant)
