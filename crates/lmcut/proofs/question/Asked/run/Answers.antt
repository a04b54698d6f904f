use Rattle.std.proofs.Common.{◌≡◌, ◌+◌, ◌≤◌, length, take, map, set, sym, ◌∙◌, subst₂, inl, inr, ⊎_elim, of_calls, arith}
use lib.Seq.{set_out}
use Rattle.std.proofs.lemmas.Iterator.{YieldsList, YieldsList-from_slice, YieldsList-from_zip}
use Rattle.std.proofs.lemmas.Iterator.Consumers.{YieldsList-from_enumerate, YieldsList-turn, YieldsList-end}
use Rattle.std.proofs.lemmas.List.{map_push}
use Rattle.lmcut.proofs.Noting.{told, shares, ground_of, Noting, noting_paid}
use Rattle.lmcut.proofs.Rounding.{rounding_start, rounding_dead, rounding_over, rounding_next, rounding_less, weight_small, paid_least}
use Rattle.lmcut.proofs.question.Asked.run.Given as given
use Rattle.lmcut.proofs.question.Asked.run.Goals as goal
use Rattle.lmcut.proofs.question.Asked.run.Goals.{then-tally-records, else-tally-records, After-into_iter-action-iterator}

pub rounds-init : goal.rounds-init
rounds-init c = rounding_start c.args.self.question.now c.args.records.now c.full_costs-left.result.of c.args.self.fits c.full_costs-left.ensures

walked : (c : After-into_iter-action-iterator) → YieldsList (given.iterator-charged).next_gives told c.into_iter-action-iterator.result (shares (take c.args.self.question.now.actions c.rounds.left.of) c.pay-weight.new.left.of)
walked c = YieldsList-from_enumerate (YieldsList-from_zip (YieldsList-from_slice (take c.args.self.question.now.actions c.rounds.left.of) cc) (YieldsList-from_slice c.pay-weight.new.left.of cc)) cc

pub overflow_sub-charge : goal.overflow_sub-charge
overflow_sub-charge c =
    let few = c.args.self.fits.few_actions in
    let long : c.args.self.question.now.actions ≤ length c.rounds.left.of = omega arith in
    let too : c.args.self.question.now.actions ≤ length c.pay-weight.new.left.of = omega arith in
    let ls = c.pay-weight.new.left.of in
    let t = YieldsList-turn {s = c.into_iter-action-iterator.result} (walked (goal.at.overflow_sub-charge c).After-into_iter-action-iterator) c.charged.yielded c.charged.action-iterator c.charged.yielded_by c.next.result c.next.new.self (c.in-Some.action, (c.in-Some.had, c.in-Some.has)) c.in-Some.is c.next.ensures.steps in
    paid_least c.args.self.question.now c.rounds.left.of c.values-values.result c.args.self.fits c.values-values.ensures c.if-goal.false c.if-goal-eq0.false c.pay-weight.result ls c.pay-weight.ensures.weighs c.pay-weight.ensures.charged long too (length c.charged.yielded) _ t

pub charged-preserved : goal.charged-preserved
charged-preserved c =
    let rs = c.charged.records in
    let all = c.charged.tally.records in
    let ps = map told c.charged.yielded in
    let p = told (c.in-Some.action, (c.in-Some.had, c.in-Some.has)) in
    let g = ground_of c.rounds.round c.pay-weight.result p in
    let same : set rs all g ≡ c.if-tally-records.records =
    elim c.if-tally-records.branch [ then-tally-records w ↦ sym w.records-is | else-tally-records w ↦ set_out rs all g w.if-tally-records.false ∙ sym w.records-is ] in
    let next = noting_paid c.rounds.round c.pay-weight.result ps c.rounds.records c.rounds.tally.records rs all c.charged.invariant.2 p c.if-charge-eq0.false in (
      search of_calls,
      search of_calls,
      subst₂ (λ xs gs. Noting c.rounds.round c.pay-weight.result xs c.rounds.records c.rounds.tally.records gs (all + 1)) (sym (map_push told c.charged.yielded (c.in-Some.action, (c.in-Some.had, c.in-Some.has)))) same next,
      c.charged.invariant.3,
    )

pub overflow_add-tally-in-rounds : goal.overflow_add-tally-in-rounds
overflow_add-tally-in-rounds c =
    let w = weight_small c.args.self.question.now c.rounds.left.of c.values-values.result c.args.self.fits c.values-values.ensures c.pay-weight.result c.rounds.left.modest c.pay-weight.ensures.weighs in
    let k = c.charged.invariant.3 in
    omega arith

pub rounds-smaller : goal.rounds-smaller
rounds-smaller c = rounding_less c.args.self.question.now c.rounds.left.of c.values-values.result c.args.self.fits c.values-values.ensures c.if-goal.false c.if-goal-eq0.false c.pay-weight.result c.pay-weight.new.left.of c.pay-weight.ensures.weighs c.pay-weight.ensures.charged

pub rounds-preserved : goal.rounds-preserved
rounds-preserved c =
    let few = c.args.self.fits.few_actions in
    let long : c.args.self.question.now.actions ≤ length c.rounds.left.of = omega arith in
    let too : c.args.self.question.now.actions ≤ length c.pay-weight.new.left.of = omega arith in
    let ls = c.pay-weight.new.left.of in
    let e = YieldsList-end {s = c.into_iter-action-iterator.result} (walked (goal.at.rounds-preserved c).After-into_iter-action-iterator) c.charged.yielded c.charged.action-iterator c.charged.yielded_by c.next.result c.next.new.self c.in-None.is c.next.ensures.steps in
    rounding_next c.args.self.question.now c.rounds.left.of c.values-values.result c.args.self.fits c.values-values.ensures c.if-goal.false c.if-goal-eq0.false c.pay-weight.result ls c.pay-weight.ensures.weighs c.pay-weight.ensures.charged long too
    c.args.records.now c.rounds.tally c.rounds.round c.rounds.records c.rounds.invariant (omega arith) (map told c.charged.yielded) c.charged.tally c.charged.records e.0 c.charged.invariant.2 c.charged.invariant.3

pub returns-then-goal : goal.returns-then-goal
returns-then-goal c =
    let r = rounding_dead c.args.self.question.now c.rounds.left.of c.values-values.result c.args.self.fits c.values-values.ensures c.args.records.now c.rounds.tally c.rounds.round c.rounds.records c.rounds.invariant c.if-goal.true in
    record { tallied = r.tallied; written = r.written }

pub returns-then-goal-eq0 : goal.returns-then-goal-eq0
returns-then-goal-eq0 c =
    let r = rounding_over c.args.self.question.now c.rounds.left.of c.values-values.result c.args.self.fits c.values-values.ensures c.args.records.now c.rounds.tally c.rounds.round c.rounds.records c.rounds.invariant c.if-goal.false (⊎_elim inl (λ p. inr p.1) c.then-goal-eq0.either) in
    record { tallied = r.tallied; written = r.written }
