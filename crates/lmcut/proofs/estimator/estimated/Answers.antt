use Rattle.std.proofs.Common.{◌≡◌, ◌^◌, min, sym, ap, ◌∙◌, arith}
use Rattle.estimate.specs.declared.estimate.Estimate.TheVariants.{AtLeast}
use Rattle.task.specs.Tasks.{problem}
use Rattle.landmarks.specs.Rounds.{Dead, Found}
use Rattle.lmcut.proofs.Crossed.{ceil_is}
use Rattle.lmcut.specs.Answering.{ended_some, ended_none, estimate_is}
use Rattle.lmcut.proofs.estimator.estimated.Goals as goal

pub returns-in-None : goal.returns-in-None
returns-in-None c =
    let e = ended_none _ c.in-None.ensures.tallied in
    sym (estimate_is (problem c.args.task.now) c.args.state.now c.requires Dead (sym c.prepare.ensures.rounds ∙ e))

pub returns-in-Some : goal.returns-in-Some
returns-in-Some c =
    let e = ended_some _ c.in-Some.tally c.in-Some.ensures.tallied in
    let t = c.in-Some.tally.total in
    let m : min c.div_ceil.result 1000000000000 ≡ min (10 ^ 12) c.div_ceil.result = omega arith in
    ap AtLeast (c.min.ensures ∙ m ∙ ap (min (10 ^ 12)) (c.div_ceil.ensures ∙ ceil_is t 5040 (omega arith)))
    ∙ sym (estimate_is (problem c.args.task.now) c.args.state.now c.requires (Found t e.records) (sym c.prepare.ensures.rounds ∙ e.is))
