use Rattle.std.proofs.Common.{refl}
use Rattle.lmcut.specs.Valued.{Fired, ready_at}
use Rattle.lmcut.proofs.Kept.{kept_more, kept_back}
use Rattle.lmcut.proofs.Offers.{reached_more}
use Rattle.lmcut.proofs.values.Settling.settle_first.Goals as goal

pub loop-action-preserved : goal.loop-action-preserved
loop-action-preserved c =
    let s = c.args.self.now in
    let t = c.loop-action.self in
    let u = c.fire.new.self in
    let a = c.loop-action.action in
    let fired = kept_back (λ q rs w. Fired q rs w a 0 t.values.now u.values.now) s t c.loop-action.invariant.0 c.fire.ensures.fired in (
      kept_more s t u c.loop-action.invariant.0 c.fire.ensures.kept,
      reached_more s.asked.question.now s.left.now.of (ready_at s.asked.question.now s.open_nodes) 0 a s.values.now t.values.now c.loop-action.invariant.1 s.open_nodes u.values.now refl fired,
    )
