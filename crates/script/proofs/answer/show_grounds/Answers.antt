use Rattle.std.proofs.Common.{refl}
use Rattle.std.proofs.Output.{has_written_append, has_written_of_eq}
use Rattle.script.specs.Texts.{ground_text}
use Rattle.script.proofs.Printing.{joined_more}
use Rattle.script.proofs.answer.show_grounds.Goals as goal

pub loop-ground-preserved : goal.loop-ground-preserved
loop-ground-preserved g c plain =
    let before = c.loop-ground.invariant plain in
    has_written_of_eq g.W.Write.write_str_gives _ _ _ _
    (joined_more ground_text c.args.records.now c.loop-ground.ground-index (record { round = 0; weight = 0; number = 0; charge = 0 }) c.loop-ground-test.true)
    (has_written_append g.W.Write.write_str_gives _ _ _ _ _ before (c.in_ok-write-2.ensures.writes before.plain refl))
