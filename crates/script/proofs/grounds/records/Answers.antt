use Rattle.std.proofs.Common.{sym, arith}
use Rattle.landmarks.proofs.Counting.{counts_stand}
use Rattle.tables.proofs.Accepts.{decides_accepted}
use Rattle.task.proofs.Along.{kept_rules}
use Rattle.task.specs.Tasks.{problem}
use Rattle.script.proofs.Buffers.{told_all, told_short}
use Rattle.script.proofs.grounds.records.Goals as goal

pub returns-in-Ok : goal.returns-in-Ok
returns-in-Ok c =
    let p = problem c.args.task.now in
    let s = c.args.state.now in
    let most = (counts_stand p ((decides_accepted p).1 (kept_rules c.args.task.now)) s).records in
    let long = c.as_mut_slice.ensures.len in
    let sized = c.in_ok-resize.ensures.len in
    let held = c.min.ensures in
    told_all p s c.args.room c.as_mut_slice.result.now c.grounds.new.buffer _ _ _ _ (omega arith) (omega arith) (sym long) c.in-Ok.ensures.told c.in-Ok.ensures.written c.truncate.ensures.items

pub returns-in-Err : goal.returns-in-Err
returns-in-Err c =
    let p = problem c.args.task.now in
    let s = c.args.state.now in
    let most = (counts_stand p ((decides_accepted p).1 (kept_rules c.args.task.now)) s).records in
    let long = c.as_mut_slice.ensures.len in
    let sized = c.in_ok-resize.ensures.len in
    let held = c.min.ensures in
    told_short p s c.args.room c.as_mut_slice.result.now _ (omega arith) (omega arith) c.in-Err.ensures.told
