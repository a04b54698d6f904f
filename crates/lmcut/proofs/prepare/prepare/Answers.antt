use Rattle.tables.proofs.Accepts.{decides_accepted}
use Rattle.task.specs.Tasks.{problem}
use Rattle.task.proofs.Along.{kept_rules}
use Rattle.lmcut.proofs.Assembled.{prepared_fits, prepared_outcome}
use Rattle.lmcut.proofs.prepare.prepare.Goals as goal

pub returns : goal.returns
returns c =
    let t = c.args.task.now in
    let p = problem t in
    record {
      fits = prepared_fits p c.args.state.now c.draw.new.question c.draw.ensures ((decides_accepted p).1 (kept_rules t)) c.requires.state;
      rounds = prepared_outcome p c.args.state.now c.draw.new.question c.draw.ensures (kept_rules t);
    }
