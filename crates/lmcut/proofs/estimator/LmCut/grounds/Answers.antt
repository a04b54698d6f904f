use Rattle.std.proofs.Common.{[], Ok, sym, ap, ◌∙◌, arith}
use Rattle.task.specs.Tasks.{problem}
use Rattle.task.proofs.Along.{kept_rules}
use Rattle.tables.proofs.Accepts.{decides_accepted}
use Rattle.landmarks.specs.Rounds.{Dead, Found}
use Rattle.landmarks.proofs.Soundness.{grounds_stand}
use Rattle.landmarks.proofs.Explains.{grounds_explain}
use Rattle.lmcut.specs.Answering.{ended_some, ended_none, none_grounds, grounds_are, recorded_all, recorded_short, buffer_all, buffer_none, buffer_short}
use Rattle.lmcut.proofs.estimator.LmCut.grounds.Goals as goal

pub returns-then-not-is_state : goal.returns-then-not-is_state
returns-then-not-is_state c =
    let p = problem c.args.task.now in
    let s = c.args.state.now in
    let a = (decides_accepted p).1 (kept_rules c.args.task.now) in
    let g = none_grounds p s (sym c.if-not-is_state.ensures) in
    record { told = recorded_all p s [] _ g (omega arith); written = buffer_none p s c.args.buffer.now g; landmarks = grounds_stand p a s; explained = grounds_explain p a s }

pub returns-in_default : goal.returns-in_default
returns-in_default c =
    let p = problem c.args.task.now in
    let s = c.args.state.now in
    let a = (decides_accepted p).1 (kept_rules c.args.task.now) in
    let g = grounds_are p s (sym c.if-not-is_state.ensures) Dead (sym c.prepare.ensures.rounds ∙ ended_none _ c.in_default.ensures.tallied) in
    record { told = recorded_all p s [] _ g (omega arith); written = buffer_none p s c.args.buffer.now g; landmarks = grounds_stand p a s; explained = grounds_explain p a s }

pub returns-then-tally-buffer : goal.returns-then-tally-buffer
returns-then-tally-buffer c =
    let p = problem c.args.task.now in
    let s = c.args.state.now in
    let a = (decides_accepted p).1 (kept_rules c.args.task.now) in
    let e = ended_some _ c.in-Some.tally c.in-Some.ensures.tallied in
    let g = grounds_are p s (sym c.if-not-is_state.ensures) (Found c.in-Some.tally.total e.records) (sym c.prepare.ensures.rounds ∙ e.is) in
    let l = e.long in
    record { told = recorded_short p s e.records _ g (omega arith); written = buffer_short p s e.records _ g (omega arith); landmarks = grounds_stand p a s; explained = grounds_explain p a s }

pub returns : goal.returns
returns c =
    let p = problem c.args.task.now in
    let s = c.args.state.now in
    let a = (decides_accepted p).1 (kept_rules c.args.task.now) in
    let e = ended_some _ c.in-Some.tally c.in-Some.ensures.tallied in
    let g = grounds_are p s (sym c.if-not-is_state.ensures) (Found c.in-Some.tally.total e.records) (sym c.prepare.ensures.rounds ∙ e.is) in
    let l = e.long in
    record {
      told = ap Ok (sym l) ∙ recorded_all p s e.records _ g (omega arith);
      written = c.run-2.ensures.written c.in-Some.tally.total e.records e.is ∙ buffer_all p s e.records _ g (omega arith);
      landmarks = grounds_stand p a s;
      explained = grounds_explain p a s;
    }
