use Rattle.std.proofs.Common.{sym}
use Rattle.task.specs.Tasks.{problem}
use Rattle.lmcut.specs.Answering.{none_estimate}
use Rattle.lmcut.proofs.estimator.LmCutEstimator.ask.Goals as goal

pub returns-then-not-is_state : goal.returns-then-not-is_state
returns-then-not-is_state c = sym (none_estimate (problem c.args.task.now) c.args.state.now (sym c.if-not-is_state.ensures))
