use Rattle.task.specs.States.{goal_holds}
use Rattle.task.proofs.Along.{kept_rules}
use Rattle.task.proofs.accepted.Task.goal_holds.Goals as goal

pub needs_hold-requires : goal.needs_hold-requires
needs_hold-requires c = (kept_rules c.args.self.now).goal

pub returns : goal.returns
unfolding goal_holds
returns c = c.needs_hold.ensures
