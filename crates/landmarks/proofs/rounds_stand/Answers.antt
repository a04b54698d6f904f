use Rattle.landmarks.proofs.rounds_stand.Goals as goal
use Rattle.landmarks.proofs.Ends.{rounds_end, values_settled, values_only, cut_stands}
use Rattle.landmarks.proofs.Shapes.{all_fit}
use Rattle.landmarks.proofs.Zones.{goal_zone_only, start_zone_only}

pub returns : goal.returns
returns c = record { fits = all_fit; settled = values_settled; only = values_only; near_goal = goal_zone_only; near_start = start_zone_only; cuts = cut_stands; ends = rounds_end }
