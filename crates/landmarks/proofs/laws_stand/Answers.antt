use Rattle.landmarks.proofs.laws_stand.Goals as goal
use Rattle.landmarks.proofs.Counting.{counts_stand}
use Rattle.landmarks.proofs.Explains.{grounds_explain}
use Rattle.landmarks.proofs.Sizes.{sizes_stand}
use Rattle.landmarks.proofs.Soundness.{estimate_sound, grounds_stand}

pub returns : goal.returns
returns c = record { sound = estimate_sound; landmarks = grounds_stand; explained = grounds_explain; sizes = sizes_stand; counts = counts_stand }
