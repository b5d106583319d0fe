-- Each word is read alone; the tests come to those of the limits.
use Rattle.host_state.proofs.MovingLaws.{moving}
use Rattle.host_state.proofs.limits.moving_within.Goals as goal

pub returns : goal.returns
returns c = moving _
