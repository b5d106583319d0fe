-- The number comes apart again, and place 0 changes nothing.
use Rattle.host_replay.proofs.ReplayLaws.{promised}
use Rattle.host_replay.proofs.promises.Goals as goal

pub returns : goal.returns
returns c = promised
