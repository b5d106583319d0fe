-- The promise is `worked_replay` of `Replaying.antt`.
use Rattle.theorems_cases.proofs.Replaying.{worked_replay}
use Rattle.theorems_cases.proofs.worked_replay.Goals as goal

pub returns : goal.returns
returns c = worked_replay
