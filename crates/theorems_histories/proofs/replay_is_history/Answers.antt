-- The promise is `replays` of `Logged.antt`.
use Rattle.theorems_histories.proofs.Logged.{replays}
use Rattle.theorems_histories.proofs.replay_is_history.Goals as goal

pub returns : goal.returns
returns c = replays
