-- A replay reads a trace to its end.
use Rattle.player.proofs.Fuel.{enough}
use Rattle.player.proofs.promises.Goals as goal

pub returns : goal.returns
returns c = enough
