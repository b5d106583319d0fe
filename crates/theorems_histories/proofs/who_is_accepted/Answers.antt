-- The promise is `along` of `Along.antt`.
use Rattle.theorems_histories.proofs.Along.{along}
use Rattle.theorems_histories.proofs.who_is_accepted.Goals as goal

pub returns : goal.returns
returns c = along
