-- The promise is `host_is_history` of `Along.antt`.
use Rattle.theorems_host.proofs.Along.{host_is_history}
use Rattle.theorems_host.proofs.host_is_history.Goals as goal

pub returns : goal.returns
returns c = host_is_history
