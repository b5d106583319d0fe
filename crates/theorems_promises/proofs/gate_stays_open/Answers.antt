-- The promise is `gate_stays_open` of `Promised.antt`.
use Rattle.theorems_promises.proofs.Promised.{gate_stays_open}
use Rattle.theorems_promises.proofs.gate_stays_open.Goals as goal

pub returns : goal.returns
returns c = gate_stays_open
