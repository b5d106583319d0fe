-- The promise is `shut_out` of `Computed.antt`.
use Rattle.theorems_cases.proofs.Computed.{shut_out}
use Rattle.theorems_cases.proofs.shut_out.Goals as goal

pub returns : goal.returns
returns c = shut_out
