-- The promise is `load_refusals` of `Loadings.antt`.
use Rattle.theorems_promises.proofs.Loadings.{load_refusals}
use Rattle.theorems_promises.proofs.load_refusals.Goals as goal

pub returns : goal.returns
returns c = load_refusals
