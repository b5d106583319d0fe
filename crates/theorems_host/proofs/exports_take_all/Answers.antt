-- The promise is `exports_take_all` of `Exported.antt`.
use Rattle.theorems_host.proofs.Exported.{exports_take_all}
use Rattle.theorems_host.proofs.exports_take_all.Goals as goal

pub returns : goal.returns
returns c = exports_take_all
