-- The promise is `every_contract` of `All.antt`.
use Rattle.theorems_settles.proofs.All.{every_contract}
use Rattle.theorems_settles.proofs.every_contract.Goals as goal

pub returns : goal.returns
returns c = every_contract
