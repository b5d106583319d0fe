-- The promises are `address_stays` and `same_fetch` of `Addresses.antt`.
use Rattle.theorems_promises.proofs.Addresses.{address_stays, same_fetch}
use Rattle.theorems_promises.proofs.address_stays.Goals as goal

pub returns : goal.returns
returns c = (address_stays, same_fetch)
