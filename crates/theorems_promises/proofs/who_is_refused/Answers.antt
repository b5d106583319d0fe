-- The promise is `who_is_refused` of `Promised.antt`.
use Rattle.theorems_promises.proofs.Promised.{who_is_refused}
use Rattle.theorems_promises.proofs.who_is_refused.Goals as goal

pub returns : goal.returns
returns c = who_is_refused
