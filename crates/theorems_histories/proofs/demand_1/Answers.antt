-- The promises are `every_call_takes_all` of `Coded.antt` and `refusals` of `GivenBack.antt`.
use Rattle.theorems_histories.proofs.Coded.{every_call_takes_all}
use Rattle.theorems_histories.proofs.GivenBack.{refusals}
use Rattle.theorems_histories.proofs.demand_1.Goals as goal

pub returns : goal.returns
returns c = (every_call_takes_all, refusals)
