-- The promises are `board_demand_3` and `asked` of `Demands.antt`, and `waits` of `Waited.antt`.
use Rattle.theorems_histories.proofs.Demands.{board_demand_3, asked}
use Rattle.theorems_histories.proofs.Waited.{waits}
use Rattle.theorems_histories.proofs.demand_3.Goals as goal

pub returns : goal.returns
returns c = (board_demand_3, asked, waits)
