-- The promises are `code_is_the_board` of `Coded.antt` and `one_result` of `OneOnly.antt`.
use Rattle.theorems_histories.proofs.Coded.{code_is_the_board}
use Rattle.theorems_histories.proofs.OneOnly.{one_result}
use Rattle.theorems_histories.proofs.demand_2.Goals as goal

pub returns : goal.returns
returns c = (code_is_the_board, one_result)
