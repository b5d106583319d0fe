-- The cases hold by `edges_hold` of `Computed.antt`, and are histories by `cases_are_histories`.
use Rattle.theorems_cases.proofs.Computed.{edges_hold, cases_are_histories}
use Rattle.theorems_cases.proofs.cases_marked_p.Goals as goal

pub returns : goal.returns
returns c = (edges_hold, cases_are_histories)
