-- `promises` holds, by the laws of its parts.
use Rattle.theorems_folds.proofs.SameLaws.{same_board}
use Rattle.theorems_folds.proofs.AlongLaws.{along_full, rust_reaches}
use Rattle.theorems_folds.proofs.WorkedLaws.{worked}
use Rattle.theorems_folds.proofs.promises.Goals as goal

pub returns : goal.returns
returns c = (same_board, along_full, rust_reaches, worked)
