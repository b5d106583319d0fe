-- The theorem is `prg_bytes` of `PrgLaws.antt`.
use Rattle.theorems_bytes.proofs.PrgLaws.{prg_bytes}
use Rattle.theorems_bytes.proofs.prg_bytes.Goals as goal

pub returns : goal.returns
returns c = prg_bytes
