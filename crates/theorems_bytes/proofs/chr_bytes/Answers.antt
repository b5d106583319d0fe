-- The theorem is `chr_bytes` of `ChrLaws.antt`.
use Rattle.theorems_bytes.proofs.ChrLaws.{chr_bytes}
use Rattle.theorems_bytes.proofs.chr_bytes.Goals as goal

pub returns : goal.returns
returns c = chr_bytes
