-- The theorems are `name_bytes` and `served_bytes` of `NameLaws.antt`.
use Rattle.theorems_bytes.proofs.NameLaws.{name_bytes, served_bytes}
use Rattle.theorems_bytes.proofs.name_bytes.Goals as goal

pub returns : goal.returns
returns c = (name_bytes, served_bytes)
