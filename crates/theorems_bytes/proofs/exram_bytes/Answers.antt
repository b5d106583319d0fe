-- The theorems are `exram_bytes` and `reset_maps_nothing` of `ExRamLaws.antt`.
use Rattle.theorems_bytes.proofs.ExRamLaws.{exram_bytes, reset_maps_nothing}
use Rattle.theorems_bytes.proofs.exram_bytes.Goals as goal

pub returns : goal.returns
returns c = (exram_bytes, reset_maps_nothing)
