-- Byte after byte.
use mathlib.Core.Path.{refl}
use Rattle.banks.proofs.PlacedLaws.{placed_none, placed_next_first}
use Rattle.transcript.proofs.cartridge.count_pages.Goals as goal

pub loop-i-init : goal.loop-i-init
loop-i-init c = placed_none _ 0 _

pub loop-i-preserved : goal.loop-i-preserved
loop-i-preserved c = placed_next_first _ _ _ _ _ c.loop-i.invariant refl
