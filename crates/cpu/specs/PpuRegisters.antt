-- A PPU register write, as the board sees it: what it leaves in the PPU status and in the detector.
use Rattle.std.specs.Prelude.{ℕ, not, ◌&&◌, eqb}
use Rattle.memory.specs.Bits.{bit_set}
use Rattle.memory.specs.Tests.{pick}
use Rattle.scanline.specs.declared.Detector.{Detector}
use Rattle.scanline.specs.Steps.{dark, darkened}
use Rattle.state.specs.declared.PpuStatus.{PpuStatus}
use Rattle.state.specs.With.{with_sprite8x16, with_rendering}

-- The Rust's `ppu_write`: $2000, bit 5: sprites of 8x16; $2001, bits 3 and 4: rendering.
unfoldable pub status_after : PpuStatus → ℕ → ℕ → PpuStatus
status_after p a v =
    pick (eqb a 0x2000) (with_sprite8x16 p (bit_set v 5))
    (pick (eqb a 0x2001) (with_rendering p (not (dark v)))
    p)

-- "A break is a PPU register write to $2001 with bits 3 and 4 clear".
unfoldable pub detector_after : Detector → ℕ → ℕ → Detector
detector_after d a v = pick (eqb a 0x2001 && dark v) (darkened d) d
