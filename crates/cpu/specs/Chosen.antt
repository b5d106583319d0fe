-- The choice of a CHR set. 01, module 5: "Choosing in 8x8 first makes the last CHR write a sprite one."
use Rattle.std.specs.Prelude.{ℕ, Bool, true, false, ◌&&◌, ◌||◌, not, eqb}
use Rattle.memory.specs.Tests.{pick}
use Rattle.scanline.specs.Tiles.{sprite_fetch}
use Rattle.banks.specs.Chr.{Asked, background}
use Rattle.state.specs.declared.PpuStatus.{PpuStatus}
use Rattle.state.specs.With.{with_bg_set, with_bg_written}
use Rattle.cpu.specs.Groups.{within}

-- Whether the last CHR write was to the background's registers, once a choice in 8x8 has made it one to the sprites'.
abbrev pub last_to_background : PpuStatus → Bool
last_to_background p = p.sprite8x16 && p.bg_written

-- The status after a choice: that, and the set that module 5 then gives.
unfoldable pub chosen : PpuStatus → Bool → PpuStatus
chosen p framed =
    let asked : Asked = record { tall = p.sprite8x16; fetching_sprites = sprite_fetch p.tile_number; framed = framed; written_to_background = last_to_background p } in
    with_bg_set (with_bg_written p (last_to_background p)) (background asked)

-- A CPU write: to the sprites' registers $5120-$5127, to the background's $5128-$512B, or to $5101, it chooses; no other
-- does (the Rust's `write_register`; module 5: a $5130 write "doesn't choose again").
unfoldable pub ppu_after : PpuStatus → Bool → ℕ → PpuStatus
ppu_after p framed a =
    pick (eqb a 0x5101) (chosen p framed)
    (pick (within 0x5120 0x5127 a) (chosen (with_bg_written p false) framed)
    (pick (within 0x5128 0x512B a) (chosen (with_bg_written p true) framed)
    p))

-- The set that the table holds is not the one wanted. Module 5: "mapping only on a change".
abbrev pub set_changed : Bool → Bool → Bool
set_changed before after = (before && not after) || (not before && after)
