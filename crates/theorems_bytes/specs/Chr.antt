-- CHR: what a pattern fetch answers after a write to a register that maps CHR. Assumes that the board is taken (Taken.antt).
use Rattle.std.specs.Prelude.{ℕ, ◌+◌, ◌-◌, ◌*◌, ◌/◌, ◌%◌, ◌^◌, ◌<◌, Bool, true, false, ◌&&◌, not, ◌≡◌, get_or}
use Rattle.memory.specs.Bits.{◌OR◌, ◌<<◌}
use Rattle.memory.specs.Bytes.{Mem}
use Rattle.memory.specs.Tests.{pick}
use Rattle.registers.specs.Registers.{attribute_use}
use Rattle.scanline.specs.Tiles.{sprite_fetch}
use Rattle.banks.specs.Chr.{background}
use Rattle.cpu.specs.Writes.{maps_chr}
use Rattle.ppu.specs.Served.{split_serves}
use Rattle.state.specs.declared.State.{State}
use Rattle.board.specs.CpuSide.{cpu_write}
use Rattle.theorems_bytes.specs.Taken.{Taken, fetch_at, byte_of}

-- Module 5: "Set: sprite if 8x8, or tile count 32-39, or out of frame with the last CHR write a sprite one; else background": the set that a pattern
-- fetch chooses. With 8x8 sprites the last write counts as one to the sprites'.
abbrev pub set_wanted : State → Bool
set_wanted s = background (record { tall = s.ppu.sprite8x16; fetching_sprites = sprite_fetch s.ppu.tile_number; framed = s.irq.in_frame; written_to_background = s.ppu.bg_written })

-- "Page = ((bank OR hi) << shift) + place in window; shifts 3, 2, 1, 0" in modes 0 to 3: the page at place k, of the eight. Which register a window of n
-- places has, 01 does not say: it is the Rust's `update_chr_banks`, that of its last place, from 0 on the sprites', from 8 on the background's.
abbrev pub page_number : State → ℕ → ℕ
page_number s k =
    let shift = 3 - s.regs.chr_mode in let n = 2 ^ shift in
    ((get_or s.chr_banks (pick (set_wanted s) 8 0 + (k / n * n + n - 1)) 0 OR s.regs.chr_hi) << shift) + k % n

-- Nothing is served in the page's place.
abbrev pub unserved : State → Type 0
unserved s = (split_serves s.regs s.vsplit s.irq.in_frame ≡ false) × (attribute_use s.regs && not (sprite_fetch s.ppu.tile_number) ≡ false)

pub record ChrBytes : Type 0 where
  -- after a write to $5101, $5120-$512B or $5130 a pattern fetch answers CHR at its page, number mod pages
  pub pattern : (s : State) (m : Mem) → Taken s m → (r v : ℕ) → maps_chr r ≡ true → (a : ℕ) → a < 0x2000
      → let x = cpu_write s m r v in unserved x.out.state
      → fetch_at x a ≡ byte_of x.mem.chr (page_number x.out.state (a / 1024) * 1024 + a % 1024)
