-- Nametables: what a fetch at $2000-$3EFF answers after a selector is written, and what is served in the page's place. Assumes that the board is taken
-- (Taken.antt).
use Rattle.std.specs.Prelude.{ℕ, ◌+◌, ◌*◌, ◌/◌, ◌%◌, ◌<◌, true, false, not, ◌≡◌, eqb, get_or}
use Rattle.memory.specs.Bits.{◌AND◌, ◌OR◌, ◌<<◌, ◌>>◌}
use Rattle.memory.specs.Bytes.{Mem}
use Rattle.memory.specs.Tests.{pick}
use Rattle.answers.specs.declared.Answer.{Answer}
use Rattle.answers.specs.declared.Answer.TheVariants.{Page, Blank, Served}
use Rattle.registers.specs.declared.Regs.{Regs}
use Rattle.registers.specs.Registers.{attribute_use, nametable_use}
use Rattle.scanline.specs.Fetches.{counted_at, attribute_at, name_at}
use Rattle.scanline.specs.Ranges.{counter_refused}
use Rattle.scanline.specs.Tiles.{sprite_fetch, is_prefetched}
use Rattle.split.specs.Places.{mirrored_byte}
use Rattle.split.specs.Region.{scroll_of}
use Rattle.ppu.specs.Served.{split_serves}
use Rattle.state.specs.declared.State.{State}
use Rattle.board.specs.CpuSide.{cpu_write}
use Rattle.board_ppu.specs.Fetch.{ppu_fetch}
use Rattle.theorems_bytes.specs.Taken.{Taken, fetch_at, direct_byte}

-- Module 3: "$5105 gives four selectors of two bits": that of an address.
abbrev pub selector_at : ℕ → ℕ → ℕ
selector_at v a = (v >> (2 * (a / 1024 % 4))) AND 3

-- Module 6: "its tile, or at an attribute address its attribute mirrored ($00, $55, $AA, $FF for 0-3)"
abbrev pub fill_answer : Regs → ℕ → Answer
fill_answer g a = Served (pick (attribute_at a) (mirrored_byte g.fill_attr) g.fill_tile)

-- Selectors 0 and 1 are CIRAM's two pages; 2 is ExRAM and 3 is Fill, with nametable use; without it both are blank.
abbrev pub selector_byte : State → Mem → ℕ → ℕ → Answer
selector_byte s m n a =
    pick (eqb n 0) (Page (get_or m.ciram (a % 1024) 0))
    (pick (eqb n 1) (Page (get_or m.ciram (1024 + a % 1024) 0))
    (pick (not (nametable_use s.regs)) Blank
    (pick (eqb n 2) (Page (get_or m.exram (a % 1024) 0)) (fill_answer s.regs a))))

-- The fetch is not refused: the line counter is not at its limit.
abbrev pub Fetched : State → ℕ → Type 0
Fetched s a = counter_refused s.irq a ≡ false

pub record NameBytes : Type 0 where
  -- after $5105 = v, with the split off and not in attribute mode, a fetch at $2000-$3EFF answers by the selector of its address
  pub selected : (s : State) (m : Mem) → Taken s m → (v a : ℕ) → counted_at a ≡ true
      → let x = cpu_write s m 0x5105 v in let t = x.out.state in
      t.vsplit.enabled ≡ false → attribute_use t.regs ≡ false → Fetched t a
      → fetch_at x a ≡ selector_byte t x.mem (selector_at v a) a

-- What is served in the page's place, in the order split, attribute mode (Fill: above). The state t is that after the fetch.
pub record ServedBytes : Type 0 where
  -- Module 8: "With t the address, name fetches to $2FFF get ExRAM at t."
  pub split_name : (s : State) (m : Mem) → Taken s m → (a : ℕ) → counted_at a ≡ true → name_at a ≡ true → Fetched s a
      → let t = (ppu_fetch s m a).state in split_serves t.regs t.vsplit t.irq.in_frame ≡ true
      → (ppu_fetch s m a).answer ≡ Served (get_or m.exram t.vsplit.tile_addr 0)
  -- "Non-name fetches, $3000-$3EFF included, get the attribute: ExRAM at $3C0 OR ((t AND $380) >> 4) OR ((t AND $1F) >> 2), shifted right by
  -- ((t >> 4) AND 4) OR (t AND 2), low two bits mirrored"
  pub split_attribute : (s : State) (m : Mem) → Taken s m → (a : ℕ) → counted_at a ≡ true → name_at a ≡ false → Fetched s a
      → let t = (ppu_fetch s m a).state in let k = t.vsplit.tile_addr in
      split_serves t.regs t.vsplit t.irq.in_frame ≡ true
      → (ppu_fetch s m a).answer ≡ Served (mirrored_byte (get_or m.exram (0x3C0 OR ((k AND 0x380) >> 4) OR ((k AND 0x1F) >> 2)) 0 >> (((k >> 4) AND 4) OR (k AND 2))))
  -- "Pattern fetches get CHR at ($5202 << 12) OR (((address with its low three bits clear) OR (scroll AND 7)) AND $FFF)."
  pub split_pattern : (s : State) (m : Mem) → Taken s m → (a : ℕ) → a < 0x2000 → split_serves s.regs s.vsplit s.irq.in_frame ≡ true
      → let scroll = scroll_of s.irq.scanline (is_prefetched s.ppu.tile_number) s.vsplit.scroll in
      (ppu_fetch s m a).answer ≡ Served (direct_byte m.chr ((s.vsplit.bank << 12) OR ((((a >> 3) << 3) OR (scroll AND 7)) AND 0xFFF)))
  -- Module 6: "In attribute mode, tile count outside 32-39, an attribute address answers the top two bits of ExRAM at the tile cache, mirrored"
  pub attribute : (s : State) (m : Mem) → Taken s m → (a : ℕ) → counted_at a ≡ true → attribute_at a ≡ true → Fetched s a
      → let t = (ppu_fetch s m a).state in split_serves t.regs t.vsplit t.irq.in_frame ≡ false
      → attribute_use t.regs ≡ true → sprite_fetch t.ppu.tile_number ≡ false
      → (ppu_fetch s m a).answer ≡ Served (mirrored_byte (get_or m.exram t.ppu.tile_cache 0 / 64))
  -- "and a pattern fetch answers CHR at (hi << 10) OR ((that byte AND $3F) << 12) OR (address AND $FFF)"
  pub attribute_pattern : (s : State) (m : Mem) → Taken s m → (a : ℕ) → a < 0x2000 → split_serves s.regs s.vsplit s.irq.in_frame ≡ false
      → attribute_use s.regs ≡ true → sprite_fetch s.ppu.tile_number ≡ false
      → let byte = get_or m.exram s.ppu.tile_cache 0 in
      (ppu_fetch s m a).answer ≡ Served (direct_byte m.chr ((s.regs.chr_hi << 10) OR ((byte AND 0x3F) << 12) OR (a AND 0xFFF)))
