-- The calls, as far as the scanline detector can tell one from another, and the questions that demand 3 asks of one call. Words in quotes are 01's, "Fetches, runs,
-- breaks"; those of `clears` are demand 3's.
-- Assumes nothing.
use Rattle.std.specs.Prelude.{ℕ, Bool, true, false, ◌&&◌, ◌||◌, leb, eqb}
use Rattle.scanline.specs.Steps.{dark}
use Rattle.theorems_scanlines.specs.Calls.{Event}
use Rattle.theorems_scanlines.specs.Calls.Event.{clock, fetch, cpu_read, cpu_write, ppu_register, other}

unfoldable pub is_clock : Event → Bool
is_clock clock = true
is_clock (fetch a) = false
is_clock (cpu_read a) = false
is_clock (cpu_write a v) = false
is_clock (ppu_register a v) = false
is_clock other = false

-- a PPU fetch from lo to hi
unfoldable pub fetches : ℕ → ℕ → Event → Bool
fetches lo hi clock = false
fetches lo hi (fetch a) = leb lo a && leb a hi
fetches lo hi (cpu_read a) = false
fetches lo hi (cpu_write a v) = false
fetches lo hi (ppu_register a v) = false
fetches lo hi other = false

-- a CPU read of p
unfoldable pub reads : ℕ → Event → Bool
reads p clock = false
reads p (fetch a) = false
reads p (cpu_read a) = eqb a p
reads p (cpu_write a v) = false
reads p (ppu_register a v) = false
reads p other = false

-- a CPU write to p
unfoldable pub writes : ℕ → Event → Bool
writes p clock = false
writes p (fetch a) = false
writes p (cpu_read a) = false
writes p (cpu_write a v) = eqb a p
writes p (ppu_register a v) = false
writes p other = false

-- "a PPU register write to $2001 with bits 3 and 4 clear"
unfoldable pub darkens : Event → Bool
darkens clock = false
darkens (fetch a) = false
darkens (cpu_read a) = false
darkens (cpu_write a v) = false
darkens (ppu_register a v) = eqb a 0x2001 && dark v
darkens other = false

-- the call's address, and the value that it writes; 0 where it has none
unfoldable pub address : Event → ℕ
address clock = 0
address (fetch a) = a
address (cpu_read a) = a
address (cpu_write a v) = a
address (ppu_register a v) = a
address other = 0

unfoldable pub value : Event → ℕ
value clock = 0
value (fetch a) = 0
value (cpu_read a) = 0
value (cpu_write a v) = v
value (ppu_register a v) = v
value other = 0

-- "Only fetches at $2000-$3EFF count here."
unfoldable pub counts : Event → Bool
counts e = fetches 0x2000 0x3EFF e

-- "a CPU read of $FFFA or $FFFB"
unfoldable pub vectors : Event → Bool
vectors e = reads 0xFFFA e || reads 0xFFFB e

-- "CPU read of $5204, $FFFA or $FFFB"
unfoldable pub clears : Event → Bool
clears e = vectors e || reads 0x5204 e
