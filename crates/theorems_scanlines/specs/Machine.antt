-- The detector over a history: what each call makes of it, by the definitions of crate `scanline`, and which calls are taken.
-- Assumes nothing.
use Rattle.std.specs.Prelude.{ℕ, ◌+◌, ◌≡◌, Bool, true, false, not, ◌&&◌, ◌||◌, [], ◌∷◌, eqb}
use Rattle.memory.specs.Bits.{bit_set}
use Rattle.memory.specs.Tests.{pick}
use Rattle.scanline.specs.declared.Detector.{Detector}
use Rattle.scanline.specs.Fetches.{counted_at, name_at}
use Rattle.scanline.specs.Tiles.{left_after}
use Rattle.scanline.specs.Steps.{detector_at_load, matches_after, meets}
use Rattle.scanline.specs.Ranges.{counter_refused}
use Rattle.theorems_scanlines.specs.Calls.{Event}
use Rattle.theorems_scanlines.specs.Calls.Event.{clock, fetch, cpu_read, cpu_write, ppu_register, other}
use Rattle.theorems_scanlines.specs.Calls.{History}
use Rattle.theorems_scanlines.specs.Run.{step, run}

-- The detector with the full tile count, which is 01's: a number without an end. No code has it; the board keeps its fold (CR 7, crate `theorems_folds`).
pub record Watched : Type 0 where
  pub detector : Detector
  pub tiles : ℕ

abbrev pub machine_at_load : Watched
machine_at_load = record { detector = detector_at_load; tiles = 0 }

unfoldable pub event_refused : Detector → Event → Bool
event_refused d clock = false
event_refused d (fetch a) = counter_refused d a
event_refused d (cpu_read a) = false
event_refused d (cpu_write a v) = false
event_refused d (ppu_register a v) = false
event_refused d other = false

-- "tile count + 1 for a name fetch to $2FFF"
abbrev pub raised_full : ℕ → ℕ → ℕ
raised_full n a = pick (name_at a) (n + 1) n

unfoldable pub tiles_by : Watched → Event → ℕ
tiles_by w clock = w.tiles
tiles_by w (fetch a) = pick (counted_at a) (left_after (matches_after w.detector a) (raised_full w.tiles a)) w.tiles
tiles_by w (cpu_read a) = w.tiles
tiles_by w (cpu_write a v) = w.tiles
tiles_by w (ppu_register a v) = w.tiles
tiles_by w other = w.tiles

-- the call e is taken from w to w': a fetch that refusal 7 is given for is no call of a history
pub record Taken (w : Watched) (e : Event) (w' : Watched) : Type 0 where
  pub allowed : event_refused w.detector e ≡ false
  pub moved : w' ≡ record { detector = step w.detector e; tiles = tiles_by w e }

-- after the calls of a history, and whether each of them is taken
unfoldable pub watched : History → Watched
watched [] = machine_at_load
watched (e ∷ h) = record { detector = step (watched h).detector e; tiles = tiles_by (watched h) e }

unfoldable pub all_taken : History → Bool
all_taken [] = true
all_taken (e ∷ h) = all_taken h && not (event_refused (watched h).detector e)

-- The Rust stores `regs.irq_pending` beside the flag and the enable: what a call makes of it, p, where the detector before the call is d.
-- 01, "What must change shape": "`regs.irq_pending`: not stored; shown equal to flag and enable against a definition that stores it."
unfoldable pub irq_pending_by : Detector → Bool → Event → Bool
irq_pending_by d p clock = p
irq_pending_by d p (fetch a) = pick (counted_at a && meets d a) (pick d.irq_enabled true p) p
irq_pending_by d p (cpu_read a) = pick (eqb a 0xFFFA || eqb a 0xFFFB || eqb a 0x5204) false p
irq_pending_by d p (cpu_write a v) = pick (eqb a 0x5204) (pick (bit_set v 7) (pick d.pending true p) false) p
irq_pending_by d p (ppu_register a v) = p
irq_pending_by d p other = p

unfoldable pub irq_pending : History → Bool
irq_pending [] = false
irq_pending (e ∷ h) = irq_pending_by (run h) (irq_pending h) e
