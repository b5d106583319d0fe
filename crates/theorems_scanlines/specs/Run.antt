-- The detector over a history: what each call makes of it, by the definitions of crate `scanline`.
-- Assumes nothing.
use Rattle.std.specs.Prelude.{◌&&◌, ◌||◌, [], ◌∷◌, eqb}
use Rattle.memory.specs.Tests.{pick}
use Rattle.scanline.specs.declared.Detector.{Detector}
use Rattle.scanline.specs.Fetches.{counted_at}
use Rattle.scanline.specs.Steps.{detector_at_load, seen_at, clocked, darkened, dark, vector_read, status_read, targeted, enabled_by}
use Rattle.theorems_scanlines.specs.Calls.{Event, History}
use Rattle.theorems_scanlines.specs.Calls.Event.{clock, fetch, cpu_read, cpu_write, ppu_register, other}

unfoldable pub step : Detector → Event → Detector
step d clock = clocked d
step d (fetch a) = pick (counted_at a) (seen_at d a) d
step d (cpu_read a) = pick (eqb a 0xFFFA || eqb a 0xFFFB) (vector_read d) (pick (eqb a 0x5204) (status_read d) d)
step d (cpu_write a v) = pick (eqb a 0x5203) (targeted d v) (pick (eqb a 0x5204) (enabled_by d v) d)
step d (ppu_register a v) = pick (eqb a 0x2001 && dark v) (darkened d) d
step d other = d

-- after all calls of a history, taken or not
unfoldable pub run : History → Detector
run [] = detector_at_load
run (e ∷ h) = step (run h) e
