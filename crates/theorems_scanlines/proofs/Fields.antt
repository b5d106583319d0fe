-- What a call does to each field of the detector, as one equation a field: `step`, which goes by calls, turned round.
-- Assumes nothing.
use Prim.Native.Nat.{◌+◌, ◌%◌}
use mathlib.Core.Path.{◌≡◌, refl, ap}
use mathlib.Core.Bool.{Bool, not, ◌&&◌, ◌||◌}
use borrow.Author.Tests.{eqb-true}
use lib.Dec.{eqb}
use Rattle.memory.specs.Bits.{bit_set}
use Rattle.memory.specs.Tests.{pick}
use Rattle.memory.proofs.Tests.{split}
use Rattle.scanline.specs.declared.Detector.{Detector}
use Rattle.scanline.specs.Fetches.{counted_at}
use Rattle.scanline.specs.Clock.{record_of, with_record, third}
use Rattle.scanline.specs.Steps.{dark, matches_after, is_line, line_number, meets, seen_at}
use Rattle.scanline.proofs.ClockLaws.{tick_is}
use Rattle.theorems_scanlines.specs.Events.{is_clock, fetches, reads, writes, darkens, address, value, counts, vectors, clears}
use Rattle.theorems_scanlines.specs.Calls.{Event}
use Rattle.theorems_scanlines.specs.Calls.Event.{clock, fetch, cpu_read, cpu_write, ppu_register, other}
use Rattle.theorems_scanlines.specs.Run.{step}

-- the call takes the detector out of frame, and the fetch before is none
unfoldable pub resets : Detector → Event → Bool
resets d e = darkens e || vectors e || (is_clock e && third (record_of d))

-- the call is a line, or one that meets the target
unfoldable pub strikes : Detector → Event → Bool
strikes d e = counts e && is_line d (address e)

unfoldable pub strikes_target : Detector → Event → Bool
strikes_target d e = counts e && meets d (address e)

unfoldable pub stepped : Detector → Event → Detector
stepped d e = record {
  prev_some = not (resets d e) && (counts e || d.prev_some);
  prev_addr = record { 0 = pick (counts e) (address e) d.prev_addr.0 };
  match_count = pick (counts e) (matches_after d (address e)) d.match_count;
  reading = not (is_clock e) && (counts e || d.reading);
  idle_count = pick (is_clock e) (pick d.reading 0 ((d.idle_count + 1) % 3)) d.idle_count;
  in_frame = not (resets d e) && (strikes d e || d.in_frame);
  scanline = pick (strikes d e) (line_number d) d.scanline;
  pending = not (clears e) && (strikes_target d e || d.pending);
  irq_enabled = pick (writes 0x5204 e) (bit_set (value e) 7) d.irq_enabled;
  irq_scanline = pick (writes 0x5203 e) (value e) d.irq_scanline;
}

pub by_fields : (d : Detector) (e : Event) → step d e ≡ stepped d e
unfolding step stepped resets strikes strikes_target seen_at is_clock fetches reads writes darkens address value counts vectors clears
by_fields d clock = ap (with_record d) (tick_is (record_of d))
by_fields d (fetch a) = split (counted_at a) (λ t. rw t) (λ t. rw t)
by_fields d (cpu_read a) = split (eqb a 0xFFFA || eqb a 0xFFFB) (λ t. rw t) (λ t. rw t (split (eqb a 0x5204) (λ u. rw u) (λ u. rw u)))
by_fields d (cpu_write a v) =
    split (eqb a 0x5203)
    (λ t. let q : a ≡ 0x5203 = eqb-true a 0x5203 t in rw q)
    (λ t. rw t (split (eqb a 0x5204) (λ u. rw u) (λ u. rw u)))
by_fields d (ppu_register a v) = split (eqb a 0x2001 && dark v) (λ t. rw t) (λ t. rw t)
by_fields d other = refl
