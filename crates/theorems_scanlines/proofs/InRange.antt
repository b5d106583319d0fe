-- Accepted calls keep the ranges: by cases on the call, each by crate `scanline`'s law; of the tile count by the law of its fold.
-- Assumes nothing.
use mathlib.Core.Path.{◌≡◌}
use mathlib.Core.Bool.{true, false, ◌&&◌, ◌||◌}
use lib.Dec.{eqb}
use Rattle.memory.proofs.Tests.{split}
use Rattle.scanline.specs.Steps.{dark}
use Rattle.scanline.specs.declared.Detector.{Detector}
use Rattle.scanline.specs.Fetches.{counted_at}
use Rattle.scanline.specs.Ranges.{detector_ok}
use Rattle.scanline.proofs.FoldLaws.{fold_in_range}
use Rattle.scanline.proofs.RangeLaws.{ranges_kept}
use Rattle.theorems_scanlines.specs.Calls.{Event}
use Rattle.theorems_scanlines.specs.Calls.Event.{clock, fetch, cpu_read, cpu_write, ppu_register, other}
use Rattle.theorems_scanlines.specs.Calls.{History}
use Rattle.theorems_scanlines.specs.Machine.{Watched, event_refused}
use Rattle.theorems_scanlines.specs.Run.{step}
use Rattle.theorems_scanlines.specs.Promise.{LedTo, StaysInRange}
use Rattle.theorems_scanlines.specs.Calls.Played.{at_load, taken}

detector : (d : Detector) (e : Event) → event_refused d e ≡ false → detector_ok d ≡ true → detector_ok (step d e) ≡ true
unfolding step event_refused
detector d clock p r = ranges_kept.clock d r
detector d (fetch a) p r = split (counted_at a) (λ t. rw t (ranges_kept.seen d a t p r)) (λ t. rw t r)
detector d (cpu_read a) p r =
    split (eqb a 0xFFFA || eqb a 0xFFFB)
    (λ t. rw t (ranges_kept.vector_read_call d r))
    (λ t. rw t (split (eqb a 0x5204) (λ u. rw u (ranges_kept.status_read_call d r)) (λ u. rw u r)))
detector d (cpu_write a v) p r =
    split (eqb a 0x5203)
    (λ t. rw t (ranges_kept.target v d r))
    (λ t. rw t (split (eqb a 0x5204) (λ u. rw u (ranges_kept.enabled v d r)) (λ u. rw u r)))
detector d (ppu_register a v) p r = split (eqb a 0x2001 && dark v) (λ t. rw t (ranges_kept.darkened d r)) (λ t. rw t r)
detector d other p r = r

kept : {h : History} {w : Watched} → LedTo h w → detector_ok w.detector ≡ true
kept at_load = ranges_kept.at_load
kept (taken {s = w} e r t) = rw t.moved (detector w.detector e t.allowed (kept r))

pub stays_in_range : StaysInRange
stays_in_range h w r = (kept r, fold_in_range w.tiles)
