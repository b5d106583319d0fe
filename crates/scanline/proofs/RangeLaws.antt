-- The ranges are kept: what `RangesKept` says, call by call.
use Prim.Native.Nat.{ℕ}
use mathlib.Core.Path.{◌≡◌}
use mathlib.Core.Bool.{false}
use native.Mathlib.Omega.{arith}
use Rattle.std.proofs.lemmas.Grind.{common_steps}
use Rattle.scanline.specs.declared.Detector.{Detector}
use Rattle.scanline.specs.Fetches.{counted_at}
use Rattle.scanline.specs.Tiles.{tiles_ok, next_tile}
use Rattle.scanline.specs.Clock.{tick}
use Rattle.scanline.specs.Steps.{matches_after, is_line, seen_at}
use Rattle.scanline.specs.Ranges.{detector_ok, line_refused, counter_refused}
use Rattle.scanline.specs.Kept.{RangesKept}

pub ranges_kept : RangesKept
unfolding detector_ok tick counter_refused line_refused seen_at matches_after is_line tiles_ok next_tile
ranges_kept = grind (arith, common_steps)

-- A fetch that does not count is not refused for the line counter.
pub uncounted : (d : Detector) (a : ℕ) → counted_at a ≡ false → counter_refused d a ≡ false
unfolding counter_refused
uncounted d a n = rw n
