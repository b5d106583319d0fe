-- What a fetch leaves, and what a break and the reads that clear the flag leave: each definition field by field. Each over plain variables.
use Prim.Native.Nat.{ℕ, ◌+◌}
use mathlib.Core.Path.{◌≡◌, refl}
use mathlib.Core.Bool.{Bool, true, false, ◌&&◌, ◌||◌}
use native.Mathlib.Omega.{arith}
use lib.Dec.{eqb, leb}
use Rattle.std.proofs.lemmas.Grind.{common_steps}
use Rattle.memory.specs.Tests.{pick}
use Rattle.scanline.specs.declared.Detector.{Detector}
use Rattle.scanline.specs.Steps.{matches_after, is_line, line_number, meets, seen_at, darkened, status_read, vector_read}

-- a line is numbered 1 or more where it comes in frame
pub numbered : (d : Detector) (n : ℕ) → leb 1 (line_number d) && eqb (line_number d) n ≡ d.in_frame && eqb (d.scanline + 1) n
numbered d n = grind (arith, common_steps)

-- the detector after a fetch at a: its match count, whether in frame, the line counter and the flag are given
abbrev pub with_run : Detector → ℕ → ℕ → Bool → ℕ → Bool → Detector
with_run d a matches framed line flag = record {
  prev_some = true;
  prev_addr = record { 0 = a };
  match_count = matches;
  reading = true;
  idle_count = d.idle_count;
  in_frame = framed;
  scanline = line;
  pending = flag;
  irq_enabled = d.irq_enabled;
  irq_scanline = d.irq_scanline;
}

-- what `seen_at` was
pub seen_is : (d : Detector) (a : ℕ)
    → seen_at d a ≡ with_run d a (matches_after d a) (is_line d a || d.in_frame) (pick (is_line d a) (line_number d) d.scanline) (meets d a || d.pending)
unfolding seen_at
seen_is d a = refl

-- the match count that a fetch leaves is what zeroes the tile count
pub seen_matches : (d : Detector) (a : ℕ) → (seen_at d a).match_count ≡ matches_after d a
unfolding seen_at
seen_matches d a = refl

-- What the break by $2001 and the reads of $5204, $FFFA and $FFFB were: the detector, its frame and the previous fetch changed, and its flag.
abbrev with_frame : Detector → Bool → Bool → Bool → Detector
with_frame d some framed flag = record {
  prev_some = some;
  prev_addr = d.prev_addr;
  match_count = d.match_count;
  reading = d.reading;
  idle_count = d.idle_count;
  in_frame = framed;
  scanline = d.scanline;
  pending = flag;
  irq_enabled = d.irq_enabled;
  irq_scanline = d.irq_scanline;
}

pub darkened_is : (d : Detector) → darkened d ≡ with_frame d false false d.pending
darkened_is d = refl

pub status_read_is : (d : Detector) → status_read d ≡ with_frame d d.prev_some d.in_frame false
status_read_is d = refl

pub vector_read_is : (d : Detector) → vector_read d ≡ with_frame d false false false
vector_read_is d = refl
