-- Every call keeps the detector and the tile count within their ranges; a fetch keeps the detector's where refusal 7 is not given, and the tile
-- count's always. And the clock over a record changes its fields as the detector's clock does.
-- Proved in proofs/RangeLaws.antt and proofs/ClockLaws.antt, and pinned by the contract of `promises`.
use Rattle.std.specs.Prelude.{ℕ, ◌<◌, ◌≤◌, ◌≡◌, true, false}
use Rattle.scanline.specs.declared.Detector.{Detector}
use Rattle.answers.specs.declared.Answer.TheVariants.{Nothing}
use Rattle.scanline.specs.Fetches.{counted_at}
use Rattle.scanline.specs.Tiles.{tiles_ok, raised_by, left_after}
use Rattle.scanline.specs.Clock.{record_of, with_record, clock_outcome}
use Rattle.scanline.specs.Steps.{detector_at_load, matches_after, seen_at, clocked, darkened, vector_read, status_read, targeted, enabled_by}
use Rattle.scanline.specs.Ranges.{detector_ok, counter_refused}

-- a step that keeps the ranges
abbrev pub Keeps : (Detector → Detector) → Type 0
Keeps f = (d : Detector) → detector_ok d ≡ true → detector_ok (f d) ≡ true

pub record RangesKept : Type 0 where
  pub at_load : detector_ok detector_at_load ≡ true
  pub clock : Keeps clocked
  pub darkened : Keeps darkened
  pub vector_read_call : Keeps vector_read
  pub status_read_call : Keeps status_read
  pub target : (v : ℕ) → Keeps (λ d. targeted d v)
  pub enabled : (v : ℕ) → Keeps (λ d. enabled_by d v)
  pub seen : (d : Detector) (a : ℕ) → counted_at a ≡ true → counter_refused d a ≡ false → detector_ok d ≡ true → detector_ok (seen_at d a) ≡ true
  -- the tile count between the fetch's parts, and after it
  pub raised : (t a : ℕ) → tiles_ok t ≡ true → tiles_ok (raised_by t a) ≡ true
  pub tiles : (d : Detector) (t a : ℕ) → tiles_ok t ≡ true → tiles_ok (left_after (matches_after d a) (raised_by t a)) ≡ true
  -- within the ranges no sum of lib.rt overflows
  pub idle_fits : (d : Detector) → detector_ok d ≡ true → d.idle_count ≤ 2
  pub line_fits : (d : Detector) → detector_ok d ≡ true → d.scanline < 65535

-- 01, "What must change shape": the lent clock "changes those fields as the state's clock does", and the state's clock changes no others
pub record SameClock : Type 0 where
  pub fields : (d : Detector) → d.idle_count ≤ 2 → clock_outcome (record_of d) ≡ record { answer = Nothing; «record» = record_of (clocked d) }
  pub rest : (d : Detector) → clocked d ≡ with_record d (record_of (clocked d))
