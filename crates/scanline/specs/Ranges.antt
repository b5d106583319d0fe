-- What the detector's numbers may be, and when a fetch is refused for them.
use Rattle.std.specs.Prelude.{ℕ, Bool, ◌&&◌, leb, ltb}
use Rattle.scanline.specs.declared.Detector.{Detector}
use Rattle.scanline.specs.Fetches.{counted_at}
use Rattle.scanline.specs.Steps.{is_line, line_number}

-- 01, "STATE ranges": "idle count 0-2; .. line counter within 7's limits"
unfoldable pub detector_ok : Detector → Bool
detector_ok d = leb d.idle_count 2 && leb d.scanline 65279

-- 01, refusal 7: "would need .. a line counter above 65,279"
unfoldable pub line_refused : Detector → ℕ → Bool
line_refused d a = is_line d a && ltb 65279 (line_number d)

-- 01, refusal 7: "a fetch at $2000-$3EFF would need .. a line counter above 65,279". CR 7: "7 is then given for the line counter alone".
unfoldable pub counter_refused : Detector → ℕ → Bool
counter_refused d a = counted_at a && line_refused d a
