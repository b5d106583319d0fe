-- Worked cases at the edges, one list under one statement: what a definition gives, and what 01, CR 7 or the Rust says.
-- 01, "Examples at the edges": "In frame, line counter 65,278 takes a line, 65,279 refuses."
use Rattle.std.specs.Prelude.{ℕ, Bool, true, false, List, [], ◌∷◌, ◌++◌, T}
use Rattle.memory.specs.Cases.{Case, is, holds, fails, right}
use Rattle.scanline.specs.declared.Detector.{Detector}
use Rattle.scanline.specs.Fetches.{counted_at, attribute_at, name_at}
use Rattle.scanline.specs.Tiles.{sprite_fetch, column_of, is_prefetched, is_first, fold, tiles_ok, raised_by, left_after}
use Rattle.scanline.specs.Steps.{matches_after, seen_at, clocked, darkened, vector_read, status_read, targeted, enabled_by, status_of, interrupt_up}
use Rattle.scanline.specs.Ranges.{detector_ok, counter_refused}

-- after m fetches at $2000 equal to the one before them, with an idle count of i, in frame or not, at line n, with the interrupt's flag or not; the interrupt is disabled and the target is 5
abbrev pub at : ℕ → ℕ → Bool → ℕ → Bool → Detector
at m i framed n flag = record {
  prev_some = true;
  prev_addr = record { 0 = 0x2000 };
  match_count = m;
  reading = false;
  idle_count = i;
  in_frame = framed;
  scanline = n;
  pending = flag;
  irq_enabled = false;
  irq_scanline = 5;
}

abbrev pub addresses : List Case
addresses =
    fails (counted_at 0x1FFF)
    ∷ holds (counted_at 0x2000)
    ∷ holds (counted_at 0x3EFF)
    ∷ fails (counted_at 0x3F00)
    ∷ fails (attribute_at 0x23BF)
    ∷ holds (attribute_at 0x23C0)
    ∷ holds (attribute_at 0x3FFF)
    ∷ fails (name_at 0x1FFF)
    ∷ holds (name_at 0x2000)
    ∷ holds (name_at 0x2FBF)
    ∷ fails (name_at 0x2FC0)
    ∷ fails (name_at 0x3000)
    ∷ []

abbrev pub tiles : List Case
tiles =
    fails (sprite_fetch 31)
    ∷ holds (sprite_fetch 32)
    ∷ holds (sprite_fetch 39)
    ∷ fails (sprite_fetch 40)
    ∷ is (column_of 0) 2
    ∷ is (column_of 39) 41
    ∷ is (column_of 40) 0
    ∷ is (column_of 42) 2
    ∷ fails (is_prefetched 39)
    ∷ holds (is_prefetched 40)
    ∷ holds (is_first 41)
    ∷ fails (is_first 42)
    ∷ is (raised_by 7 0x2000) 8
    ∷ is (raised_by 7 0x23C0) 7
    ∷ is (raised_by 7 0x3000) 7
    -- CR 7: "so 83 is followed by 42"
    ∷ is (raised_by 41 0x2000) 42
    ∷ is (raised_by 82 0x2000) 83
    ∷ is (raised_by 83 0x2000) 42
    ∷ is (raised_by 83 0x23C0) 83
    -- the third of a run zeroes the count, and so does each equal after it
    ∷ is (left_after (matches_after (at 0 0 true 3 false) 0x2000) 8) 8
    ∷ is (left_after (matches_after (at 1 0 true 3 false) 0x2000) 8) 0
    ∷ is (left_after (matches_after (at 2 0 true 3 false) 0x2000) 8) 0
    ∷ is (left_after (matches_after (at 255 0 true 3 false) 0x2000) 8) 0
    ∷ is (left_after (matches_after (at 1 0 true 3 false) 0x2001) 8) 8
    ∷ []

abbrev pub refusals : List Case
refusals =
    fails (counter_refused (at 1 0 true 65278 false) 0x2000)
    ∷ holds (counter_refused (at 1 0 true 65279 false) 0x2000)
    -- the second and the fourth of a run make no line
    ∷ fails (counter_refused (at 0 0 true 65279 false) 0x2000)
    ∷ fails (counter_refused (at 2 0 true 65279 false) 0x2000)
    -- out of frame the line counter is what the last frame left
    ∷ fails (counter_refused (at 1 0 false 65279 false) 0x2000)
    -- a fetch below $2000 counts for nothing, whatever the state handed in says was before it
    ∷ fails (counter_refused (seen_at (seen_at (at 0 0 true 65279 false) 0x1FFF) 0x1FFF) 0x1FFF)
    ∷ holds (tiles_ok 83)
    ∷ fails (tiles_ok 84)
    ∷ holds (detector_ok (at 0 2 true 65279 false))
    ∷ fails (detector_ok (at 0 3 true 65279 false))
    ∷ fails (detector_ok (at 0 2 true 65280 false))
    ∷ []

-- CR 7: of a full count, what is kept, and the column of both
abbrev row : ℕ → ℕ → ℕ → List Case → List Case
row full kept column rows = is (fold full) kept ∷ is (column_of full) column ∷ is (column_of kept) column ∷ rows

abbrev pub turns : List Case
turns =
    row 31 31 33
    (row 32 32 34
    (row 39 39 41
    (row 40 40 0
    (row 41 41 1
    (row 42 42 2
    (row 81 81 41
    (row 82 82 0
    (row 83 83 1
    (row 84 42 2
    (row 125 83 1
    (row 126 42 2
    (row 1000 76 36
    (row 4294967293 43 3
    [])))))))))))))

abbrev pub calls : List Case
calls =
    -- the third equal fetch: line 5 meets the target, line 0 does not
    is (status_of (seen_at (at 1 0 true 4 false) 0x2000)) 192
    ∷ is (status_of (seen_at (at 1 0 true 5 false) 0x2000)) 64
    ∷ is (status_of (seen_at (targeted (at 1 0 false 9 false) 0) 0x2000)) 64
    ∷ is (seen_at (at 1 0 false 9 false) 0x2000).scanline 0
    ∷ is (seen_at (at 1 0 true 9 false) 0x3000).match_count 0
    ∷ is (seen_at (at 255 0 true 9 false) 0x2000).match_count 255
    ∷ is (status_of (clocked (at 0 1 true 9 true))) 192
    ∷ is (status_of (clocked (at 0 2 true 9 true))) 128
    ∷ is (clocked (at 0 1 true 9 true)).idle_count 2
    ∷ is (clocked (at 0 2 true 9 true)).idle_count 0
    ∷ is (status_of (darkened (at 0 0 true 9 true))) 128
    ∷ is (status_of (vector_read (at 0 0 true 9 true))) 0
    ∷ is (status_of (status_read (at 0 0 true 9 true))) 64
    ∷ is (status_of (enabled_by (at 0 0 true 9 true) 0)) 192
    ∷ holds (interrupt_up (enabled_by (at 0 0 true 9 true) 128))
    ∷ fails (interrupt_up (enabled_by (at 0 0 true 9 true) 127))
    ∷ []

abbrev pub Edges : Type 0
Edges = T (right (addresses ++ (tiles ++ (refusals ++ (turns ++ calls)))))
