-- The state that the trace of a case starts from, by the case's first byte and by the bytes after its trace. Words in quotes are those of
-- oracle/README.md, "The fixed list" and "A case in bytes".
use Rattle.std.specs.Prelude.{ℕ, ◌+◌, ◌*◌, true, ◌&&◌, List, eqb, leb, length, get_or}
use Rattle.memory.specs.Tests.{pick}
use Rattle.scanline.specs.declared.Detector.{Detector}
use Rattle.scanline.specs.Tiles.{fold}
use Rattle.state.specs.declared.PpuStatus.{PpuStatus}
use Rattle.state.specs.declared.State.{State}
use Rattle.state.specs.With.{with_irq, with_ppu}
use Rattle.test_fixed_list.specs.declared.case.After.{After}
use Rattle.test_fixed_list.specs.declared.case.After.TheVariants.{Nothing, Peeks, Counters}

-- Two bytes and four "of a case with counters: line counter and tile count, low bytes first".
abbrev pub line_of : List ℕ → ℕ
line_of b = get_or b 0 0 + get_or b 1 0 * 256

abbrev pub tile_of : List ℕ → ℕ
tile_of b = get_or b 2 0 + get_or b 3 0 * 256 + get_or b 4 0 * 65536 + get_or b 5 0 * 16777216

-- the detector in frame, with a line counter
abbrev pub with_line : Detector → ℕ → Detector
with_line d line = record d { in_frame = true; scanline = line }

-- the PPU status with a tile count
abbrev pub with_tile : PpuStatus → ℕ → PpuStatus
with_tile p tile = record p { tile_number = tile }

-- "starts the trace in frame with that line counter and that tile count"
abbrev pub is_in_frame : ℕ → ℕ → State → State
is_in_frame line tile s = with_ppu (with_irq s (with_line s.irq line)) (with_tile s.ppu tile)

-- A case whose first byte is "3 if it has counters" starts so, with the fold of its tile count, where all six bytes are there; every other one starts from the
-- state as it is.
unfoldable pub start_by : ℕ → List ℕ → State → State
start_by kind b s = pick (eqb kind 3 && leb 6 (length b)) (is_in_frame (line_of b) (fold (tile_of b)) s) s

-- The same, of what stands behind the trace as it was read: a case that "has counters".
abbrev pub start_of : After → State → State
start_of Nothing s = s
start_of (Peeks _) s = s
start_of (Counters b) s = is_in_frame (line_of b.now) (fold (tile_of b.now)) s
