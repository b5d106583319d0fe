-- The detector after each call that it can tell from another, and what it answers.
-- Words in quotes are 01's, "Fetches, runs, breaks", where no other place is named. The definitions of a fetch are asked for addresses at
-- $2000-$3EFF only (`counted_at`).
use Rattle.std.specs.Prelude.{ℕ, ◌+◌, ◌/◌, ◌%◌, min, Bool, true, false, ◌&&◌, ◌||◌, leb, eqb}
use Rattle.memory.specs.Bits.{bit_set}
use Rattle.memory.specs.Tests.{pick}
use Rattle.scanline.specs.declared.Detector.{Detector}
use Rattle.scanline.specs.Clock.{record_of, with_record, broken_record, tick}

-- 01, module 10: load gives "all else 0, off, none"
abbrev pub detector_at_load : Detector
detector_at_load = record {
  prev_some = false;
  prev_addr = record { 0 = 0 };
  match_count = 0;
  reading = false;
  idle_count = 0;
  in_frame = false;
  scanline = 0;
  pending = false;
  irq_enabled = false;
  irq_scanline = 0;
}

-- A fetch at $2000-$3EFF ------------------------------------------------------------------------------------------------------------

-- it is not above $2FFF, and equals the fetch before it, with no break between
unfoldable pub again : Detector → ℕ → Bool
again d a = leb a 0x2FFF && (d.prev_some && eqb a d.prev_addr.0)

-- how many equal fetches stand before it in its run, none from $3000 on (docs/DECISIONS.md, first reading); the Rust holds the count at 255
unfoldable pub matches_after : Detector → ℕ → ℕ
matches_after d a = pick (again d a) (min (d.match_count + 1) 255) 0

-- "A line is a fetch at $2000-$2FFF equal to the two before it, no break among the three, where the fetch before those differs, is
-- missing, or lies behind a break."
unfoldable pub is_line : Detector → ℕ → Bool
is_line d a = eqb (matches_after d a) 2

-- 00, demand 3: "lines count from 0 after load and each break"
abbrev pub line_number : Detector → ℕ
line_number d = pick d.in_frame (d.scanline + 1) 0

-- 00, demand 3: "a line numbered 1 or more equalled the value last written to $5203"
unfoldable pub meets : Detector → ℕ → Bool
meets d a = is_line d a && (leb 1 (line_number d) && eqb (line_number d) d.irq_scanline)

-- "run and line", "In frame: some line since load and the last break"
unfoldable pub seen_at : Detector → ℕ → Detector
seen_at d a = record {
  prev_some = true;
  prev_addr = record { 0 = a };
  match_count = matches_after d a;
  reading = true;
  idle_count = d.idle_count;
  in_frame = is_line d a || d.in_frame;
  scanline = pick (is_line d a) (line_number d) d.scanline;
  pending = meets d a || d.pending;
  irq_enabled = d.irq_enabled;
  irq_scanline = d.irq_scanline;
}

-- The other calls --------------------------------------------------------------------------------------------------------------------

-- one clock
abbrev pub clocked : Detector → Detector
clocked d = with_record d (tick (record_of d))

-- "A break is a PPU register write to $2001 with bits 3 and 4 clear": the value of such a write ..
abbrev pub dark : ℕ → Bool
dark v = eqb (v / 8 % 4) 0

-- .. and the detector after it; the flag stands
abbrev pub darkened : Detector → Detector
darkened d = with_record d (broken_record (record_of d))

-- a CPU read of $5204 clears the flag
abbrev pub status_read : Detector → Detector
status_read d = record {
  prev_some = d.prev_some;
  prev_addr = d.prev_addr;
  match_count = d.match_count;
  reading = d.reading;
  idle_count = d.idle_count;
  in_frame = d.in_frame;
  scanline = d.scanline;
  pending = false;
  irq_enabled = d.irq_enabled;
  irq_scanline = d.irq_scanline;
}

-- "a CPU read of $FFFA or $FFFB" is a break too, and clears the flag
abbrev pub vector_read : Detector → Detector
vector_read d = status_read (darkened d)

-- the two registers changed
abbrev pub with_target : Detector → Bool → ℕ → Detector
with_target d on n = record {
  prev_some = d.prev_some;
  prev_addr = d.prev_addr;
  match_count = d.match_count;
  reading = d.reading;
  idle_count = d.idle_count;
  in_frame = d.in_frame;
  scanline = d.scanline;
  pending = d.pending;
  irq_enabled = on;
  irq_scanline = n;
}

-- 00, demand 3: "the value last written to $5203"
abbrev pub targeted : Detector → ℕ → Detector
targeted d v = with_target d d.irq_enabled v

-- 00, demand 3: "the last write to $5204 had bit 7 set"; the flag stands (01, "Easy errors": "clearing the
-- flag on a $5204 disable")
abbrev pub enabled_by : Detector → ℕ → Detector
enabled_by d v = with_target d (bit_set v 7) d.irq_scanline

-- Answers ----------------------------------------------------------------------------------------------------------------------------

-- what $5204 reads: 128 for the flag and 64 for in frame
abbrev pub status_of : Detector → ℕ
status_of d = pick d.pending 128 0 + pick d.in_frame 64 0

-- 00, demand 3: "The interrupt is up exactly when the flag is set and the last write to $5204 had bit 7 set."
abbrev pub interrupt_up : Detector → Bool
interrupt_up d = d.pending && d.irq_enabled
