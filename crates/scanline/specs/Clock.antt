-- One clock, over the part of the detector that it looks at and changes.
-- 01, "Fetches, runs, breaks": "A break is .. each third clock of an unbroken row of idle clocks. A clock is idle if no such fetch came
-- since the clock before, or since load."
use Rattle.std.specs.Prelude.{◌+◌, ◌%◌, Bool, false, ◌&&◌, not, leb, eqb}
use Rattle.answers.specs.declared.Answer.TheVariants.{Nothing, Refused}
use Rattle.answers.specs.declared.Refusal.TheVariants.{State}
use Rattle.memory.specs.Tests.{pick}
use Rattle.scanline.specs.declared.Detector.{Detector}
use Rattle.scanline.specs.declared.record.ClockRecord.{ClockRecord}
use Rattle.scanline.specs.declared.record.ClockOutcome.{ClockOutcome}

-- 01, "The form each place takes": "struct of reading, idle count, in-frame and previous address"
abbrev pub record_of : Detector → ClockRecord
record_of d = record { reading = d.reading; idle_count = d.idle_count; in_frame = d.in_frame; prev_some = d.prev_some; prev_addr = d.prev_addr }

-- the detector with that part changed
abbrev pub with_record : Detector → ClockRecord → Detector
with_record d r = record {
  prev_some = r.prev_some;
  prev_addr = r.prev_addr;
  match_count = d.match_count;
  reading = r.reading;
  idle_count = r.idle_count;
  in_frame = r.in_frame;
  scanline = d.scanline;
  pending = d.pending;
  irq_enabled = d.irq_enabled;
  irq_scanline = d.irq_scanline;
}

-- a break: the next fetch has none before it, and the board is out of frame
abbrev pub broken_record : ClockRecord → ClockRecord
broken_record r = record { reading = r.reading; idle_count = r.idle_count; in_frame = false; prev_some = false; prev_addr = r.prev_addr }

-- after this clock no fetch came yet; the idle clocks of the row are one more, counted anew from each third, or none
abbrev pub row_after : ClockRecord → ClockRecord
row_after r = record { reading = false; idle_count = pick r.reading 0 ((r.idle_count + 1) % 3); in_frame = r.in_frame; prev_some = r.prev_some; prev_addr = r.prev_addr }

-- this clock is the third (or sixth, ..) of an unbroken row of idle clocks: it is idle, and two were since the row began or
-- since its last third clock
abbrev pub third : ClockRecord → Bool
third r = not r.reading && eqb (r.idle_count + 1) 3

-- one clock
unfoldable pub tick : ClockRecord → ClockRecord
tick r = pick (third r) (broken_record (row_after r)) (row_after r)

-- 01, "What must change shape": the clock over a record, "idle count above 2: 5, unaltered"
abbrev pub clock_outcome : ClockRecord → ClockOutcome
clock_outcome r = pick (leb r.idle_count 2) (record { answer = Nothing; «record» = tick r }) (record { answer = Refused State; «record» = r })
