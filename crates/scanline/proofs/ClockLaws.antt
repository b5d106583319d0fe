-- One clock, field by field. And the clock over a record and the detector's are one.
use Prim.Native.Nat.{◌+◌, ◌%◌}
use mathlib.Core.Path.{◌≡◌}
use mathlib.Core.Bool.{false, ◌&&◌, not}
use native.Mathlib.Omega.{arith}
use Rattle.std.proofs.lemmas.Grind.{common_steps}
use Rattle.memory.specs.Tests.{pick}
use Rattle.scanline.specs.declared.record.ClockRecord.{ClockRecord}
use Rattle.scanline.specs.Clock.{third, tick}
use Rattle.scanline.specs.Kept.{SameClock}

-- One clock, field by field: what `tick` was.
pub tick_is : (r : ClockRecord)
    → tick r ≡ record {
      reading = false;
      idle_count = pick r.reading 0 ((r.idle_count + 1) % 3);
      in_frame = not (third r) && r.in_frame;
      prev_some = not (third r) && r.prev_some;
      prev_addr = r.prev_addr;
    }
unfolding tick
tick_is r = grind (arith, common_steps)

pub same_clock : SameClock
same_clock = grind (arith, common_steps)
