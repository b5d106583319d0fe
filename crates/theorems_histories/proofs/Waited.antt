-- The worked wait: its calls are accepted, by computation, and what is then asked of the interrupt is `Asked`'s own word.
use mathlib.Core.Bool.{true}
use mathlib.Core.List.{◌∷◌, ◌++◌}
use mathlib.Core.Path.{◌≡◌, refl}
use native.Mathlib.Omega.{arith}
use Rattle.memory.proofs.Tests.{and_left}
use Rattle.scanline.specs.Ranges.{line_refused, counter_refused}
use Rattle.scanline.specs.Clock.{tick}
use Rattle.scanline.specs.Steps.{again, matches_after, is_line, meets, seen_at}
use Rattle.board.specs.Loads.{load_call}
use Rattle.theorems_scanlines.specs.Run.{step, run}
use Rattle.theorems_scanlines.specs.Calls.{history_of}
use Rattle.theorems_scanlines.proofs.Worked.{worked}
use Rattle.theorems_histories.specs.Histories.{Load}
use Rattle.theorems_histories.specs.Accepted.{refusal, acceptable}
use Rattle.theorems_histories.specs.Waits.{before, between, last, WorkedWait, Waits}
use Rattle.theorems_histories.proofs.Along.{are_reached}
use Rattle.theorems_histories.proofs.Demands.{asked}

take_them : acceptable (last ∷ (between ++ before)) ≡ true
unfolding acceptable refusal history_of line_refused counter_refused step run tick again matches_after is_line meets seen_at
take_them = refl

take_fewer : acceptable (between ++ before) ≡ true
unfolding acceptable
take_fewer = and_left (acceptable (between ++ before)) _ take_them

module _ (l : Load) where
  waited : WorkedWait l
  unfolding history_of
  waited =
      let w = worked in
      let early = are_reached l (between ++ before) take_fewer in
      let late = are_reached l (last ∷ (between ++ before)) take_them in
      record {
        waiting = w.waiting;
        undisturbed = w.undisturbed;
        short = w.short;
        unserved = (early.0, early.1, asked.no_sooner l before between 0 2 w.waiting w.undisturbed (omega (arith, w.short)) early.0 early.1);
        line = w.line;
        full = w.full;
        served = (late.0, late.1, asked.served l before between 0 2 last w.waiting w.undisturbed w.line w.full late.0 late.1);
      }

pub waits : Waits
unfolding load_call
waits = record { worked = waited; smallest_loads = refl }
