-- The worked history: its calls are accepted, by computation of the detector; the count and the address by computation of the full board, and the board's
-- own by `along_full`.
use Prim.Native.Nat.{ℕ}
use mathlib.Core.Bool.{Bool, true, false}
use mathlib.Core.Path.{◌≡◌, refl, ◌∙◌, ap}
use Rattle.registers.specs.declared.Mirroring.TheVariants.{Horizontal}
use Rattle.registers.specs.Registers.{written}
use Rattle.scanline.specs.Ranges.{line_refused, counter_refused}
use Rattle.scanline.specs.Steps.{again, matches_after, is_line, meets, seen_at}
use Rattle.scanline.specs.Tiles.{fold, column_of, is_prefetched, is_first}
use Rattle.split.specs.Region.{side_at, region_at, split_address, after_name}
use Rattle.state.specs.declared.State.{State}
use Rattle.cpu.specs.Groups.{split_after, irq_after}
use Rattle.cpu.specs.Writes.{register_written}
use Rattle.ppu.specs.Fetches.{split_seen}
use Rattle.board.specs.Loads.{loaded_state, load_call}
use Rattle.theorems_scanlines.specs.Machine.{tiles_by, watched}
use Rattle.theorems_scanlines.specs.Run.{step, run}
use Rattle.theorems_scanlines.specs.Calls.{history_of}
use Rattle.theorems_histories.specs.Accepted.{refusal, acceptable}
use Rattle.theorems_histories.specs.Boards.{Board}
use Rattle.theorems_histories.specs.Histories.{Load, first}
use Rattle.theorems_histories.specs.Watching.{event}
use Rattle.theorems_histories.specs.Shorthand.{in_turn}
use Rattle.theorems_histories.specs.Waits.{smallest}
use Rattle.theorems_histories.proofs.Along.{are_reached}
use Rattle.theorems_histories.proofs.Waited.{waits}
use Rattle.theorems_folds.specs.Full.{full_seen, full_counted, full_leaves, full_after}
use Rattle.theorems_folds.specs.Worked.{calls, Worked}
use Rattle.theorems_folds.proofs.AlongLaws.{along_full}

take_them : acceptable (calls 84) ≡ true
unfolding acceptable refusal history_of line_refused counter_refused step run again matches_after is_line meets seen_at in_turn
take_them = refl

full_count : (watched (history_of event (calls 84))).tiles ≡ 84
unfolding history_of step tiles_by watched again matches_after is_line meets seen_at in_turn
full_count = refl

loaded : Load
loaded = record { mem = smallest; as_ram = false; mirroring = Horizontal; accepted = waits.smallest_loads }

abbrev split_of : State → Bool × ℕ
split_of s = (s.vsplit.in_region, s.vsplit.tile_addr)

full_split_lem : split_of (full_after (first loaded) (calls 84)).state ≡ (true, 34)
unfolding loaded load_call loaded_state full_after full_leaves full_counted full_seen register_written written split_after irq_after split_seen column_of is_prefetched is_first side_at region_at split_address after_name again matches_after is_line meets seen_at in_turn
full_split_lem = refl

pub worked : Worked
unfolding fold loaded
worked =
    let r = are_reached loaded (calls 84) take_them in
    let same = ap (λ (x : Board). split_of x.state) (along_full.board loaded (calls 84) r.0 r.1) ∙ full_split_lem in (
      loaded,
      refl,
      (
        r.0,
        record {
          reached = r.1;
          full = full_count;
          kept = along_full.tiles loaded (calls 84) r.0 r.1 ∙ ap fold full_count;
          region = ap (λ (x : Bool × ℕ). x.0) same;
          address = ap (λ (x : Bool × ℕ). x.1) same;
          full_address = ap (λ (x : Bool × ℕ). x.1) full_split_lem;
        },
      ),
    )
