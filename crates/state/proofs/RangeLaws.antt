-- The ranges of a state as facts with names: each from the test of all, and the test of all from each.
use mathlib.Core.Bool.{true}
use mathlib.Core.Path.{◌≡◌}
use lib.Dec.{leb}
use Rattle.memory.specs.Tables.{prg_table_ok, chr_table_ok}
use Rattle.memory.proofs.Tests.{conj_at}
use Rattle.registers.specs.Registers.{regs_ok}
use Rattle.scanline.specs.Ranges.{detector_ok}
use Rattle.scanline.specs.Tiles.{tiles_ok}
use Rattle.split.specs.Control.{split_ranges}
use Rattle.state.specs.declared.State.{State}
use Rattle.state.specs.Lengths.{lengths_ok}
use Rattle.state.specs.Ranges.{ranges, in_range}

pub record Ranged (s : State) : Type 0 where
  pub lengths : lengths_ok s.lengths ≡ true
  pub detector : detector_ok s.irq ≡ true
  pub regs : regs_ok s.regs ≡ true
  pub vsplit : split_ranges s.vsplit ≡ true
  pub cache : leb s.ppu.tile_cache 1023 ≡ true
  pub tiles : tiles_ok s.ppu.tile_number ≡ true
  pub prg_pages : prg_table_ok s.lengths.prg s.lengths.ram s.prg_pages ≡ true
  pub chr_pages : chr_table_ok s.lengths.chr s.lengths.chr_writable s.chr_pages ≡ true

pub ranged : (s : State) → in_range s ≡ true → Ranged s
unfolding in_range
ranged s h =
    record {
      lengths = conj_at (ranges s) 0 h;
      detector = conj_at (ranges s) 1 h;
      regs = conj_at (ranges s) 2 h;
      vsplit = conj_at (ranges s) 3 h;
      cache = conj_at (ranges s) 4 h;
      tiles = conj_at (ranges s) 5 h;
      prg_pages = conj_at (ranges s) 6 h;
      chr_pages = conj_at (ranges s) 7 h;
    }

pub in_range_lem : (s : State) → Ranged s → in_range s ≡ true
unfolding in_range
in_range_lem s r = rw (r.lengths, r.detector, r.regs, r.vsplit, r.cache, r.tiles, r.prg_pages, r.chr_pages)
