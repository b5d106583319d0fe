-- 00, demand 1: "Every call takes all inputs, checks its own". A function that a host may call asks nothing of its caller: `Asked` is what a contract
-- requires (crate `calls`, specs/Own.antt). One line for each function exported to C, crate by crate.
-- Assumes nothing.
use Rattle.theorems_histories.specs.Code.{TakesAll}
use Rattle.theorems_settles.specs.OwnHosts.{host_clock as clock, host_cpu_write as cpu_write_lem, host_ppu_fetch as ppu_fetch_lem, host_load as load, host_ppu_write as ppu_write_lem, host_cpu_read as cpu_read_lem, host_ppu_register as ppu_register_lem, host_reset as reset, host_looks_cpu_entry as cpu_entry, host_looks_cpu_page as cpu_page, host_looks_ppu_entry as ppu_entry, host_looks_ppu_page as ppu_page, host_looks_cpu_peek as cpu_peek_lem, host_looks_ppu_peek as ppu_peek_lem, host_looks_sprite_peek as sprite_peek_lem, host_looks_interrupt as interrupt, host_looks_mirroring as mirroring, host_replay_replay as replay}

pub record ExportsTakeAll : Type 0 where
  pub load : TakesAll load.Asked
  pub clock : TakesAll clock.Asked
  pub reset : TakesAll reset.Asked
  pub ppu_register : TakesAll ppu_register_lem.Asked
  pub cpu_read : TakesAll cpu_read_lem.Asked
  pub cpu_write : TakesAll cpu_write_lem.Asked
  pub ppu_fetch : TakesAll ppu_fetch_lem.Asked
  pub ppu_write_call : TakesAll ppu_write_lem.Asked
  pub cpu_peek : TakesAll cpu_peek_lem.Asked
  pub ppu_peek_call : TakesAll ppu_peek_lem.Asked
  pub sprite_peek_call : TakesAll sprite_peek_lem.Asked
  pub mirroring : TakesAll mirroring.Asked
  pub interrupt : TakesAll interrupt.Asked
  pub cpu_entry : TakesAll cpu_entry.Asked
  pub ppu_entry : TakesAll ppu_entry.Asked
  pub cpu_page : TakesAll cpu_page.Asked
  pub ppu_page : TakesAll ppu_page.Asked
  pub replay : TakesAll replay.Asked
