-- CR 9: "every accepted state keeps the address at 959 or less after any fetch, column 32 included". The address is that of the split tile, in ExRAM. An
-- accepted state is one behind an open gate (`gate_mem`, refusals 4 and 5), reached by a history or handed in; a fetch is counted or not, accepted or
-- refused. Column 32 is `Column32` of crate `split`; along a history, `Along.address` of crate `theorems_histories`.
use Rattle.std.specs.Prelude.{ℕ, ◌≤◌, Bool, true, false, ◌&&◌, ◌≡◌, ltb}
use Rattle.memory.specs.Bytes.{Mem}
use Rattle.memory.specs.Tests.{pick}
use Rattle.registers.specs.declared.Mirroring.{Mirroring}
use Rattle.scanline.specs.Fetches.{counted_at}
use Rattle.state.specs.declared.State.{State}
use Rattle.state.specs.Gate.{Open, gate_mem}
use Rattle.state.specs.Ranges.{in_range}
use Rattle.ppu.specs.Served.{split_serves}
use Rattle.board.specs.declared.Outcome.{Outcome}
use Rattle.board.specs.CpuSide.{cpu_read, cpu_write}
use Rattle.board.specs.Loads.{load_call}
use Rattle.board.specs.StateCalls.{reset_call, clock_call, ppu_register_call}
use Rattle.board_ppu.specs.Fetch.{tile_counted, tile_cached, line_seen, split_moved, answered, counted_call, ppu_fetch}
use Rattle.board_ppu.specs.Peeks.{ppu_write}

pub record AddressStays : Type 0 where
  pub fetch : (s : State) (m : Mem) (a : ℕ) → gate_mem s m ≡ Open → (ppu_fetch s m a).state.vsplit.tile_addr ≤ 959
  -- a pattern fetch, and one from $3F00 on, leave it as it is
  pub fetch_elsewhere : (s : State) (m : Mem) (a : ℕ) → gate_mem s m ≡ Open → counted_at a ≡ false → (ppu_fetch s m a).state.vsplit.tile_addr ≡ s.vsplit.tile_addr
  -- what a call finds: a peek, which is no fetch, goes by the state's own address
  pub found : (s : State) → in_range s ≡ true → s.vsplit.tile_addr ≤ 959
  -- every other call; a load's state also where it is refused
  pub load : (m : Mem) (as_ram : Bool) (mirroring : Mirroring) → (load_call m as_ram mirroring).state.vsplit.tile_addr ≤ 959
  pub read : (s : State) (m : Mem) (a : ℕ) → gate_mem s m ≡ Open → (cpu_read s m a).state.vsplit.tile_addr ≤ 959
  pub write : (s : State) (m : Mem) (a v : ℕ) → gate_mem s m ≡ Open → (cpu_write s m a v).out.state.vsplit.tile_addr ≤ 959
  pub ppu_write_call : (s : State) (m : Mem) (a v : ℕ) → gate_mem s m ≡ Open → (ppu_write s m a v).out.state.vsplit.tile_addr ≤ 959
  -- those on the state alone, whose gate is its ranges
  pub reset : (s : State) → in_range s ≡ true → (reset_call s).state.vsplit.tile_addr ≤ 959
  pub clock : (s : State) → in_range s ≡ true → (clock_call s).state.vsplit.tile_addr ≤ 959
  pub register : (s : State) (a v : ℕ) → in_range s ≡ true → (ppu_register_call s a v).state.vsplit.tile_addr ≤ 959

-- "then delete the test": a fetch at $2000-$3EFF as it was with it, `eight` being what refusal 8 gave. It stands for `SameFetch` alone.
unfoldable pub counted_call_with8 : Outcome → State → Mem → ℕ → Outcome
counted_call_with8 eight s m a =
    let t = split_moved (line_seen (tile_cached (tile_counted s a) a) a) a in
    pick (split_serves t.regs t.vsplit t.irq.in_frame && ltb 959 t.vsplit.tile_addr) eight (answered t m a)

-- Whatever 8 gave: without the test no state in range gets another answer, or is left another state.
abbrev pub SameFetch : Type 0
SameFetch = (eight : Outcome) (s : State) (m : Mem) (a : ℕ) → in_range s ≡ true → counted_call s m a ≡ counted_call_with8 eight s m a
