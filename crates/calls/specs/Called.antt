-- What a record of a trace asks of the board: one definition for the seven kinds of call, each lent the five buffers. Assumes nothing.
use Rattle.memory.specs.Bytes.{Mem}
use Rattle.state.specs.declared.State.{State}
use Rattle.state.specs.Gate.{gate_mem}
use Rattle.board.specs.declared.Outcome.{Outcome}
use Rattle.board.specs.CpuSide.{cpu_read, cpu_write}
use Rattle.board.specs.Outcomes.{After, after_of, refused, behind}
use Rattle.board.specs.StateCalls.{reset_call, clock_call, ppu_register_call}
use Rattle.board_ppu.specs.Fetch.{ppu_fetch}
use Rattle.board_ppu.specs.Peeks.{ppu_write}
use Rattle.trace.specs.declared.Call.{Call}
use Rattle.trace.specs.declared.Call.TheVariants.{Clock, CpuRead, CpuWrite, PpuRegister, PpuFetch, Reset, PpuWrite}

-- A call on the state alone, here lent the buffers as the others are. 4: "a lent length differs from the one recorded at load".
abbrev pub over_lent : State → Mem → Outcome → After
over_lent s m o = after_of (behind (gate_mem s m) (refused s) o) m

-- "Kinds: 0 clock; 1 CPU read, address; 2 CPU write, address, value; 3 PPU register write, address, value; 4 PPU fetch, address; 5 reset;
-- 6 PPU memory write, address, value." What the call leaves of a state and the five buffers, with its answer.
abbrev pub called : Call → State → Mem → After
called Clock s m = over_lent s m (clock_call s)
called (CpuRead a) s m = after_of (cpu_read s m a.0) m
called (CpuWrite a v) s m = cpu_write s m a.0 v
called (PpuRegister a v) s m = over_lent s m (ppu_register_call s a.0 v)
called (PpuFetch a) s m = after_of (ppu_fetch s m a.0) m
called Reset s m = over_lent s m (reset_call s)
called (PpuWrite a v) s m = ppu_write s m a.0 v
