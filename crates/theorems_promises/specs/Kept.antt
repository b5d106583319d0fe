-- 01, "STATE ranges", kept: from a state in range with buffers of the recorded lengths, every call leaves a state in range and buffers of the
-- recorded lengths: the gate that every call asks first (`gate_mem`, crate `state`, specs/Gate.antt; Shut with 4 or 5, else Open) stays open.
-- With `WhoIsRefused` this shuts out a board that serves its first call and then refuses all. For load: an accepted one is such a start.
use Rattle.std.specs.Prelude.{ℕ, Bool, true, ◌≡◌}
use Rattle.memory.specs.Bytes.{Mem}
use Rattle.answers.specs.declared.Answer.TheVariants.{Nothing}
use Rattle.registers.specs.declared.Mirroring.{Mirroring}
use Rattle.state.specs.declared.State.{State}
use Rattle.state.specs.Gate.{Open, gate_mem}
use Rattle.state.specs.Ranges.{in_range}
use Rattle.board_ppu.specs.Fetch.{ppu_fetch}
use Rattle.board_ppu.specs.Peeks.{ppu_write}
use Rattle.board.specs.CpuSide.{cpu_read, cpu_write}
use Rattle.board.specs.Loads.{load_call}
use Rattle.board.specs.StateCalls.{reset_call, clock_call, ppu_register_call}

pub record GateStaysOpen : Type 0 where
  pub load : (m : Mem) (as_ram : Bool) (mirroring : Mirroring) → (load_call m as_ram mirroring).answer ≡ Nothing → gate_mem (load_call m as_ram mirroring).state m ≡ Open
  pub read : (s : State) (m : Mem) (a : ℕ) → gate_mem s m ≡ Open → gate_mem (cpu_read s m a).state m ≡ Open
  pub write : (s : State) (m : Mem) (a v : ℕ) → gate_mem s m ≡ Open → gate_mem (cpu_write s m a v).out.state (cpu_write s m a v).mem ≡ Open
  pub reset : (s : State) (m : Mem) → gate_mem s m ≡ Open → gate_mem (reset_call s).state m ≡ Open
  pub clock : (s : State) (m : Mem) → gate_mem s m ≡ Open → gate_mem (clock_call s).state m ≡ Open
  pub register : (s : State) (m : Mem) (a v : ℕ) → gate_mem s m ≡ Open → gate_mem (ppu_register_call s a v).state m ≡ Open
  pub fetch : (s : State) (m : Mem) (a : ℕ) → gate_mem s m ≡ Open → gate_mem (ppu_fetch s m a).state m ≡ Open
  pub ppu_write_call : (s : State) (m : Mem) (a v : ℕ) → gate_mem s m ≡ Open → gate_mem (ppu_write s m a v).out.state (ppu_write s m a v).mem ≡ Open
  -- the calls on the state alone ask what the gate asks
  pub ranged : (s : State) (m : Mem) → gate_mem s m ≡ Open → in_range s ≡ true
