-- Demand 1: "A refusal has one number from 01, is given exactly when 01 says, returns the state as handed in and writes no byte".
-- Behind an open gate the CPU's calls are refused for audio registers and for nothing else, fetches for refusal 7 alone, the other calls never;
-- so a board that refuses every call is shut out. At a shut gate every call gives the gate's refusal. The gate, `gate_mem`, is
-- refusals 4 and 5 (crate `state`, specs/Gate.antt). One equation over all calls and boards: `Refusals` of crate `theorems_histories`.
use Rattle.std.specs.Prelude.{ℕ, true, false, ◌≡◌, Ok, Err}
use Rattle.memory.specs.Bytes.{Mem}
use Rattle.answers.specs.declared.Answer.TheVariants.{Nothing, Refused}
use Rattle.answers.specs.declared.Refusal.{Refusal}
use Rattle.answers.specs.declared.Refusal.TheVariants.{State as StateBroken}
use Rattle.answers.specs.Letters.{letter_of, value_of}
use Rattle.answers.specs.Numbers.{number_of}
use Rattle.answers.specs.Refused.{is_refused}
use Rattle.scanline.specs.Ranges.{counter_refused}
use Rattle.scanline.specs.Steps.{interrupt_up}
use Rattle.state.specs.declared.State.{State}
use Rattle.state.specs.Gate.{Open, Shut, gate_mem}
use Rattle.state.specs.Ranges.{in_range}
use Rattle.cpu.specs.Reads.{audio_read}
use Rattle.cpu.specs.Writes.{audio_write}
use Rattle.board.specs.declared.Outcome.{Outcome}
use Rattle.board.specs.CpuSide.{cpu_read, cpu_peek, cpu_write}
use Rattle.board.specs.Outcomes.{refused, after_of}
use Rattle.board.specs.StateCalls.{reset_call, clock_call, ppu_register_call, mirroring_call, interrupt_call}
use Rattle.board_ppu.specs.Fetch.{ppu_fetch}
use Rattle.board_ppu.specs.Peeks.{ppu_peek, sprite_peek, ppu_write}

-- "A refusal has one number from 01 .. returns the state as handed in".
pub record RefusedWith (n : ℕ) (s : State) (o : Outcome) : Type 0 where
  pub letter : letter_of o.answer ≡ 0x21
  pub number : value_of o.answer ≡ n
  pub given_back : o.state ≡ s

pub record WhoIsRefused : Type 0 where
  -- behind an open gate: reads, peeks and writes
  pub read_audio : (s : State) (m : Mem) (a : ℕ) → gate_mem s m ≡ Open → audio_read a ≡ true → RefusedWith 6 s (cpu_read s m a)
  pub read_else : (s : State) (m : Mem) (a : ℕ) → gate_mem s m ≡ Open → audio_read a ≡ false → is_refused (cpu_read s m a).answer ≡ false
  pub peek : (s : State) (m : Mem) (a : ℕ) → cpu_peek s m a ≡ (cpu_read s m a).answer
  pub write_audio : (s : State) (m : Mem) (a v : ℕ) → gate_mem s m ≡ Open → audio_write a ≡ true → RefusedWith 6 s (cpu_write s m a v).out
  pub write_audio_bytes : (s : State) (m : Mem) (a v : ℕ) → gate_mem s m ≡ Open → audio_write a ≡ true → (cpu_write s m a v).mem ≡ m
  pub write_else : (s : State) (m : Mem) (a v : ℕ) → gate_mem s m ≡ Open → audio_write a ≡ false → (cpu_write s m a v).out.answer ≡ Nothing
  -- fetches, and the PPU's other calls
  pub fetch_counter : (s : State) (m : Mem) (a : ℕ) → gate_mem s m ≡ Open → counter_refused s.irq a ≡ true → RefusedWith 7 s (ppu_fetch s m a)
  pub fetch_else : (s : State) (m : Mem) (a : ℕ) → gate_mem s m ≡ Open → counter_refused s.irq a ≡ false → is_refused (ppu_fetch s m a).answer ≡ false
  pub ppu_peek_call : (s : State) (m : Mem) (a : ℕ) → gate_mem s m ≡ Open → is_refused (ppu_peek s m a) ≡ false
  pub sprite_peek_call : (s : State) (m : Mem) (a : ℕ) → gate_mem s m ≡ Open → is_refused (sprite_peek s m a) ≡ false
  pub ppu_write_call : (s : State) (m : Mem) (a v : ℕ) → gate_mem s m ≡ Open → (ppu_write s m a v).out.answer ≡ Nothing
  -- the calls on the state alone
  pub reset : (s : State) → in_range s ≡ true → (reset_call s).answer ≡ Nothing
  pub clock : (s : State) → in_range s ≡ true → (clock_call s).answer ≡ Nothing
  pub register : (s : State) (a v : ℕ) → in_range s ≡ true → (ppu_register_call s a v).answer ≡ Nothing
  pub mirroring : (s : State) → in_range s ≡ true → mirroring_call s ≡ Ok s.screen.mirroring
  pub interrupt : (s : State) → in_range s ≡ true → interrupt_call s ≡ Ok (interrupt_up s.irq)
  -- at a shut gate: the gate's refusal, the state given back, no byte written
  pub read_shut : (s : State) (m : Mem) (a : ℕ) (r : Refusal) → gate_mem s m ≡ Shut r → cpu_read s m a ≡ refused s r
  pub write_shut : (s : State) (m : Mem) (a v : ℕ) (r : Refusal) → gate_mem s m ≡ Shut r → cpu_write s m a v ≡ after_of (refused s r) m
  pub fetch_shut : (s : State) (m : Mem) (a : ℕ) (r : Refusal) → gate_mem s m ≡ Shut r → ppu_fetch s m a ≡ refused s r
  pub ppu_peek_shut : (s : State) (m : Mem) (a : ℕ) (r : Refusal) → gate_mem s m ≡ Shut r → ppu_peek s m a ≡ Refused r
  pub sprite_peek_shut : (s : State) (m : Mem) (a : ℕ) (r : Refusal) → gate_mem s m ≡ Shut r → sprite_peek s m a ≡ Refused r
  pub ppu_write_shut : (s : State) (m : Mem) (a v : ℕ) (r : Refusal) → gate_mem s m ≡ Shut r → ppu_write s m a v ≡ after_of (refused s r) m
  pub reset_broken : (s : State) → in_range s ≡ false → RefusedWith 5 s (reset_call s)
  pub clock_broken : (s : State) → in_range s ≡ false → RefusedWith 5 s (clock_call s)
  pub register_broken : (s : State) (a v : ℕ) → in_range s ≡ false → RefusedWith 5 s (ppu_register_call s a v)
  -- these two have no outcome; `StateBroken` is the refusal with the number 5
  pub mirroring_broken : (s : State) → in_range s ≡ false → mirroring_call s ≡ Err StateBroken
  pub interrupt_broken : (s : State) → in_range s ≡ false → interrupt_call s ≡ Err StateBroken
  pub broken_is_five : number_of StateBroken ≡ 5
