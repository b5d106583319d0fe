-- What is promised of refusals over lent words, as one statement, which the contract of `promises` holds. 00, demand 1: "A refusal .. returns the
-- state as handed in and writes no byte". Which calls are refused, and with what number, is `WhoIsRefused` of crate `theorems_promises`.
use Rattle.std.specs.Prelude.{List, ◌≡◌, ℕ}
use Rattle.memory.specs.Bytes.{Mem}
use Rattle.answers.specs.declared.Answer.TheVariants.{Refused}
use Rattle.answers.specs.declared.Refusal.{Refusal}
use Rattle.state.specs.declared.State.{State}
use Rattle.board.specs.CpuSide.{cpu_read, cpu_write}
use Rattle.board.specs.StateCalls.{reset_call, clock_call, ppu_register_call}
use Rattle.board_ppu.specs.Fetch.{ppu_fetch}
use Rattle.board_ppu.specs.Peeks.{ppu_write}
use Rattle.trace.specs.declared.Call.{Call}
use Rattle.trace.specs.declared.Call.TheVariants.{Clock, CpuRead, CpuWrite, PpuRegister, PpuFetch, Reset, PpuWrite}
use Rattle.host_answers.specs.Answers.{answer_plain}
use Rattle.host.specs.Hosted.{LeftWords, on_words, LeftMemory, left_memory, on_memory}

-- A call that only reads the buffers leaves them.
abbrev pub with_memory : LeftWords → Mem → LeftMemory
with_memory x m = left_memory x.number x.words m

-- What the library's function for each of the seven calls leaves, as its contract says.
abbrev pub called_on : Call → List ℕ → Mem → LeftMemory
called_on Clock w m = with_memory (on_words w (λ (s : State). clock_call s)) m
called_on (CpuRead a) w m = with_memory (on_words w (λ (s : State). cpu_read s m a.0)) m
called_on (CpuWrite a v) w m = on_memory w m (λ (s : State). cpu_write s m a.0 v)
called_on (PpuRegister a v) w m = with_memory (on_words w (λ (s : State). ppu_register_call s a.0 v)) m
called_on (PpuFetch a) w m = with_memory (on_words w (λ (s : State). ppu_fetch s m a.0)) m
called_on Reset w m = with_memory (on_words w (λ (s : State). reset_call s)) m
called_on (PpuWrite a v) w m = on_memory w m (λ (s : State). ppu_write s m a.0 v)

pub record RefusalsLeaveAll : Type 0 where
  -- A call that tells a refusal leaves every word and byte, whatever they are. That a refused call does is in the definitions; what is added is that no call
  -- that is taken tells a refusal's number.
  pub refused : (c : Call) (w : List ℕ) (m : Mem) (r : Refusal) → (called_on c w m).number ≡ answer_plain (Refused r) → called_on c w m ≡ left_memory (answer_plain (Refused r)) w m
