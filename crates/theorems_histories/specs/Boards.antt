-- What a call is, what it says, and what it leaves. Demand 2 speaks of "every sequence of accepted calls from load"; 01 of demand 3: "Demand 3 is
-- stated over demand 2's calls: each takes the state and the memories as the call before it left them."
-- Assumes nothing.
use Rattle.std.specs.Prelude.{ℕ, Bool, List, [], ◌∷◌, length, Result, Ok, Err}
use Rattle.memory.specs.declared.CpuAddr.{CpuAddr}
use Rattle.memory.specs.declared.PpuAddr.{PpuAddr}
use Rattle.memory.specs.Bytes.{Mem}
use Rattle.answers.specs.declared.Answer.{Answer}
use Rattle.answers.specs.declared.Refusal.{Refusal}
use Rattle.answers.specs.Numbers.{number_of}
use Rattle.answers.specs.Refused.{if_refused}
use Rattle.registers.specs.declared.Mirroring.{Mirroring}
use Rattle.state.specs.declared.State.{State}
use Rattle.state.specs.Gate.{same_lengths}
use Rattle.board.specs.CpuSide.{cpu_peek}
use Rattle.board.specs.StateCalls.{mirroring_call, interrupt_call}
use Rattle.board_ppu.specs.Peeks.{ppu_peek, sprite_peek}
use Rattle.views.specs.Views.{cpu_view, ppu_view}
use Rattle.trace.specs.declared.Call.{Call}
use Rattle.calls.specs.Called.{called}

-- A machine as a call finds it: the state and the five lent buffers.
pub record Board : Type 0 where
  pub state : State
  pub mem : Mem

-- 01, "The board we take": "CPU read and peek, CPU write, PPU register write, PPU fetch and peek, sprite peek (`chr_peek_spr`), PPU memory
-- write, clock, reset, both page tables, `mirroring`, and whether the interrupt is up", and the page views. The seven kinds that a trace has
-- are `Call`; the others look only. Both page tables are fields of the state that a call leaves.
pub data Made : Type 0 where
  call : (c : Call) → Made
  peek : (a : CpuAddr) → Made
  ppu_peek_lem : (a : PpuAddr) → Made
  sprite_peek_lem : (a : PpuAddr) → Made
  mirroring_asked : Made
  interrupt_asked : Made
  cpu_page : (a : CpuAddr) → Made
  ppu_page : (a : PpuAddr) → Made

-- What a call says: an answer, the mirroring, whether the interrupt is up, or the bytes of a page.
pub data Said : Type 0 where
  answers : Answer → Said
  mirrors : Result Mirroring Refusal → Said
  interrupts : Result Bool Refusal → Said
  shows : List ℕ → Said

unfoldable pub says : Board → Made → Said
says b (call c) = answers (called c b.state b.mem).out.answer
says b (peek a) = answers (cpu_peek b.state b.mem a.0)
says b (ppu_peek_lem a) = answers (ppu_peek b.state b.mem a.0)
says b (sprite_peek_lem a) = answers (sprite_peek b.state b.mem a.0)
says b mirroring_asked = mirrors (mirroring_call b.state)
says b interrupt_asked = interrupts (interrupt_call b.state)
says b (cpu_page a) = shows (cpu_view b.state b.mem a.0)
says b (ppu_page a) = shows (ppu_view b.state b.mem a.0)

-- What a call leaves; one that looks only leaves all as it was.
unfoldable pub leaves : Board → Made → Board
leaves b (call c) = record { state = (called c b.state b.mem).out.state; mem = (called c b.state b.mem).mem }
leaves b (peek a) = b
leaves b (ppu_peek_lem a) = b
leaves b (sprite_peek_lem a) = b
leaves b mirroring_asked = b
leaves b interrupt_asked = b
leaves b (cpu_page a) = b
leaves b (ppu_page a) = b

-- What calls leave one after the other, from b on; the newest stands first.
unfoldable pub board_after : Board → List Made → Board
board_after b [] = b
board_after b (c ∷ cs) = leaves (board_after b cs) c

-- "A refusal has one number from 01": the number in what a call says, 0 where it is no refusal. A view gives "the empty part without a number".
abbrev pub number_in : Answer → ℕ
number_in a = if_refused a number_of 0

unfoldable pub number : Said → ℕ
number (answers a) = number_in a
number (mirrors (Ok m)) = 0
number (mirrors (Err r)) = number_of r
number (interrupts (Ok up)) = 0
number (interrupts (Err r)) = number_of r
number (shows l) = 0

-- "a lent length differs from the one recorded at load"
abbrev pub lent_as_recorded : Board → Bool
lent_as_recorded b =
    same_lengths b.state.lengths (length b.mem.prg) (length b.mem.chr) (length b.mem.ram) (length b.mem.ciram) (length b.mem.exram)
