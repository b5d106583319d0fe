-- Shorthand for the theorems of this crate: a board that a call takes, and what it then reads and fetches. Assumes nothing.
use Rattle.std.specs.Prelude.{ℕ, ◌+◌, ◌*◌, ◌/◌, ◌%◌, max, List, ◌≡◌, eqb, get_or, length}
use Rattle.memory.specs.Bytes.{Mem}
use Rattle.memory.specs.Tests.{pick}
use Rattle.answers.specs.declared.Answer.{Answer}
use Rattle.answers.specs.declared.Answer.TheVariants.{Page, Blank}
use Rattle.state.specs.declared.State.{State}
use Rattle.state.specs.Gate.{Open, gate_mem}
use Rattle.board.specs.Outcomes.{After}
use Rattle.board.specs.CpuSide.{cpu_read}
use Rattle.board_ppu.specs.Fetch.{ppu_fetch}
use Rattle.host_state.specs.Fits.{Fits}

-- The gate is open, and the state's numbers and arrays are as their types say: so it is of every board that was reached.
pub record Taken (s : State) (m : Mem) : Type 0 where
  pub opened : gate_mem s m ≡ Open
  pub fits : Fits s

-- What a CPU read, and a PPU fetch, then answers.
abbrev pub read_at : After → ℕ → Answer
read_at x a = (cpu_read x.out.state x.mem a).answer

abbrev pub fetch_at : After → ℕ → Answer
fetch_at x a = (ppu_fetch x.out.state x.mem a).answer

-- The byte of a buffer as a page answers it; "An empty buffer maps blank."
abbrev pub byte_of : List ℕ → ℕ → Answer
byte_of buffer offset = pick (eqb (length buffer) 0) Blank (Page (get_or buffer (offset % length buffer) 0))

-- 01, module 2: "For a PRG window of 8,192: banks = max(1, length / 8,192); start = (bank mod banks) x 8,192": the byte at an offset of a window that
-- shows a bank.
abbrev pub bank_byte : List ℕ → ℕ → ℕ → Answer
bank_byte buffer bank offset = byte_of buffer (bank % max 1 (length buffer / 8192) * 8192 + offset)

-- Module 6: "Such direct CHR offsets are taken modulo the length; empty CHR answers 0."
abbrev pub direct_byte : List ℕ → ℕ → ℕ
direct_byte chr offset = pick (eqb (length chr) 0) 0 (get_or chr (offset % length chr) 0)
