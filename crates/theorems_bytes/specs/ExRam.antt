-- ExRAM from the CPU, by its mode; and that reset maps nothing. Assumes that the board is taken (Taken.antt).
use Rattle.std.specs.Prelude.{ℕ, ◌+◌, ◌%◌, ◌<◌, false, List, ◌≡◌, eqb, ltb, get_or, set}
use Rattle.memory.specs.Bytes.{Mem}
use Rattle.memory.specs.Tests.{pick}
use Rattle.answers.specs.declared.Answer.TheVariants.{Page, Blank}
use Rattle.state.specs.declared.State.{State}
use Rattle.board.specs.CpuSide.{cpu_read, cpu_write}
use Rattle.board.specs.StateCalls.{reset_call}
use Rattle.board_ppu.specs.Peeks.{ppu_peek}
use Rattle.theorems_bytes.specs.Taken.{Taken, read_at}

-- The byte that a write of n stores. Module 6: "In modes 0, 1 a CPU write to $5C00-$5FFF stores the value when rendering, else 0." Module 3: "page
-- write only in 2".
abbrev pub stored : ℕ → State → List ℕ → ℕ → ℕ → List ℕ
stored mode s exram o n = pick (ltb mode 2) (set exram o (pick s.ppu.rendering n 0)) (pick (eqb mode 2) (set exram o n) exram)

pub record ExRamBytes : Type 0 where
  -- after $5104 = v the mode is v's two low bits. Module 3: "CPU read in 2, 3"
  pub read : (s : State) (m : Mem) → Taken s m → (v o : ℕ) → o < 1024
      → let x = cpu_write s m 0x5104 v in read_at x (0x5C00 + o) ≡ pick (ltb (v % 4) 2) Blank (Page (get_or x.mem.exram o 0))
  pub write : (s : State) (m : Mem) → Taken s m → (v o n : ℕ) → o < 1024
      → let x = cpu_write s m 0x5104 v in
      (cpu_write x.out.state x.mem (0x5C00 + o) n).mem.exram ≡ stored (v % 4) x.out.state x.mem.exram o n

pub record ResetMapsNothing : Type 0 where
  -- module 10: "Reset sets modes 8k and 1k and maps nothing": every byte is read as before, but the two modes
  pub reads : (s : State) (m : Mem) → Taken s m → (a : ℕ) → eqb a 0x5100 ≡ false → eqb a 0x5101 ≡ false
      → (cpu_read (reset_call s).state m a).answer ≡ (cpu_read s m a).answer
  pub modes : (s : State) (m : Mem) → Taken s m → ((reset_call s).state.regs.prg_mode ≡ 3) × ((reset_call s).state.regs.chr_mode ≡ 3)
  pub peeks : (s : State) (m : Mem) → Taken s m → (a : ℕ) → ppu_peek (reset_call s).state m a ≡ ppu_peek s m a
