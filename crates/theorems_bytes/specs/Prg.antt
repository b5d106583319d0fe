-- PRG: what the CPU reads at $6000-$FFFF after a write to a register that maps PRG. Assumes that the board is taken (Taken.antt).
use Rattle.std.specs.Prelude.{ℕ, ◌+◌, ◌*◌, ◌%◌, ◌<◌, true, ◌&&◌, not, ◌≡◌, leb, get_or, length}
use Rattle.memory.specs.Bytes.{Mem}
use Rattle.memory.specs.Tests.{pick}
use Rattle.answers.specs.declared.Answer.{Answer}
use Rattle.answers.specs.declared.Answer.TheVariants.{Page}
use Rattle.registers.specs.Registers.{unlocked}
use Rattle.banks.specs.Prg.{prg_values}
use Rattle.cpu.specs.Writes.{maps_prg}
use Rattle.state.specs.declared.State.{State}
use Rattle.board.specs.CpuSide.{cpu_write}
use Rattle.theorems_bytes.specs.Taken.{Taken, read_at, bank_byte}

-- Windows are numbered from 0, at $6000, to 4, at $E000.
abbrev pub in_window : ℕ → ℕ → ℕ
in_window w o = 0x6000 + w * 8192 + o

-- The value that a window shows, from the registers as they are now.
abbrev pub value_at : State → ℕ → ℕ
value_at s w = get_or (prg_values s.regs.prg_mode s.prg_banks) w 0

-- Module 4: "bit 7 set means ROM with seven bits, clear means RAM with three."
abbrev pub value_byte : Mem → ℕ → ℕ → Answer
value_byte m v o = pick (leb 128 v) (bank_byte m.prg (v % 128) o) (bank_byte m.ram (v % 8) o)

pub record PrgBytes : Type 0 where
  -- after a write to $5100, $5102, $5103 or $5113-$5117 each window answers the bytes of the bank that its value names, in every mode
  pub window : (s : State) (m : Mem) → Taken s m → (r v : ℕ) → maps_prg r ≡ true → (w o : ℕ) → w < 5 → o < 8192
      → let x = cpu_write s m r v in read_at x (in_window w o) ≡ value_byte x.mem (value_at x.out.state w) o
  -- for instance: in mode 3, after $5114 = v, the 8k at $8000 are bank v
  pub at_8000 : (s : State) (m : Mem) → Taken s m → s.regs.prg_mode ≡ 3 → (v o : ℕ) → o < 8192
      → let x = cpu_write s m 0x5114 v in read_at x (0x8000 + o) ≡ value_byte x.mem v o
  -- "RAM pages are writable only with $5102 = 2 and $5103 = 1": a byte written there is read again, locked or in ROM it is not taken
  pub ram_write : (s : State) (m : Mem) → Taken s m → (r v : ℕ) → maps_prg r ≡ true → (w o n : ℕ) → w < 5 → o < 8192
      → let x = cpu_write s m r v in let y = cpu_write x.out.state x.mem (in_window w o) n in
      read_at y (in_window w o)
      ≡ pick (not (leb 128 (value_at x.out.state w)) && (unlocked x.out.state.regs && leb 1 (length x.mem.ram))) (Page n) (read_at x (in_window w o))
