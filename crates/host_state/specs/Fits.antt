-- A state whose arrays have their lengths and whose numbers fit their types, as every state has that the code holds: a contract does not speak of types.
-- Of the fields with a range of their own the ranges say more. Assumes nothing.
use Rattle.std.specs.Prelude.{ℕ, ◌≤◌, ◌≡◌, length, get_or}
use Rattle.state.specs.declared.State.{State}

pub record Fits (s : State) : Type 0 where
  pub prg_banks : length s.prg_banks ≡ 5
  pub chr_banks : length s.chr_banks ≡ 16
  pub prg_pages : length s.prg_pages ≡ 64
  pub chr_pages : length s.chr_pages ≡ 16
  pub prg_bytes : (i : ℕ) → get_or s.prg_banks i 0 ≤ 255
  pub chr_bytes : (i : ℕ) → get_or s.chr_banks i 0 ≤ 255
  pub nametables : s.regs.nametables ≤ 255
  pub fill_tile : s.regs.fill_tile ≤ 255
  pub multiplicand : s.regs.multiplicand ≤ 255
  pub multiplier : s.regs.multiplier ≤ 255
  pub mode : s.vsplit.mode ≤ 255
  pub scroll : s.vsplit.scroll ≤ 255
  pub bank : s.vsplit.bank ≤ 255
  pub match_count : s.irq.match_count ≤ 255
  pub irq_scanline : s.irq.irq_scanline ≤ 255
  pub prev_addr : s.irq.prev_addr.0 ≤ 65535
