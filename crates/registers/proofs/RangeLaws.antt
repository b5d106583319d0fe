-- The ranges of the small registers as facts with names, and that load and every write leave them so.
use Prim.Native.Nat.{ℕ, ◌%◌, ◌≤◌}
use mathlib.Core.Bool.{true}
use mathlib.Core.Path.{◌≡◌, refl}
use native.Mathlib.Omega.{arith}
use Rattle.std.proofs.lemmas.Grind.{common_steps}
use Rattle.registers.specs.declared.Regs.{Regs}
use Rattle.registers.specs.Registers.{regs_at_load, written, regs_ok}

pub record Ranges (g : Regs) : Type 0 where
  pub prg_mode : g.prg_mode ≤ 3
  pub chr_mode : g.chr_mode ≤ 3
  pub exram_mode : g.exram_mode ≤ 3
  pub fill_attr : g.fill_attr ≤ 3
  pub protect_a : g.protect_a ≤ 3
  pub protect_b : g.protect_b ≤ 3
  pub hi_whole : g.chr_hi % 256 ≡ 0
  pub hi_most : g.chr_hi ≤ 768

pub ranges_say : (g : Regs) → regs_ok g ≡ true → Ranges g
unfolding regs_ok
ranges_say g e = grind (arith, common_steps)

pub ranges_hold : (g : Regs) → Ranges g → regs_ok g ≡ true
unfolding regs_ok
ranges_hold g r = grind (arith, common_steps)

pub loaded_in_range : regs_ok regs_at_load ≡ true
unfolding regs_ok
loaded_in_range = refl

pub write_keeps : (g : Regs) (a v : ℕ) → regs_ok g ≡ true → regs_ok (written g a v) ≡ true
unfolding written
write_keeps g a v e = let r = ranges_say g e in ranges_hold (written g a v) (grind (arith, common_steps))
