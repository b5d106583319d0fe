-- Laws of the split's registers: the ranges hold after load, and each register keeps them.
use Prim.Native.Nat.{ℕ, ◌≤◌}
use mathlib.Core.Bool.{true}
use mathlib.Core.Path.{◌≡◌, refl}
use native.Mathlib.Omega.{arith}
use Rattle.std.proofs.lemmas.Grind.{common_steps}
use Rattle.split.specs.declared.VSplit.{VSplit}
use Rattle.split.specs.Control.{split_at_load, with_control, with_scroll, with_bank, split_ranges}

pub address_in_range : (v : VSplit) → split_ranges v ≡ true → v.tile_addr ≤ 959
address_in_range v h = grind (arith, common_steps)

pub load_in_ranges : split_ranges split_at_load ≡ true
load_in_ranges = refl

pub control_keeps_ranges : (v : VSplit) (n : ℕ) → split_ranges v ≡ true → split_ranges (with_control v n) ≡ true
control_keeps_ranges v n h = grind (arith, common_steps)

pub scroll_keeps_ranges : (v : VSplit) (n : ℕ) → split_ranges v ≡ true → split_ranges (with_scroll v n) ≡ true
scroll_keeps_ranges v n h = h

pub bank_keeps_ranges : (v : VSplit) (n : ℕ) → split_ranges v ≡ true → split_ranges (with_bank v n) ≡ true
bank_keeps_ranges v n h = h
