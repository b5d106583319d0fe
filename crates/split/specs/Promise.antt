-- What is promised of the split, over every state of it: pinned by the contract of `promises`.
use Rattle.std.specs.Prelude.{ℕ, ◌%◌, ◌<◌, ◌≤◌, ◌^◌, Bool, true, ◌≡◌}
use Rattle.split.specs.declared.VSplit.{VSplit}
use Rattle.split.specs.Control.{split_at_load, with_control, with_scroll, with_bank, split_ranges}
use Rattle.split.specs.Region.{scroll_of, split_address, after_name}
use Rattle.split.specs.Places.{attribute_address, attribute_shift, pattern_offset}

pub record Split : Type 0 where
  pub scroll_small : (line : ℕ) (prefetched : Bool) (y : ℕ) → scroll_of line prefetched y < 240
  -- the ranges hold after load, and every change keeps them: a name fetch at any column keeps the address at 959 or less
  pub load_in_ranges : split_ranges split_at_load ≡ true
  pub control_keeps_ranges : (v : VSplit) (n : ℕ) → split_ranges v ≡ true → split_ranges (with_control v n) ≡ true
  pub scroll_keeps_ranges : (v : VSplit) (n : ℕ) → split_ranges v ≡ true → split_ranges (with_scroll v n) ≡ true
  pub bank_keeps_ranges : (v : VSplit) (n : ℕ) → split_ranges v ≡ true → split_ranges (with_bank v n) ≡ true
  pub name_keeps_ranges : (v : VSplit) (column : ℕ) (first : Bool) (scroll : ℕ) → scroll < 240 → split_ranges v ≡ true → split_ranges (after_name v column first scroll) ≡ true
  -- the place lies in a buffer of 1,024 bytes
  pub attribute_inside : (t : ℕ) → attribute_address t < 1024
  -- one of 0, 2, 4 and 6
  pub shift_small : (t : ℕ) → attribute_shift t ≤ 6
  pub shift_even : (t : ℕ) → attribute_shift t % 2 ≡ 0
  -- the offset lies in a mebibyte
  pub pattern_inside : (bank addr scroll : ℕ) → bank < 256 → pattern_offset bank addr scroll < 2 ^ 20

-- "at 959 or less .., column 32 included": with column 32 the address is that of an odd row's first tile, since the column is or-ed in.
pub record Column32 : Type 0 where
  pub within : (scroll column : ℕ) → scroll < 240 → column ≤ 32 → split_address scroll column ≤ 959
  pub odd_row : (scroll : ℕ) → split_address scroll 32 % 64 ≡ 32
  pub at_most_928 : (scroll : ℕ) → scroll < 240 → split_address scroll 32 ≤ 928

-- A name fetch that leaves the region on has a column of at most 32.
abbrev pub InRegion : Type 0
InRegion = (v : VSplit) (column : ℕ) (first : Bool) (scroll : ℕ) → split_ranges v ≡ true → (after_name v column first scroll).in_region ≡ true → column ≤ 32
