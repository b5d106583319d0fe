-- Laws of the region: the scroll is below 240, the split tile's address is at most 959, and a name fetch keeps the ranges.
use Prim.Native.Nat.{ℕ, ◌+◌, ◌*◌, ◌/◌, ◌%◌, ◌<◌, ◌≤◌}
use mathlib.Core.Bool.{Bool, true}
use mathlib.Core.Path.{◌≡◌, ap}
use native.Mathlib.Omega.{arith}
use borrow.Author.Tests.{ltb-true, ltb-false}
use lib.Bits.{and_high, or_add_and, or_shifted}
use lib.Dec.{ltb}
use Rattle.std.proofs.lemmas.Grind.{common_steps}
use Rattle.memory.proofs.Tests.{split}
use Rattle.split.specs.declared.VSplit.{VSplit}
use Rattle.memory.specs.Bits.{◌AND◌, ◌OR◌, ◌<<◌}
use Rattle.split.specs.Control.{split_ranges}
use Rattle.split.specs.Region.{scroll_of, region_at, split_address, after_name}
use Rattle.split.specs.Promise.{Column32, InRegion}

pub scroll_small : (line : ℕ) (prefetched : Bool) (y : ℕ) → scroll_of line prefetched y < 240
scroll_small line prefetched y = omega arith

-- The row of the split tile: 32 tiles for each eight lines.
pub row_digits : (scroll : ℕ) → (scroll AND 0xF8) << 2 ≡ scroll / 8 % 32 * 32
row_digits scroll = omega (arith, and_high scroll 5 3)

pub split_address_digits : (scroll column : ℕ) → split_address scroll column ≡ (scroll / 8 % 32 * 32) OR column
unfolding split_address
split_address_digits scroll column = ap (λ (n : ℕ). n OR column) (row_digits scroll)

-- Column 32 is the row's lowest bit: an odd row keeps its own first tile, an even one gets that of the row after.
column_32 : (row : ℕ) → ((row * 32) OR 32) + row % 2 * 32 ≡ row * 32 + 32
column_32 row = omega (arith, or_add_and (row * 32) 32, and_high (row * 32) 1 5)

-- A row and a column below 32 have no bit in common.
row_inside : (row column : ℕ) → row ≤ 29 → column ≤ 32 → (row * 32) OR column ≤ 959
row_inside row column h k =
    split (ltb column 32)
    (λ t. let s = ltb-true column 32 t in omega (arith, or_shifted row 5 column s))
    (λ t. let s = ltb-false column 32 t in
    let e : column ≡ 32 = omega arith in
    rw e (omega (arith, column_32 row)))

pub address_inside : (scroll column : ℕ) → scroll < 240 → column ≤ 32 → split_address scroll column ≤ 959
address_inside scroll column h k = rw split_address_digits (row_inside (scroll / 8 % 32) column (omega arith) k)

pub column_32_inside : Column32
column_32_inside =
    record {
      within = address_inside;
      odd_row = λ scroll. rw split_address_digits (omega (arith, column_32 (scroll / 8 % 32)));
      at_most_928 = λ scroll h. rw split_address_digits (omega (arith, column_32 (scroll / 8 % 32)));
    }

-- A split tile is at most 31, so no column above 32 flips the region.
pub in_region_lem : InRegion
unfolding after_name region_at
in_region_lem = grind (arith, common_steps)

-- A name fetch at any column, 32 included, keeps the split tile and the address in their ranges.
pub name_keeps_ranges : (v : VSplit) (column : ℕ) (first : Bool) (scroll : ℕ)
    → scroll < 240 → split_ranges v ≡ true → split_ranges (after_name v column first scroll) ≡ true
unfolding after_name region_at
name_keeps_ranges v column first scroll h r = grind (arith, common_steps, address_inside)
