-- The region and the split tile's address. A column is (tile + 2) mod 42; `first` says that the tile count is under 42, `prefetched` that it
-- is 40 or more.
use Rattle.std.specs.Prelude.{ℕ, ◌+◌, ◌%◌, Bool, false, ◌&&◌, not, eqb, ltb}
use Rattle.memory.specs.Tests.{pick}
use Rattle.split.specs.declared.VSplit.{VSplit}
use Rattle.memory.specs.Bits.{◌AND◌, ◌OR◌, ◌<<◌, as_bit}

-- 01, module 8: "Scroll = (line, + 1 if tile is 40 or more, + $5201) mod 240."
abbrev pub scroll_of : ℕ → Bool → ℕ → ℕ
scroll_of line prefetched y = (line + as_bit prefetched + y) % 240

-- 01, module 8: "Column 0 sets the region to "left side"."
unfoldable pub side_at : VSplit → ℕ → Bool
side_at v column = pick (eqb column 0) (not v.right) v.in_region

-- 01, module 8: "Column equal to split tile with tile count under 42 flips it; otherwise column above 32 clears it."
unfoldable pub region_at : VSplit → ℕ → Bool → Bool
region_at v column first =
    pick (eqb column v.tile && first) (not (side_at v column))
    (pick (ltb 32 column) false (side_at v column))

-- 01, module 8: "In the region the address is ((scroll AND $F8) << 2) OR column."
unfoldable pub split_address : ℕ → ℕ → ℕ
split_address scroll column = ((scroll AND 0xF8) << 2) OR column

abbrev pub with_region : VSplit → Bool → ℕ → VSplit
with_region v inside t =
    record { mode = v.mode; enabled = v.enabled; right = v.right; tile = v.tile; scroll = v.scroll; bank = v.bank; in_region = inside; tile_addr = t }

-- The split after a name fetch to $2FFF at a column.
unfoldable pub after_name : VSplit → ℕ → Bool → ℕ → VSplit
after_name v column first scroll =
    with_region v (region_at v column first) (pick (region_at v column first) (split_address scroll column) v.tile_addr)
