-- Worked cases of module 8, in one list: pinned by the contract of `examples`, and computed.
use Rattle.std.specs.Prelude.{ℕ, Bool, true, false, List, [], ◌∷◌, ◌≡◌}
use Rattle.memory.specs.Bits.{as_bit}
use Rattle.memory.specs.Cases.{Case, is, right}
use Rattle.split.specs.declared.VSplit.{VSplit}
use Rattle.split.specs.Control.{split_at_load, with_control}
use Rattle.split.specs.Region.{scroll_of, split_address, with_region, after_name}
use Rattle.split.specs.Places.{attribute_address, attribute_shift, attribute_bits, mirrored_byte, pattern_offset}

-- Split tile 8, the split on the left or on the right, before a fetch outside the region or in it.
abbrev pub on_left : Bool → VSplit
on_left inside = with_region (with_control split_at_load 0x88) inside 5

abbrev pub on_right : Bool → VSplit
on_right inside = with_region (with_control split_at_load 0xC8) inside 5

-- The region and the address after a name fetch.
abbrev pub in_region : VSplit → ℕ
in_region v = as_bit v.in_region

abbrev pub tile_address : VSplit → ℕ
tile_address v = v.tile_addr

unfoldable pub split_cases : List Case
split_cases =
    -- scroll: the last row's last line, the line fetched ahead after it, and $5201 added
    is (scroll_of 239 false 0) 239
    ∷ is (scroll_of 239 true 0) 0
    ∷ is (scroll_of 240 false 255) 15
    -- 01: "scroll 239: column 31 gives 959, column 32 gives 928"
    ∷ is (split_address 239 31) 959
    ∷ is (split_address 239 32) 928
    -- columns 0 and 1, both sides of the next row's start, and column 32 of an even row
    ∷ is (split_address 0 0) 0
    ∷ is (split_address 0 1) 1
    ∷ is (split_address 7 31) 31
    ∷ is (split_address 8 0) 32
    ∷ is (split_address 16 32) 96
    -- the region: from column 0 to the split tile on the left, from the split tile to column 32 on the right
    ∷ is (in_region (after_name (on_left false) 0 true 239)) 1
    ∷ is (tile_address (after_name (on_left false) 0 true 239)) 928
    ∷ is (in_region (after_name (on_left true) 7 true 239)) 1
    ∷ is (in_region (after_name (on_left true) 8 true 239)) 0
    ∷ is (tile_address (after_name (on_left true) 8 true 239)) 5
    ∷ is (in_region (after_name (on_right true) 0 true 239)) 0
    ∷ is (in_region (after_name (on_right false) 8 true 239)) 1
    ∷ is (tile_address (after_name (on_right true) 31 true 239)) 959
    ∷ is (tile_address (after_name (on_right true) 32 true 239)) 928
    ∷ is (in_region (after_name (on_right true) 33 true 239)) 0
    ∷ is (tile_address (after_name (on_right true) 33 true 239)) 5
    -- with a tile count of 42 or more the split tile flips nothing
    ∷ is (in_region (after_name (on_left true) 8 false 239)) 1
    ∷ is (in_region (after_name (on_right false) 8 false 239)) 0
    -- attribute places: tiles 0 and 33 share their two bits, 67 the byte; 31 ends the first row, 959 the last
    ∷ is (attribute_address 0) 0x3C0
    ∷ is (attribute_shift 0) 0
    ∷ is (attribute_address 31) 0x3C7
    ∷ is (attribute_shift 31) 2
    ∷ is (attribute_address 33) 0x3C0
    ∷ is (attribute_shift 33) 0
    ∷ is (attribute_address 67) 0x3C0
    ∷ is (attribute_shift 67) 6
    ∷ is (attribute_address 959) 0x3FF
    ∷ is (attribute_shift 959) 2
    ∷ is (attribute_bits 0xE4 6) 3
    ∷ is (mirrored_byte 2) 0xAA
    ∷ is (pattern_offset 0xFF 0x1FFF 5) 0xFFFFD
    ∷ is (pattern_offset 1 0x0010 7) 0x1017
    ∷ []

unfoldable pub Examples : Type 0
Examples = right split_cases ≡ true
