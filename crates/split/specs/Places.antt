-- What a fetch in the region gets, with t the split tile's address.
use Rattle.std.specs.Prelude.{ℕ, ◌%◌, [], ◌∷◌, get_or}
use Rattle.split.specs.declared.AttributePlace.{AttributePlace}
use Rattle.memory.specs.Bits.{◌AND◌, ◌OR◌, ◌<<◌, ◌>>◌}

-- 01, module 8: "ExRAM at $3C0 OR ((t AND $380) >> 4) OR ((t AND $1F) >> 2)".
unfoldable pub attribute_address : ℕ → ℕ
attribute_address t = 0x3C0 OR ((t AND 0x380) >> 4) OR ((t AND 0x1F) >> 2)

-- 01, module 8: "shifted right by ((t >> 4) AND 4) OR (t AND 2)".
unfoldable pub attribute_shift : ℕ → ℕ
attribute_shift t = ((t >> 4) AND 4) OR (t AND 2)

abbrev pub attribute_place : ℕ → AttributePlace
attribute_place t = record { addr = attribute_address t; shift = attribute_shift t }

-- 01, module 8: "shifted right by .., low two bits".
abbrev pub attribute_bits : ℕ → ℕ → ℕ
attribute_bits byte shift = (byte >> shift) % 4

-- 01, module 6: "mirrored ($00, $55, $AA, $FF for 0-3)".
unfoldable pub mirrored_byte : ℕ → ℕ
mirrored_byte bits = get_or (0x00 ∷ 0x55 ∷ 0xAA ∷ 0xFF ∷ []) (bits % 4) 0

-- "address with its low three bits clear"
abbrev pub low_three_clear : ℕ → ℕ
low_three_clear addr = (addr >> 3) << 3

-- 01, module 8: "CHR at ($5202 << 12) OR (((address with its low three bits clear) OR (scroll AND 7)) AND $FFF)."
unfoldable pub pattern_offset : ℕ → ℕ → ℕ → ℕ
pattern_offset bank addr scroll = (bank << 12) OR ((low_three_clear addr OR (scroll AND 7)) AND 0xFFF)
