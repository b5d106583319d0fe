-- Laws of the places: 01's formulas of bits are sums of digits, and what they name lies in ExRAM and in CHR.
use Prim.Native.Nat.{ℕ, ◌+◌, ◌*◌, ◌/◌, ◌%◌, ◌^◌, ◌<◌, ◌≤◌}
use mathlib.Core.Path.{◌≡◌, ap, ◌∙◌}
use native.Mathlib.Omega.{arith}
use native.Mathlib.Nat.{lt_of_lt_of_le, div-eq_of_lt}
use lib.Bits.{and_high, and_mask, or_shifted}
use lib.Pow.{pow_mono}
use Rattle.memory.specs.Bits.{◌AND◌, ◌OR◌, ◌<<◌, ◌>>◌}
use Rattle.split.specs.Places.{attribute_address, attribute_shift, attribute_bits, low_three_clear, pattern_offset}

-- The attribute place

-- Three numbers with no bit in common.
three_parts : (x y : ℕ) → x < 8 → y < 8 → 0x3C0 OR (x * 8) OR y ≡ 960 + x * 8 + y
three_parts x y hx hy =
    let high : 0x3C0 OR (x * 8) ≡ 960 + x * 8 = or_shifted 15 6 (x * 8) (omega arith) in
    let eight : 960 + x * 8 ≡ (120 + x) * 8 = omega arith in
    ap (λ (n : ℕ). n OR y) (high ∙ eight) ∙ (or_shifted (120 + x) 3 y hy ∙ omega arith)

pub attribute_digits : (t : ℕ) → attribute_address t ≡ 960 + t / 128 % 8 * 8 + t % 32 / 4
unfolding attribute_address
attribute_digits t =
    let row : (t AND 0x380) >> 4 ≡ t / 128 % 8 * 8 = omega (arith, and_high t 3 7) in
    let column : (t AND 0x1F) >> 2 ≡ t % 32 / 4 = ap (λ (n : ℕ). n >> 2) (and_mask t 5) in
    ap (λ (n : ℕ). 0x3C0 OR n OR ((t AND 0x1F) >> 2)) row
    ∙ (ap (λ (n : ℕ). 0x3C0 OR (t / 128 % 8 * 8) OR n) column
    ∙ three_parts (t / 128 % 8) (t % 32 / 4) (omega arith) (omega arith))

pub shift_digits : (t : ℕ) → attribute_shift t ≡ t / 64 % 2 * 4 + t / 2 % 2 * 2
unfolding attribute_shift
shift_digits t =
    let row : (t >> 4) AND 4 ≡ t / 64 % 2 * 4 = omega (arith, and_high (t / 16) 1 2) in
    ap (λ (n : ℕ). n OR (t AND 2)) row
    ∙ (ap (λ (n : ℕ). (t / 64 % 2 * 4) OR n) (and_high t 1 1)
    ∙ or_shifted (t / 64 % 2) 2 (t / 2 % 2 * 2) (omega arith))

pub attribute_inside : (t : ℕ) → attribute_address t < 1024
attribute_inside t = omega (arith, attribute_digits t)

-- One of 0, 2, 4 and 6.
pub shift_small : (t : ℕ) → attribute_shift t ≤ 6
shift_small t = omega (arith, shift_digits t)

pub shift_even : (t : ℕ) → attribute_shift t % 2 ≡ 0
shift_even t = omega (arith, shift_digits t)

-- A byte shifted by eight or more is 0.
pub shifted_out : (byte shift : ℕ) → byte < 2 ^ 8 → 8 ≤ shift → attribute_bits byte shift ≡ 0
shifted_out byte shift h k = ap (λ (n : ℕ). n % 4) (div-eq_of_lt (lt_of_lt_of_le h (pow_mono k)))

-- The pattern

pub pattern_digits : (bank addr scroll : ℕ) → pattern_offset bank addr scroll ≡ bank * 4096 + addr / 8 % 512 * 8 + scroll % 8
unfolding pattern_offset
pattern_digits bank addr scroll =
    let line : low_three_clear addr OR (scroll AND 7) ≡ addr / 8 * 8 + scroll % 8 =
    ap (λ (n : ℕ). low_three_clear addr OR n) (and_mask scroll 3) ∙ or_shifted (addr / 8) 3 (scroll % 8) (omega arith)
    in
    let low : (low_three_clear addr OR (scroll AND 7)) AND 0xFFF ≡ addr / 8 % 512 * 8 + scroll % 8 =
    and_mask (low_three_clear addr OR (scroll AND 7)) 12 ∙ (ap (λ (n : ℕ). n % 4096) line ∙ omega arith)
    in
    ap (λ (n : ℕ). (bank << 12) OR n) low
    ∙ (or_shifted bank 12 (addr / 8 % 512 * 8 + scroll % 8) (omega arith) ∙ omega arith)

pub pattern_inside : (bank addr scroll : ℕ) → bank < 256 → pattern_offset bank addr scroll < 2 ^ 20
pattern_inside bank addr scroll h = omega (arith, pattern_digits bank addr scroll)
