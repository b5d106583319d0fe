-- 01's words for bits, so that its formulas stand here as they stand there.
use Rattle.std.specs.Prelude.{ℕ, ◌*◌, ◌/◌, ◌%◌, ◌^◌, Bool, true, false, ◌==◌, bit_and, bit_or}

infixl 56 ◌AND◌ ◌OR◌
infixl 58 ◌<<◌ ◌>>◌
abbrev pub ◌AND◌ : ℕ → ℕ → ℕ
a AND b = bit_and a b

abbrev pub ◌OR◌ : ℕ → ℕ → ℕ
a OR b = bit_or a b

abbrev pub ◌<<◌ : ℕ → ℕ → ℕ
a << k = a * 2 ^ k

abbrev pub ◌>>◌ : ℕ → ℕ → ℕ
a >> k = a / 2 ^ k

-- bit k of a number is set
abbrev pub bit_set : ℕ → ℕ → Bool
bit_set a k = (a >> k) % 2 == 1

-- a test as a bit
abbrev pub as_bit : Bool → ℕ
as_bit true = 1
as_bit false = 0
