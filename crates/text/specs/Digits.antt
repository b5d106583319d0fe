-- Decimals. 01, "Trace": "Numbers are printed in decimal, most significant digit first." A digit is given by its ASCII code, 48 for 0.
use Rattle.std.specs.Prelude.{ℕ, zero, suc, ◌+◌, ◌-◌, ◌*◌, ◌/◌, ◌%◌, ◌≤◌, List, [], ◌∷◌}

-- The digits of a number set before a text, as long as anything is left of the number; at most so many.
unfoldable pub before : ℕ → ℕ → List ℕ → List ℕ
before zero n text = text
before (suc most) zero text = text
before (suc most) (suc n) text = before most (suc n / 10) ((48 + suc n % 10) ∷ text)

-- The last digit, also of 0, and before it the digits of the tens: of n there are at most n.
abbrev pub digits : ℕ → List ℕ
digits n = before n (n / 10) ((48 + n % 10) ∷ [])

-- The value of digits, read from the first to the last after what was read before them.
unfoldable pub read_on : ℕ → List ℕ → ℕ
read_on v [] = v
read_on v (d ∷ ds) = read_on (v * 10 + (d - 48)) ds

abbrev pub decimal_value : List ℕ → ℕ
decimal_value = read_on 0

-- Each byte is one of `0` to `9`.
unfoldable pub AllDigits : List ℕ → Type 0
AllDigits [] = Unit {0}
AllDigits (d ∷ ds) = (48 ≤ d) × (d ≤ 57) × AllDigits ds
