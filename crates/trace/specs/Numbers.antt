-- Numbers in a trace: what stands where a number is to be read, on lists of bytes. Assumes nothing of the bytes.
-- 01, "Trace": "numbers in groups of seven bits, lowest group first, top bit set on all but the last, shortest form only."
-- 01, refusal 10: "a number is cut, not in shortest form, or above its limit".
use Rattle.std.specs.Prelude.{ℕ, zero, suc, ◌+◌, ◌*◌, ◌%◌, Result, Ok, Err, List, [], ◌∷◌, eqb, ltb, leb, drop}
use Rattle.memory.specs.Tests.{pick}
use Rattle.trace.specs.declared.BadNumber.{BadNumber}
use Rattle.trace.specs.declared.BadNumber.TheVariants.{Cut, Padded, Above}

-- What stands where a number is to be read: a number and the place after it, or why there is none.
abbrev pub Numeral : Type 0
Numeral = Result (ℕ × ℕ) BadNumber

-- "lowest group first": behind groups worth `low`, a number `high` of which each one counts `weight`. "shortest form only": where it is 0, it is
-- padding.
unfoldable pub grouped : ℕ → ℕ → Numeral → Numeral
grouped low weight (Ok (high, next)) = pick (eqb high 0) (Err Padded) (Ok (low + weight * high, next))
grouped low weight (Err bad) = Err bad

-- The number that bytes begin with, in at most so many groups; the first byte's place is `at`. "top bit set on all but the last": a byte
-- below 128 is a last group; another is 128 and its group, and a number follows it.
unfoldable pub numeral : ℕ → ℕ → List ℕ → Numeral
numeral zero at bytes = Err Above
numeral (suc groups) at [] = Err Cut
numeral (suc groups) at (b ∷ bytes) = pick (ltb b 128) (Ok (b, at + 1)) (grouped (b % 128) 128 (numeral groups (at + 1) bytes))

-- "above its limit"
unfoldable pub limited : ℕ → Numeral → Numeral
limited limit (Ok (n, next)) = pick (leb n limit) (Ok (n, next)) (Err Above)
limited limit (Err bad) = Err bad

-- The number at a place of a trace, in so many groups and up to a limit.
abbrev pub number_at : ℕ → ℕ → List ℕ → ℕ → Numeral
number_at groups limit trace at = limited limit (numeral groups at (drop at trace))

-- "Addresses to 65,535, values to 255." A number of more than three groups is cut, padded or above the one limit, of more than two the other
-- (specs/Promise.antt, `refused`, knows no number of groups).
abbrev pub address_at : List ℕ → ℕ → Numeral
address_at = number_at 3 65535

abbrev pub value_at : List ℕ → ℕ → Numeral
value_at = number_at 2 255
