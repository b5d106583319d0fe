-- What an answer is printed as. 01, "Trace": "Answers: `-` none, `R` register, `S` served, `M` page, each with a value, or `B` blank. A refused call
-- prints number, kind, `!`, refusal". Letters are given by their ASCII codes.
use Rattle.std.specs.Prelude.{ℕ, Bool, true, false}
use Rattle.answers.specs.declared.Answer.{Answer}
use Rattle.answers.specs.declared.Answer.TheVariants.{Nothing, Register, Served, Page, Blank, Refused}
use Rattle.answers.specs.Numbers.{number_of}

abbrev pub letter_of : Answer → ℕ
letter_of Nothing = 0x2D
letter_of (Register v) = 0x52
letter_of (Served v) = 0x53
letter_of (Page v) = 0x4D
letter_of Blank = 0x42
letter_of (Refused r) = 0x21

abbrev pub has_value : Answer → Bool
has_value Nothing = false
has_value (Register v) = true
has_value (Served v) = true
has_value (Page v) = true
has_value Blank = false
has_value (Refused r) = true

-- The value that is printed; where none is, 0.
abbrev pub value_of : Answer → ℕ
value_of Nothing = 0
value_of (Register v) = v
value_of (Served v) = v
value_of (Page v) = v
value_of Blank = 0
value_of (Refused r) = number_of r
