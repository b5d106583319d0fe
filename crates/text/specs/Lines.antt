-- The lines that `replay` prints, as lists of bytes. 01, "Trace". Letters are given by their ASCII codes.
use Rattle.std.specs.Prelude.{ℕ, ◌/◌, ◌%◌, Bool, ◌||◌, List, [], ◌∷◌, ◌++◌, eqb}
use Rattle.memory.specs.Bits.{as_bit}
use Rattle.memory.specs.Tests.{pick}
use Rattle.answers.specs.declared.Answer.{Answer}
use Rattle.answers.specs.declared.Refusal.{Refusal}
use Rattle.answers.specs.declared.Refusal.TheVariants.{Length}
use Rattle.answers.specs.Letters.{letter_of, has_value, value_of}
use Rattle.answers.specs.Numbers.{number_of}
use Rattle.text.specs.Digits.{digits}

-- A line: pieces with a space after each, then the last piece and the newline.
unfoldable pub line : List (List ℕ) → List ℕ → List ℕ
line [] last = last ++ (10 ∷ [])
line (piece ∷ pieces) last = piece ++ (32 ∷ line pieces last)

-- "Answers: `-` none, `R` register, `S` served, `M` page, each with a value, or `B` blank." The letter, and the value where there is one.
abbrev pub answer_pieces : ℕ → Bool → ℕ → List (List ℕ)
answer_pieces letter has value = (letter ∷ []) ∷ pick has (digits value ∷ []) []

-- "One line per record: record number, kind, answer, interrupt 0 or 1."
abbrev pub accepted_line : ℕ → ℕ → Answer → Bool → List ℕ
accepted_line number kind a up = line (digits number ∷ digits kind ∷ answer_pieces (letter_of a) (has_value a) (value_of a)) (digits (as_bit up))

-- "A refused call prints number, kind, `!`, refusal"
abbrev pub refused_line : ℕ → ℕ → Refusal → List ℕ
refused_line number kind why = line (digits number ∷ digits kind ∷ (0x21 ∷ []) ∷ []) (digits (number_of why))

-- "an unreadable record prints number, `?`, refusal"
abbrev pub unreadable_line : ℕ → Refusal → List ℕ
unreadable_line number why = line (digits number ∷ (0x3F ∷ []) ∷ []) (digits (number_of why))

-- "Too long prints `? 11` only."
abbrev pub too_long_line : List ℕ
too_long_line = line ((0x3F ∷ []) ∷ []) (digits (number_of Length))

-- "Else `end` and the count."
abbrev pub end_line : ℕ → List ℕ
end_line count = line ((0x65 ∷ 0x6E ∷ 0x64 ∷ []) ∷ []) (digits count)

-- `R`, `S` and `M` have a value.
abbrev pub valued : ℕ → Bool
valued letter = eqb letter 0x52 || (eqb letter 0x53 || eqb letter 0x4D)

-- The line of an answer as a log holds it in two bytes (crate `logs`): its letter, with 128 more where the interrupt is up, and its value. For such a
-- pair it is `accepted_line` (specs/Promise.antt, `logged`).
abbrev pub logged_line : ℕ → ℕ → ℕ → ℕ → List ℕ
logged_line number kind first second =
    line (digits number ∷ digits kind ∷ answer_pieces (first % 128) (valued (first % 128)) second) (digits (first / 128))
