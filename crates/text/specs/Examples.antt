-- Worked cases: each computes.
use Rattle.std.specs.Prelude.{ℕ, true, false, List, [], ◌∷◌, ◌++◌, ◌≡◌}
use Rattle.answers.specs.declared.Answer.TheVariants.{Nothing, Register, Served, Page, Blank}
use Rattle.answers.specs.declared.Refusal.TheVariants.{Audio, Number}
use Rattle.text.specs.Sheet.{sheet, text_written}
use Rattle.text.specs.Digits.{digits}
use Rattle.text.specs.Lines.{accepted_line, refused_line, unreadable_line, too_long_line, end_line}

-- What 01 prints for its input, a row of codes for each line: `0 1 M 24 0`, `1 2 - 0`, `2 1 R 249 0`, `3 1 R 6 0`, `4 0 - 0`, `5 4 M 0 0`, `end 6`.
abbrev pub worked_lines : List ℕ
worked_lines =
    0x30 ∷ 0x20 ∷ 0x31 ∷ 0x20 ∷ 0x4D ∷ 0x20 ∷ 0x32 ∷ 0x34 ∷ 0x20 ∷ 0x30 ∷ 0x0A ∷
    0x31 ∷ 0x20 ∷ 0x32 ∷ 0x20 ∷ 0x2D ∷ 0x20 ∷ 0x30 ∷ 0x0A ∷
    0x32 ∷ 0x20 ∷ 0x31 ∷ 0x20 ∷ 0x52 ∷ 0x20 ∷ 0x32 ∷ 0x34 ∷ 0x39 ∷ 0x20 ∷ 0x30 ∷ 0x0A ∷
    0x33 ∷ 0x20 ∷ 0x31 ∷ 0x20 ∷ 0x52 ∷ 0x20 ∷ 0x36 ∷ 0x20 ∷ 0x30 ∷ 0x0A ∷
    0x34 ∷ 0x20 ∷ 0x30 ∷ 0x20 ∷ 0x2D ∷ 0x20 ∷ 0x30 ∷ 0x0A ∷
    0x35 ∷ 0x20 ∷ 0x34 ∷ 0x20 ∷ 0x4D ∷ 0x20 ∷ 0x30 ∷ 0x20 ∷ 0x30 ∷ 0x0A ∷
    0x65 ∷ 0x6E ∷ 0x64 ∷ 0x20 ∷ 0x36 ∷ 0x0A ∷ []

pub record Examples : Type 0 where
  pub worked :
      accepted_line 0 1 (Page 24) false ++ accepted_line 1 2 Nothing false ++ accepted_line 2 1 (Register 249) false
      ++ accepted_line 3 1 (Register 6) false ++ accepted_line 4 0 Nothing false ++ accepted_line 5 4 (Page 0) false ++ end_line 6 ≡ worked_lines
  -- `7 4 S 85 1`, `8 4 B 1`
  pub served : accepted_line 7 4 (Served 85) true ≡ 0x37 ∷ 0x20 ∷ 0x34 ∷ 0x20 ∷ 0x53 ∷ 0x20 ∷ 0x38 ∷ 0x35 ∷ 0x20 ∷ 0x31 ∷ 0x0A ∷ []
  pub blank : accepted_line 8 4 Blank true ≡ 0x38 ∷ 0x20 ∷ 0x34 ∷ 0x20 ∷ 0x42 ∷ 0x20 ∷ 0x31 ∷ 0x0A ∷ []
  -- `5 1 ! 6`, `3 ? 10`, `? 11`
  pub refused : refused_line 5 1 Audio ≡ 0x35 ∷ 0x20 ∷ 0x31 ∷ 0x20 ∷ 0x21 ∷ 0x20 ∷ 0x36 ∷ 0x0A ∷ []
  pub unreadable : unreadable_line 3 Number ≡ 0x33 ∷ 0x20 ∷ 0x3F ∷ 0x20 ∷ 0x31 ∷ 0x30 ∷ 0x0A ∷ []
  pub too_long : too_long_line ≡ 0x3F ∷ 0x20 ∷ 0x31 ∷ 0x31 ∷ 0x0A ∷ []
  -- `0`, `10`, `8192`, `4294967295`
  pub none : digits 0 ≡ 0x30 ∷ []
  pub ten : digits 10 ≡ 0x31 ∷ 0x30 ∷ []
  pub longest : digits 8192 ≡ 0x38 ∷ 0x31 ∷ 0x39 ∷ 0x32 ∷ []
  pub largest : digits 4294967295 ≡ 0x34 ∷ 0x32 ∷ 0x39 ∷ 0x34 ∷ 0x39 ∷ 0x36 ∷ 0x37 ∷ 0x32 ∷ 0x39 ∷ 0x35 ∷ []
  -- In a buffer of four bytes, from its second on, the last two digits of five find no room.
  pub short : text_written (sheet (1 ∷ 2 ∷ 3 ∷ 4 ∷ []) 1) (digits 56789) ≡ sheet (1 ∷ 0x35 ∷ 0x36 ∷ 0x37 ∷ []) 4
