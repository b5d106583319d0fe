-- A lent buffer and the place where the next byte goes, and a text written there. Assumes nothing of the buffer or the place.
use Rattle.std.specs.Prelude.{ℕ, ◌+◌, List, [], ◌∷◌, ltb, length, set}
use Rattle.memory.specs.Tests.{pick}
use Rattle.text.specs.declared.pen.Pen.{Pen}

pub record Sheet : Type 0 where
  pub bytes : List ℕ
  pub place : ℕ

abbrev pub sheet : List ℕ → ℕ → Sheet
sheet b p = record { bytes = b; place = p }

-- One byte. Where there is no room it is dropped, and the place stays.
unfoldable pub byte_placed : Sheet → ℕ → Sheet
byte_placed s b = pick (ltb s.place (length s.bytes)) (sheet (set s.bytes s.place b) (s.place + 1)) s

-- The bytes of a text, one after another.
unfoldable pub text_written : Sheet → List ℕ → Sheet
text_written s [] = s
text_written s (b ∷ text) = text_written (byte_placed s b) text

-- A pen over the same buffer, with the bytes and at the place of a sheet.
abbrev pub over : Pen → Sheet → Pen
over p s = record p { out = record p.out { now = s.bytes }; at = s.place }

-- The pen after a text.
unfoldable pub written : Pen → List ℕ → Pen
written p text = over p (text_written (sheet p.out.now p.at) text)
