-- What is promised of writing beyond the definitions, as one statement, which the contract of `promises` holds.
use Rattle.std.specs.Prelude.{ℕ, suc, ◌+◌, ◌*◌, ◌^◌, ◌<◌, ◌≤◌, Bool, List, ◌∷◌, ◌++◌, ◌≡◌, length, get_or, take, drop}
use Rattle.memory.specs.Bits.{as_bit}
use Rattle.answers.specs.declared.Answer.{Answer}
use Rattle.answers.specs.declared.Answer.TheVariants.{Refused}
use Rattle.answers.specs.declared.Refusal.{Refusal}
use Rattle.answers.specs.Letters.{letter_of, value_of}
use Rattle.text.specs.Sheet.{Sheet, sheet, text_written}
use Rattle.text.specs.Digits.{digits, decimal_value, AllDigits}
use Rattle.text.specs.Lines.{accepted_line, logged_line}

pub record Writing : Type 0 where
  -- Two texts one after another are one text.
  pub joined : (s : Sheet) (xs ys : List ℕ) → text_written s (xs ++ ys) ≡ text_written (text_written s xs) ys
  -- A text that finds room stands there whole, and nothing else changes.
  pub fits : (out : List ℕ) (at : ℕ) (xs : List ℕ) → at + length xs ≤ length out
      → text_written (sheet out at) xs ≡ sheet (take at out ++ xs ++ drop (at + length xs) out) (at + length xs)
  -- Past the end nothing is written.
  pub full : (out : List ℕ) (at : ℕ) (xs : List ℕ) → length out ≤ at → text_written (sheet out at) xs ≡ sheet out at
  -- The digits of a number are digits, read back as the number, and have no 0 in front of others.
  pub decimal : (n : ℕ) → AllDigits (digits n)
  pub value : (n : ℕ) → decimal_value (digits n) ≡ n
  pub no_zero : (n : ℕ) → 1 ≤ n → 49 ≤ get_or (digits n) 0 0
  -- There are no others: digits that do not begin with 0 are those of their value.
  pub only : (d : ℕ) (ds : List ℕ) → 49 ≤ d → AllDigits (d ∷ ds) → digits (decimal_value (d ∷ ds)) ≡ d ∷ ds
  -- A number below the `k + 1`st power of ten has at most `k + 1` digits.
  pub few : (k n : ℕ) → n < 10 ^ suc k → length (digits n) ≤ suc k
  -- The two bytes of an answer that is no refusal print as the answer does.
  pub logged : (number kind : ℕ) (a : Answer) (up : Bool) → ((why : Refusal) → a ≡ Refused why → ⊥)
      → logged_line number kind (letter_of a + 128 * as_bit up) (value_of a) ≡ accepted_line number kind a up
