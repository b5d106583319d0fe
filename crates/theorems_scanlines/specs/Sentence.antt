-- 01's sentence on a line, word by word, for a reader who does not trust `recent` and `alike`:
-- "A line is a fetch at $2000-$2FFF equal to the two before it, no break among the three, where the fetch before those differs, is
-- missing, or lies behind a break."
-- Assumes nothing.
use Rattle.std.specs.Prelude.{ℕ, ◌≡◌, true, false, ◌∷◌, ◌↔◌}
use Rattle.theorems_scanlines.specs.Events.{fetches, counts, address}
use Rattle.theorems_scanlines.specs.Calls.{Event}
use Rattle.theorems_scanlines.specs.Told.{breaks, none_of, line_at}
use Rattle.theorems_scanlines.specs.Calls.{History}

-- `Before h a k`: the fetch before the end of h is at a, with no break after it, and k is the history before that fetch
pub data Before : History → ℕ → History → Type 0 where
  here : {e : Event} {h : History} → counts e ≡ true → Before (e ∷ h) (address e) h
  further : {e : Event} {h k : History} {a : ℕ} → counts e ≡ false → breaks e h ≡ false → Before h a k → Before (e ∷ h) a k

-- `Behind h`: there is a break after the fetch before the end of h, if there is such a fetch
pub data Behind : History → Type 0 where
  broken : {e : Event} {h : History} → breaks e h ≡ true → Behind (e ∷ h)
  earlier : {e : Event} {h : History} → counts e ≡ false → Behind h → Behind (e ∷ h)

-- "the fetch before those differs, is missing, or lies behind a break": the fetch before the end of h, from one at a
pub data Apart (h : History) (a : ℕ) : Type 0 where
  differs : {b : ℕ} {k : History} → Before h b k → (a ≡ b → ⊥) → Apart h a
  missing : none_of counts h ≡ true → Apart h a
  behind : Behind h → Apart h a

-- the call e, made after h, is a line
pub record Line (e : Event) (h : History) : Type 0 where
  -- "a fetch at $2000-$2FFF"
  pub table : fetches 0x2000 0x2FFF e ≡ true
  -- "equal to the two before it, no break among the three"
  pub one : History
  pub two : History
  pub equal_one : Before h (address e) one
  pub equal_two : Before one (address e) two
  -- "where the fetch before those differs, is missing, or lies behind a break"
  pub apart : Apart two (address e)

abbrev pub LineIsTheSentence : Type 0
LineIsTheSentence = (e : Event) (h : History) → (line_at e h ≡ true) ↔ Line e h
