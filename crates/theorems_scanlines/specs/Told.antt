-- What the calls since load alone tell of the scanline interrupt: demand 3, and 01, "Fetches, runs, breaks". No state is named here.
-- A history is the list of the calls since load, the newest first: `e ∷ h` is the history h, and then the call e.
-- Assumes nothing.
use Rattle.std.specs.Prelude.{ℕ, ◌+◌, ◌%◌, ◌≤◌, ◌≡◌, ◌↔◌, Bool, true, false, not, ◌&&◌, ◌||◌, List, [], ◌∷◌, ◌++◌, leb, eqb}
use Rattle.std.proofs.Math.Option.{Option, none, some}
use Rattle.memory.specs.Bits.{bit_set}
use Rattle.memory.specs.Tests.{pick}
use Rattle.theorems_scanlines.specs.Events.{is_clock, fetches, writes, darkens, address, value, counts, vectors, clears}
use Rattle.theorems_scanlines.specs.Calls.{Event}
use Rattle.theorems_scanlines.specs.Calls.{History}

-- Breaks -----------------------------------------------------------------------------------------------------------------------------

-- "A clock is idle if no such fetch came since the clock before, or since load": a clock after h would be idle
unfoldable pub idle : History → Bool
idle [] = true
idle (e ∷ h) = is_clock e || (not (counts e) && idle h)

-- how long the row of idle clocks is that stands at the end of h's clocks: 0 where the last clock was not idle
unfoldable pub row : History → ℕ
row [] = 0
row (e ∷ h) = pick (is_clock e) (pick (idle h) (row h + 1) 0) (row h)

-- "A break is a PPU register write to $2001 with bits 3 and 4 clear, a CPU read of $FFFA or $FFFB, or each third clock of an unbroken row
-- of idle clocks": the call e, made after h, is a break
unfoldable pub breaks : Event → History → Bool
breaks e h = darkens e || vectors e || (is_clock e && (idle h && eqb ((row h + 1) % 3) 0))

-- Lines ------------------------------------------------------------------------------------------------------------------------------

-- the addresses of the fetches that count since load or the last break, the newest first
unfoldable pub recent : History → List ℕ
recent [] = []
recent (e ∷ h) = pick (breaks e h) [] (pick (counts e) (address e ∷ recent h) (recent h))

-- how many addresses, from the newest on and before any other, are a: the run that a fetch at a would go on
unfoldable pub alike : ℕ → List ℕ → ℕ
alike a [] = 0
alike a (x ∷ xs) = pick (eqb a x) (alike a xs + 1) 0

-- "a line is a fetch in $2000-$2FFF that is the third of a run of equal fetches": the call e, made after h, is a line
-- (Sentence.antt has 01's longer sentence, and proofs/SentenceIs.antt that the two say the same)
unfoldable pub line_at : Event → History → Bool
line_at e h = fetches 0x2000 0x2FFF e && eqb (alike (address e) (recent h)) 2

-- how many lines there were since load or the last break: "lines count from 0 after load and each break", so this is also the number that
-- the next line has
unfoldable pub lines : History → ℕ
lines [] = 0
lines (e ∷ h) = pick (breaks e h) 0 (pick (line_at e h) (lines h + 1) (lines h))

-- "In frame: some line since load and the last break."
unfoldable pub is_in_frame : History → Bool
is_in_frame h = leb 1 (lines h)

-- The flag and the interrupt ---------------------------------------------------------------------------------------------------------

-- "the value last written to" the register p, if any
unfoldable pub last_write : ℕ → History → Option ℕ
last_write p [] = none
last_write p (e ∷ h) = pick (writes p e) (some (value e)) (last_write p h)

-- no call of h passes the test f
unfoldable pub none_of : (Event → Bool) → History → Bool
none_of f [] = true
none_of f (e ∷ h) = not (f e) && none_of f h

-- "a line numbered 1 or more equalled the value last written to $5203 before it": the call e, made after h, is one. Where nothing was
-- written there is no value to equal.
pub record Hit (e : Event) (h : History) : Type 0 where
  pub line : line_at e h ≡ true
  pub later : 1 ≤ lines h
  pub equal : last_write 0x5203 h ≡ some (lines h)

-- "The flag is set exactly when a line numbered 1 or more equalled the value last written to $5203 before it, and no CPU read of $5204,
-- $FFFA or $FFFB came after that line."
pub record Flagged (h : History) : Type 0 where
  pub after : History
  pub line : Event
  pub before : History
  pub split : h ≡ after ++ (line ∷ before)
  pub hit : Hit line before
  pub unread : none_of clears after ≡ true

-- "had bit 7 set"
unfoldable pub had_bit7 : Option ℕ → Bool
had_bit7 none = false
had_bit7 (some v) = bit_set v 7

-- "The interrupt is up exactly when the flag is set and the last write to $5204 had bit 7 set."
pub record Up (h : History) : Type 0 where
  pub flagged : Flagged h
  pub enabled : had_bit7 (last_write 0x5204 h) ≡ true

-- The wait ---------------------------------------------------------------------------------------------------------------------------

-- "in frame at line s, flag clear, interrupt enabled, $5203 last written n from s + 1 to 255"
pub record Waiting (h : History) (s n : ℕ) : Type 0 where
  pub at_line : lines h ≡ s + 1
  pub clear : Flagged h → ⊥
  pub enabled : had_bit7 (last_write 0x5204 h) ≡ true
  pub target : last_write 0x5203 h ≡ some n
  pub ahead : s + 1 ≤ n
  pub byte : n ≤ 255

-- the calls g, made after h: how many lines they have
unfoldable pub new_lines : History → History → ℕ
new_lines [] h = 0
new_lines (e ∷ g) h = pick (line_at e (g ++ h)) (new_lines g h + 1) (new_lines g h)

-- the calls g, made after h: "no break and no $5203 or $5204 write falls between"
unfoldable pub calm : History → History → Bool
calm [] h = true
calm (e ∷ g) h = not (breaks e (g ++ h) || writes 0x5203 e || writes 0x5204 e) && calm g h

-- The same, computed ------------------------------------------------------------------------------------------------------------------

-- `Flagged` and `Up` as tests, for worked cases; proofs/Flag.antt shows that they are the same
unfoldable pub is_value : Option ℕ → ℕ → Bool
is_value none n = false
is_value (some v) n = eqb n v

unfoldable pub hits : Event → History → Bool
hits e h = line_at e h && (is_in_frame h && is_value (last_write 0x5203 h) (lines h))

unfoldable pub flag_told : History → Bool
flag_told [] = false
flag_told (e ∷ h) = not (clears e) && (hits e h || flag_told h)

unfoldable pub up : History → Bool
up h = flag_told h && had_bit7 (last_write 0x5204 h)

-- what $5204 reads, as the history alone tells it
unfoldable pub told_status : History → ℕ
told_status h = pick (flag_told h) 128 0 + pick (is_in_frame h) 64 0

abbrev pub TestsAreSentences : Type 0
TestsAreSentences = (h : History) → ((flag_told h ≡ true) ↔ Flagged h) × ((up h ≡ true) ↔ Up h)
