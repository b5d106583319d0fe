-- PRG banks. 01, module 4: "$6000 always PRG-RAM bank `$5113 & 7`. Elsewhere bit 7 set means ROM with seven bits, clear means RAM with three.
-- 16k pairs clear bit 0 for the first window and set it for the second. 32k clears two low bits of $5117. $5117's windows are always ROM.
-- RAM pages are writable only with $5102 = 2 and $5103 = 1."
use Rattle.std.specs.Prelude.{ℕ, ◌+◌, ◌*◌, ◌/◌, ◌%◌, Bool, false, List, [], ◌∷◌, eqb, leb, ltb, get_or}
use Rattle.memory.specs.declared.PageWord.{PageWord}
use Rattle.memory.specs.declared.Src.TheVariants.{PrgRom, PrgRam, ExRam}
use Rattle.memory.specs.Tests.{pick}
use Rattle.memory.specs.PageWords.{word, page, blank, word_of}
use Rattle.memory.specs.Windows.{prg_window}
use Rattle.registers.specs.declared.Regs.{Regs}
use Rattle.registers.specs.Registers.{unlocked}
use Rattle.banks.specs.Placed.{placed}

-- "16k pairs clear bit 0 for the first window and set it for the second."
abbrev pub pair_first : ℕ → ℕ
pair_first v = v / 2 * 2

abbrev pub pair_second : ℕ → ℕ
pair_second v = v / 2 * 2 + 1

-- "32k clears two low bits of $5117": the value of the i-th of its four windows.
abbrev pub quarter : ℕ → ℕ → ℕ
quarter v i = v / 4 * 4 + i

-- "$5117's windows are always ROM": bit 7 set.
abbrev pub rom : ℕ → ℕ
rom v = 128 + v % 128

-- "PRG-RAM bank `$5113 & 7`", and "clear means RAM with three" bits
abbrev pub ram_bank : ℕ → ℕ
ram_bank v = v % 8

-- The values that the windows show: that at $6000, then those at $8000, $A000, $C000 and $E000, a row for each of the modes 0 to 3. Which register a
-- window has in modes 1 to 3, 01 does not say: it is the Rust's `update_prg_banks` ($5115 at $8000; docs/DECISIONS.md).
unfoldable pub prg_values : ℕ → List ℕ → List ℕ
prg_values mode b =
    let r5113 = get_or b 0 0 in let r5114 = get_or b 1 0 in let r5115 = get_or b 2 0 in let r5116 = get_or b 3 0 in let r5117 = get_or b 4 0 in
    ram_bank r5113
    ∷ pick (eqb mode 0) (quarter (rom r5117) 0 ∷ quarter (rom r5117) 1 ∷ quarter (rom r5117) 2 ∷ quarter (rom r5117) 3 ∷ [])
    (pick (eqb mode 1) (pair_first r5115 ∷ pair_second r5115 ∷ pair_first (rom r5117) ∷ pair_second (rom r5117) ∷ [])
    (pick (eqb mode 2) (pair_first r5115 ∷ pair_second r5115 ∷ r5116 ∷ rom r5117 ∷ [])
    (r5114 ∷ r5115 ∷ r5116 ∷ rom r5117 ∷ [])))

-- "bit 7 set means ROM with seven bits": the eight pages of a window that shows a value; RAM is writable where it is unlocked.
unfoldable pub prg_value_pages : ℕ → ℕ → Bool → ℕ → List PageWord
prg_value_pages prg ram writable v = pick (leb 128 v) (prg_window PrgRom prg (v % 128) false) (prg_window PrgRam ram (ram_bank v) writable)

-- Page k of the forty from $6000 on: page k mod 8 of window k / 8, by the value that the window shows.
abbrev pub page_from6000 : ℕ → ℕ → Bool → List ℕ → ℕ → PageWord
page_from6000 prg ram writable values k = get_or (prg_value_pages prg ram writable (get_or values (k / 8) 0)) (k % 8) (word 0)

-- The table with the five windows mapped; $6000 is page 24.
abbrev pub prg_mapped : ℕ → ℕ → Regs → List ℕ → List PageWord → List PageWord
prg_mapped prg ram g b pages = placed pages 24 (page_from6000 prg ram (unlocked g) (prg_values g.prg_mode b)) 40

-- The page at $5C00. Module 3: "CPU read in 2, 3; page write only in 2".
unfoldable pub exram_page : ℕ → PageWord
exram_page mode = pick (ltb mode 2) (word_of blank) (word_of (page ExRam 0 (eqb mode 2)))
