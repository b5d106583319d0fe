-- The lengths that load takes. 01, "Refusal numbers", 1 to 3.
use Rattle.std.specs.Prelude.{ℕ, ◌%◌, Bool, [], ◌∷◌, eqb, leb}
use Rattle.memory.specs.Tests.{conj}
use Rattle.state.specs.declared.Lengths.{Lengths}

-- 1: "PRG-ROM not a multiple of 8,192 bytes from 8,192 to 1,048,576"
abbrev pub prg_taken : ℕ → Bool
prg_taken n = conj (eqb (n % 8192) 0 ∷ leb 8192 n ∷ leb n 1048576 ∷ [])

-- 2: "CHR not a multiple of 1,024 from 0 to 1,048,576"
abbrev pub chr_taken : ℕ → Bool
chr_taken n = conj (eqb (n % 1024) 0 ∷ leb n 1048576 ∷ [])

-- 3: "PRG-RAM not a multiple of 1,024 from 0 to 65,536, CIRAM not 2,048 or ExRAM not 1,024"
abbrev pub ram_taken : ℕ → ℕ → ℕ → Bool
ram_taken ram ciram exram = conj (eqb (ram % 1024) 0 ∷ leb ram 65536 ∷ eqb ciram 2048 ∷ eqb exram 1024 ∷ [])

-- "STATE ranges": "recorded lengths pass load", and the state is marked loaded
unfoldable pub lengths_ok : Lengths → Bool
lengths_ok z = conj (z.loaded ∷ prg_taken z.prg ∷ chr_taken z.chr ∷ ram_taken z.ram z.ciram z.exram ∷ [])
