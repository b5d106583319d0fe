-- The bytes of a buffer at the start of a case. Words in quotes are those of oracle/README.md, "The fill".
use Rattle.std.specs.Prelude.{ℕ, zero, suc, ◌+◌, ◌*◌, ◌/◌, ◌%◌, List, [], ◌∷◌, ◌++◌, eqb}
use Rattle.memory.specs.Tests.{pick}
use Rattle.test_fixed_list.specs.declared.fill.Buffer.{Buffer}
use Rattle.test_fixed_list.specs.declared.fill.Buffer.TheVariants.{PrgRom, Chr, PrgRam, CiRam, ExRam}

-- "0 PRG-ROM, 1 CHR, 2 PRG-RAM, 3 CIRAM, 4 ExRAM"
abbrev pub number_of : Buffer → ℕ
number_of PrgRom = 0
number_of Chr = 1
number_of PrgRam = 2
number_of CiRam = 3
number_of ExRam = 4

-- "Seed 0 is 01's: PRG-ROM holds offset / 1,024, CHR 128 + offset / 1,024, both modulo 256; the RAMs hold 0."
abbrev pub plain_byte : Buffer → ℕ → ℕ
plain_byte PrgRom offset = offset / 1024 % 256
plain_byte Chr offset = (128 + offset / 1024) % 256
plain_byte PrgRam offset = 0
plain_byte CiRam offset = 0
plain_byte ExRam offset = 0

-- "Seed s from 1 to 255 gives offset o of buffer b .., with whole division:
-- (o / 1024 * 7 + o % 1024 * 3 + o / 256 + o / 65536 * 37 + s * 29 + b * 53) % 256"
abbrev pub mixed_byte : ℕ → Buffer → ℕ → ℕ
mixed_byte s b o = (o / 1024 * 7 + o % 1024 * 3 + o / 256 + o / 65536 * 37 + s * 29 + number_of b * 53) % 256

-- The byte by seed, buffer and offset.
abbrev pub fill_byte : ℕ → Buffer → ℕ → ℕ
fill_byte seed buffer offset = pick (eqb seed 0) (plain_byte buffer offset) (mixed_byte seed buffer offset)

-- The first n bytes of a buffer.
unfoldable pub filled : ℕ → Buffer → ℕ → List ℕ
filled seed buffer zero = []
filled seed buffer (suc n) = filled seed buffer n ++ (fill_byte seed buffer n ∷ [])
