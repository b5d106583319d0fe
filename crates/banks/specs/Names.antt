-- Nametables. 01, module 3: "$5105 gives four selectors of two bits." Module 6: "Without nametable use ExRAM maps blank; Fill always maps blank".
use Rattle.std.specs.Prelude.{ℕ, ◌/◌, ◌%◌, ◌^◌, Bool, true, List, eqb}
use Rattle.memory.specs.declared.PageWord.{PageWord}
use Rattle.memory.specs.declared.Src.TheVariants.{CiRam, ExRam}
use Rattle.memory.specs.Tests.{pick}
use Rattle.memory.specs.PageWords.{page, blank, word_of}
use Rattle.banks.specs.Placed.{placed}

-- "four selectors of two bits": number i mod 4, from the lowest bits on.
unfoldable pub selector : ℕ → ℕ → ℕ
selector n i = n / 4 ^ (i % 4) % 4

-- 0 and 1 are CIRAM's two pages, 2 is ExRAM, 3 is Fill, as in the Rust's `NametableMapping::set` and `update_nametables`; CIRAM and ExRAM are marked
-- writable, as in its `Memory::is_writable`.
unfoldable pub name_page : ℕ → Bool → PageWord
name_page s as_name =
    pick (eqb s 0) (word_of (page CiRam 0 true))
    (pick (eqb s 1) (word_of (page CiRam 1 true))
    (pick (eqb s 2) (pick as_name (word_of (page ExRam 0 true)) (word_of blank))
    (word_of blank)))

-- The table with the nametable pages mapped: the four from $2000 on, and again from $3000 on.
unfoldable pub names_mapped : ℕ → Bool → List PageWord → List PageWord
names_mapped n as_name pages = placed pages 8 (λ (k : ℕ). name_page (selector n k) as_name) 8
