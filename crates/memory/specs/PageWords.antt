-- Page words: which word names which page. What the customer must believe of them is short: blank is one word of its own, and each page
-- that a buffer within 01's lengths can have, marked writable where 01 allows it, has a word of its own (`Pages` in Promise.antt). The numbers are chosen
-- so that the words that a page table may hold lie in a row (`tables.rt`).
-- 01, module 1: "1,024 bytes each; 64 PRG, 16 CHR. Blank reads 0 and takes no write."
use Rattle.std.specs.Prelude.{ℕ, ◌+◌, ◌-◌, ◌*◌, ◌/◌, ◌%◌, Bool, true, false, ◌==◌, nat_lt}
use Rattle.memory.specs.Bits.{as_bit}
use Rattle.memory.specs.Tests.{pick}
use Rattle.memory.specs.declared.Page.{Page}
use Rattle.memory.specs.declared.PageWord.{PageWord}
use Rattle.memory.specs.declared.Src.{Src}
use Rattle.memory.specs.declared.Src.TheVariants.{Blank, PrgRom, PrgRam, Chr, CiRam, ExRam}

abbrev pub word : ℕ → PageWord
word n = record { 0 = n }

abbrev pub page : Src → ℕ → Bool → Page
page s i w = record { src = s; index = i; writable = w }

abbrev pub blank : Page
blank = page Blank 0 false

-- The word's number, in the order of the drawing above `word_of`.
unfoldable pub word_number : Src → ℕ → Bool → ℕ
word_number Blank i w = 0
word_number ExRam i w = 1 + as_bit w
word_number PrgRom i w = 3 + i % 1024
word_number Chr i true = 2050 - i % 1024
word_number CiRam i w = 2051 + 2 * (i % 2) + as_bit w
word_number Chr i false = 2055 + i % 1024
word_number PrgRam i w = 65535 - (2 * (i % 64) + as_bit w)

abbrev pub word_of : Page → PageWord
word_of p = word (word_number p.src p.index p.writable)

-- The page that a word names. The numbers 3,079 to 65,407 belong to no page: they name CHR pages 1,024 and up, which no buffer has.
unfoldable pub page_of : PageWord → Page
page_of p =
    pick (nat_lt p.0 1) blank
    (pick (nat_lt p.0 3) (page ExRam 0 (p.0 == 2))
    (pick (nat_lt p.0 1027) (page PrgRom (p.0 - 3) false)
    (pick (nat_lt p.0 2051) (page Chr (2050 - p.0) true)
    (pick (nat_lt p.0 2055) (page CiRam ((p.0 - 2051) / 2) ((p.0 - 2051) % 2 == 1))
    (pick (nat_lt p.0 65408) (page Chr (p.0 - 2055) false)
    (page PrgRam ((65535 - p.0) / 2) ((65535 - p.0) % 2 == 1)))))))
