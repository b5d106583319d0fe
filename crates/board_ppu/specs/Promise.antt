-- What is promised of the sprite peek, pinned by the contract of `promises`. 01, module 5: "the CHR byte the sprite set would map there". The peek's
-- definition has the byte's offset (`sprite_byte`); here it is the byte that the CHR table shows, once it is mapped by the sprite set, for every CHR
-- that load takes.
use Rattle.std.specs.Prelude.{ℕ, ◌%◌, ◌<◌, ◌≤◌, Bool, false, List, ◌≡◌, length}
use Rattle.memory.specs.declared.PageWord.{PageWord}
use Rattle.memory.specs.Bytes.{Mem, page_byte}
use Rattle.memory.specs.PageWords.{page_of}
use Rattle.registers.specs.declared.Regs.{Regs}
use Rattle.banks.specs.Chr.{chr_mapped}
use Rattle.ppu.specs.Served.{sprite_byte}
use Rattle.board_ppu.specs.Peeks.{chr_word_at}

abbrev pub SpriteSetMapped : Type 0
SpriteSetMapped =
    (g : Regs) (b : List ℕ) (m : Mem) (as_ram : Bool) (pages : List PageWord) (a : ℕ) → a < 0x2000 → length pages ≡ 16 → length m.chr % 1024 ≡ 0 → length m.chr ≤ 1048576
    → sprite_byte g b m.chr a ≡ page_byte m (page_of (chr_word_at (chr_mapped (length m.chr) as_ram g b false pages) a)) a
