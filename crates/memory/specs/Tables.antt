-- What a page table may hold. 01, "STATE ranges": "each page blank or a whole page of a buffer its table may show. PRG pages show PRG-ROM,
-- PRG-RAM or ExRAM; CHR pages show CHR, CIRAM or ExRAM. Blank pages, PRG-ROM and CHR that load took as ROM are never marked writable."
use Rattle.std.specs.Prelude.{ℕ, ◌+◌, ◌*◌, Bool, false, not, ◌&&◌, ◌||◌, List, nat_le}
use Rattle.memory.specs.declared.Page.{Page}
use Rattle.memory.specs.declared.PageWord.{PageWord}
use Rattle.memory.specs.declared.Src.{Src}
use Rattle.memory.specs.declared.Src.TheVariants.{Blank, PrgRom, PrgRam, Chr, CiRam, ExRam}
use Rattle.memory.specs.PageWords.{page_of}
use Rattle.memory.specs.Tests.{all}

-- "a whole page of a buffer"
abbrev pub whole_page : ℕ → ℕ → Bool
whole_page i len = nat_le (i * 1024 + 1024) len

-- "PRG pages show PRG-ROM, PRG-RAM or ExRAM"
unfoldable pub prg_may_hold_as : ℕ → ℕ → Src → ℕ → Bool → Bool
prg_may_hold_as prg ram Blank i w = not w
prg_may_hold_as prg ram PrgRom i w = whole_page i prg && not w
prg_may_hold_as prg ram PrgRam i w = whole_page i ram
prg_may_hold_as prg ram Chr i w = false
prg_may_hold_as prg ram CiRam i w = false
prg_may_hold_as prg ram ExRam i w = whole_page i 1024

abbrev pub prg_may_hold : ℕ → ℕ → Page → Bool
prg_may_hold prg ram p = prg_may_hold_as prg ram p.src p.index p.writable

-- "CHR pages show CHR, CIRAM or ExRAM"; `as_ram` says that load took CHR as RAM
unfoldable pub chr_may_hold_as : ℕ → Bool → Src → ℕ → Bool → Bool
chr_may_hold_as chr as_ram Blank i w = not w
chr_may_hold_as chr as_ram PrgRom i w = false
chr_may_hold_as chr as_ram PrgRam i w = false
chr_may_hold_as chr as_ram Chr i w = whole_page i chr && (not w || as_ram)
chr_may_hold_as chr as_ram CiRam i w = whole_page i 2048
chr_may_hold_as chr as_ram ExRam i w = whole_page i 1024

abbrev pub chr_may_hold : ℕ → Bool → Page → Bool
chr_may_hold chr as_ram p = chr_may_hold_as chr as_ram p.src p.index p.writable

abbrev pub prg_table_ok : ℕ → ℕ → List PageWord → Bool
prg_table_ok prg ram pages = all (λ (w : PageWord). prg_may_hold prg ram (page_of w)) pages

abbrev pub chr_table_ok : ℕ → Bool → List PageWord → Bool
chr_table_ok chr as_ram pages = all (λ (w : PageWord). chr_may_hold chr as_ram (page_of w)) pages
