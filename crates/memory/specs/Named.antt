-- The pages that have a word of their own: what `Pages` (Promise.antt) says of page words holds of these.
use Rattle.std.specs.Prelude.{ℕ, Bool, not, ◌&&◌, ◌==◌, nat_lt}
use Rattle.memory.specs.declared.Page.{Page}
use Rattle.memory.specs.declared.Src.{Src}
use Rattle.memory.specs.declared.Src.TheVariants.{Blank, PrgRom, PrgRam, Chr, CiRam, ExRam}

-- The pages that have a word. A PRG-ROM has at most 1,024 pages, a PRG-RAM 64, CHR 1,024, CIRAM two, ExRAM one.
-- 01, "STATE ranges": "Blank pages, PRG-ROM .. are never marked writable."
unfoldable pub named_as : Src → ℕ → Bool → Bool
named_as Blank i w = i == 0 && not w
named_as PrgRom i w = nat_lt i 1024 && not w
named_as PrgRam i w = nat_lt i 64
named_as Chr i w = nat_lt i 1024
named_as CiRam i w = nat_lt i 2
named_as ExRam i w = i == 0

abbrev pub named : Page → Bool
named p = named_as p.src p.index p.writable
