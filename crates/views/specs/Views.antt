-- Page views. 01, "Views": "The CPU page view returns the 1,024 bytes of PRG-ROM or of PRG-RAM. The PPU page view returns those bytes of CHR. All
-- other pages, and causes 4 and 5, give the empty part without a number."
use Rattle.std.specs.Prelude.{ℕ, ◌+◌, ◌*◌, List, [], leb, length, take, drop}
use Rattle.memory.specs.declared.Src.{Src}
use Rattle.memory.specs.declared.Src.TheVariants.{Blank, PrgRom, PrgRam, Chr, CiRam, ExRam}
use Rattle.memory.specs.Bytes.{Mem}
use Rattle.memory.specs.Tests.{pick}
use Rattle.memory.specs.PageWords.{page_of}
use Rattle.answers.specs.declared.Refusal.{Refusal}
use Rattle.state.specs.declared.State.{State}
use Rattle.state.specs.Gate.{gate_mem}
use Rattle.cpu.specs.Writes.{prg_word_at}
use Rattle.board.specs.Outcomes.{behind}
use Rattle.board_ppu.specs.Peeks.{chr_word_at}

-- The 1,024 bytes from a place on, where the buffer has them all.
unfoldable pub part_from : List ℕ → ℕ → List ℕ
part_from l from = pick (leb (from + 1024) (length l)) (take 1024 (drop from l)) []

-- "of PRG-ROM or of PRG-RAM"
abbrev pub cpu_shows : Mem → Src → ℕ → List ℕ
cpu_shows m PrgRom i = part_from m.prg (i * 1024)
cpu_shows m PrgRam i = part_from m.ram (i * 1024)
cpu_shows m Blank i = []
cpu_shows m Chr i = []
cpu_shows m CiRam i = []
cpu_shows m ExRam i = []

-- "those bytes of CHR"
abbrev pub ppu_shows : Mem → Src → ℕ → List ℕ
ppu_shows m Chr i = part_from m.chr (i * 1024)
ppu_shows m PrgRom i = []
ppu_shows m PrgRam i = []
ppu_shows m Blank i = []
ppu_shows m CiRam i = []
ppu_shows m ExRam i = []

-- "causes 4 and 5, give the empty part"
unfoldable pub cpu_view : State → Mem → ℕ → List ℕ
cpu_view s m a =
    behind (gate_mem s m) (λ (r : Refusal). [])
    (cpu_shows m (page_of (prg_word_at s.prg_pages a)).src (page_of (prg_word_at s.prg_pages a)).index)

unfoldable pub ppu_view : State → Mem → ℕ → List ℕ
ppu_view s m a =
    behind (gate_mem s m) (λ (r : Refusal). [])
    (ppu_shows m (page_of (chr_word_at s.chr_pages a)).src (page_of (chr_word_at s.chr_pages a)).index)
