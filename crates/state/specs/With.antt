-- A state, or its PPU status, with one field changed.
use Rattle.std.specs.Prelude.{ℕ, Bool, List}
use Rattle.memory.specs.declared.PageWord.{PageWord}
use Rattle.registers.specs.declared.Regs.{Regs}
use Rattle.scanline.specs.declared.Detector.{Detector}
use Rattle.split.specs.declared.VSplit.{VSplit}
use Rattle.state.specs.declared.PpuStatus.{PpuStatus}
use Rattle.state.specs.declared.State.{State}

abbrev pub with_regs : State → Regs → State
with_regs s v =
    record { lengths = s.lengths; regs = v; vsplit = s.vsplit; irq = s.irq; ppu = s.ppu; screen = s.screen; prg_banks = s.prg_banks; chr_banks = s.chr_banks; prg_pages = s.prg_pages; chr_pages = s.chr_pages }

abbrev pub with_vsplit : State → VSplit → State
with_vsplit s v =
    record { lengths = s.lengths; regs = s.regs; vsplit = v; irq = s.irq; ppu = s.ppu; screen = s.screen; prg_banks = s.prg_banks; chr_banks = s.chr_banks; prg_pages = s.prg_pages; chr_pages = s.chr_pages }

abbrev pub with_irq : State → Detector → State
with_irq s v =
    record { lengths = s.lengths; regs = s.regs; vsplit = s.vsplit; irq = v; ppu = s.ppu; screen = s.screen; prg_banks = s.prg_banks; chr_banks = s.chr_banks; prg_pages = s.prg_pages; chr_pages = s.chr_pages }

abbrev pub with_ppu : State → PpuStatus → State
with_ppu s v =
    record { lengths = s.lengths; regs = s.regs; vsplit = s.vsplit; irq = s.irq; ppu = v; screen = s.screen; prg_banks = s.prg_banks; chr_banks = s.chr_banks; prg_pages = s.prg_pages; chr_pages = s.chr_pages }

abbrev pub with_chr_pages : State → List PageWord → State
with_chr_pages s v =
    record { lengths = s.lengths; regs = s.regs; vsplit = s.vsplit; irq = s.irq; ppu = s.ppu; screen = s.screen; prg_banks = s.prg_banks; chr_banks = s.chr_banks; prg_pages = s.prg_pages; chr_pages = v }

abbrev pub with_tile_number : PpuStatus → ℕ → PpuStatus
with_tile_number s v =
    record { tile_number = v; tile_cache = s.tile_cache; sprite8x16 = s.sprite8x16; rendering = s.rendering; bg_set = s.bg_set; bg_written = s.bg_written }

abbrev pub with_tile_cache : PpuStatus → ℕ → PpuStatus
with_tile_cache s v =
    record { tile_number = s.tile_number; tile_cache = v; sprite8x16 = s.sprite8x16; rendering = s.rendering; bg_set = s.bg_set; bg_written = s.bg_written }

abbrev pub with_sprite8x16 : PpuStatus → Bool → PpuStatus
with_sprite8x16 s v =
    record { tile_number = s.tile_number; tile_cache = s.tile_cache; sprite8x16 = v; rendering = s.rendering; bg_set = s.bg_set; bg_written = s.bg_written }

abbrev pub with_rendering : PpuStatus → Bool → PpuStatus
with_rendering s v =
    record { tile_number = s.tile_number; tile_cache = s.tile_cache; sprite8x16 = s.sprite8x16; rendering = v; bg_set = s.bg_set; bg_written = s.bg_written }

abbrev pub with_bg_set : PpuStatus → Bool → PpuStatus
with_bg_set s v =
    record { tile_number = s.tile_number; tile_cache = s.tile_cache; sprite8x16 = s.sprite8x16; rendering = s.rendering; bg_set = v; bg_written = s.bg_written }

abbrev pub with_bg_written : PpuStatus → Bool → PpuStatus
with_bg_written s v =
    record { tile_number = s.tile_number; tile_cache = s.tile_cache; sprite8x16 = s.sprite8x16; rendering = s.rendering; bg_set = s.bg_set; bg_written = v }
