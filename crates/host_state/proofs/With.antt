-- A state with one part changed that no definition of a call changes alone: steps of proofs.
use Prim.Native.Nat.{ℕ}
use mathlib.Core.List.{List}
use Rattle.memory.specs.declared.PageWord.{PageWord}
use Rattle.registers.specs.declared.Mirroring.{Mirroring}
use Rattle.state.specs.declared.State.{State}

abbrev pub with_mirroring : State → Mirroring → State
with_mirroring s v =
    record { lengths = s.lengths; regs = s.regs; vsplit = s.vsplit; irq = s.irq; ppu = s.ppu; screen = record { mirroring = v }; prg_banks = s.prg_banks; chr_banks = s.chr_banks; prg_pages = s.prg_pages; chr_pages = s.chr_pages }

abbrev pub with_prg_banks : State → List ℕ → State
with_prg_banks s v =
    record { lengths = s.lengths; regs = s.regs; vsplit = s.vsplit; irq = s.irq; ppu = s.ppu; screen = s.screen; prg_banks = v; chr_banks = s.chr_banks; prg_pages = s.prg_pages; chr_pages = s.chr_pages }

abbrev pub with_chr_banks : State → List ℕ → State
with_chr_banks s v =
    record { lengths = s.lengths; regs = s.regs; vsplit = s.vsplit; irq = s.irq; ppu = s.ppu; screen = s.screen; prg_banks = s.prg_banks; chr_banks = v; prg_pages = s.prg_pages; chr_pages = s.chr_pages }

abbrev pub with_prg_pages : State → List PageWord → State
with_prg_pages s v =
    record { lengths = s.lengths; regs = s.regs; vsplit = s.vsplit; irq = s.irq; ppu = s.ppu; screen = s.screen; prg_banks = s.prg_banks; chr_banks = s.chr_banks; prg_pages = v; chr_pages = s.chr_pages }
