-- What a CPU write to a register leaves in the groups that it touches: the fields of `register_written` (crate `cpu`, specs/Writes.antt) that a write which
-- maps PRG pages can change, and those that any other can. Steps inside a call; no promise names them.
use Rattle.std.specs.Prelude.{ℕ, List}
use Rattle.memory.specs.declared.PageWord.{PageWord}
use Rattle.registers.specs.declared.Mirroring.{Mirroring}
use Rattle.registers.specs.declared.Regs.{Regs}
use Rattle.registers.specs.Mirrorings.{mirroring_after}
use Rattle.registers.specs.Registers.{written}
use Rattle.scanline.specs.declared.Detector.{Detector}
use Rattle.split.specs.declared.VSplit.{VSplit}
use Rattle.state.specs.declared.Lengths.{Lengths}
use Rattle.state.specs.declared.PpuStatus.{PpuStatus}
use Rattle.banks.specs.Prg.{prg_mapped}
use Rattle.cpu.specs.Chosen.{ppu_after}
use Rattle.cpu.specs.Groups.{split_after, irq_after, prg_banks_after, chr_banks_after}
use Rattle.cpu.specs.Writes.{chr_pages_after}
use Rattle.steps.specs.declared.register_writes.PrgWrite.{PrgWrite}
use Rattle.steps.specs.declared.register_writes.OtherWrite.{OtherWrite}
use Rattle.steps.specs.Sides.{exram_word}

abbrev pub prg_write : Lengths → Regs → List ℕ → List PageWord → ℕ → ℕ → PrgWrite
prg_write z g b pages a v =
    record {
      regs = written g a v;
      banks = prg_banks_after b a v;
      pages = prg_mapped z.prg z.ram (written g a v) (prg_banks_after b a v) pages;
    }

abbrev pub other_write : Lengths → Regs → VSplit → Detector → PpuStatus → Mirroring → List ℕ → List PageWord → PageWord → ℕ → ℕ → OtherWrite
other_write z g x d p m b pages exram a v =
    record {
      regs = written g a v;
      vsplit = split_after x a v;
      irq = irq_after d a v;
      ppu = ppu_after p d.in_frame a;
      mirroring = mirroring_after m a v;
      banks = chr_banks_after b a v;
      pages = chr_pages_after z (written g a v) (chr_banks_after b a v) (ppu_after p d.in_frame a).bg_set pages a;
      exram = exram_word exram (written g a v).exram_mode a;
    }
