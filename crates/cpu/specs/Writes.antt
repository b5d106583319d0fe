-- A CPU write. 01, "The board we take": "a CPU write does the register, then the page." Which writes map which pages: modules 4, 5 and 6, and in
-- the Rust the arms of `write_register`.
use Rattle.std.specs.Prelude.{ℕ, ◌-◌, ◌/◌, Bool, ◌&&◌, ◌||◌, List, eqb, leb, get_or, set}
use Rattle.memory.specs.declared.PageWord.{PageWord}
use Rattle.memory.specs.Bytes.{Mem, mem_of, page_stored}
use Rattle.memory.specs.Tests.{pick}
use Rattle.memory.specs.PageWords.{word, page_of}
use Rattle.registers.specs.declared.Regs.{Regs}
use Rattle.registers.specs.Mirrorings.{mirroring_after}
use Rattle.registers.specs.Registers.{written, nametable_use}
use Rattle.banks.specs.Chr.{chr_mapped}
use Rattle.banks.specs.Names.{names_mapped}
use Rattle.banks.specs.Prg.{prg_mapped, exram_page}
use Rattle.state.specs.declared.Lengths.{Lengths}
use Rattle.state.specs.declared.State.{State}
use Rattle.cpu.specs.Chosen.{ppu_after}
use Rattle.cpu.specs.Groups.{within, split_after, irq_after, prg_banks_after, chr_banks_after}

-- PRG mode, protection and PRG banks map the PRG windows.
abbrev pub maps_prg : ℕ → Bool
maps_prg a = eqb a 0x5100 || (within 0x5102 0x5103 a || within 0x5113 0x5117 a)

-- CHR mode, CHR banks and $5130 map the pattern pages; $5104 and $5105 the nametables.
abbrev pub maps_chr : ℕ → Bool
maps_chr a = eqb a 0x5101 || (within 0x5120 0x512B a || eqb a 0x5130)

abbrev pub maps_names : ℕ → Bool
maps_names a = within 0x5104 0x5105 a

-- The PRG table after a write; $5104 maps ExRAM's page, at $5C00, page 23.
unfoldable pub prg_pages_after : Lengths → Regs → List ℕ → List PageWord → ℕ → List PageWord
prg_pages_after z g b pages a =
    pick (maps_prg a) (prg_mapped z.prg z.ram g b pages)
    (pick (eqb a 0x5104) (set pages 23 (exram_page g.exram_mode))
    pages)

-- The CHR table after a write. Module 5: "A $5130 write maps with the present set and doesn't choose again."
unfoldable pub chr_pages_after : Lengths → Regs → List ℕ → Bool → List PageWord → ℕ → List PageWord
chr_pages_after z g b bg pages a =
    pick (maps_chr a) (chr_mapped z.chr z.chr_writable g b bg pages)
    (pick (maps_names a) (names_mapped g.nametables (nametable_use g) pages)
    pages)

-- The state after a write to a register: each group after it, then the tables, mapped by the groups as they then are.
unfoldable pub register_written : State → ℕ → ℕ → State
register_written s a v =
    let g = written s.regs a v in
    let p = ppu_after s.ppu s.irq.in_frame a in
    record {
      lengths = s.lengths;
      regs = g;
      vsplit = split_after s.vsplit a v;
      irq = irq_after s.irq a v;
      ppu = p;
      screen = record { mirroring = mirroring_after s.screen.mirroring a v };
      prg_banks = prg_banks_after s.prg_banks a v;
      chr_banks = chr_banks_after s.chr_banks a v;
      prg_pages = prg_pages_after s.lengths g (prg_banks_after s.prg_banks a v) s.prg_pages a;
      chr_pages = chr_pages_after s.lengths g (chr_banks_after s.chr_banks a v) p.bg_set s.chr_pages a;
    }

-- Module 6: "In modes 0, 1 a CPU write to $5C00-$5FFF stores the value when rendering, else 0."
unfoldable pub latched : ℕ → Bool → ℕ → ℕ → List ℕ → List ℕ
latched mode rendering a v l = pick (within 0x5C00 0x5FFF a && leb mode 1) (set l (a - 0x5C00) (pick rendering v 0)) l

-- The page word at a CPU address.
abbrev pub prg_word_at : List PageWord → ℕ → PageWord
prg_word_at pages a = get_or pages (a / 1024) (word 0)

-- The buffers after a write: module 6's own store into ExRAM in modes 0 and 1, then the store through the page that is shown after the register write.
unfoldable pub cpu_stored : State → Mem → ℕ → ℕ → Mem
cpu_stored s m a v =
    page_stored
    (mem_of m.prg m.chr m.ram m.ciram (latched s.regs.exram_mode s.ppu.rendering a v m.exram))
    (page_of (prg_word_at (register_written s a v).prg_pages a))
    a
    v

-- 01, refusal 6: "CPU write of $5000, $5002-$5004, $5006, $5007, $5010, $5011, $5015"
abbrev pub audio_write : ℕ → Bool
audio_write a = eqb a 0x5000 || (within 0x5002 0x5004 a || (within 0x5006 0x5007 a || (within 0x5010 0x5011 a || eqb a 0x5015)))
