-- A CPU read answers a register's value or the page. And it is what it was: a test for each register in turn, and the page behind them.
use Prim.Native.Nat.{ℕ, ◌-◌, ◌*◌, ◌/◌, ◌%◌}
use mathlib.Core.List.{List}
use mathlib.Core.Option.{Option}
use mathlib.Core.Path.{◌≡◌}
use native.Mathlib.Omega.{arith}
use lib.Dec.{eqb}
use Rattle.std.proofs.lemmas.Grind.{common_steps}
use lib.ListN.{get_or}
use Rattle.memory.specs.Tests.{pick}
use Rattle.answers.specs.declared.Answer.{Answer}
use Rattle.answers.specs.declared.Answer.TheVariants.{Register}
use Rattle.registers.specs.declared.Regs.{Regs}
use Rattle.scanline.specs.declared.Detector.{Detector}
use Rattle.scanline.specs.Steps.{status_of}
use Rattle.split.specs.declared.VSplit.{VSplit}
use Rattle.cpu.specs.Groups.{within}
use Rattle.cpu.specs.Reads.{or_else, register_at, register_read, irq_read}

-- What holds of any register's value and of the page holds of the read.
pub or_keeps : (P : Answer → Type 0) (o : Option ℕ) (page : Answer) → ((v : ℕ) → P (Register v)) → P page → P (or_else o page)
or_keeps P o page r p = grind (arith, common_steps)

pub read_is : (g : Regs) (v : VSplit) (d : Detector) (prg chr : List ℕ) (a : ℕ) (page : Answer)
    → register_read g v d prg chr a page ≡
    (pick (within 0x5113 0x5117 a) (Register (get_or prg (a - 0x5113) 0))
    (pick (within 0x5120 0x512B a) (Register (get_or chr (a - 0x5120) 0))
    (pick (eqb a 0x5100) (Register g.prg_mode)
    (pick (eqb a 0x5101) (Register g.chr_mode)
    (pick (eqb a 0x5104) (Register g.exram_mode)
    (pick (eqb a 0x5105) (Register g.nametables)
    (pick (eqb a 0x5106) (Register g.fill_tile)
    (pick (eqb a 0x5107) (Register g.fill_attr)
    (pick (eqb a 0x5130) (Register 0)
    (pick (eqb a 0x5200) (Register v.mode)
    (pick (eqb a 0x5201) (Register v.scroll)
    (pick (eqb a 0x5202) (Register v.bank)
    (pick (eqb a 0x5203) (Register d.irq_scanline)
    (pick (eqb a 0x5204) (Register (status_of d))
    (pick (eqb a 0x5205) (Register (g.multiplicand * g.multiplier % 256))
    (pick (eqb a 0x5206) (Register (g.multiplicand * g.multiplier / 256))
    page))))))))))))))))
unfolding register_read register_at
read_is g v d prg chr a page = grind (arith, common_steps)

-- Of a detector the three fields that a read can change; a read changes no other.
abbrev pub read_fields : Detector → Detector → Detector
read_fields d e =
    record {
      prev_some = e.prev_some;
      prev_addr = d.prev_addr;
      match_count = d.match_count;
      reading = d.reading;
      idle_count = d.idle_count;
      in_frame = e.in_frame;
      scanline = d.scanline;
      pending = e.pending;
      irq_enabled = d.irq_enabled;
      irq_scanline = d.irq_scanline;
    }

pub read_changes : (d : Detector) (a : ℕ) → irq_read d a ≡ read_fields d (irq_read d a)
unfolding irq_read
read_changes d a = grind (arith, common_steps)
