-- A CPU read or peek. 01, "The board we take": "A CPU read asks the registers first, then the page".
use Rattle.std.specs.Prelude.{ℕ, ◌-◌, ◌*◌, ◌/◌, ◌%◌, Bool, ◌||◌, List, eqb, get_or}
use Rattle.std.proofs.Math.Option.{Option, none, some}
use Rattle.memory.specs.declared.Page.{Page}
use Rattle.memory.specs.declared.Src.{Src}
use Rattle.memory.specs.declared.Src.TheVariants.{PrgRom, PrgRam, Chr, CiRam, ExRam}
use Rattle.memory.specs.declared.Src.TheVariants as src
use Rattle.memory.specs.Bytes.{Mem, page_byte}
use Rattle.memory.specs.Tests.{pick}
use Rattle.memory.specs.PageWords.{page_of}
use Rattle.answers.specs.declared.Answer.{Answer}
use Rattle.answers.specs.declared.Answer.TheVariants.{Register, Page as FromPage, Blank}
use Rattle.registers.specs.declared.Regs.{Regs}
use Rattle.scanline.specs.declared.Detector.{Detector}
use Rattle.scanline.specs.Steps.{status_of, status_read, vector_read}
use Rattle.split.specs.declared.VSplit.{VSplit}
use Rattle.state.specs.declared.State.{State}
use Rattle.cpu.specs.Groups.{within}
use Rattle.cpu.specs.Writes.{prg_word_at}

-- A blank page answers blank, any other its byte.
abbrev pub answered_as : Src → ℕ → Answer
answered_as src.Blank v = Blank
answered_as PrgRom v = FromPage v
answered_as PrgRam v = FromPage v
answered_as Chr v = FromPage v
answered_as CiRam v = FromPage v
answered_as ExRam v = FromPage v

unfoldable pub page_answer : Mem → Page → ℕ → Answer
page_answer m p a = answered_as p.src (page_byte m p a)

-- The registers that can be read: the value of the one at an address, or none. Which they are is the Rust's (`prg_peek`). Module 9: "$5130 reads 0
-- always."
unfoldable pub register_at : Regs → VSplit → Detector → List ℕ → List ℕ → ℕ → Option ℕ
register_at g v d prg chr a =
    pick (within 0x5113 0x5117 a) (some (get_or prg (a - 0x5113) 0))
    (pick (within 0x5120 0x512B a) (some (get_or chr (a - 0x5120) 0))
    (pick (eqb a 0x5100) (some g.prg_mode)
    (pick (eqb a 0x5101) (some g.chr_mode)
    (pick (eqb a 0x5104) (some g.exram_mode)
    (pick (eqb a 0x5105) (some g.nametables)
    (pick (eqb a 0x5106) (some g.fill_tile)
    (pick (eqb a 0x5107) (some g.fill_attr)
    (pick (eqb a 0x5130) (some 0)
    (pick (eqb a 0x5200) (some v.mode)
    (pick (eqb a 0x5201) (some v.scroll)
    (pick (eqb a 0x5202) (some v.bank)
    (pick (eqb a 0x5203) (some d.irq_scanline)
    (pick (eqb a 0x5204) (some (status_of d))
    (pick (eqb a 0x5205) (some (g.multiplicand * g.multiplier % 256))
    (pick (eqb a 0x5206) (some (g.multiplicand * g.multiplier / 256))
    none)))))))))))))))

-- the registers first, then the page
abbrev pub or_else : Option ℕ → Answer → Answer
or_else (some v) page = Register v
or_else none page = page

unfoldable pub register_read : Regs → VSplit → Detector → List ℕ → List ℕ → ℕ → Answer → Answer
register_read g v d prg chr a page = or_else (register_at g v d prg chr a) page

-- Module 9: "The $5204 peek clears nothing": a read does. "Fetches, runs, breaks": "a CPU read of $FFFA or $FFFB" is a break; by demand 3 it clears
-- the flag too.
unfoldable pub irq_read : Detector → ℕ → Detector
irq_read d a =
    pick (eqb a 0x5204) (status_read d)
    (pick (eqb a 0xFFFA || eqb a 0xFFFB) (vector_read d)
    d)

-- What a CPU read or peek answers.
unfoldable pub cpu_answer : State → Mem → ℕ → Answer
cpu_answer s m a =
    register_read s.regs s.vsplit s.irq s.prg_banks s.chr_banks a (page_answer m (page_of (prg_word_at s.prg_pages a)) a)

-- 01, refusal 6: "CPU read or peek of $5010, $5015"
abbrev pub audio_read : ℕ → Bool
audio_read a = eqb a 0x5010 || eqb a 0x5015
