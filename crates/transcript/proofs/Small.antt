-- The numbers that answers give are bytes: the registers that can be read, the bank registers and the bytes of the five buffers, and so all that is
-- answered from them.
use Prim.Native.Nat.{ℕ, zero, suc, ◌+◌, ◌*◌, ◌/◌, ◌%◌, ◌<◌}
use mathlib.Core.Bool.{Bool, true, false, ◌&&◌, not}
use mathlib.Core.List.{List, [], ◌∷◌}
use mathlib.Core.Option
use mathlib.Core.Option.{Option, none, some}
use native.Mathlib.Nat.{mul-le-mul}
use native.Mathlib.Omega.{arith}
use lib.Dec.{eqb}
use lib.ListN.{length, get_or}
use Rattle.memory.specs.declared.Page.{Page}
use Rattle.memory.specs.declared.Src.{Src}
use Rattle.memory.specs.declared.Src.TheVariants.{PrgRom, PrgRam, Chr, CiRam, ExRam}
use Rattle.memory.specs.declared.Src.TheVariants as src
use Rattle.memory.specs.Bytes.{Mem, byte_at}
use Rattle.memory.specs.Tests.{pick}
use Rattle.memory.proofs.Tests.{pick_keeps}
use Rattle.answers.specs.declared.Answer.{Answer}
use Rattle.answers.specs.Letters.{value_of}
use Rattle.registers.specs.declared.Regs.{Regs}
use Rattle.registers.specs.Registers.{attribute_use, nametable_use}
use Rattle.banks.specs.Names.{selector}
use Rattle.scanline.specs.declared.Detector.{Detector}
use Rattle.scanline.specs.Fetches.{attribute_at}
use Rattle.scanline.specs.Tiles.{sprite_fetch}
use Rattle.split.specs.declared.VSplit.{VSplit}
use Rattle.split.specs.Places.{mirrored_byte}
use Rattle.state.specs.declared.PpuStatus.{PpuStatus}
use Rattle.state.specs.declared.State.{State}
use Rattle.cpu.specs.Groups.{within}
use Rattle.cpu.specs.Reads.{answered_as, page_answer, or_else, register_at, register_read, cpu_answer}
use Rattle.ppu.specs.Served.{direct, split_byte, split_serves, counted_served, pattern_served}
use Rattle.ppu.proofs.ServedLaws.{counted_is, pattern_is}
use Rattle.transcript.specs.Bytes.{Bytes, SmallMem}

pub record SmallRegs (g : Regs) : Type 0 where
  pub prg_mode : g.prg_mode < 256
  pub chr_mode : g.chr_mode < 256
  pub exram_mode : g.exram_mode < 256
  pub nametables : g.nametables < 256
  pub fill_tile : g.fill_tile < 256
  pub fill_attr : g.fill_attr < 256
  pub multiplicand : g.multiplicand < 256
  pub multiplier : g.multiplier < 256

pub record SmallSplit (v : VSplit) : Type 0 where
  pub mode : v.mode < 256
  pub scroll : v.scroll < 256
  pub bank : v.bank < 256

-- The groups of a state that calls read numbers from: `target` is $5203.
pub record SmallGroups (g : Regs) (v : VSplit) (target : ℕ) (prg chr : List ℕ) : Type 0 where
  pub regs : SmallRegs g
  pub split : SmallSplit v
  pub line : target < 256
  pub prg_banks : Bytes prg
  pub chr_banks : Bytes chr

abbrev pub SmallState : State → Type 0
SmallState s = SmallGroups s.regs s.vsplit s.irq.irq_scanline s.prg_banks s.chr_banks

abbrev pub SmallAnswer : Answer → Type 0
SmallAnswer a = value_of a < 256

-- Pages ------------------------------------------------------------------------------------------------------------------------------

byte_small : (m : Mem) (from : Src) (i : ℕ) → SmallMem m → byte_at m from i < 256
unfolding byte_at
byte_small m src.Blank i h = omega arith
byte_small m PrgRom i h = h.prg i
byte_small m PrgRam i h = h.ram i
byte_small m Chr i h = h.chr i
byte_small m CiRam i h = h.ciram i
byte_small m ExRam i h = h.exram i

shown_small : (from : Src) (v : ℕ) → v < 256 → SmallAnswer (answered_as from v)
shown_small src.Blank v h = omega arith
shown_small PrgRom v h = h
shown_small PrgRam v h = h
shown_small Chr v h = h
shown_small CiRam v h = h
shown_small ExRam v h = h

pub page_small : (m : Mem) (p : Page) (a : ℕ) → SmallMem m → SmallAnswer (page_answer m p a)
unfolding page_answer
page_small m p a h = shown_small p.src _ (byte_small m p.src _ h)

-- A CPU read -------------------------------------------------------------------------------------------------------------------------

product_small : (x y : ℕ) → x < 256 → y < 256 → x * y / 256 < 256
product_small x y h k = omega (arith, mul-le-mul {n₁ = x} {m₁ = y} {n₂ = 255} {m₂ = 255} (omega (arith, h)) (omega (arith, k)))

status_small : (b c : Bool) → pick b 128 0 + pick c 64 0 < 256
status_small true true = omega arith
status_small true false = omega arith
status_small false true = omega arith
status_small false false = omega arith

-- A register's value, if there is one.
abbrev SmallValue : Option ℕ → Type 0
SmallValue o = Option.get_or o 0 < 256

or_small : (o : Option ℕ) (page : Answer) → SmallValue o → SmallAnswer page → SmallAnswer (or_else o page)
or_small none page h k = k
or_small (some v) page h k = h

register_small : (s : State) (a : ℕ) → SmallState s → SmallValue (register_at s.regs s.vsplit s.irq s.prg_banks s.chr_banks a)
unfolding register_at
register_small s a h =
    pick_keeps SmallValue (within 0x5113 0x5117 a) (h.prg_banks _)
    (pick_keeps SmallValue (within 0x5120 0x512B a) (h.chr_banks _)
    (pick_keeps SmallValue (eqb a 0x5100) h.regs.prg_mode
    (pick_keeps SmallValue (eqb a 0x5101) h.regs.chr_mode
    (pick_keeps SmallValue (eqb a 0x5104) h.regs.exram_mode
    (pick_keeps SmallValue (eqb a 0x5105) h.regs.nametables
    (pick_keeps SmallValue (eqb a 0x5106) h.regs.fill_tile
    (pick_keeps SmallValue (eqb a 0x5107) h.regs.fill_attr
    (pick_keeps SmallValue (eqb a 0x5130) (omega arith)
    (pick_keeps SmallValue (eqb a 0x5200) h.split.mode
    (pick_keeps SmallValue (eqb a 0x5201) h.split.scroll
    (pick_keeps SmallValue (eqb a 0x5202) h.split.bank
    (pick_keeps SmallValue (eqb a 0x5203) h.line
    (pick_keeps SmallValue (eqb a 0x5204) (status_small s.irq.pending s.irq.in_frame)
    (pick_keeps SmallValue (eqb a 0x5205) (omega arith)
    (pick_keeps SmallValue (eqb a 0x5206) (product_small s.regs.multiplicand s.regs.multiplier h.regs.multiplicand h.regs.multiplier)
    (omega arith))))))))))))))))

pub read_small : (s : State) (m : Mem) (a : ℕ) → SmallState s → SmallMem m → SmallAnswer (cpu_answer s m a)
unfolding cpu_answer register_read
read_small s m a h k =
    or_small (register_at s.regs s.vsplit s.irq s.prg_banks s.chr_banks a) _ (register_small s a h) (page_small m _ a k)

-- What is served in the page's place -------------------------------------------------------------------------------------------------

abbrev Small : ℕ → Type 0
Small n = n < 256

of_four : (i : ℕ) → get_or (0x00 ∷ 0x55 ∷ 0xAA ∷ 0xFF ∷ []) i 0 < 256
of_four zero = omega arith
of_four (suc zero) = omega arith
of_four (suc (suc zero)) = omega arith
of_four (suc (suc (suc zero))) = omega arith
of_four (suc (suc (suc (suc i)))) = omega arith

mirrored_small : (bits : ℕ) → mirrored_byte bits < 256
unfolding mirrored_byte
mirrored_small bits = of_four (bits % 4)

direct_small : (chr : List ℕ) (o : ℕ) → Bytes chr → direct chr o < 256
unfolding direct
direct_small chr o h = pick_keeps Small (eqb (length chr) 0) (omega arith) (h _)

split_small : (v : VSplit) (exram : List ℕ) (name : Bool) → Bytes exram → split_byte v exram name < 256
unfolding split_byte
split_small v exram name h = pick_keeps Small name (h _) (mirrored_small _)

pub counted_small : (g : Regs) (v : VSplit) (framed : Bool) (p : PpuStatus) (exram : List ℕ) (a : ℕ) (page : Answer) → SmallRegs g → Bytes exram → SmallAnswer page
    → SmallAnswer (counted_served g v framed p exram a page)
counted_small g v framed p exram a page h e k =
    rw (counted_is g v framed p exram a page)
    (pick_keeps SmallAnswer (split_serves g v framed) (split_small v exram _ e)
    (pick_keeps SmallAnswer (attribute_use g && (attribute_at a && not (sprite_fetch p.tile_number))) (mirrored_small _)
    (pick_keeps SmallAnswer (nametable_use g && eqb (selector g.nametables (a / 1024)) 3) (pick_keeps Small (attribute_at a) (mirrored_small _) h.fill_tile)
    k)))

pub pattern_small : (g : Regs) (v : VSplit) (d : Detector) (p : PpuStatus) (exram chr : List ℕ) (a : ℕ) (page : Answer) → Bytes chr → SmallAnswer page
    → SmallAnswer (pattern_served g v d p exram chr a page)
pattern_small g v d p exram chr a page c k =
    rw (pattern_is g v d p exram chr a page)
    (pick_keeps SmallAnswer (split_serves g v d.in_frame) (direct_small chr _ c)
    (pick_keeps SmallAnswer (attribute_use g && not (sprite_fetch p.tile_number)) (direct_small chr _ c)
    k))
