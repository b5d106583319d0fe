-- After a call, the numbers that answers give are bytes where they were before it.
use Prim.Native.Nat.{ℕ, zero, suc, ◌+◌, ◌-◌, ◌<◌}
use mathlib.Core.Bool.{Bool, ◌&&◌, ◌||◌, not}
use mathlib.Core.List.{List, [], ◌∷◌}
use native.Mathlib.Omega.{arith}
use lib.Dec.{eqb, leb, ltb}
use lib.ListN.{get_or, set}
use Rattle.std.specs.Prelude.{Ok, Err}
use Rattle.memory.specs.declared.Page.{Page}
use Rattle.memory.specs.declared.PageWord.{PageWord}
use Rattle.memory.specs.declared.Src.{Src}
use Rattle.memory.specs.declared.Src.TheVariants.{PrgRom, PrgRam, Chr, CiRam, ExRam}
use Rattle.memory.specs.declared.Src.TheVariants as src
use Rattle.memory.specs.Bytes.{Mem, stored_at, page_stored}
use Rattle.memory.specs.Tests.{pick}
use Rattle.memory.proofs.Tests.{pick_keeps}
use Rattle.answers.specs.declared.Refusal.{Refusal}
use Rattle.answers.specs.declared.Refusal.TheVariants.{Audio, Counter, State as Broken}
use Rattle.answers.proofs.NumberLaws.{numbered}
use Rattle.registers.specs.declared.Regs.{Regs}
use Rattle.registers.specs.Registers.{attribute_use, nametable_use, written, reset_regs}
use Rattle.scanline.specs.declared.Detector.{Detector}
use Rattle.scanline.specs.Fetches.{counted_at, name_at}
use Rattle.scanline.specs.Ranges.{counter_refused}
use Rattle.scanline.specs.Steps.{dark, seen_at, clocked}
use Rattle.split.specs.declared.VSplit.{VSplit}
use Rattle.split.specs.Control.{split_active}
use Rattle.split.specs.Region.{after_name}
use Rattle.state.specs.declared.State.{State}
use Rattle.state.specs.Gate.{Gate, gate_mem}
use Rattle.state.specs.Ranges.{in_range}
use Rattle.state.specs.With.{with_irq, with_ppu}
use Rattle.cpu.specs.Groups.{within, split_after, irq_after, prg_banks_after, chr_banks_after}
use Rattle.cpu.specs.Reads.{irq_read, audio_read}
use Rattle.cpu.specs.Writes.{register_written, latched, cpu_stored, audio_write}
use Rattle.cpu.specs.PpuRegisters.{status_after, detector_after}
use Rattle.ppu.specs.Fetches.{split_seen}
use Rattle.board.specs.declared.Outcome.{Outcome}
use Rattle.board.specs.CpuSide.{cpu_read, cpu_write}
use Rattle.board.specs.Outcomes.{refused, After, after_of, behind}
use Rattle.board.specs.StateCalls.{reset_call, clock_call, ppu_register_call}
use Rattle.board_ppu.specs.Counted.{counted_irq, counted_ppu, counted_split}
use Rattle.board_ppu.specs.Fetch.{counted_call, pattern_ppu, pattern_call, ppu_fetch}
use Rattle.board_ppu.proofs.Made.{counted_by_groups}
use Rattle.board_ppu.specs.Peeks.{chr_answer, ppu_write}
use Rattle.trace.specs.declared.Call.{Call}
use Rattle.trace.specs.declared.Call.TheVariants.{Clock, CpuRead, CpuWrite, PpuRegister, PpuFetch, Reset, PpuWrite}
use Rattle.trace.specs.Promise.{InRange}
use Rattle.calls.specs.Called.{over_lent, called}
use Rattle.transcript.specs.Bytes.{Bytes, SmallMem}
use Rattle.transcript.proofs.Small.{SmallRegs, SmallSplit, SmallState, SmallAnswer, page_small, read_small, counted_small, pattern_small}

-- Stores -----------------------------------------------------------------------------------------------------------------------------

abbrev Small : ℕ → Type 0
Small n = n < 256

set_bytes : (l : List ℕ) (at v : ℕ) → v < 256 → Bytes l → (i : ℕ) → get_or (set l at v) i 0 < 256
set_bytes [] at v h b i = b i
set_bytes (x ∷ l) zero v h b zero = h
set_bytes (x ∷ l) zero v h b (suc i) = b (suc i)
set_bytes (x ∷ l) (suc at) v h b zero = b zero
set_bytes (x ∷ l) (suc at) v h b (suc i) = set_bytes l at v h (λ j. b (suc j)) i

stored_small : (m : Mem) (to : Src) (i v : ℕ) → v < 256 → SmallMem m → SmallMem (stored_at m to i v)
unfolding stored_at
stored_small m src.Blank i v k h = h
stored_small m PrgRom i v k h = h
stored_small m PrgRam i v k h = record { prg = h.prg; chr = h.chr; ram = set_bytes m.ram i v k h.ram; ciram = h.ciram; exram = h.exram }
stored_small m Chr i v k h = record { prg = h.prg; chr = set_bytes m.chr i v k h.chr; ram = h.ram; ciram = h.ciram; exram = h.exram }
stored_small m CiRam i v k h = record { prg = h.prg; chr = h.chr; ram = h.ram; ciram = set_bytes m.ciram i v k h.ciram; exram = h.exram }
stored_small m ExRam i v k h = record { prg = h.prg; chr = h.chr; ram = h.ram; ciram = h.ciram; exram = set_bytes m.exram i v k h.exram }

page_stored_small : (m : Mem) (p : Page) (a v : ℕ) → v < 256 → SmallMem m → SmallMem (page_stored m p a v)
unfolding page_stored
page_stored_small m p a v k h = pick_keeps SmallMem p.writable (stored_small m p.src _ v k h) h

latched_small : (mode : ℕ) (rendering : Bool) (a v : ℕ) (l : List ℕ) → v < 256 → Bytes l → Bytes (latched mode rendering a v l)
unfolding latched
latched_small mode rendering a v l k h =
    pick_keeps Bytes (within 0x5C00 0x5FFF a && leb mode 1) (set_bytes l (a - 0x5C00) (pick rendering v 0) (pick_keeps Small rendering k (omega arith)) h) h

cpu_stored_small : (s : State) (m : Mem) (a v : ℕ) → v < 256 → SmallMem m → SmallMem (cpu_stored s m a v)
unfolding cpu_stored
cpu_stored_small s m a v k h =
    page_stored_small _ _ a v k
    (record { prg = h.prg; chr = h.chr; ram = h.ram; ciram = h.ciram; exram = latched_small s.regs.exram_mode s.ppu.rendering a v m.exram k h.exram })

-- Registers --------------------------------------------------------------------------------------------------------------------------

written_small : (g : Regs) (a v : ℕ) → v < 256 → SmallRegs g → SmallRegs (written g a v)
unfolding written
written_small g a v k h =
    record {
      prg_mode = pick_keeps Small (eqb a 0x5100) (omega arith) h.prg_mode;
      chr_mode = pick_keeps Small (eqb a 0x5101) (pick_keeps Small (attribute_use g) (omega arith) (omega arith)) h.chr_mode;
      exram_mode = pick_keeps Small (eqb a 0x5104) (omega arith) h.exram_mode;
      nametables = pick_keeps Small (eqb a 0x5105) k h.nametables;
      fill_tile = pick_keeps Small (eqb a 0x5106) k h.fill_tile;
      fill_attr = pick_keeps Small (eqb a 0x5107) (omega arith) h.fill_attr;
      multiplicand = pick_keeps Small (eqb a 0x5205) k h.multiplicand;
      multiplier = pick_keeps Small (eqb a 0x5206) k h.multiplier;
    }

pub split_after_small : (s : VSplit) (a v : ℕ) → v < 256 → SmallSplit s → SmallSplit (split_after s a v)
unfolding split_after
split_after_small s a v k h =
    pick_keeps SmallSplit (eqb a 0x5200) (record { mode = k; scroll = h.scroll; bank = h.bank })
    (pick_keeps SmallSplit (eqb a 0x5201) (record { mode = h.mode; scroll = k; bank = h.bank })
    (pick_keeps SmallSplit (eqb a 0x5202) (record { mode = h.mode; scroll = h.scroll; bank = k }) h))

abbrev SmallLine : Detector → Type 0
SmallLine d = d.irq_scanline < 256

irq_after_small : (d : Detector) (a v : ℕ) → v < 256 → SmallLine d → SmallLine (irq_after d a v)
unfolding irq_after
irq_after_small d a v k h = pick_keeps SmallLine (eqb a 0x5203) k (pick_keeps SmallLine (eqb a 0x5204) h h)

pub prg_banks_small : (b : List ℕ) (a v : ℕ) → v < 256 → Bytes b → Bytes (prg_banks_after b a v)
unfolding prg_banks_after
prg_banks_small b a v k h = pick_keeps Bytes (within 0x5113 0x5117 a) (set_bytes b (a - 0x5113) v k h) h

pub chr_banks_small : (b : List ℕ) (a v : ℕ) → v < 256 → Bytes b → Bytes (chr_banks_after b a v)
unfolding chr_banks_after
chr_banks_small b a v k h =
    pick_keeps Bytes (within 0x5120 0x5127 a) (set_bytes b (a - 0x5120) v k h)
    (pick_keeps Bytes (within 0x5128 0x512B a) (set_bytes (set b (a - 0x5120) v) (a - 0x5120 + 4) v k (set_bytes b (a - 0x5120) v k h)) h)

register_small : (s : State) (a v : ℕ) → v < 256 → SmallState s → SmallState (register_written s a v)
unfolding register_written
register_small s a v k h =
    record {
      regs = written_small s.regs a v k h.regs;
      split = split_after_small s.vsplit a v k h.split;
      line = irq_after_small s.irq a v k h.line;
      prg_banks = prg_banks_small s.prg_banks a v k h.prg_banks;
      chr_banks = chr_banks_small s.chr_banks a v k h.chr_banks;
    }

-- Calls ------------------------------------------------------------------------------------------------------------------------------

pub record SmallAfter (x : After) : Type 0 where
  pub answer : SmallAnswer x.out.answer
  pub state : SmallState x.out.state
  pub mem : SmallMem x.mem

-- The same of a call that stores nothing.
abbrev SmallOut : Outcome → Type 0
SmallOut o = SmallAnswer o.answer × SmallState o.state

refused_small : (s : State) (why : Refusal) → SmallState s → SmallOut (refused s why)
refused_small s why h = (omega (arith, numbered.most why), h)

unstored : (o : Outcome) (m : Mem) → SmallOut o → SmallMem m → SmallAfter (after_of o m)
unstored o m h k = record { answer = h.0; state = h.1; mem = k }

pub behind_keeps : {A : Type 0} (P : A → Type 0) (g : Gate) (f : Refusal → A) (x : A) → ((why : Refusal) → P (f why)) → P x → P (behind g f x)
behind_keeps P (Ok u) f x r h = h
behind_keeps P (Err why) f x r h = r why

with_irq_lem : (s : State) (d : Detector) → SmallLine d → SmallState s → SmallState (with_irq s d)
with_irq_lem s d k h = record { regs = h.regs; split = h.split; line = k; prg_banks = h.prg_banks; chr_banks = h.chr_banks }

clock_small : (s : State) → SmallState s → SmallOut (clock_call s)
unfolding clock_call
clock_small s h = pick_keeps SmallOut (not (in_range s)) (refused_small s Broken h) (omega arith, with_irq_lem s (clocked s.irq) h.line h)

reset_small : (s : State) → SmallState s → SmallOut (reset_call s)
unfolding reset_call
reset_small s h =
    let g : SmallRegs (reset_regs s.regs) =
    record { prg_mode = omega arith; chr_mode = omega arith; exram_mode = h.regs.exram_mode; nametables = h.regs.nametables; fill_tile = h.regs.fill_tile; fill_attr = h.regs.fill_attr; multiplicand = h.regs.multiplicand; multiplier = h.regs.multiplier } in
    pick_keeps SmallOut (not (in_range s)) (refused_small s Broken h)
    (omega arith, record { regs = g; split = h.split; line = h.line; prg_banks = h.prg_banks; chr_banks = h.chr_banks })

detector_small : (d : Detector) (a v : ℕ) → SmallLine d → SmallLine (detector_after d a v)
unfolding detector_after
detector_small d a v h = pick_keeps SmallLine (eqb a 0x2001 && dark v) h h

ppu_register_small : (s : State) (a v : ℕ) → SmallState s → SmallOut (ppu_register_call s a v)
unfolding ppu_register_call
ppu_register_small s a v h =
    pick_keeps SmallOut (not (in_range s)) (refused_small s Broken h)
    (omega arith, with_irq_lem (with_ppu s (status_after s.ppu a v)) (detector_after s.irq a v) (detector_small s.irq a v h.line) h)

irq_read_small : (d : Detector) (a : ℕ) → SmallLine d → SmallLine (irq_read d a)
unfolding irq_read
irq_read_small d a h = pick_keeps SmallLine (eqb a 0x5204) h (pick_keeps SmallLine (eqb a 0xFFFA || eqb a 0xFFFB) h h)

cpu_read_small : (s : State) (m : Mem) (a : ℕ) → SmallState s → SmallMem m → SmallOut (cpu_read s m a)
unfolding cpu_read
cpu_read_small s m a h k =
    behind_keeps SmallOut (gate_mem s m) _ _ (λ why. refused_small s why h)
    (pick_keeps SmallOut (audio_read a) (refused_small s Audio h)
    (read_small s m a h k, with_irq_lem s (irq_read s.irq a) (irq_read_small s.irq a h.line) h))

cpu_write_small : (s : State) (m : Mem) (a v : ℕ) → v < 256 → SmallState s → SmallMem m → SmallAfter (cpu_write s m a v)
unfolding cpu_write
cpu_write_small s m a v b h k =
    behind_keeps SmallAfter (gate_mem s m) _ _ (λ why. unstored (refused s why) m (refused_small s why h) k)
    (pick_keeps SmallAfter (audio_write a) (unstored (refused s Audio) m (refused_small s Audio h) k)
    (record { answer = omega arith; state = register_small s a v b h; mem = cpu_stored_small s m a v b k }))

chr_small : (pages : List PageWord) (m : Mem) (a : ℕ) → SmallMem m → SmallAnswer (chr_answer pages m a)
unfolding chr_answer
chr_small pages m a k = page_small m _ a k

name_small : (v : VSplit) (column : ℕ) (first : Bool) (scroll : ℕ) → SmallSplit v → SmallSplit (after_name v column first scroll)
unfolding after_name
name_small v column first scroll h = record { mode = h.mode; scroll = h.scroll; bank = h.bank }

pub seen_small : (g : Regs) (v : VSplit) (d : Detector) (tiles a : ℕ) → SmallSplit v → SmallSplit (split_seen g v d tiles a)
unfolding split_seen
seen_small g v d tiles a h =
    pick_keeps SmallSplit (name_at a && split_active v (nametable_use g) d.in_frame) (name_small v _ _ _ h) h

line_small : (d : Detector) (a : ℕ) → SmallLine d → SmallLine (seen_at d a)
unfolding seen_at
line_small d a h = h

counted_call_small : (s : State) (m : Mem) (a : ℕ) → SmallState s → SmallMem m → SmallOut (counted_call s m a)
counted_call_small s m a h k = rw (counted_by_groups s m a) (
  counted_small s.regs (counted_split s a) (counted_irq s a).in_frame (counted_ppu s a) m.exram a (chr_answer s.chr_pages m a) h.regs k.exram (chr_small s.chr_pages m a k),
  record { regs = h.regs; split = seen_small s.regs s.vsplit (counted_irq s a) (counted_ppu s a).tile_number a h.split; line = line_small s.irq a h.line; prg_banks = h.prg_banks; chr_banks = h.chr_banks },
)

pattern_call_small : (s : State) (m : Mem) (a : ℕ) → SmallState s → SmallMem m → SmallOut (pattern_call s m a)
unfolding pattern_call
pattern_call_small s m a h k =
    (pattern_small s.regs s.vsplit s.irq (pattern_ppu s) m.exram m.chr a _ k.chr (chr_small _ m a k), h)

fetch_small : (s : State) (m : Mem) (a : ℕ) → SmallState s → SmallMem m → SmallOut (ppu_fetch s m a)
unfolding ppu_fetch
fetch_small s m a h k =
    behind_keeps SmallOut (gate_mem s m) _ _ (λ why. refused_small s why h)
    (pick_keeps SmallOut (counter_refused s.irq a) (refused_small s Counter h)
    (pick_keeps SmallOut (counted_at a) (counted_call_small s m a h k)
    (pick_keeps SmallOut (ltb a 0x2000) (pattern_call_small s m a h k)
    (chr_small s.chr_pages m a k, h))))

ppu_write_small : (s : State) (m : Mem) (a v : ℕ) → v < 256 → SmallState s → SmallMem m → SmallAfter (ppu_write s m a v)
unfolding ppu_write
ppu_write_small s m a v b h k =
    behind_keeps SmallAfter (gate_mem s m) _ _ (λ why. unstored (refused s why) m (refused_small s why h) k)
    (record { answer = omega arith; state = h; mem = page_stored_small m _ a v b k })

over_lent_small : (s : State) (m : Mem) (o : Outcome) → SmallState s → SmallMem m → SmallOut o → SmallAfter (over_lent s m o)
over_lent_small s m o h k p =
    unstored (behind (gate_mem s m) (refused s) o) m (behind_keeps SmallOut (gate_mem s m) (refused s) o (λ why. refused_small s why h) p) k

pub called_small : (call : Call) (s : State) (m : Mem) → InRange call → SmallState s → SmallMem m → SmallAfter (called call s m)
unfolding InRange
called_small Clock s m r h k = over_lent_small s m (clock_call s) h k (clock_small s h)
called_small (CpuRead a) s m r h k = unstored (cpu_read s m a.0) m (cpu_read_small s m a.0 h k) k
called_small (CpuWrite a v) s m r h k = cpu_write_small s m a.0 v (omega (arith, r.1)) h k
called_small (PpuRegister a v) s m r h k = over_lent_small s m (ppu_register_call s a.0 v) h k (ppu_register_small s a.0 v h)
called_small (PpuFetch a) s m r h k = unstored (ppu_fetch s m a.0) m (fetch_small s m a.0 h k) k
called_small Reset s m r h k = over_lent_small s m (reset_call s) h k (reset_small s h)
called_small (PpuWrite a v) s m r h k = ppu_write_small s m a.0 v (omega (arith, r.1)) h k
