-- A state fits group by group, and after a call in range it fits where it did before. The bytes of the split and of the bank registers stay bytes by
-- the laws of crate `transcript`.
use Prim.Native.Nat.{ℕ, ◌+◌, ◌-◌, ◌<◌, ◌≤◌}
use mathlib.Core.Bool.{Bool, ◌&&◌, ◌||◌, not}
use mathlib.Core.List.{List}
use mathlib.Core.Path.{◌≡◌, ◌∙◌}
use native.Mathlib.Omega.{arith}
use lib.Dec.{eqb, ltb}
use lib.ListN.{length, set, length-set}
use Rattle.memory.specs.declared.PageWord.{PageWord}
use Rattle.memory.specs.Bytes.{Mem}
use Rattle.memory.proofs.Tests.{pick_keeps}
use Rattle.registers.specs.declared.Regs.{Regs}
use Rattle.registers.specs.Registers.{nametable_use, written}
use Rattle.banks.specs.Chr.{chr_mapped}
use Rattle.banks.specs.Names.{names_mapped}
use Rattle.banks.specs.Prg.{exram_page}
use Rattle.banks.proofs.PlacedLaws.{length_placed}
use Rattle.scanline.specs.declared.Detector.{Detector}
use Rattle.scanline.specs.Clock.{record_of}
use Rattle.scanline.specs.Fetches.{counted_at}
use Rattle.scanline.specs.Ranges.{counter_refused}
use Rattle.scanline.specs.Steps.{dark, again, matches_after, seen_at, clocked}
use Rattle.scanline.proofs.ClockLaws.{tick_is}
use Rattle.split.specs.declared.VSplit.{VSplit}
use Rattle.state.specs.declared.Lengths.{Lengths}
use Rattle.state.specs.declared.State.{State}
use Rattle.state.specs.Gate.{gate_mem}
use Rattle.state.specs.Ranges.{in_range}
use Rattle.state.specs.With.{with_irq}
use Rattle.cpu.specs.Chosen.{set_changed}
use Rattle.cpu.specs.Groups.{within, irq_after, prg_banks_after, chr_banks_after}
use Rattle.cpu.specs.PpuRegisters.{detector_after}
use Rattle.cpu.specs.Reads.{irq_read, audio_read}
use Rattle.cpu.specs.Writes.{maps_prg, maps_chr, maps_names, prg_pages_after, chr_pages_after, register_written, audio_write}
use Rattle.board.specs.declared.Outcome.{Outcome}
use Rattle.board.specs.CpuSide.{cpu_read, cpu_write}
use Rattle.board.specs.Outcomes.{After, refused, behind}
use Rattle.board.specs.StateCalls.{reset_call, clock_call, ppu_register_call}
use Rattle.board_ppu.specs.Counted.{counted_irq, counted_ppu}
use Rattle.board_ppu.specs.Fetch.{counted_call, pattern_ppu, pattern_pages, pattern_call, ppu_fetch}
use Rattle.board_ppu.proofs.Made.{counted_by_groups}
use Rattle.board_ppu.specs.Peeks.{ppu_write}
use Rattle.trace.specs.declared.Call.{Call}
use Rattle.trace.specs.declared.Call.TheVariants.{Clock, CpuRead, CpuWrite, PpuRegister, PpuFetch, Reset, PpuWrite}
use Rattle.trace.specs.Promise.{InRange}
use Rattle.calls.specs.Called.{called}
use Rattle.transcript.specs.Bytes.{Bytes}
use Rattle.transcript.proofs.Small.{SmallSplit}
use Rattle.transcript.proofs.SmallKept.{behind_keeps, split_after_small, seen_small, prg_banks_small, chr_banks_small}
use Rattle.host_state.specs.Fits.{Fits}

-- Groups ---------------------------------------------------------------------------------------------------------------------------------

pub record FitFour (names tile x y : ℕ) : Type 0 where
  pub nametables : names ≤ 255
  pub fill_tile : tile ≤ 255
  pub multiplicand : x ≤ 255
  pub multiplier : y ≤ 255

abbrev pub FitRegs : Regs → Type 0
FitRegs g = FitFour g.nametables g.fill_tile g.multiplicand g.multiplier

pub record FitThree (count line addr : ℕ) : Type 0 where
  pub match_count : count ≤ 255
  pub irq_scanline : line ≤ 255
  pub prev_addr : addr ≤ 65535

abbrev pub FitIrq : Detector → Type 0
FitIrq d = FitThree d.match_count d.irq_scanline d.prev_addr.0

abbrev pub Long : {A : Type 0} → ℕ → List A → Type 0
Long n l = length l ≡ n

pub record FitGroups (g : Regs) (v : VSplit) (d : Detector) (prg chr : List ℕ) (prg-table chr-table : List PageWord) : Type 0 where
  pub regs : FitRegs g
  pub split : SmallSplit v
  pub irq : FitIrq d
  pub prg_banks : Long 5 prg × Bytes prg
  pub chr_banks : Long 16 chr × Bytes chr
  pub prg_pages : Long 64 prg-table
  pub chr_pages : Long 16 chr-table

abbrev pub FitState : State → Type 0
FitState s = FitGroups s.regs s.vsplit s.irq s.prg_banks s.chr_banks s.prg_pages s.chr_pages

pub groups : (s : State) → Fits s → FitState s
groups s h =
    record {
      regs = record { nametables = h.nametables; fill_tile = h.fill_tile; multiplicand = h.multiplicand; multiplier = h.multiplier };
      split = record { mode = omega (arith, h.mode); scroll = omega (arith, h.scroll); bank = omega (arith, h.bank) };
      irq = record { match_count = h.match_count; irq_scanline = h.irq_scanline; prev_addr = h.prev_addr };
      prg_banks = (h.prg_banks, λ i. omega (arith, h.prg_bytes i));
      chr_banks = (h.chr_banks, λ i. omega (arith, h.chr_bytes i));
      prg_pages = h.prg_pages;
      chr_pages = h.chr_pages;
    }

pub fits : (s : State) → FitState s → Fits s
fits s h =
    record {
      prg_banks = h.prg_banks.0;
      chr_banks = h.chr_banks.0;
      prg_pages = h.prg_pages;
      chr_pages = h.chr_pages;
      prg_bytes = λ i. omega (arith, h.prg_banks.1 i);
      chr_bytes = λ i. omega (arith, h.chr_banks.1 i);
      nametables = h.regs.nametables;
      fill_tile = h.regs.fill_tile;
      multiplicand = h.regs.multiplicand;
      multiplier = h.regs.multiplier;
      mode = omega (arith, h.split.mode);
      scroll = omega (arith, h.split.scroll);
      bank = omega (arith, h.split.bank);
      match_count = h.irq.match_count;
      irq_scanline = h.irq.irq_scanline;
      prev_addr = h.irq.prev_addr;
    }

-- Lengths --------------------------------------------------------------------------------------------------------------------------------

pub length_chr : (chr : ℕ) (as_ram : Bool) (g : Regs) (b : List ℕ) (bg : Bool) (pages : List PageWord) → length (chr_mapped chr as_ram g b bg pages) ≡ length pages
unfolding chr_mapped
length_chr chr as_ram g b bg pages = length_placed pages 0 _ 8

pub length_names : (n : ℕ) (as_name : Bool) (pages : List PageWord) → length (names_mapped n as_name pages) ≡ length pages
unfolding names_mapped
length_names n as_name pages = length_placed pages 8 _ 8

prg_banks_long : (n : ℕ) (b : List ℕ) (a v : ℕ) → Long n b → Long n (prg_banks_after b a v)
unfolding prg_banks_after
prg_banks_long n b a v h = pick_keeps (Long n) (within 0x5113 0x5117 a) (length-set b (a - 0x5113) v ∙ h) h

chr_banks_long : (n : ℕ) (b : List ℕ) (a v : ℕ) → Long n b → Long n (chr_banks_after b a v)
unfolding chr_banks_after
chr_banks_long n b a v h =
    let one = length-set b (a - 0x5120) v ∙ h in
    pick_keeps (Long n) (within 0x5120 0x5127 a) one
    (pick_keeps (Long n) (within 0x5128 0x512B a) (length-set (set b (a - 0x5120) v) (a - 0x5120 + 4) v ∙ one) h)

prg_pages_long : (n : ℕ) (z : Lengths) (g : Regs) (b : List ℕ) (pages : List PageWord) (a : ℕ) → Long n pages → Long n (prg_pages_after z g b pages a)
unfolding prg_pages_after
prg_pages_long n z g b pages a h =
    pick_keeps (Long n) (maps_prg a) (length_placed pages 24 _ 40 ∙ h)
    (pick_keeps (Long n) (eqb a 0x5104) (length-set pages 23 (exram_page g.exram_mode) ∙ h) h)

chr_pages_long : (n : ℕ) (z : Lengths) (g : Regs) (b : List ℕ) (bg : Bool) (pages : List PageWord) (a : ℕ) → Long n pages → Long n (chr_pages_after z g b bg pages a)
unfolding chr_pages_after
chr_pages_long n z g b bg pages a h =
    pick_keeps (Long n) (maps_chr a) (length_chr z.chr z.chr_writable g b bg pages ∙ h)
    (pick_keeps (Long n) (maps_names a) (length_names g.nametables (nametable_use g) pages ∙ h) h)

pattern_long : (n : ℕ) (s : State) (bg : Bool) → Long n s.chr_pages → Long n (pattern_pages s bg)
unfolding pattern_pages
pattern_long n s bg h =
    pick_keeps (Long n) (set_changed s.ppu.bg_set bg) (length_chr s.lengths.chr s.lengths.chr_writable s.regs s.chr_banks bg s.chr_pages ∙ h) h

-- Registers and the detector -------------------------------------------------------------------------------------------------------------

abbrev Byte : ℕ → Type 0
Byte n = n ≤ 255

written_fits : (g : Regs) (a v : ℕ) → v ≤ 255 → FitRegs g → FitRegs (written g a v)
unfolding written
written_fits g a v k h =
    record {
      nametables = pick_keeps Byte (eqb a 0x5105) k h.nametables;
      fill_tile = pick_keeps Byte (eqb a 0x5106) k h.fill_tile;
      multiplicand = pick_keeps Byte (eqb a 0x5205) k h.multiplicand;
      multiplier = pick_keeps Byte (eqb a 0x5206) k h.multiplier;
    }

irq_after_fits : (d : Detector) (a v : ℕ) → v ≤ 255 → FitIrq d → FitIrq (irq_after d a v)
unfolding irq_after
irq_after_fits d a v k h =
    pick_keeps FitIrq (eqb a 0x5203) (record { match_count = h.match_count; irq_scanline = k; prev_addr = h.prev_addr })
    (pick_keeps FitIrq (eqb a 0x5204) h h)

heard_fits : (d : Detector) (a v : ℕ) → FitIrq d → FitIrq (detector_after d a v)
unfolding detector_after
heard_fits d a v h = pick_keeps FitIrq (eqb a 0x2001 && dark v) h h

irq_read_fits : (d : Detector) (a : ℕ) → FitIrq d → FitIrq (irq_read d a)
unfolding irq_read
irq_read_fits d a h = pick_keeps FitIrq (eqb a 0x5204) h (pick_keeps FitIrq (eqb a 0xFFFA || eqb a 0xFFFB) h h)

seen_fits : (d : Detector) (a : ℕ) → a ≤ 65535 → FitIrq d → FitIrq (seen_at d a)
unfolding seen_at matches_after
seen_fits d a k h = record { match_count = pick_keeps Byte (again d a) (omega arith) (omega arith); irq_scanline = h.irq_scanline; prev_addr = k }

-- Calls ----------------------------------------------------------------------------------------------------------------------------------

abbrev FitOut : Outcome → Type 0
FitOut o = FitState o.state

abbrev FitAfter : After → Type 0
FitAfter x = FitState x.out.state

with_irq_lem : (s : State) (d : Detector) → FitIrq d → FitState s → FitState (with_irq s d)
with_irq_lem s d k h = record { regs = h.regs; split = h.split; irq = k; prg_banks = h.prg_banks; chr_banks = h.chr_banks; prg_pages = h.prg_pages; chr_pages = h.chr_pages }

clock_fits : (s : State) → FitState s → FitOut (clock_call s)
unfolding clock_call
clock_fits s h = pick_keeps FitOut (not (in_range s)) h (with_irq_lem s (clocked s.irq) (rw (tick_is (record_of s.irq)) h.irq) h)

reset_fits : (s : State) → FitState s → FitOut (reset_call s)
unfolding reset_call
reset_fits s h =
    pick_keeps FitOut (not (in_range s)) h
    (record { regs = h.regs; split = h.split; irq = h.irq; prg_banks = h.prg_banks; chr_banks = h.chr_banks; prg_pages = h.prg_pages; chr_pages = h.chr_pages })

ppu_register_fits : (s : State) (a v : ℕ) → FitState s → FitOut (ppu_register_call s a v)
unfolding ppu_register_call
ppu_register_fits s a v h = pick_keeps FitOut (not (in_range s)) h (with_irq_lem s (detector_after s.irq a v) (heard_fits s.irq a v h.irq) h)

cpu_read_fits : (s : State) (m : Mem) (a : ℕ) → FitState s → FitOut (cpu_read s m a)
unfolding cpu_read
cpu_read_fits s m a h =
    behind_keeps FitOut (gate_mem s m) _ _ (λ why. h)
    (pick_keeps FitOut (audio_read a) h (with_irq_lem s (irq_read s.irq a) (irq_read_fits s.irq a h.irq) h))

register_fits : (s : State) (a v : ℕ) → v ≤ 255 → FitState s → FitState (register_written s a v)
unfolding register_written
register_fits s a v k h =
    let l : v < 256 = omega (arith, k) in
    record {
      regs = written_fits s.regs a v k h.regs;
      split = split_after_small s.vsplit a v l h.split;
      irq = irq_after_fits s.irq a v k h.irq;
      prg_banks = (prg_banks_long 5 s.prg_banks a v h.prg_banks.0, prg_banks_small s.prg_banks a v l h.prg_banks.1);
      chr_banks = (chr_banks_long 16 s.chr_banks a v h.chr_banks.0, chr_banks_small s.chr_banks a v l h.chr_banks.1);
      prg_pages = prg_pages_long 64 s.lengths _ _ s.prg_pages a h.prg_pages;
      chr_pages = chr_pages_long 16 s.lengths _ _ _ s.chr_pages a h.chr_pages;
    }

cpu_write_fits : (s : State) (m : Mem) (a v : ℕ) → v ≤ 255 → FitState s → FitAfter (cpu_write s m a v)
unfolding cpu_write
cpu_write_fits s m a v k h = behind_keeps FitAfter (gate_mem s m) _ _ (λ why. h) (pick_keeps FitAfter (audio_write a) h (register_fits s a v k h))

counted_fits : (s : State) (m : Mem) (a : ℕ) → a ≤ 65535 → FitState s → FitOut (counted_call s m a)
counted_fits s m a k h =
    rw (counted_by_groups s m a)
    (record {
      regs = h.regs;
      split = seen_small s.regs s.vsplit (counted_irq s a) (counted_ppu s a).tile_number a h.split;
      irq = seen_fits s.irq a k h.irq;
      prg_banks = h.prg_banks;
      chr_banks = h.chr_banks;
      prg_pages = h.prg_pages;
      chr_pages = h.chr_pages;
    })

pattern_fits : (s : State) (m : Mem) (a : ℕ) → FitState s → FitOut (pattern_call s m a)
unfolding pattern_call
pattern_fits s m a h =
    record { regs = h.regs; split = h.split; irq = h.irq; prg_banks = h.prg_banks; chr_banks = h.chr_banks; prg_pages = h.prg_pages; chr_pages = pattern_long 16 s (pattern_ppu s).bg_set h.chr_pages }

fetch_fits : (s : State) (m : Mem) (a : ℕ) → a ≤ 65535 → FitState s → FitOut (ppu_fetch s m a)
unfolding ppu_fetch
fetch_fits s m a k h =
    behind_keeps FitOut (gate_mem s m) _ _ (λ why. h)
    (pick_keeps FitOut (counter_refused s.irq a) h
    (pick_keeps FitOut (counted_at a) (counted_fits s m a k h)
    (pick_keeps FitOut (ltb a 0x2000) (pattern_fits s m a h) h)))

over_lent_fits : (s : State) (m : Mem) (o : Outcome) → FitState s → FitOut o → FitOut (behind (gate_mem s m) (refused s) o)
over_lent_fits s m o h p = behind_keeps FitOut (gate_mem s m) (refused s) o (λ why. h) p

pub called_fits : (c : Call) (s : State) (m : Mem) → InRange c → FitState s → FitAfter (called c s m)
unfolding InRange ppu_write
called_fits Clock s m r h = over_lent_fits s m (clock_call s) h (clock_fits s h)
called_fits (CpuRead a) s m r h = cpu_read_fits s m a.0 h
called_fits (CpuWrite a v) s m r h = cpu_write_fits s m a.0 v r.1 h
called_fits (PpuRegister a v) s m r h = over_lent_fits s m (ppu_register_call s a.0 v) h (ppu_register_fits s a.0 v h)
called_fits (PpuFetch a) s m r h = fetch_fits s m a.0 r h
called_fits Reset s m r h = over_lent_fits s m (reset_call s) h (reset_fits s h)
called_fits (PpuWrite a v) s m r h = behind_keeps FitAfter (gate_mem s m) _ _ (λ why. h) h
