-- ExRAM from the CPU: after a write to $5104 page 23 of the PRG table is the one that its mode names; and reset, which changes the two modes and
-- nothing that a read or a peek goes by, but the reads of the modes. Assumes that the board is taken.
use Prim.Native.Nat.{ℕ, ◌+◌, ◌*◌, ◌-◌, ◌/◌, ◌%◌, ◌<◌}
use mathlib.Core.Bool.{Bool, true, false}
use mathlib.Core.List.{List}
use mathlib.Core.Path.{◌≡◌, refl}
use native.Mathlib.Omega.{arith}
use borrow.Author.Tests.{le-leb, lt-leb, ltb-true, ltb-false}
use lib.Dec.{eqb, ltb}
use lib.ListN.{get_or, set}
use lib.Seq.{get_or-set_same}
use Rattle.memory.specs.declared.Src.TheVariants.{ExRam}
use Rattle.memory.specs.Bytes.{Mem, mem_of, byte_at, stored_at, page_stored}
use Rattle.memory.specs.PageWords.{word, page, blank, page_of}
use Rattle.memory.specs.Named.{named_as}
use Rattle.memory.specs.Tests.{pick}
use Rattle.memory.proofs.Tests.{split}
use Rattle.memory.proofs.WordLaws.{making_is_undone}
use Rattle.answers.specs.declared.Answer.{Answer}
use Rattle.answers.specs.declared.Answer.TheVariants.{Nothing, Page, Blank}
use Rattle.registers.specs.declared.Regs.{Regs}
use Rattle.registers.specs.Registers.{written, reset_regs}
use Rattle.scanline.specs.declared.Detector.{Detector}
use Rattle.split.specs.declared.VSplit.{VSplit}
use Rattle.banks.specs.Prg.{exram_page}
use Rattle.state.specs.declared.State.{State}
use Rattle.state.specs.Gate.{Open, gate_mem}
use Rattle.state.specs.With.{with_regs}
use Rattle.cpu.specs.Groups.{within}
use Rattle.cpu.specs.Reads.{page_answer, register_at, register_read, cpu_answer, audio_read}
use Rattle.cpu.specs.Writes.{prg_pages_after, register_written, latched, prg_word_at, cpu_stored}
use Rattle.ppu.specs.Served.{counted_served, pattern_served}
use Rattle.steps.proofs.Idle.{write_idle}
use Rattle.board.specs.Outcomes.{outcome, after_of}
use Rattle.board.specs.CpuSide.{cpu_read, cpu_write}
use Rattle.board.specs.StateCalls.{reset_call}
use Rattle.board_ppu.specs.Peeks.{ppu_peek}
use Rattle.host_state.specs.Fits.{Fits}
use Rattle.theorems_promises.proofs.Gates.{in_range_of, write_open, reset_open}
use Rattle.theorems_bytes.specs.Taken.{Taken, read_at}
use Rattle.theorems_bytes.specs.ExRam.{stored, ExRamBytes, ResetMapsNothing}
use Rattle.theorems_bytes.proofs.Behind.{past_all, write_is, read_is}

-- ExRAM --------------------------------------------------------------------------------------------------------------------------------

-- $5C00-$5FFF is page 23.
module _ (o : ℕ) (h : o < 1024) where
  at_23 : (0x5C00 + o) / 1024 ≡ 23
  at_23 = omega (arith, h)

  place : 0 * 1024 + (0x5C00 + o) % 1024 ≡ o
  place = omega (arith, h)

  inside : within 0x5C00 0x5FFF (0x5C00 + o) ≡ true
  inside = rw (le-leb 0x5C00 (0x5C00 + o) (omega arith), le-leb (0x5C00 + o) 0x5FFF (omega (arith, h)))

-- The page that a mode names: blank, or ExRAM, writable in mode 2.
exram_named : (mode : ℕ) → page_of (exram_page mode) ≡ pick (ltb mode 2) blank (page ExRam 0 (eqb mode 2))
unfolding exram_page named_as
exram_named mode = split (ltb mode 2) (λ t. rw t (making_is_undone blank refl)) (λ f. rw f (making_is_undone (page ExRam 0 (eqb mode 2)) refl))

-- After $5104 = v it stands at $5C00-$5FFF.
exram_shown : (s : State) (v o : ℕ) → Fits s → o < 1024
    → page_of (prg_word_at (register_written s 0x5104 v).prg_pages (0x5C00 + o)) ≡ pick (ltb (v % 4) 2) blank (page ExRam 0 (eqb (v % 4) 2))
unfolding register_written written prg_pages_after
exram_shown s v o f h =
    rw (at_23 o h, get_or-set_same s.prg_pages 23 (exram_page (v % 4)) (word 0) (omega (arith, f.prg_pages))) (exram_named (v % 4))

-- What it answers, and what a write stores: module 6's own store, and that through the page.
exram_answer : (m : Mem) (mode o : ℕ) → o < 1024
    → page_answer m (pick (ltb mode 2) blank (page ExRam 0 (eqb mode 2))) (0x5C00 + o) ≡ pick (ltb mode 2) Blank (Page (get_or m.exram o 0))
unfolding page_answer byte_at
exram_answer m mode o h = split (ltb mode 2) (λ t. rw t) (λ f. rw (f, place o h))

exram_stored : (m : Mem) (mode : ℕ) (lit : Bool) (o n : ℕ) → o < 1024
    → (page_stored (mem_of m.prg m.chr m.ram m.ciram (latched mode lit (0x5C00 + o) n m.exram))
    (pick (ltb mode 2) blank (page ExRam 0 (eqb mode 2))) (0x5C00 + o) n).exram
    ≡ pick (ltb mode 2) (set m.exram o (pick lit n 0)) (pick (eqb mode 2) (set m.exram o n) m.exram)
unfolding page_stored stored_at latched
exram_stored m mode lit o n h =
    let low : 0x5C00 + o - 0x5C00 ≡ o = omega arith in
    split (ltb mode 2)
    (λ t. rw (t, inside o h, le-leb mode 1 (omega (arith, ltb-true mode 2 t)), low))
    (λ f. rw (f, inside o h, lt-leb mode 1 (omega (arith, ltb-false mode 2 f))) (split (eqb mode 2) (λ t. rw (t, place o h)) (λ g. rw g)))

mode_after : (s : State) (v : ℕ) → (register_written s 0x5104 v).regs.exram_mode ≡ v % 4
unfolding register_written written
mode_after s v = refl

module _ (s : State) (m : Mem) (k : Taken s m) (v : ℕ) where
  mode_written : cpu_write s m 0x5104 v ≡ after_of (outcome Nothing (register_written s 0x5104 v)) (cpu_stored s m 0x5104 v)
  mode_written = write_is s m 0x5104 v k.opened (omega arith)

  mode_open : gate_mem (register_written s 0x5104 v) (cpu_stored s m 0x5104 v) ≡ Open
  mode_open = rw mode_written at (write_open s m k.opened 0x5104 v)

  exram_read : (o : ℕ) → o < 1024
      → let x = cpu_write s m 0x5104 v in read_at x (0x5C00 + o) ≡ pick (ltb (v % 4) 2) Blank (Page (get_or x.mem.exram o 0))
  exram_read o h =
      let t = register_written s 0x5104 v in
      let b = cpu_stored s m 0x5104 v in
      rw (mode_written, read_is t b (0x5C00 + o) mode_open (omega arith), exram_shown s v o k.fits h)
      (exram_answer b (v % 4) o h)

  exram_write : (o n : ℕ) → o < 1024
      → let x = cpu_write s m 0x5104 v in
      (cpu_write x.out.state x.mem (0x5C00 + o) n).mem.exram ≡ stored (v % 4) x.out.state x.mem.exram o n
  unfolding cpu_stored
  exram_write o n h =
      let t = register_written s 0x5104 v in
      let b = cpu_stored s m 0x5104 v in
      rw (
        mode_written,
        write_is t b (0x5C00 + o) n mode_open (omega arith),
        write_idle (0x5C00 + o) (past_all 0x5100 0x5206 (0x5C00 + o) (omega arith) (omega arith)) t n,
        exram_shown s v o k.fits h,
        mode_after s v,
      )
      (exram_stored b (v % 4) t.ppu.rendering o n h)

pub exram_bytes : ExRamBytes
exram_bytes = record { read = exram_read; write = exram_write }

-- Reset --------------------------------------------------------------------------------------------------------------------------------

abbrev after_reset : State → State
after_reset s = with_regs s (reset_regs s.regs)

reset_is : (s : State) (m : Mem) → gate_mem s m ≡ Open → (reset_call s).state ≡ after_reset s
unfolding reset_call
reset_is s m h = rw (in_range_of s m h)

-- Of the registers, only the modes are read as others.
registers_alike : (g : Regs) (v : VSplit) (d : Detector) (prg chr : List ℕ) (a : ℕ) (x : Answer) → eqb a 0x5100 ≡ false → eqb a 0x5101 ≡ false
    → register_read (reset_regs g) v d prg chr a x ≡ register_read g v d prg chr a x
unfolding register_read register_at
registers_alike g v d prg chr a x p c = rw (p, c)

reads_alike : (s t : State) (m : Mem) (a : ℕ) → gate_mem s m ≡ Open → gate_mem t m ≡ Open → cpu_answer t m a ≡ cpu_answer s m a
    → (cpu_read t m a).answer ≡ (cpu_read s m a).answer
unfolding cpu_read
reads_alike s t m a h k e = split (audio_read a) (λ q. rw (h, k, q)) (λ q. rw (h, k, q) e)

module _ (s : State) (m : Mem) (k : Taken s m) where
  still_open : gate_mem (after_reset s) m ≡ Open
  still_open = rw (reset_is s m k.opened) at (reset_open s m k.opened)

  reset_reads : (a : ℕ) → eqb a 0x5100 ≡ false → eqb a 0x5101 ≡ false → (cpu_read (reset_call s).state m a).answer ≡ (cpu_read s m a).answer
  unfolding cpu_answer
  reset_reads a p c =
      rw (reset_is s m k.opened)
      (reads_alike s (after_reset s) m a k.opened still_open
      (registers_alike s.regs s.vsplit s.irq s.prg_banks s.chr_banks a _ p c))

  reset_peeks : (a : ℕ) → ppu_peek (reset_call s).state m a ≡ ppu_peek s m a
  unfolding ppu_peek counted_served pattern_served
  reset_peeks a = rw (reset_is s m k.opened, k.opened, still_open)

pub reset_maps_nothing : ResetMapsNothing
reset_maps_nothing =
    record { reads = reset_reads; modes = λ s m k. rw (reset_is s m k.opened) (refl, refl); peeks = reset_peeks }
