-- The gate stays open: a call keeps the ranges, the recorded lengths and the lengths of the buffers.
use Prim.Native.Nat.{ℕ, ◌-◌}
use mathlib.Core.Bool.{Bool, true, not, ◌&&◌}
use mathlib.Core.List.{List}
use mathlib.Core.Path.{◌≡◌, refl, ◌∙◌}
use native.Mathlib.Omega.{arith}
use borrow.Author.Tests.{not-false, eq-eqb}
use lib.Dec.{eqb, leb}
use lib.ListN.{length, length-set}
use Rattle.memory.specs.declared.Page.{Page}
use Rattle.memory.specs.declared.Src.{Src}
use Rattle.memory.specs.declared.Src.TheVariants.{Blank, PrgRom, PrgRam, Chr, CiRam, ExRam}
use Rattle.memory.specs.Bytes.{Mem, mem_of, stored_at, page_stored}
use Rattle.memory.specs.Tests.{pick}
use Rattle.memory.specs.PageWords.{page_of}
use Rattle.memory.proofs.Tests.{split, pick_keeps}
use Rattle.answers.specs.declared.Answer.TheVariants.{Nothing, Refused}
use Rattle.answers.specs.declared.Refusal.{Refusal}
use Rattle.registers.specs.declared.Mirroring.{Mirroring}
use Rattle.state.specs.declared.State.{State}
use Rattle.state.specs.Gate.{Open, same_lengths, gate_mem}
use Rattle.state.specs.Lengths.{prg_taken, chr_taken, ram_taken}
use Rattle.state.specs.Ranges.{in_range}
use Rattle.state.proofs.GateLaws.{open_in_range, open_same_lengths, passes}
use Rattle.state.proofs.SizeLaws.{lengths_hold}
use Rattle.cpu.specs.Groups.{within}
use Rattle.cpu.specs.Reads.{audio_read}
use Rattle.cpu.specs.Writes.{latched, prg_word_at, register_written, cpu_stored, audio_write}
use Rattle.board.specs.CpuSide.{cpu_read, cpu_write}
use Rattle.board.specs.Loads.{recorded, loaded_state, load_call}
use Rattle.board.specs.StateCalls.{ppu_register_written, reset_call, clock_call, ppu_register_call}
use Rattle.theorems_promises.proofs.Calls.{write_keeps_range, read_keeps_range, clock_keeps_range, reset_keeps_range, register_keeps_range, load_in_range}

-- Buffers of the same lengths.
pub record SameSizes (m n : Mem) : Type 0 where
  pub prg : length n.prg ≡ length m.prg
  pub chr : length n.chr ≡ length m.chr
  pub ram : length n.ram ≡ length m.ram
  pub ciram : length n.ciram ≡ length m.ciram
  pub exram : length n.exram ≡ length m.exram

pub same : (m : Mem) → SameSizes m m
same m = record { prg = refl; chr = refl; ram = refl; ciram = refl; exram = refl }

pub in_range_of : (s : State) (m : Mem) → gate_mem s m ≡ Open → in_range s ≡ true
in_range_of s m h = open_in_range s _ _ _ _ _ h

-- A state in range with the recorded lengths of one that passed, and buffers as long.
pub stays : (s t : State) (m n : Mem) → gate_mem s m ≡ Open → t.lengths ≡ s.lengths → in_range t ≡ true → SameSizes m n → gate_mem t n ≡ Open
stays s t m n h e r z =
    rw (z.prg, z.chr, z.ram, z.ciram, z.exram)
    (passes t _ _ _ _ _ r (rw e (open_same_lengths s _ _ _ _ _ h)))

-- A store keeps every length.
stored_at_sizes : (m : Mem) (s : Src) (i v : ℕ) → SameSizes m (stored_at m s i v)
unfolding stored_at
stored_at_sizes m Blank i v = same m
stored_at_sizes m PrgRom i v = same m
stored_at_sizes m PrgRam i v = record { prg = refl; chr = refl; ram = length-set m.ram i v; ciram = refl; exram = refl }
stored_at_sizes m Chr i v = record { prg = refl; chr = length-set m.chr i v; ram = refl; ciram = refl; exram = refl }
stored_at_sizes m CiRam i v = record { prg = refl; chr = refl; ram = refl; ciram = length-set m.ciram i v; exram = refl }
stored_at_sizes m ExRam i v = record { prg = refl; chr = refl; ram = refl; ciram = refl; exram = length-set m.exram i v }

pub page_stored_sizes : (m : Mem) (p : Page) (a v : ℕ) → SameSizes m (page_stored m p a v)
unfolding page_stored
page_stored_sizes m p a v = pick_keeps (SameSizes m) p.writable (stored_at_sizes m p.src _ v) (same m)

latched_length : (mode : ℕ) (lit : Bool) (a v : ℕ) (l : List ℕ) → length (latched mode lit a v l) ≡ length l
unfolding latched
latched_length mode lit a v l = pick_keeps (λ (k : List ℕ). length k ≡ length l) (within 0x5C00 0x5FFF a && leb mode 1) (length-set l (a - 0x5C00) (pick lit v 0)) refl

pub cpu_stored_sizes : (s : State) (m : Mem) (a v : ℕ) → SameSizes m (cpu_stored s m a v)
unfolding cpu_stored
cpu_stored_sizes s m a v =
    let l = latched s.regs.exram_mode s.ppu.rendering a v m.exram in
    let z = page_stored_sizes (mem_of m.prg m.chr m.ram m.ciram l) (page_of (prg_word_at (register_written s a v).prg_pages a)) a v in
    record {
      prg = z.prg;
      chr = z.chr;
      ram = z.ram;
      ciram = z.ciram;
      exram = z.exram ∙ latched_length s.regs.exram_mode s.ppu.rendering a v m.exram;
    }

written_lengths : (s : State) (a v : ℕ) → (register_written s a v).lengths ≡ s.lengths
unfolding register_written
written_lengths s a v = refl

register_lengths : (s : State) (a v : ℕ) → (ppu_register_written s a v).lengths ≡ s.lengths
register_lengths s a v = refl

eqb_same : (n : ℕ) → eqb n n ≡ true
eqb_same n = eq-eqb n n refl

-- Behind an open gate a call is what its definition says there.
module _ (s : State) (m : Mem) (h : gate_mem s m ≡ Open) where
  pub read_open : (a : ℕ) → gate_mem (cpu_read s m a).state m ≡ Open
  unfolding cpu_read
  read_open a =
      split (audio_read a)
      (λ t. rw (h, t) h)
      (λ t. rw (h, t) (stays s _ m m h refl (read_keeps_range s a (in_range_of s m h)) (same m)))

  pub write_open : (a v : ℕ) → gate_mem (cpu_write s m a v).out.state (cpu_write s m a v).mem ≡ Open
  unfolding cpu_write
  write_open a v =
      split (audio_write a)
      (λ t. rw (h, t) h)
      (λ t. rw (h, t) (stays s _ m _ h (written_lengths s a v) (write_keeps_range s a v (in_range_of s m h)) (cpu_stored_sizes s m a v)))

  pub reset_open : gate_mem (reset_call s).state m ≡ Open
  unfolding reset_call
  reset_open = let r = in_range_of s m h in rw r (stays s _ m m h refl (reset_keeps_range s r) (same m))

  pub clock_open : gate_mem (clock_call s).state m ≡ Open
  unfolding clock_call
  clock_open = let r = in_range_of s m h in rw r (stays s _ m m h refl (clock_keeps_range s r) (same m))

  pub register_open : (a v : ℕ) → gate_mem (ppu_register_call s a v).state m ≡ Open
  unfolding ppu_register_call
  register_open a v = let r = in_range_of s m h in rw r (stays s _ m m h (register_lengths s a v) (register_keeps_range s a v r) (same m))

-- Load, accepted: none of the three refusals was given.
pub refused_not_nothing : (r : Refusal) {A : Type 0} → Refused r ≡ Nothing → A
refused_not_nothing r e = let z : ◌≡◌ {A = ℕ} 0 1 = cc in absurd (omega arith)

recorded_same : (m : Mem) (as_ram : Bool) → same_lengths (recorded m as_ram) (length m.prg) (length m.chr) (length m.ram) (length m.ciram) (length m.exram) ≡ true
unfolding same_lengths
recorded_same m as_ram = simp (eqb_same)

pub load_open : (m : Mem) (as_ram : Bool) (mirroring : Mirroring) → (load_call m as_ram mirroring).answer ≡ Nothing → gate_mem (load_call m as_ram mirroring).state m ≡ Open
unfolding load_call loaded_state
load_open m as_ram mirroring h =
    split (not (prg_taken (length m.prg))) (λ t. refused_not_nothing _ (rw t at h))
    (λ p.
    split (not (chr_taken (length m.chr))) (λ t. refused_not_nothing _ (rw (p, t) at h))
    (λ c.
    split (not (ram_taken (length m.ram) (length m.ciram) (length m.exram))) (λ t. refused_not_nothing _ (rw (p, c, t) at h))
    (λ r.
    let ok = lengths_hold (length m.prg) (length m.chr) (length m.ram) (length m.ciram) (length m.exram) as_ram (not-false _ p) (not-false _ c) (not-false _ r) in
    rw (p, c, r) (passes (loaded_state (recorded m as_ram) mirroring) _ _ _ _ _ (load_in_range (recorded m as_ram) mirroring ok) (recorded_same m as_ram)))))
