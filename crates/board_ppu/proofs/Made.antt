-- What each call makes behind an open gate, in the form in which the loop leaves it.
use Prim.Native.Nat.{ℕ}
use mathlib.Core.Bool.{Bool, true, false}
use mathlib.Core.List.{List}
use mathlib.Core.Path.{◌≡◌, refl, sym, ◌∙◌}
use lib.Dec.{ltb}
use Rattle.memory.specs.declared.PageWord.{PageWord}
use Rattle.memory.specs.Bytes.{Mem, mem_of, page_stored}
use Rattle.memory.specs.Tests.{pick}
use Rattle.memory.specs.PageWords.{page_of}
use Rattle.memory.proofs.Tests.{split}
use Rattle.answers.specs.declared.Answer.TheVariants.{Nothing}
use Rattle.answers.specs.declared.Refusal.TheVariants.{Audio, Counter}
use Rattle.scanline.specs.Fetches.{counted_at}
use Rattle.scanline.specs.Ranges.{counter_refused}
use Rattle.scanline.specs.Steps.{clocked}
use Rattle.state.specs.declared.State.{State}
use Rattle.state.specs.Gate.{Open, gate_mem}
use Rattle.state.proofs.GateLaws.{open_in_range}
use Rattle.state.specs.With.{with_irq, with_regs, with_ppu, with_chr_pages}
use Rattle.banks.specs.Chr.{chr_mapped}
use Rattle.cpu.specs.Reads.{audio_read, irq_read, cpu_answer}
use Rattle.cpu.specs.Writes.{audio_write, latched, prg_word_at, register_written, cpu_stored}
use Rattle.cpu.specs.Chosen.{set_changed}
use Rattle.ppu.specs.Fetches.{ppu_seen, split_seen}
use Rattle.ppu.specs.Served.{counted_served, pattern_served}
use Rattle.board.specs.CpuSide.{cpu_read, cpu_write}
use Rattle.board.specs.Outcomes.{outcome, refused, after_of}
use Rattle.registers.specs.Registers.{reset_regs}
use Rattle.board.specs.StateCalls.{ppu_register_written, reset_call, clock_call, ppu_register_call}
use Rattle.board_ppu.specs.Fetch.{counted_call, pattern_pages, pattern_call, ppu_fetch}
use Rattle.board_ppu.specs.Counted.{counted_irq, counted_ppu, counted_split, counted_state}
use Rattle.board_ppu.specs.Peeks.{chr_word_at, chr_answer, ppu_write}
use Rattle.steps.specs.Sides.{chosen_at}
use Rattle.steps.proofs.Idle.{word_kept}

-- The five steps of a counted fetch leave the groups as the code leaves them, and answer by these.
pub counted_by_groups : (s : State) (m : Mem) (a : ℕ)
    → counted_call s m a
    ≡ outcome (counted_served s.regs (counted_split s a) (counted_irq s a).in_frame (counted_ppu s a) m.exram a (chr_answer s.chr_pages m a)) (counted_state s a)
unfolding counted_call ppu_seen split_seen
counted_by_groups s m a = refl

-- A set that is kept is no change.
same_set : (b : Bool) → set_changed b b ≡ false
same_set true = refl
same_set false = refl

-- The state after a choice, by whether the set changed and what the loop has in hand: with the table mapped, or as it was.
module _ (s t : State) (bg changed : Bool) (e : changed ≡ set_changed s.ppu.bg_set bg) where
  pub pages_changed : (pages : List PageWord) → changed ≡ true → pages ≡ chr_mapped s.lengths.chr s.lengths.chr_writable s.regs s.chr_banks bg s.chr_pages
      → t ≡ with_chr_pages s pages
      → t ≡ with_chr_pages s (pattern_pages s bg)
  unfolding pattern_pages
  pages_changed pages c ep et = rw (et, ep, sym e ∙ c)

  pub pages_same : changed ≡ false → t ≡ s → t ≡ with_chr_pages s (pattern_pages s bg)
  unfolding pattern_pages
  pages_same c et = rw (et, sym e ∙ c)

module _ (s : State) (m : Mem) (h : gate_mem s m ≡ Open) where
  pub clock_made : clock_call s ≡ outcome Nothing (with_irq s (clocked s.irq))
  unfolding clock_call
  clock_made = rw (open_in_range s _ _ _ _ _ h)

  pub reset_made : reset_call s ≡ outcome Nothing (with_regs s (reset_regs s.regs))
  unfolding reset_call
  reset_made = rw (open_in_range s _ _ _ _ _ h)

  module _ (a : ℕ) where
    pub read_refused : audio_read a ≡ true → cpu_read s m a ≡ refused s Audio
    unfolding cpu_read
    read_refused t = rw (h, t)

    pub read_made : audio_read a ≡ false → cpu_read s m a ≡ outcome (cpu_answer s m a) (with_irq s (irq_read s.irq a))
    unfolding cpu_read
    read_made f = rw (h, f)

    pub fetch_refused : counter_refused s.irq a ≡ true → ppu_fetch s m a ≡ refused s Counter
    unfolding ppu_fetch
    fetch_refused t = rw (h, t)

    pub fetch_counted : counter_refused s.irq a ≡ false → counted_at a ≡ true
        → ppu_fetch s m a
        ≡ outcome (counted_served s.regs (counted_split s a) (counted_irq s a).in_frame (counted_ppu s a) m.exram a (chr_answer s.chr_pages m a)) (counted_state s a)
    unfolding ppu_fetch
    fetch_counted f t = rw (h, f, t) (counted_by_groups s m a)

    pub fetch_other : counter_refused s.irq a ≡ false → counted_at a ≡ false
        → let p = chosen_at s.ppu s.irq.in_frame a in
        let pages = pattern_pages s p.bg_set in
        ppu_fetch s m a
        ≡ outcome (pick (ltb a 0x2000) (pattern_served s.regs s.vsplit s.irq p m.exram m.chr a (chr_answer pages m a)) (chr_answer pages m a))
        (with_chr_pages (with_ppu s p) pages)
    unfolding ppu_fetch pattern_call chosen_at pattern_pages
    fetch_other f n =
        rw (h, f, n)
        (split (ltb a 0x2000) (λ low. rw low) (λ high. rw (high, same_set s.ppu.bg_set)))

    module _ (v : ℕ) where
      pub register_made : ppu_register_call s a v ≡ outcome Nothing (ppu_register_written s a v)
      unfolding ppu_register_call
      register_made = rw (open_in_range s _ _ _ _ _ h)

      pub ppu_write_made : ppu_write s m a v ≡ after_of (outcome Nothing s) (page_stored m (page_of (chr_word_at s.chr_pages a)) a v)
      unfolding ppu_write
      ppu_write_made = rw h

      pub write_refused : audio_write a ≡ true → cpu_write s m a v ≡ after_of (refused s Audio) m
      unfolding cpu_write
      write_refused t = rw (h, t)

      -- A write, by the state that it leaves; the page is the one that the table showed before.
      pub write_made : (t : State) → audio_write a ≡ false → register_written s a v ≡ t
          → cpu_write s m a v
          ≡ after_of (outcome Nothing t)
          (page_stored (mem_of m.prg m.chr m.ram m.ciram (latched s.regs.exram_mode s.ppu.rendering a v m.exram)) (page_of (prg_word_at s.prg_pages a)) a v)
      unfolding cpu_write cpu_stored
      write_made t f e = rw (h, f, word_kept s a v, e)
