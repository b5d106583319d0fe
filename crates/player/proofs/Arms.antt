-- The loop's arms: for each kind of call, what holds at the head after it, or what the replay has come to where it is refused.
use Prim.Native.Nat.{ℕ, ◌+◌}
use mathlib.Core.Bool.{true, false}
use mathlib.Core.List.{List}
use mathlib.Core.Path.{◌≡◌, refl, sym, ap, subst, ◌∙◌}
use lib.Dec.{ltb}
use Rattle.memory.specs.declared.CpuAddr.{CpuAddr}
use Rattle.memory.specs.declared.PpuAddr.{PpuAddr}
use Rattle.memory.specs.Bytes.{Mem, mem_of, page_stored}
use Rattle.memory.specs.Tests.{pick}
use Rattle.memory.specs.PageWords.{page_of}
use Rattle.answers.specs.declared.Answer.{Answer}
use Rattle.answers.specs.declared.Answer.TheVariants.{Nothing}
use Rattle.answers.specs.declared.Refusal.TheVariants.{Audio, Counter}
use Rattle.registers.specs.declared.Regs.{Regs}
use Rattle.registers.specs.Registers.{reset_regs}
use Rattle.scanline.specs.declared.Detector.{Detector}
use Rattle.scanline.specs.Fetches.{counted_at}
use Rattle.scanline.specs.Ranges.{counter_refused}
use Rattle.scanline.specs.Steps.{clocked, interrupt_up}
use Rattle.split.specs.declared.VSplit.{VSplit}
use Rattle.state.specs.declared.PpuStatus.{PpuStatus}
use Rattle.state.specs.declared.State.{State}
use Rattle.state.specs.With.{with_irq, with_regs, with_ppu, with_vsplit, with_chr_pages}
use Rattle.state.proofs.RangeLaws.{Ranged, ranged}
use Rattle.cpu.specs.Reads.{audio_read, irq_read, cpu_answer}
use Rattle.cpu.proofs.ReadLaws.{read_fields, read_changes}
use Rattle.cpu.specs.Writes.{audio_write, latched, prg_word_at, register_written}
use Rattle.cpu.specs.PpuRegisters.{status_after, detector_after}
use Rattle.ppu.specs.Served.{counted_served, pattern_served}
use Rattle.board.specs.Outcomes.{outcome, after_of}
use Rattle.board_ppu.specs.Counted.{counted_irq, counted_ppu, counted_split}
use Rattle.board_ppu.specs.Fetch.{pattern_pages, ppu_fetch}
use Rattle.board_ppu.specs.Peeks.{chr_word_at, chr_answer}
use Rattle.trace.specs.declared.Call.{Call}
use Rattle.trace.specs.declared.Call.TheVariants.{Clock, CpuRead, CpuWrite, PpuRegister, PpuFetch, Reset, PpuWrite}
use Rattle.trace.specs.Records.{Record, record_at}
use Rattle.theorems_promises.proofs.Gates.{in_range_of}
use Rattle.theorems_promises.proofs.Promised.{who_is_refused}
use Rattle.theorems_promises.proofs.Refusals.{answer_is_given}
use Rattle.logs.specs.Logs.{logged}
use Rattle.player.specs.Replay.{Stopped, Left, ended}
use Rattle.steps.specs.Sides.{chosen_at}
use Rattle.steps.proofs.Idle.{set_fields, chosen_changes}
use Rattle.board_ppu.proofs.Made
use Rattle.player.proofs.Steps.{Going, stops, goes}

module _ {trace : List ℕ} {all : Left} {m₀ : Mem} {log₀ : List ℕ} {at count : ℕ} {s : State} {m : Mem} {log : List ℕ} (g : Going trace all m₀ log₀ at count s m log) where
  -- The state is in range.
  pub going_ranged : Ranged s
  going_ranged = ranged s (in_range_of s m g.gate)

  -- At the head after a record that leaves such a state and memory, and such a log.
  abbrev Onward : ℕ → Answer → State → Mem → Type 0
  Onward next a t n = (log' : List ℕ) → log' ≡ logged log count a (interrupt_up t.irq) → Going trace all m₀ log₀ next (count + 1) t n log'

  module _ {call : Call} {next : ℕ} (found : record_at trace at ≡ Record call next) where
    pub clock_arm : (d : Detector) → call ≡ Clock → d ≡ clocked s.irq → Onward next Nothing (with_irq s d) m
    clock_arm d k e = goes trace all m₀ log₀ at count s m log call next found Nothing _ m g (rw (k, e, g.gate) (ap (λ o. after_of o m) (Made.clock_made s m g.gate))) refl

    pub reset_arm : (r : Regs) → call ≡ Reset → r ≡ reset_regs s.regs → Onward next Nothing (with_regs s r) m
    reset_arm r k e = goes trace all m₀ log₀ at count s m log call next found Nothing _ m g (rw (k, e, g.gate) (ap (λ o. after_of o m) (Made.reset_made s m g.gate))) refl

    module _ {addr : CpuAddr} where
      pub read_stop : call ≡ CpuRead addr → audio_read addr.0 ≡ true → ended (Stopped at Audio) s m log ≡ all
      read_stop k t = stops trace all m₀ log₀ at count s m log call next found Audio s m g (rw k (ap (λ o. after_of o m) (Made.read_refused s m g.gate addr.0 t)))

      read_whole : (a : Answer) (d : Detector) → call ≡ CpuRead addr → audio_read addr.0 ≡ false → a ≡ cpu_answer s m addr.0 → d ≡ irq_read s.irq addr.0
          → Onward next a (with_irq s d) m
      read_whole a d k f ea ed =
          rw ea
          (goes trace all m₀ log₀ at count s m log call next found (cpu_answer s m addr.0) _ m g (rw (k, ed) (ap (λ o. after_of o m) (Made.read_made s m g.gate addr.0 f))) (answer_is_given s m addr.0))

      -- A read, by the fields of the detector that it can change.
      pub read_arm : (a : Answer) (d : Detector) → call ≡ CpuRead addr → audio_read addr.0 ≡ false → a ≡ cpu_answer s m addr.0 → d ≡ irq_read s.irq addr.0
          → Onward next a (with_irq s (read_fields s.irq d)) m
      read_arm a d k f ea ed = subst (λ (e : Detector). Onward next a (with_irq s e) m) (ed ∙ read_changes s.irq addr.0 ∙ ap (read_fields s.irq) (sym ed)) (read_whole a d k f ea ed)

      module _ {v : ℕ} where
        pub register_arm : (p : PpuStatus) (d : Detector) → call ≡ PpuRegister addr v → p ≡ status_after s.ppu addr.0 v → d ≡ detector_after s.irq addr.0 v
            → Onward next Nothing (with_irq (with_ppu s p) d) m
        register_arm p d k ep ed =
            goes trace all m₀ log₀ at count s m log call next found Nothing _ m g (rw (k, ep, ed, g.gate) (ap (λ o. after_of o m) (Made.register_made s m g.gate addr.0 v))) refl

        pub write_stop : call ≡ CpuWrite addr v → audio_write addr.0 ≡ true → ended (Stopped at Audio) s m log ≡ all
        write_stop k t = stops trace all m₀ log₀ at count s m log call next found Audio s m g (rw k (Made.write_refused s m g.gate addr.0 v t))

        -- A write, by the state and the memory that it leaves.
        pub write_arm : (t : State) (n : Mem) → call ≡ CpuWrite addr v → audio_write addr.0 ≡ false → register_written s addr.0 v ≡ t
            → n
            ≡ page_stored (mem_of m.prg m.chr m.ram m.ciram (latched s.regs.exram_mode s.ppu.rendering addr.0 v m.exram))
            (page_of (prg_word_at s.prg_pages addr.0))
            addr.0
            v
            → Onward next Nothing t n
        write_arm t n k f e en = goes trace all m₀ log₀ at count s m log call next found Nothing t n g (rw (k, en) (Made.write_made s m g.gate addr.0 v t f e)) refl

    module _ {addr : PpuAddr} where
      pub fetch_stop : call ≡ PpuFetch addr → counter_refused s.irq addr.0 ≡ true → ended (Stopped at Counter) s m log ≡ all
      fetch_stop k t = stops trace all m₀ log₀ at count s m log call next found Counter s m g (rw k (ap (λ o. after_of o m) (Made.fetch_refused s m g.gate addr.0 t)))

      -- A fetch that is not refused, by what it gives.
      fetch_made : (a : Answer) (t : State) → call ≡ PpuFetch addr → counter_refused s.irq addr.0 ≡ false → ppu_fetch s m addr.0 ≡ outcome a t → Onward next a t m
      fetch_made a t k f e =
          goes trace all m₀ log₀ at count s m log call next found a t m g (rw k (ap (λ o. after_of o m) e)) (rw e at (who_is_refused.fetch_else s m addr.0 g.gate f))

      -- A counted fetch, by the groups that it leaves.
      pub counted_arm : (d : Detector) (p : PpuStatus) (w : VSplit) (a : Answer)
          → call ≡ PpuFetch addr
          → counter_refused s.irq addr.0 ≡ false
          → counted_at addr.0 ≡ true
          → d ≡ counted_irq s addr.0
          → p ≡ counted_ppu s addr.0
          → w ≡ counted_split s addr.0
          → a ≡ counted_served s.regs w d.in_frame p m.exram addr.0 (chr_answer s.chr_pages m addr.0)
          → Onward next a (with_vsplit (with_ppu (with_irq s d) p) w) m
      counted_arm d p w a k f t ed ep ew ea = rw (ea, ew, ep, ed) (fetch_made _ _ k f (Made.fetch_counted s m g.gate addr.0 f t))

      -- Any other fetch, by the set that it chooses and the state with the CHR table that the set shows.
      other_whole : (p : PpuStatus) (t : State) (a : Answer)
          → call ≡ PpuFetch addr
          → counter_refused s.irq addr.0 ≡ false
          → counted_at addr.0 ≡ false
          → p ≡ chosen_at s.ppu s.irq.in_frame addr.0
          → t ≡ with_chr_pages s (pattern_pages s p.bg_set)
          → a
          ≡ pick (ltb addr.0 0x2000) (pattern_served t.regs t.vsplit t.irq p m.exram m.chr addr.0 (chr_answer t.chr_pages m addr.0)) (chr_answer t.chr_pages m addr.0)
          → Onward next a (with_ppu t p) m
      other_whole p t a k f n ep et ea = rw (ea, et, ep) (fetch_made _ _ k f (Made.fetch_other s m g.gate addr.0 f n))

      -- The same, by the two fields of the status that it can change.
      pub other_arm : (p : PpuStatus) (t : State) (a : Answer)
          → call ≡ PpuFetch addr
          → counter_refused s.irq addr.0 ≡ false
          → counted_at addr.0 ≡ false
          → p ≡ chosen_at s.ppu s.irq.in_frame addr.0
          → t ≡ with_chr_pages s (pattern_pages s p.bg_set)
          → a
          ≡ pick (ltb addr.0 0x2000) (pattern_served t.regs t.vsplit t.irq p m.exram m.chr addr.0 (chr_answer t.chr_pages m addr.0)) (chr_answer t.chr_pages m addr.0)
          → Onward next a (with_ppu t (set_fields t.ppu p)) m
      other_arm p t a k f n ep et ea =
          let kept : t.ppu ≡ s.ppu = ap (λ (x : State). x.ppu) et in
          let same : p ≡ set_fields t.ppu p = ep ∙ chosen_changes s.ppu s.irq.in_frame addr.0 ∙ ap (set_fields s.ppu) (sym ep) ∙ ap (λ (q : PpuStatus). set_fields q p) (sym kept) in
          subst (λ (q : PpuStatus). Onward next a (with_ppu t q) m) same (other_whole p t a k f n ep et ea)

      pub ppu_write_arm : {v : ℕ} (n : Mem) → call ≡ PpuWrite addr v → n ≡ page_stored m (page_of (chr_word_at s.chr_pages addr.0)) addr.0 v → Onward next Nothing s n
      ppu_write_arm {v} n k en = goes trace all m₀ log₀ at count s m log call next found Nothing s n g (rw (k, en) (Made.ppu_write_made s m g.gate addr.0 v)) refl
