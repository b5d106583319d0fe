-- A CPU write over lent words: the groups that a register touches, put into the words, leave the words of the board's state after it.
use Prim.Native.Nat.{ℕ, ◌+◌, ◌-◌, ◌/◌}
use mathlib.Core.Bool.{Bool, true, false}
use mathlib.Core.List.{List}
use mathlib.Core.Path.{◌≡◌, refl, sym, ap, ◌∙◌}
use native.Mathlib.Omega.{arith}
use lib.Dec.{eqb}
use lib.ListN.{length, get_or, set, take, drop, length-map, length-set}
use Rattle.memory.specs.declared.PageWord.{PageWord}
use Rattle.memory.specs.Bytes.{Mem, mem_of, page_stored}
use Rattle.memory.specs.Bits.{as_bit}
use Rattle.memory.specs.PageWords.{word, page_of}
use Rattle.memory.proofs.Tests.{pick_keeps}
use Rattle.answers.specs.declared.Answer.TheVariants.{Nothing, Refused}
use Rattle.answers.specs.declared.Refusal.{Refusal}
use Rattle.answers.specs.declared.Refusal.TheVariants.{Audio}
use Rattle.registers.specs.declared.Mirroring.{Mirroring}
use Rattle.registers.specs.declared.Regs.{Regs}
use Rattle.scanline.specs.declared.Detector.{Detector}
use Rattle.split.specs.declared.VSplit.{VSplit}
use Rattle.state.specs.declared.Lengths.{Lengths}
use Rattle.state.specs.declared.PpuStatus.{PpuStatus}
use Rattle.state.specs.declared.State.{State}
use Rattle.state.specs.Gate.{Gate, Open, Shut, gate_mem}
use Rattle.state.specs.Ranges.{in_range}
use Rattle.state.specs.With.{with_irq, with_ppu, with_regs, with_vsplit}
use Rattle.host_state.proofs.With.{with_mirroring, with_prg_banks, with_chr_banks, with_prg_pages}
use Rattle.banks.specs.Chr.{chr_mapped}
use Rattle.banks.specs.Names.{names_mapped}
use Rattle.banks.proofs.PlacedLaws.{length_placed}
use Rattle.cpu.specs.Groups.{within, prg_banks_after, chr_banks_after}
use Rattle.cpu.specs.Writes.{maps_prg, maps_chr, maps_names, chr_pages_after, register_written, latched, cpu_stored, audio_write}
use Rattle.steps.specs.declared.register_writes.PrgWrite.{PrgWrite}
use Rattle.steps.specs.declared.register_writes.OtherWrite.{OtherWrite}
use Rattle.steps.specs.Writes.{prg_write, other_write}
use Rattle.steps.proofs.Idle.{prg_left, rest_left, write_idle, write_prg_is, write_rest_is, word_kept}
use Rattle.board.specs.CpuSide.{cpu_write}
use Rattle.board.specs.Outcomes.{outcome, After, after_of}
use Rattle.theorems_promises.proofs.Promised.{who_is_refused}
use Rattle.host_state.specs.Put.{reg_words, split_words, irq_words, status_words, mirroring_words, prg_bank_words, chr_bank_words, prg_page_words, chr_page_words, exram_words}
use Rattle.host_state.specs.Words.{low_byte, lengths_of, regs_of, split_of, detector_of, status_of, mirroring_numbered, prg_banks_of, chr_banks_of, pages_of, prg_numbers, chr_numbers, state_of, words_of}
use Rattle.host_state.proofs.Backs.{words_back}
use Rattle.host_state.proofs.PartLaws.{part_length}
use Rattle.host_state.proofs.PutLaws.{prg_banks_put, chr_banks_put, prg_pages_put, chr_pages_put, exram_put}
use Rattle.host_answers.specs.Answers.{answer_plain, answer_with_interrupt}
use Rattle.host.specs.Hosted.{left_memory, on_memory}
use Rattle.host.proofs.HostLaws.{refused_memory, taken_memory, open_said, shut_said, status_said}

-- The lengths of tables: read from words, and after a write.
prg_length : (w : List ℕ) → length w ≡ 144 → length (state_of w).prg_pages ≡ 64
prg_length w e = length-map (prg_numbers w) word ∙ part_length w 64 64 (omega (arith, e))

chr_length : (w : List ℕ) → length w ≡ 144 → length (state_of w).chr_pages ≡ 16
chr_length w e = length-map (chr_numbers w) word ∙ part_length w 128 16 (omega (arith, e))

chr_after_length : (z : Lengths) (g : Regs) (b : List ℕ) (bg : Bool) (pages : List PageWord) (a : ℕ) → length (chr_pages_after z g b bg pages a) ≡ length pages
unfolding chr_pages_after chr_mapped names_mapped
chr_after_length z g b bg pages a =
    pick_keeps (λ (l : List PageWord). length l ≡ length pages) (maps_chr a) (length_placed pages 0 _ 8)
    (pick_keeps (λ (l : List PageWord). length l ≡ length pages) (maps_names a) (length_placed pages 8 _ 8) refl)

-- The same of the bank registers.
prg_banks_length : (w : List ℕ) (a v : ℕ) → length w ≡ 144 → length (prg_banks_after (prg_banks_of w) a v) ≡ 5
unfolding prg_banks_after
prg_banks_length w a v e =
    let read : length (prg_banks_of w) ≡ 5 = length-map (take 5 (drop 42 w)) low_byte ∙ part_length w 42 5 (omega (arith, e)) in
    pick_keeps (λ (l : List ℕ). length l ≡ 5) (within 0x5113 0x5117 a) (length-set (prg_banks_of w) (a - 0x5113) v ∙ read) read

chr_banks_length : (w : List ℕ) (a v : ℕ) → length w ≡ 144 → length (chr_banks_after (chr_banks_of w) a v) ≡ 16
unfolding chr_banks_after
chr_banks_length w a v e =
    let b = chr_banks_of w in
    let read : length b ≡ 16 = length-map (take 16 (drop 47 w)) low_byte ∙ part_length w 47 16 (omega (arith, e)) in
    pick_keeps (λ (l : List ℕ). length l ≡ 16) (within 0x5120 0x5127 a) (length-set b (a - 0x5120) v ∙ read)
    (pick_keeps (λ (l : List ℕ). length l ≡ 16) (within 0x5128 0x512B a) (length-set (set b (a - 0x5120) v) (a - 0x5120 + 4) v ∙ length-set b (a - 0x5120) v ∙ read) read)

-- The groups put into the words of a state.
prg_put : (s : State) (x : PrgWrite) → length s.prg_pages ≡ 64 → length x.banks ≡ 5 → length x.pages ≡ 64
    → prg_page_words (prg_bank_words (reg_words (words_of s) x.regs) x.banks) x.pages ≡ words_of (prg_left s x.regs x.banks x.pages)
prg_put s x es eb e =
    ap (λ (l : List ℕ). prg_page_words l x.pages) (prg_banks_put (with_regs s x.regs) x.banks eb) ∙ prg_pages_put (with_prg_banks (with_regs s x.regs) x.banks) x.pages es e

other_put : (s : State) (x : OtherWrite) → length s.prg_pages ≡ 64 → length x.banks ≡ 16 → length s.chr_pages ≡ 16 → length x.pages ≡ 16
    → chr_page_words
    (exram_words (chr_bank_words (mirroring_words (status_words (irq_words (split_words (reg_words (words_of s) x.regs) x.vsplit) x.irq) x.ppu) x.mirroring) x.banks) x.exram)
    x.pages
    ≡ words_of (rest_left s x.regs x.vsplit x.irq x.ppu x.mirroring x.banks x.pages x.exram)
other_put s x es eb ec e =
    let r = with_mirroring (with_ppu (with_irq (with_vsplit (with_regs s x.regs) x.vsplit) x.irq) x.ppu) x.mirroring in
    let t = with_chr_banks r x.banks in
    ap (λ (l : List ℕ). chr_page_words (exram_words l x.exram) x.pages) (chr_banks_put r x.banks eb)
    ∙ ap (λ (l : List ℕ). chr_page_words l x.pages) (exram_put t x.exram es)
    ∙ chr_pages_put (with_prg_pages t (set s.prg_pages 23 x.exram)) x.pages (length-set s.prg_pages 23 x.exram ∙ es) ec e

module _ (w : List ℕ) (a v : ℕ) (e : length w ≡ 144) (h : in_range (state_of w) ≡ true) where
  -- A write that maps PRG pages, put step by step.
  pub prg_words : (z : Lengths) (g : Regs) (b : List ℕ) (pages : List PageWord) (x : PrgWrite) (k l m : List ℕ) → maps_prg a ≡ true
      → z ≡ lengths_of w → g ≡ regs_of w → b ≡ prg_banks_of w → pages ≡ pages_of (prg_numbers w) → x ≡ prg_write z g b pages a v
      → k ≡ reg_words w x.regs → l ≡ prg_bank_words k x.banks → m ≡ prg_page_words l x.pages
      → m ≡ words_of (register_written (state_of w) a v)
  prg_words z g b pages x k l m t ez eg eb ep ex ek el em =
      let s = state_of w in
      let is : x ≡ prg_write s.lengths s.regs s.prg_banks s.prg_pages a v = rw (ez, eg, eb, ep) at ex in
      em ∙ ap (λ (y : List ℕ). prg_page_words y x.pages) (el ∙ ap (λ (y : List ℕ). prg_bank_words y x.banks) (ek ∙ ap (λ (y : List ℕ). reg_words y x.regs) (sym (words_back w e h))))
      ∙ prg_put s x (prg_length w e) (ap (λ (y : PrgWrite). length y.banks) is ∙ prg_banks_length w a v e) (ap (λ (y : PrgWrite). length y.pages) is ∙ length_placed s.prg_pages 24 _ 40 ∙ prg_length w e)
      ∙ ap words_of (ap (λ (y : PrgWrite). prg_left s y.regs y.banks y.pages) is ∙ sym (write_prg_is s a v t))

  -- Any other.
  pub other_words : (z : Lengths) (g : Regs) (q : VSplit) (d : Detector) (p : PpuStatus) (r : Mirroring) (b : List ℕ) (pages : List PageWord) (u : PageWord)
      (x : OtherWrite) (w₁ w₂ w₃ w₄ w₅ w₆ w₇ w₈ : List ℕ) → maps_prg a ≡ false
      → z ≡ lengths_of w → g ≡ regs_of w → q ≡ split_of w → d ≡ detector_of w → p ≡ status_of w → r ≡ mirroring_numbered (get_or w 23 0)
      → b ≡ chr_banks_of w → pages ≡ pages_of (chr_numbers w) → u ≡ get_or (pages_of (prg_numbers w)) 23 (word 0) → x ≡ other_write z g q d p r b pages u a v
      → w₁ ≡ reg_words w x.regs → w₂ ≡ split_words w₁ x.vsplit → w₃ ≡ irq_words w₂ x.irq → w₄ ≡ status_words w₃ x.ppu → w₅ ≡ mirroring_words w₄ x.mirroring
      → w₆ ≡ chr_bank_words w₅ x.banks → w₇ ≡ exram_words w₆ x.exram → w₈ ≡ chr_page_words w₇ x.pages
      → w₈ ≡ words_of (register_written (state_of w) a v)
  other_words z g q d p r b pages u x w₁ w₂ w₃ w₄ w₅ w₆ w₇ w₈ f ez eg eq ed ep er eb epages eu ex e₁ e₂ e₃ e₄ e₅ e₆ e₇ e₈ =
      let s = state_of w in
      let status : p ≡ s.ppu = status_said w p h ep in
      let is : x ≡ other_write s.lengths s.regs s.vsplit s.irq s.ppu s.screen.mirroring s.chr_banks s.chr_pages (get_or s.prg_pages 23 (word 0)) a v
      = rw (ez, eg, eq, ed, status, er, eb, epages, eu) at ex in
      e₈ ∙ ap (λ (y : List ℕ). chr_page_words y x.pages) (e₇ ∙ ap (λ (y : List ℕ). exram_words y x.exram) (e₆ ∙ ap (λ (y : List ℕ). chr_bank_words y x.banks)
      (e₅ ∙ ap (λ (y : List ℕ). mirroring_words y x.mirroring) (e₄ ∙ ap (λ (y : List ℕ). status_words y x.ppu) (e₃ ∙ ap (λ (y : List ℕ). irq_words y x.irq)
      (e₂ ∙ ap (λ (y : List ℕ). split_words y x.vsplit) (e₁ ∙ ap (λ (y : List ℕ). reg_words y x.regs) (sym (words_back w e h)))))))))
      ∙ other_put s x (prg_length w e) (ap (λ (y : OtherWrite). length y.banks) is ∙ chr_banks_length w a v e) (chr_length w e) (ap (λ (y : OtherWrite). length y.pages) is ∙ chr_after_length _ _ _ _ s.chr_pages a ∙ chr_length w e)
      ∙ ap words_of (ap (λ (y : OtherWrite). rest_left s y.regs y.vsplit y.irq y.ppu y.mirroring y.banks y.pages y.exram) is ∙ sym (write_rest_is s a v f))

  -- A write to no register.
  pub idle_words : within 0x5100 0x5206 a ≡ false → w ≡ words_of (register_written (state_of w) a v)
  idle_words o = sym (words_back w e h) ∙ ap words_of (sym (write_idle a o (state_of w) v))

-- The number that is answered, of the detector that the words then hold.
flag_back : (b : Bool) → eqb (as_bit b) 1 ≡ b
flag_back true = refl
flag_back false = refl

answer_back : (t : State) (w : List ℕ) (d : Detector) (n : ℕ) → w ≡ words_of t → d ≡ detector_of w → n ≡ answer_with_interrupt Nothing d → n ≡ answer_with_interrupt Nothing t.irq
answer_back t w d n ew ed en = en ∙ ap (answer_with_interrupt Nothing) (ed ∙ ap detector_of ew) ∙ rw (flag_back t.irq.pending, flag_back t.irq.irq_enabled)

-- The bytes, stored before the registers are written.
pub bytes_stored : (w : List ℕ) (m m' : Mem) (a v : ℕ) (g : Regs) (p : PpuStatus) (x : PageWord) → in_range (state_of w) ≡ true
    → g ≡ regs_of w → p ≡ status_of w → x ≡ get_or (pages_of (prg_numbers w)) (a / 1024) (word 0)
    → m' ≡ page_stored (mem_of m.prg m.chr m.ram m.ciram (latched g.exram_mode p.rendering a v m.exram)) (page_of x) a v
    → m' ≡ cpu_stored (state_of w) m a v
unfolding cpu_stored
bytes_stored w m m' a v g p x h eg ep ex em = em ∙ rw (eg, status_said w p h ep, ex, word_kept (state_of w) a v)

-- The call: shut out, refused by refusal 6, or done.
module _ (w : List ℕ) (m : Mem) (a v : ℕ) where
  abbrev writing : State → After
  writing s = cpu_write s m a v

  pub write_shut : (k : Gate) (r : Refusal) (n : ℕ) → k ≡ gate_mem (state_of w) m → k ≡ Shut r → n ≡ answer_plain (Refused r) → left_memory n w m ≡ on_memory w m writing
  write_shut k r n e t en =
      refused_memory w m writing r n (ap (λ (x : After). x.out.answer) (who_is_refused.write_shut (state_of w) m a v r (shut_said w m k r e t))) en

  pub write_audio : (k : Gate) (b : Bool) (n : ℕ) → k ≡ gate_mem (state_of w) m → k ≡ Open → b ≡ audio_write a → b ≡ true → n ≡ answer_plain (Refused Audio) → left_memory n w m ≡ on_memory w m writing
  unfolding cpu_write
  write_audio k b n e t eb tb en = refused_memory w m writing Audio n (rw (open_said w m k e t, ← eb, tb)) en

  write_is : (m' : Mem) → gate_mem (state_of w) m ≡ Open → audio_write a ≡ false → m' ≡ cpu_stored (state_of w) m a v
      → writing (state_of w) ≡ after_of (outcome Nothing (register_written (state_of w) a v)) m'
  unfolding cpu_write
  write_is m' o f e = rw (o, f, e)

  pub write_done : (k : Gate) (b : Bool) (m' : Mem) (l : List ℕ) (d : Detector) (n : ℕ) → k ≡ gate_mem (state_of w) m → k ≡ Open → b ≡ audio_write a → b ≡ false
      → m' ≡ cpu_stored (state_of w) m a v → l ≡ words_of (register_written (state_of w) a v) → d ≡ detector_of l → n ≡ answer_with_interrupt Nothing d → left_memory n l m' ≡ on_memory w m writing
  write_done k b m' l d n e t eb tb em el ed en =
      let after = register_written (state_of w) a v in
      taken_memory w l m m' writing Nothing after n refl (write_is m' (open_said w m k e t) (sym eb ∙ tb) em) el (answer_back after l d n el ed en)
