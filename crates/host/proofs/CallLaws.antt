-- Calls over lent words, one by one: what the steps of a call leave is what the board's call on the state leaves.
use Prim.Native.Nat.{ℕ, ◌≤◌}
use mathlib.Core.Bool.{Bool, true, false}
use mathlib.Core.List.{List}
use mathlib.Core.Path.{◌≡◌, refl, sym, ap, ◌∙◌}
use lib.ListN.{length}
use Rattle.memory.specs.declared.PageWord.{PageWord}
use Rattle.memory.specs.Bytes.{Mem, page_stored}
use Rattle.memory.specs.PageWords.{page_of}
use Rattle.answers.specs.declared.Answer.{Answer}
use Rattle.answers.specs.declared.Answer.TheVariants.{Nothing, Refused}
use Rattle.answers.specs.declared.Refusal.{Refusal}
use Rattle.answers.specs.declared.Refusal.TheVariants.{Audio}
use Rattle.answers.specs.Refused.{is_refused}
use Rattle.registers.specs.declared.Regs.{Regs}
use Rattle.registers.specs.Registers.{reset_regs}
use Rattle.scanline.specs.declared.Detector.{Detector}
use Rattle.scanline.specs.Steps.{clocked}
use Rattle.scanline.proofs.RangeLaws.{ranges_kept}
use Rattle.split.specs.declared.VSplit.{VSplit}
use Rattle.state.specs.declared.PpuStatus.{PpuStatus}
use Rattle.state.specs.declared.State.{State}
use Rattle.state.specs.Gate.{Gate, Open, Shut, gate_mem}
use Rattle.state.specs.Ranges.{in_range}
use Rattle.state.specs.With.{with_irq, with_regs, with_ppu}
use Rattle.state.proofs.RangeLaws.{ranged}
use Rattle.cpu.specs.PpuRegisters.{status_after, detector_after}
use Rattle.cpu.specs.Reads.{register_read, page_answer, irq_read, cpu_answer, audio_read}
use Rattle.cpu.specs.Writes.{prg_word_at}
use Rattle.board.specs.declared.Outcome.{Outcome}
use Rattle.board.specs.CpuSide.{cpu_read}
use Rattle.board.specs.Outcomes.{outcome, After, after_of}
use Rattle.board.specs.StateCalls.{clock_call, reset_call, ppu_register_call}
use Rattle.board_ppu.specs.Peeks.{chr_word_at, ppu_write}
use Rattle.board_ppu.proofs.Made.{read_made, read_refused, ppu_write_made}
use Rattle.theorems_promises.proofs.Promised.{who_is_refused}
use Rattle.host_state.specs.Put.{irq_words, reg_words, status_words}
use Rattle.host_state.specs.Words.{status_of, state_of, words_of}
use Rattle.host_state.proofs.Backs.{words_back}
use Rattle.host_state.proofs.PutLaws.{irq_put, regs_put, status_put}
use Rattle.host_answers.specs.Answers.{answer_plain, answer_with_interrupt}
use Rattle.host.specs.Hosted.{left_words, on_words, left_memory, on_memory}
use Rattle.host.proofs.HostLaws.{refused_left, refused_memory, taken_left, taken_memory, shut_said, open_in_range, status_said, irq_words_lem}

-- The clock.
pub idle_small : (s : State) (d : Detector) → in_range s ≡ true → d ≡ s.irq → d.idle_count ≤ 2
idle_small s d h ed = rw ed (ranges_kept.idle_fits s.irq (ranged s h).detector)

clock_done : (s : State) (d d' : Detector) → in_range s ≡ true → d ≡ s.irq → d' ≡ clocked d → clock_call s ≡ outcome Nothing (with_irq s d')
unfolding clock_call
clock_done s d d' h ed ed' = rw (h, ed', ed)

pub clock_left : (w v : List ℕ) (d d' : Detector) (n : ℕ)
    → length w ≡ 144 → in_range (state_of w) ≡ true → d ≡ (state_of w).irq → d' ≡ clocked d → v ≡ irq_words w d' → n ≡ answer_with_interrupt Nothing d' → left_words n v ≡ on_words w (λ (s : State). clock_call s)
clock_left w v d d' n e h ed ed' ev en =
    taken_left w v (λ (s : State). clock_call s) Nothing (with_irq (state_of w) d') n refl (clock_done (state_of w) d d' h ed ed') (irq_words_lem w v d' e h ev) en

-- Reset.
reset_done : (s : State) (r r' : Regs) → in_range s ≡ true → r ≡ s.regs → r' ≡ reset_regs r → reset_call s ≡ outcome Nothing (with_regs s r')
unfolding reset_call
reset_done s r r' h er er' = rw (h, er', er)

regs_words : (w v : List ℕ) (r : Regs) → length w ≡ 144 → in_range (state_of w) ≡ true → v ≡ reg_words w r → v ≡ words_of (with_regs (state_of w) r)
regs_words w v r e h ev = ev ∙ ap (λ (l : List ℕ). reg_words l r) (sym (words_back w e h)) ∙ regs_put (state_of w) r

pub reset_left : (w v : List ℕ) (r r' : Regs) (d : Detector) (n : ℕ)
    → length w ≡ 144 → in_range (state_of w) ≡ true → r ≡ (state_of w).regs → r' ≡ reset_regs r → d ≡ (state_of w).irq → v ≡ reg_words w r' → n ≡ answer_with_interrupt Nothing d → left_words n v ≡ on_words w (λ (s : State). reset_call s)
reset_left w v r r' d n e h er er' ed ev en =
    taken_left w v (λ (s : State). reset_call s) Nothing (with_regs (state_of w) r') n refl (reset_done (state_of w) r r' h er er') (regs_words w v r' e h ev) (en ∙ ap (answer_with_interrupt Nothing) ed)

-- The PPU register write.
register_done : (s : State) (a v : ℕ) (d d' : Detector) (p p' : PpuStatus) → in_range s ≡ true → d ≡ s.irq → d' ≡ detector_after d a v → p ≡ s.ppu → p' ≡ status_after p a v
    → ppu_register_call s a v ≡ outcome Nothing (with_irq (with_ppu s p') d')
unfolding ppu_register_call
register_done s a v d d' p p' h ed ed' ep ep' = rw (h, ed', ed, ep', ep)

status_irq_words : (w u v : List ℕ) (p : PpuStatus) (d : Detector) → length w ≡ 144 → in_range (state_of w) ≡ true → u ≡ status_words w p → v ≡ irq_words u d → v ≡ words_of (with_irq (with_ppu (state_of w) p) d)
status_irq_words w u v p d e h eu ev =
    let status : u ≡ words_of (with_ppu (state_of w) p) = eu ∙ ap (λ (l : List ℕ). status_words l p) (sym (words_back w e h)) ∙ status_put (state_of w) p in
    ev ∙ ap (λ (l : List ℕ). irq_words l d) status ∙ irq_put (with_ppu (state_of w) p) d

pub register_left : (w u v : List ℕ) (a x : ℕ) (d d' : Detector) (p p' : PpuStatus) (n : ℕ)
    → length w ≡ 144 → in_range (state_of w) ≡ true → d ≡ (state_of w).irq → d' ≡ detector_after d a x → p ≡ status_of w → p' ≡ status_after p a x
    → u ≡ status_words w p' → v ≡ irq_words u d' → n ≡ answer_with_interrupt Nothing d' → left_words n v ≡ on_words w (λ (s : State). ppu_register_call s a x)
register_left w u v a x d d' p p' n e h ed ed' ep ep' eu ev en =
    taken_left w v (λ (s : State). ppu_register_call s a x) Nothing (with_irq (with_ppu (state_of w) p') d') n refl
    (register_done (state_of w) a x d d' p p' h ed ed' (status_said w p h ep) ep') (status_irq_words w u v p' d' e h eu ev) en

-- The PPU memory write.
pub store_shut : (w : List ℕ) (m : Mem) (a x : ℕ) (k : Gate) (r : Refusal) (n : ℕ)
    → k ≡ gate_mem (state_of w) m → k ≡ Shut r → n ≡ answer_plain (Refused r) → left_memory n w m ≡ on_memory w m (λ (s : State). ppu_write s m a x)
store_shut w m a x k r n e t en =
    refused_memory w m (λ (s : State). ppu_write s m a x) r n (ap (λ (y : After). y.out.answer) (who_is_refused.ppu_write_shut (state_of w) m a x r (shut_said w m k r e t))) en

pub store_left : (w : List ℕ) (m m' : Mem) (a x : ℕ) (y : PageWord) (d : Detector) (n : ℕ)
    → length w ≡ 144 → gate_mem (state_of w) m ≡ Open → y ≡ chr_word_at (state_of w).chr_pages a → m' ≡ page_stored m (page_of y) a x → d ≡ (state_of w).irq → n ≡ answer_with_interrupt Nothing d
    → left_memory n w m' ≡ on_memory w m (λ (s : State). ppu_write s m a x)
store_left w m m' a x y d n e g ey em ed en =
    let stored : m' ≡ page_stored m (page_of (chr_word_at (state_of w).chr_pages a)) a x = em ∙ ap (λ (z : PageWord). page_stored m (page_of z) a x) ey in
    taken_memory w w m m' (λ (s : State). ppu_write s m a x) Nothing (state_of w) n refl
    (ppu_write_made (state_of w) m g a x ∙ ap (after_of (outcome Nothing (state_of w))) (sym stored))
    (sym (words_back w e (open_in_range w m g))) (en ∙ ap (answer_with_interrupt Nothing) ed)

-- The CPU read.
pub read_shut : (w : List ℕ) (m : Mem) (a : ℕ) (k : Gate) (r : Refusal) (n : ℕ) → k ≡ gate_mem (state_of w) m → k ≡ Shut r → n ≡ answer_plain (Refused r) → left_words n w ≡ on_words w (λ (s : State). cpu_read s m a)
read_shut w m a k r n e t en =
    refused_left w (λ (s : State). cpu_read s m a) r n (ap (λ (o : Outcome). o.answer) (who_is_refused.read_shut (state_of w) m a r (shut_said w m k r e t))) en

pub read_audio : (w : List ℕ) (m : Mem) (a : ℕ) (b : Bool) (n : ℕ)
    → gate_mem (state_of w) m ≡ Open → b ≡ audio_read a → b ≡ true → n ≡ answer_plain (Refused Audio) → left_words n w ≡ on_words w (λ (s : State). cpu_read s m a)
read_audio w m a b n g eb tb en =
    refused_left w (λ (s : State). cpu_read s m a) Audio n (ap (λ (o : Outcome). o.answer) (read_refused (state_of w) m g a (sym eb ∙ tb))) en

read_done : (s : State) (m : Mem) (a : ℕ) (x : PageWord) (y : Answer) (r : Regs) (v : VSplit) (d d' : Detector) (pb cb : List ℕ)
    → gate_mem s m ≡ Open → audio_read a ≡ false
    → x ≡ prg_word_at s.prg_pages a → r ≡ s.regs → v ≡ s.vsplit → d ≡ s.irq → pb ≡ s.prg_banks → cb ≡ s.chr_banks
    → y ≡ register_read r v d pb cb a (page_answer m (page_of x) a) → d' ≡ irq_read d a → cpu_read s m a ≡ outcome y (with_irq s d')
unfolding cpu_answer
read_done s m a x y r v d d' pb cb g f ex er ev ed ep ec ey ed' = read_made s m g a f ∙ rw (ed', ey, ex, er, ev, ed, ep, ec)

pub read_left : (w u : List ℕ) (m : Mem) (a : ℕ) (b : Bool) (x : PageWord) (y : Answer) (r : Regs) (v : VSplit) (d d' : Detector) (pb cb : List ℕ) (n : ℕ)
    → length w ≡ 144 → gate_mem (state_of w) m ≡ Open → b ≡ audio_read a → b ≡ false
    → x ≡ prg_word_at (state_of w).prg_pages a → r ≡ (state_of w).regs → v ≡ (state_of w).vsplit → d ≡ (state_of w).irq → pb ≡ (state_of w).prg_banks → cb ≡ (state_of w).chr_banks
    → y ≡ register_read r v d pb cb a (page_answer m (page_of x) a) → d' ≡ irq_read d a → u ≡ irq_words w d' → n ≡ answer_with_interrupt y d'
    → left_words n u ≡ on_words w (λ (s : State). cpu_read s m a)
read_left w u m a b x y r v d d' pb cb n e g eb tb ex er ev ed ep ec ey ed' eu en =
    let f : audio_read a ≡ false = sym eb ∙ tb in
    let done : cpu_read (state_of w) m a ≡ outcome y (with_irq (state_of w) d') = read_done (state_of w) m a x y r v d d' pb cb g f ex er ev ed ep ec ey ed' in
    let answered : is_refused y ≡ false = sym (ap (λ (o : Outcome). is_refused o.answer) done) ∙ who_is_refused.read_else (state_of w) m a g f in
    taken_left w u (λ (s : State). cpu_read s m a) y (with_irq (state_of w) d') n answered done (irq_words_lem w u d' e (open_in_range w m g) eu) en
