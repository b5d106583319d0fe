-- A call over lent words, put together from what its steps give: a refusal leaves the words, an accepted call leaves the words of the state after it.
use Prim.Native.Nat.{ℕ}
use mathlib.Core.Bool.{Bool, true, false}
use mathlib.Core.List.{List}
use mathlib.Core.Path.{◌≡◌, sym, ap, ◌∙◌}
use lib.ListN.{length}
use Rattle.memory.specs.Bytes.{Mem}
use Rattle.answers.specs.declared.Answer.{Answer}
use Rattle.answers.specs.declared.Answer.TheVariants.{Refused}
use Rattle.answers.specs.declared.Refusal.{Refusal}
use Rattle.answers.specs.Refused.{is_refused}
use Rattle.answers.proofs.Cases.{accepted_goes_on}
use Rattle.registers.specs.declared.Mirroring.{Mirroring}
use Rattle.scanline.specs.declared.Detector.{Detector}
use Rattle.state.specs.declared.PpuStatus.{PpuStatus}
use Rattle.state.specs.declared.State.{State}
use Rattle.state.specs.Gate.{Gate, Open, Shut, gate_mem}
use Rattle.state.specs.Ranges.{in_range}
use Rattle.state.specs.With.{with_irq}
use Rattle.board.specs.declared.Outcome.{Outcome}
use Rattle.board.specs.Loads.{load_call}
use Rattle.board.specs.Outcomes.{outcome, After, after_of}
use Rattle.theorems_promises.proofs.Gates.{in_range_of}
use Rattle.host_state.specs.Put.{irq_words}
use Rattle.host_state.specs.Words.{status_of, state_of, words_of}
use Rattle.host_state.proofs.Within.{range_limits}
use Rattle.host_state.proofs.Backs.{words_back}
use Rattle.host_state.proofs.PutLaws.{irq_put}
use Rattle.host_answers.specs.Answers.{answer_plain, answer_with_interrupt}
use Rattle.host.specs.Hosted.{left_words, leaving_words, on_words, left_memory, leaving_memory, on_memory}

-- A refusal leaves the words, and the bytes.
pub refused_left : (w : List ℕ) (f : State → Outcome) (r : Refusal) (n : ℕ) → (f (state_of w)).answer ≡ Refused r → n ≡ answer_plain (Refused r) → left_words n w ≡ on_words w f
unfolding on_words
refused_left w f r n ef en = rw (ef, en)

pub refused_memory : (w : List ℕ) (m : Mem) (f : State → After) (r : Refusal) (n : ℕ) → (f (state_of w)).out.answer ≡ Refused r → n ≡ answer_plain (Refused r) → left_memory n w m ≡ on_memory w m f
unfolding on_memory
refused_memory w m f r n ef en = rw (ef, en)

-- A call that is taken leaves the words of the state after it.
pub taken_left : (w v : List ℕ) (f : State → Outcome) (a : Answer) (t : State) (n : ℕ)
    → is_refused a ≡ false → f (state_of w) ≡ outcome a t → v ≡ words_of t → n ≡ answer_with_interrupt a t.irq → left_words n v ≡ on_words w f
unfolding on_words
taken_left w v f a t n ea ef ev en = rw (ef, accepted_goes_on a (λ (r : Refusal). left_words (answer_plain (Refused r)) w) (leaving_words (outcome a t)) ea, en, ev)

pub taken_memory : (w v : List ℕ) (m m' : Mem) (f : State → After) (a : Answer) (t : State) (n : ℕ)
    → is_refused a ≡ false → f (state_of w) ≡ after_of (outcome a t) m' → v ≡ words_of t → n ≡ answer_with_interrupt a t.irq → left_memory n v m' ≡ on_memory w m f
unfolding on_memory
taken_memory w v m m' f a t n ea ef ev en = rw (ef, accepted_goes_on a (λ (r : Refusal). left_memory (answer_plain (Refused r)) w m) (leaving_memory (after_of (outcome a t) m')) ea, en, ev)

-- A load puts its state, whatever the words were.
pub load_left : (m : Mem) (b : Bool) (s k : Mirroring) (o : Outcome) (v : List ℕ) (n : ℕ)
    → o ≡ load_call m b s → s ≡ k → v ≡ words_of o.state → n ≡ answer_with_interrupt o.answer o.state.irq → left_words n v ≡ leaving_words (load_call m b k)
load_left m b s k o v n eo es ev en = rw (en, ev, eo, es)

-- What the tests say where they hold: the state is in range, and the words are its words.
pub in_range_said : (w : List ℕ) (o : Bool) → o ≡ in_range (state_of w) → o ≡ true → in_range (state_of w) ≡ true
in_range_said w o e t = sym e ∙ t

pub open_said : (w : List ℕ) (m : Mem) (k : Gate) → k ≡ gate_mem (state_of w) m → k ≡ Open → gate_mem (state_of w) m ≡ Open
open_said w m k e t = sym e ∙ t

pub open_in_range : (w : List ℕ) (m : Mem) → gate_mem (state_of w) m ≡ Open → in_range (state_of w) ≡ true
open_in_range w m h = in_range_of (state_of w) m h

pub shut_said : (w : List ℕ) (m : Mem) (k : Gate) (r : Refusal) → k ≡ gate_mem (state_of w) m → k ≡ Shut r → gate_mem (state_of w) m ≡ Shut r
shut_said w m k r e t = sym e ∙ t

-- The status that is read is the state's where that is in range.
pub status_said : (w : List ℕ) (p : PpuStatus) → in_range (state_of w) ≡ true → p ≡ status_of w → p ≡ (state_of w).ppu
status_said w p h e = e ∙ rw (range_limits w h)

-- The words after only the detector changed.
pub irq_words_lem : (w v : List ℕ) (d : Detector) → length w ≡ 144 → in_range (state_of w) ≡ true → v ≡ irq_words w d → v ≡ words_of (with_irq (state_of w) d)
irq_words_lem w v d e h ev = ev ∙ ap (λ (l : List ℕ). irq_words l d) (sym (words_back w e h)) ∙ irq_put (state_of w) d
