-- A refusal leaves the words and the bytes: a number that tells a refusal is no taken call's number, and a refused call leaves what it was lent.
use Prim.Native.Nat.{ℕ, ◌+◌, ◌*◌, ◌<◌}
use mathlib.Core.Bool.{Bool, true, false}
use mathlib.Core.List.{List}
use mathlib.Core.Path.{◌≡◌, ap}
use native.Mathlib.Omega.{arith}
use Rattle.memory.specs.Bytes.{Mem}
use Rattle.memory.specs.Tests.{pick}
use Rattle.answers.specs.declared.Answer.{Answer}
use Rattle.answers.specs.declared.Answer.TheVariants.{Refused}
use Rattle.answers.specs.declared.Refusal.{Refusal}
use Rattle.answers.specs.Letters.{letter_of, value_of}
use Rattle.answers.specs.Numbers.{number_of}
use Rattle.answers.specs.Refused.{is_refused}
use Rattle.answers.proofs.Cases.{if_refused_lem, letter_range}
use Rattle.answers.proofs.NumberLaws.{numbered}
use Rattle.scanline.specs.declared.Detector.{Detector}
use Rattle.scanline.specs.Steps.{interrupt_up}
use Rattle.state.specs.declared.State.{State}
use Rattle.board.specs.declared.Outcome.{Outcome}
use Rattle.board.specs.CpuSide.{cpu_read, cpu_write}
use Rattle.board.specs.Outcomes.{After}
use Rattle.board.specs.StateCalls.{reset_call, clock_call, ppu_register_call}
use Rattle.board_ppu.specs.Fetch.{ppu_fetch}
use Rattle.board_ppu.specs.Peeks.{ppu_write}
use Rattle.trace.specs.declared.Call.{Call}
use Rattle.trace.specs.declared.Call.TheVariants.{Clock, CpuRead, CpuWrite, PpuRegister, PpuFetch, Reset, PpuWrite}
use Rattle.host_state.specs.Words.{state_of}
use Rattle.host_answers.specs.Answers.{answer_plain, answer_with_interrupt}
use Rattle.host.specs.Hosted.{LeftWords, left_words, leaving_words, on_words, LeftMemory, left_memory, leaving_memory, on_memory}
use Rattle.host.specs.Promise.{with_memory, called_on, RefusalsLeaveAll}

-- The least letter is `!`, with a refusal's number: what another answer tells is above it.
above : (up : Bool) (l v : ℕ) (r : Refusal) → 0x21 < l → pick up (l * 256 + v + 32768) (l * 256 + v) ≡ 0x21 * 256 + number_of r → ⊥
above true l v r h e = omega (arith, h, e, numbered.most r)
above false l v r h e = omega (arith, h, e, numbered.most r)

no_refusal_answered : (a : Answer) (d : Detector) (r : Refusal) → is_refused a ≡ false → answer_with_interrupt a d ≡ answer_plain (Refused r) → ⊥
no_refusal_answered a d r f e = above (interrupt_up d) (letter_of a) (value_of a) r ((letter_range a).1 f) (rw f at e)

module _ (w : List ℕ) (r : Refusal) where
  words_kept : (f : State → Outcome) → (on_words w f).number ≡ answer_plain (Refused r) → on_words w f ≡ left_words (answer_plain (Refused r)) w
  unfolding on_words
  words_kept f =
      let o = f (state_of w) in
      if_refused_lem (λ (x : LeftWords). x.number ≡ answer_plain (Refused r) → x ≡ left_words (answer_plain (Refused r)) w) o.answer
      (λ (why : Refusal). left_words (answer_plain (Refused why)) w) (leaving_words o)
      (λ why ea n. ap (λ (k : ℕ). left_words k w) n)
      (λ no n. absurd (no_refusal_answered o.answer o.state.irq r no n))

  memory_kept : (m : Mem) (f : State → After) → (on_memory w m f).number ≡ answer_plain (Refused r) → on_memory w m f ≡ left_memory (answer_plain (Refused r)) w m
  unfolding on_memory
  memory_kept m f =
      let o = (f (state_of w)).out in
      if_refused_lem (λ (x : LeftMemory). x.number ≡ answer_plain (Refused r) → x ≡ left_memory (answer_plain (Refused r)) w m) o.answer
      (λ (why : Refusal). left_memory (answer_plain (Refused why)) w m) (leaving_memory (f (state_of w)))
      (λ why ea n. ap (λ (k : ℕ). left_memory k w m) n)
      (λ no n. absurd (no_refusal_answered o.answer o.state.irq r no n))

  with_memory_kept : (m : Mem) (f : State → Outcome) → (on_words w f).number ≡ answer_plain (Refused r) → with_memory (on_words w f) m ≡ left_memory (answer_plain (Refused r)) w m
  with_memory_kept m f e = ap (λ (x : LeftWords). with_memory x m) (words_kept f e)

kept : (c : Call) (w : List ℕ) (m : Mem) (r : Refusal) → (called_on c w m).number ≡ answer_plain (Refused r) → called_on c w m ≡ left_memory (answer_plain (Refused r)) w m
kept Clock w m r e = with_memory_kept w r m (λ (s : State). clock_call s) e
kept (CpuRead a) w m r e = with_memory_kept w r m (λ (s : State). cpu_read s m a.0) e
kept (CpuWrite a v) w m r e = memory_kept w r m (λ (s : State). cpu_write s m a.0 v) e
kept (PpuRegister a v) w m r e = with_memory_kept w r m (λ (s : State). ppu_register_call s a.0 v) e
kept (PpuFetch a) w m r e = with_memory_kept w r m (λ (s : State). ppu_fetch s m a.0) e
kept Reset w m r e = with_memory_kept w r m (λ (s : State). reset_call s) e
kept (PpuWrite a v) w m r e = memory_kept w r m (λ (s : State). ppu_write s m a.0 v) e

pub promised : RefusalsLeaveAll
promised = record { refused = kept }
