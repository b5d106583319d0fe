-- Behind an open gate, and where a call meets no refusal, the call is what its definition says there; and the number that a call gives behind
-- an open gate.
use Prim.Native.Nat.{ℕ, suc}
use mathlib.Core.Bool.{Bool, true, false}
use mathlib.Core.Path.{◌≡◌, refl, sym, ◌∙◌, ap}
use native.Mathlib.Omega.{arith}
use lib.Dec.{ltb}
use Rattle.std.specs.Prelude.{Result, Ok, Err}
use Rattle.memory.specs.Bytes.{Mem}
use Rattle.memory.specs.Tests.{pick}
use Rattle.memory.proofs.Tests.{split}
use Rattle.answers.specs.declared.Answer.{Answer}
use Rattle.answers.specs.declared.Answer.TheVariants.{Nothing}
use Rattle.answers.specs.declared.Refusal.{Refusal}
use Rattle.answers.specs.Letters.{value_of}
use Rattle.answers.specs.Numbers.{number_of}
use Rattle.answers.specs.Refused.{is_refused}
use Rattle.answers.proofs.Cases.{refused_or_not, accepted_goes_on, letter_range}
use Rattle.answers.proofs.NumberLaws.{numbered}
use Rattle.scanline.specs.Fetches.{counted_at}
use Rattle.scanline.specs.Ranges.{counter_refused}
use Rattle.scanline.specs.Steps.{interrupt_up}
use Rattle.state.specs.declared.State.{State}
use Rattle.state.specs.Gate.{Gate, Open, Shut, gate_mem}
use Rattle.cpu.specs.Reads.{audio_read}
use Rattle.cpu.specs.Writes.{audio_write}
use Rattle.board.specs.declared.Outcome.{Outcome}
use Rattle.board.specs.CpuSide.{cpu_read, cpu_write}
use Rattle.board.specs.Outcomes.{outcome, refused, After, after_of}
use Rattle.board.specs.StateCalls.{reset_call, clock_call, ppu_register_call, interrupt_call}
use Rattle.board_ppu.specs.Fetch.{counted_call, pattern_call, ppu_fetch}
use Rattle.board_ppu.specs.Peeks.{chr_answer, ppu_peek, sprite_peek, ppu_write}
use Rattle.trace.specs.declared.Call.{Call}
use Rattle.trace.specs.declared.Call.TheVariants.{Clock, CpuRead, CpuWrite, PpuRegister, PpuFetch, Reset, PpuWrite}
use Rattle.calls.specs.Called.{called}
use Rattle.theorems_promises.specs.Refused.{RefusedWith}
use Rattle.theorems_promises.proofs.Gates.{in_range_of}
use Rattle.theorems_promises.proofs.Promised.{who_is_refused}
use Rattle.theorems_histories.specs.Boards.{Board, Made, says, number, number_in}
use Rattle.theorems_histories.specs.Boards.Made.{call, peek, ppu_peek_lem, sprite_peek_lem, mirroring_asked, interrupt_asked, cpu_page, ppu_page}
use Rattle.theorems_histories.specs.Boards.Said.{interrupts}
use Rattle.theorems_histories.specs.Done.{done_with}
use Rattle.theorems_histories.specs.Watching.{view}
use Rattle.theorems_histories.specs.Accepted.{refusal}

-- A call that is not refused.
abbrev pub fetched : State → Mem → ℕ → Outcome
fetched s m a =
    pick (counted_at a) (counted_call s m a) (pick (ltb a 0x2000) (pattern_call s m a) (outcome (chr_answer s.chr_pages m a) s))

abbrev pub done : Call → State → Mem → After
done = done_with fetched

-- A test that picks no number is not met.
pub unmet : (t : Bool) (n : ℕ) → pick t (suc n) 0 ≡ 0 → t ≡ false
unmet true n e = absurd (omega arith)
unmet false n e = refl

pub unfetched : (s : State) (m : Mem) (a : ℕ) → gate_mem s m ≡ Open → counter_refused s.irq a ≡ false → ppu_fetch s m a ≡ fetched s m a
unfolding ppu_fetch
unfetched s m a h free = rw (h, free)

-- Behind an open gate.
pub is_done : (b : Board) (c : Call) → gate_mem b.state b.mem ≡ Open → refusal (view b) (call c) ≡ 0 → called c b.state b.mem ≡ done c b.state b.mem
unfolding refusal clock_call cpu_read cpu_write ppu_register_call reset_call ppu_write
is_done b Clock h e = rw (h, in_range_of b.state b.mem h)
is_done b (CpuRead a) h e = rw (h, unmet (audio_read a.0) 5 e)
is_done b (CpuWrite a v) h e = rw (h, unmet (audio_write a.0) 5 e)
is_done b (PpuRegister a v) h e = rw (h, in_range_of b.state b.mem h)
is_done b (PpuFetch a) h e = rw (unfetched b.state b.mem a.0 h (unmet (counter_refused b.state.irq a.0) 6 e))
is_done b Reset h e = rw (h, in_range_of b.state b.mem h)
is_done b (PpuWrite a v) h e = rw h

-- The numbers of answers.
pub no_zero : (r : Refusal) {A : Type 0} → number_of r ≡ 0 → A
no_zero r e = absurd (omega (arith, numbered.least r, e))

pub given : (a : Answer) → is_refused a ≡ false → number_in a ≡ 0
given a h = accepted_goes_on a number_of 0 h

pub nothing : (a : Answer) → a ≡ Nothing → number_in a ≡ 0
nothing a e = rw e

pub with_number : (n : ℕ) (s : State) (o : Outcome) → RefusedWith n s o → number_in o.answer ≡ n
with_number n s o r =
    refused_or_not o.answer (λ why e. ap number_in e ∙ sym (ap value_of e) ∙ r.number)
    (λ f. absurd (omega (arith, r.letter, (letter_range o.answer).1 f)))

pub told : (i : Result Bool Refusal) (up : Bool) → i ≡ Ok up → number (interrupts i) ≡ 0
unfolding number
told i up e = rw e

read_exactly : (s : State) (m : Mem) (a : ℕ) → gate_mem s m ≡ Open → number_in (cpu_read s m a).answer ≡ pick (audio_read a) 6 0
read_exactly s m a h =
    split (audio_read a)
    (λ t. rw t (with_number 6 s (cpu_read s m a) (who_is_refused.read_audio s m a h t)))
    (λ t. rw t (given (cpu_read s m a).answer (who_is_refused.read_else s m a h t)))

-- Behind an open gate a call gives 6 or 7, or none, as the definition says.
pub exactly : (b : Board) (c : Made) → gate_mem b.state b.mem ≡ Open → number (says b c) ≡ refusal (view b) c
unfolding refusal says number
exactly b (call Clock) h = rw h (nothing (clock_call b.state).answer (who_is_refused.clock b.state (in_range_of b.state b.mem h)))
exactly b (call (CpuRead a)) h = read_exactly b.state b.mem a.0 h
exactly b (call (CpuWrite a v)) h =
    split (audio_write a.0)
    (λ t. rw t (with_number 6 b.state (cpu_write b.state b.mem a.0 v).out (who_is_refused.write_audio b.state b.mem a.0 v h t)))
    (λ t. rw t (nothing (cpu_write b.state b.mem a.0 v).out.answer (who_is_refused.write_else b.state b.mem a.0 v h t)))
exactly b (call (PpuRegister a v)) h = rw h (nothing (ppu_register_call b.state a.0 v).answer (who_is_refused.register b.state a.0 v (in_range_of b.state b.mem h)))
exactly b (call (PpuFetch a)) h =
    split (counter_refused b.state.irq a.0)
    (λ t. rw t (with_number 7 b.state (ppu_fetch b.state b.mem a.0) (who_is_refused.fetch_counter b.state b.mem a.0 h t)))
    (λ t. rw t (given (ppu_fetch b.state b.mem a.0).answer (who_is_refused.fetch_else b.state b.mem a.0 h t)))
exactly b (call Reset) h = rw h (nothing (reset_call b.state).answer (who_is_refused.reset b.state (in_range_of b.state b.mem h)))
exactly b (call (PpuWrite a v)) h = nothing (ppu_write b.state b.mem a.0 v).out.answer (who_is_refused.ppu_write_call b.state b.mem a.0 v h)
exactly b (peek a) h = rw (who_is_refused.peek b.state b.mem a.0) (read_exactly b.state b.mem a.0 h)
exactly b (ppu_peek_lem a) h = given (ppu_peek b.state b.mem a.0) (who_is_refused.ppu_peek_call b.state b.mem a.0 h)
exactly b (sprite_peek_lem a) h = given (sprite_peek b.state b.mem a.0) (who_is_refused.sprite_peek_call b.state b.mem a.0 h)
exactly b mirroring_asked h = rw (who_is_refused.mirroring b.state (in_range_of b.state b.mem h))
exactly b interrupt_asked h = told (interrupt_call b.state) (interrupt_up b.state.irq) (who_is_refused.interrupt b.state (in_range_of b.state b.mem h))
exactly b (cpu_page a) h = refl
exactly b (ppu_page a) h = refl

-- A call that is accepted meets no refusal, and is done.
pub gate_case : {A : Type 0} (g : Gate) → (g ≡ Open → A) → ((r : Refusal) → g ≡ Shut r → A) → A
gate_case (Ok u) f k = f refl
gate_case (Err r) f k = k r refl

abbrev Passed : Board → Call → Type 0
Passed b c = (called c b.state b.mem ≡ done c b.state b.mem) × (refusal (view b) (call c) ≡ 0)

through : (b : Board) (c : Call) → number (says b (call c)) ≡ 0 → gate_mem b.state b.mem ≡ Open → Passed b c
through b c n h = let e : refusal (view b) (call c) ≡ 0 = sym (exactly b (call c) h) ∙ n in (is_done b c h e, e)

-- At a shut gate every call is its refusal, and changes nothing.
pub shut_refuses : (c : Call) (s : State) (m : Mem) (r : Refusal) → gate_mem s m ≡ Shut r → called c s m ≡ after_of (refused s r) m
unfolding cpu_read cpu_write ppu_fetch ppu_write
shut_refuses Clock s m r h = rw h
shut_refuses (CpuRead a) s m r h = rw h
shut_refuses (CpuWrite a v) s m r h = rw h
shut_refuses (PpuRegister a v) s m r h = rw h
shut_refuses (PpuFetch a) s m r h = rw h
shut_refuses Reset s m r h = rw h
shut_refuses (PpuWrite a v) s m r h = rw h

pub says_shut : (b : Board) (c : Call) (r : Refusal) → gate_mem b.state b.mem ≡ Shut r → number (says b (call c)) ≡ number_of r
unfolding says number
says_shut b c r h = ap (λ (x : After). number_in x.out.answer) (shut_refuses c b.state b.mem r h)

pub accepted_passes : (b : Board) (c : Call) → number (says b (call c)) ≡ 0 → Passed b c
accepted_passes b c n = gate_case (gate_mem b.state b.mem) (through b c n) (λ r h. no_zero r (sym (says_shut b c r h) ∙ n))
