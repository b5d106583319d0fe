-- Who is refused, on every board, and that a refused call changes nothing.
use Prim.Native.Nat.{ℕ}
use mathlib.Core.Bool.{Bool, true, false}
use mathlib.Core.Path.{◌≡◌, refl, sym, ◌∙◌, ap}
use Rattle.std.specs.Prelude.{Ok, Err}
use Rattle.memory.specs.Bytes.{Mem}
use Rattle.memory.specs.Tests.{pick}
use Rattle.memory.proofs.Tests.{split}
use Rattle.answers.specs.declared.Refusal.{Refusal}
use Rattle.answers.specs.Numbers.{number_of}
use Rattle.scanline.specs.Ranges.{counter_refused}
use Rattle.scanline.specs.Steps.{interrupt_up}
use Rattle.state.specs.declared.State.{State}
use Rattle.state.specs.Gate.{Gate, Open, Shut, gate_of, gate_mem}
use Rattle.state.specs.Ranges.{in_range}
use Rattle.cpu.specs.Reads.{audio_read}
use Rattle.cpu.specs.Writes.{audio_write}
use Rattle.board.specs.Outcomes.{After}
use Rattle.board.specs.StateCalls.{mirroring_call, interrupt_call}
use Rattle.trace.specs.declared.Call.TheVariants.{Clock, CpuRead, CpuWrite, PpuRegister, PpuFetch, Reset, PpuWrite}
use Rattle.calls.specs.Called.{called}
use Rattle.theorems_promises.proofs.Promised.{who_is_refused}
use Rattle.theorems_histories.specs.Boards.{Board, Made, says, leaves, number, number_in, lent_as_recorded}
use Rattle.theorems_histories.specs.Boards.Made.{call, peek, ppu_peek_lem, sprite_peek_lem, mirroring_asked, interrupt_asked, cpu_page, ppu_page}
use Rattle.theorems_histories.specs.Watching.{view}
use Rattle.theorems_histories.specs.Accepted.{refusal}
use Rattle.theorems_histories.specs.Refusals.{over_buffers, alone, given, Refusals}
use Rattle.theorems_histories.proofs.Behind.{gate_case, exactly, told, shut_refuses, says_shut}

abbrev Opened : Board → Type 0
Opened b = gate_mem b.state b.mem ≡ Open

-- What 4 and 5 come to, by the gate.
abbrev gated : Gate → ℕ → ℕ
gated (Ok u) n = n
gated (Err r) n = number_of r

by_gate : (b : Board) (n : ℕ) → gated (gate_mem b.state b.mem) n ≡ over_buffers b n
unfolding gate_of
by_gate b n =
    split b.state.lengths.loaded
    (λ t.
    split (lent_as_recorded b)
    (λ u. split (in_range b.state) (λ v. rw (v, u, t)) (λ v. rw (v, u, t)))
    (λ u. rw (u, t)))
    (λ t. rw t)

-- Calls over the buffers: what the gate says, or what is said behind it.
over_gate : (b : Board) (c : Made) (own : ℕ) → (Opened b → number (says b c) ≡ own) → ((r : Refusal) → gate_mem b.state b.mem ≡ Shut r → number (says b c) ≡ number_of r) → number (says b c) ≡ over_buffers b own
over_gate b c own f k =
    gate_case (gate_mem b.state b.mem)
    (λ h. f h ∙ ap (λ (g : Gate). gated g own) (sym h) ∙ by_gate b own)
    (λ r h. k r h ∙ ap (λ (g : Gate). gated g own) (sym h) ∙ by_gate b own)

-- Questions to the state alone.
by_range : (b : Board) (c : Made) → (in_range b.state ≡ true → number (says b c) ≡ 0) → (in_range b.state ≡ false → number (says b c) ≡ 5) → number (says b c) ≡ alone b
by_range b c f k = split (in_range b.state) (λ t. f t ∙ rw t) (λ t. k t ∙ rw t)

is_given : (b : Board) (c : Made) → number (says b c) ≡ given b c
unfolding says number given refusal mirroring_call interrupt_call
is_given b (call c) = over_gate b (call c) _ (exactly b (call c)) (says_shut b c)
is_given b (peek a) =
    over_gate b (peek a) _ (exactly b (peek a))
    (λ r h. ap number_in (who_is_refused.peek b.state b.mem a.0) ∙ says_shut b (CpuRead a) r h)
is_given b (ppu_peek_lem a) = over_gate b (ppu_peek_lem a) 0 (exactly b (ppu_peek_lem a)) (λ r h. ap number_in (who_is_refused.ppu_peek_shut b.state b.mem a.0 r h))
is_given b (sprite_peek_lem a) = over_gate b (sprite_peek_lem a) 0 (exactly b (sprite_peek_lem a)) (λ r h. ap number_in (who_is_refused.sprite_peek_shut b.state b.mem a.0 r h))
is_given b mirroring_asked = by_range b mirroring_asked (λ t. rw t) (λ t. rw t)
is_given b interrupt_asked = by_range b interrupt_asked (λ t. told (interrupt_call b.state) (interrupt_up b.state.irq) (who_is_refused.interrupt b.state t)) (λ t. rw t)
is_given b (cpu_page a) = refl
is_given b (ppu_page a) = refl

-- A refused call changes nothing --------------------------------------------------------------------------------------------------------

picked : (t : Bool) (n : ℕ) → (pick t n 0 ≡ 0 → ⊥) → t ≡ true
picked true n h = refl
picked false n h = absurd (h refl)

behind_open : (b : Board) (c : Made) → Opened b → (refusal (view b) c ≡ 0 → ⊥) → leaves b c ≡ b
unfolding refusal leaves
behind_open b (call Clock) h e = absurd (e refl)
behind_open b (call (CpuRead a)) h e =
    ap (λ (s : State). record { state = s; mem = b.mem }) (who_is_refused.read_audio b.state b.mem a.0 h (picked (audio_read a.0) 6 e)).given_back
behind_open b (call (CpuWrite a v)) h e =
    let t = picked (audio_write a.0) 6 e in
    ap (λ (s : State). record { state = s; mem = (called (CpuWrite a v) b.state b.mem).mem }) (who_is_refused.write_audio b.state b.mem a.0 v h t).given_back
    ∙ ap (λ (m : Mem). record { state = b.state; mem = m }) (who_is_refused.write_audio_bytes b.state b.mem a.0 v h t)
behind_open b (call (PpuRegister a v)) h e = absurd (e refl)
behind_open b (call (PpuFetch a)) h e =
    ap (λ (s : State). record { state = s; mem = b.mem })
    (who_is_refused.fetch_counter b.state b.mem a.0 h (picked (counter_refused b.state.irq a.0) 7 e)).given_back
behind_open b (call Reset) h e = absurd (e refl)
behind_open b (call (PpuWrite a v)) h e = absurd (e refl)
behind_open b (peek a) h e = refl
behind_open b (ppu_peek_lem a) h e = refl
behind_open b (sprite_peek_lem a) h e = refl
behind_open b mirroring_asked h e = refl
behind_open b interrupt_asked h e = refl
behind_open b (cpu_page a) h e = refl
behind_open b (ppu_page a) h e = refl

gives_back : (b : Board) (c : Made) → (number (says b c) ≡ 0 → ⊥) → leaves b c ≡ b
unfolding says number leaves
gives_back b (call c) n =
    gate_case (gate_mem b.state b.mem)
    (λ h. behind_open b (call c) h (λ e. n (exactly b (call c) h ∙ e)))
    (λ r h. ap (λ (x : After). record { state = x.out.state; mem = x.mem }) (shut_refuses c b.state b.mem r h))
gives_back b (peek a) n = refl
gives_back b (ppu_peek_lem a) n = refl
gives_back b (sprite_peek_lem a) n = refl
gives_back b mirroring_asked n = refl
gives_back b interrupt_asked n = refl
gives_back b (cpu_page a) n = refl
gives_back b (ppu_page a) n = refl

pub refusals : Refusals
refusals = record { exactly = is_given; gives_back = gives_back }
