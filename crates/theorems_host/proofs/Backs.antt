-- A call that is refused gives the state, and the bytes, back.
use Prim.Native.Nat.{ℕ}
use mathlib.Core.Bool.{true, false, false≢true}
use mathlib.Core.Path.{◌≡◌, refl, sym, ◌∙◌, ap}
use Rattle.std.specs.Prelude.{Ok, Err}
use Rattle.memory.specs.Bytes.{Mem}
use Rattle.memory.proofs.Tests.{split}
use Rattle.answers.specs.declared.Answer.{Answer}
use Rattle.answers.specs.declared.Refusal.{Refusal}
use Rattle.answers.specs.Refused.{is_refused}
use Rattle.scanline.specs.Ranges.{counter_refused}
use Rattle.state.specs.declared.State.{State}
use Rattle.state.specs.Gate.{Gate, Open, Shut, gate_mem}
use Rattle.state.specs.Ranges.{in_range}
use Rattle.cpu.specs.Reads.{audio_read}
use Rattle.cpu.specs.Writes.{audio_write}
use Rattle.board.specs.declared.Outcome.{Outcome}
use Rattle.board.specs.CpuSide.{cpu_read, cpu_write}
use Rattle.board.specs.Outcomes.{After}
use Rattle.board.specs.StateCalls.{reset_call, clock_call, ppu_register_call}
use Rattle.board_ppu.specs.Fetch.{ppu_fetch}
use Rattle.board_ppu.specs.Peeks.{ppu_write}
use Rattle.theorems_promises.proofs.Promised.{who_is_refused}

gate_case : {P : Type 0} (g : Gate) → (g ≡ Open → P) → ((r : Refusal) → g ≡ Shut r → P) → P
gate_case (Ok u) f k = f refl
gate_case (Err r) f k = k r refl

not_both : {P : Type 0} (a : Answer) → is_refused a ≡ true → is_refused a ≡ false → P
not_both a y n = absurd (false≢true (sym n ∙ y))

pub clock_back : (s : State) → is_refused (clock_call s).answer ≡ true → (clock_call s).state ≡ s
clock_back s y = split (in_range s) (λ t. not_both (clock_call s).answer y (ap is_refused (who_is_refused.clock s t))) (λ f. (who_is_refused.clock_broken s f).given_back)

pub reset_back : (s : State) → is_refused (reset_call s).answer ≡ true → (reset_call s).state ≡ s
reset_back s y = split (in_range s) (λ t. not_both (reset_call s).answer y (ap is_refused (who_is_refused.reset s t))) (λ f. (who_is_refused.reset_broken s f).given_back)

pub register_back : (s : State) (a v : ℕ) → is_refused (ppu_register_call s a v).answer ≡ true → (ppu_register_call s a v).state ≡ s
register_back s a v y = split (in_range s) (λ t. not_both (ppu_register_call s a v).answer y (ap is_refused (who_is_refused.register s a v t))) (λ f. (who_is_refused.register_broken s a v f).given_back)

module _ (s : State) (m : Mem) (a : ℕ) where
  pub read_back : is_refused (cpu_read s m a).answer ≡ true → (cpu_read s m a).state ≡ s
  read_back y =
      gate_case (gate_mem s m)
      (λ h. split (audio_read a) (λ t. (who_is_refused.read_audio s m a h t).given_back) (λ f. not_both (cpu_read s m a).answer y (who_is_refused.read_else s m a h f)))
      (λ r h. ap (λ (o : Outcome). o.state) (who_is_refused.read_shut s m a r h))

  pub fetch_back : is_refused (ppu_fetch s m a).answer ≡ true → (ppu_fetch s m a).state ≡ s
  fetch_back y =
      gate_case (gate_mem s m)
      (λ h. split (counter_refused s.irq a) (λ t. (who_is_refused.fetch_counter s m a h t).given_back) (λ f. not_both (ppu_fetch s m a).answer y (who_is_refused.fetch_else s m a h f)))
      (λ r h. ap (λ (o : Outcome). o.state) (who_is_refused.fetch_shut s m a r h))

  pub write_back : (v : ℕ) → is_refused (cpu_write s m a v).out.answer ≡ true → ((cpu_write s m a v).out.state ≡ s) × ((cpu_write s m a v).mem ≡ m)
  write_back v y =
      gate_case (gate_mem s m)
      (λ h. split (audio_write a) (λ t. ((who_is_refused.write_audio s m a v h t).given_back, who_is_refused.write_audio_bytes s m a v h t)) (λ f. not_both (cpu_write s m a v).out.answer y (ap is_refused (who_is_refused.write_else s m a v h f))))
      (λ r h. (ap (λ (x : After). x.out.state) (who_is_refused.write_shut s m a v r h), ap (λ (x : After). x.mem) (who_is_refused.write_shut s m a v r h)))

  pub store_back : (v : ℕ) → is_refused (ppu_write s m a v).out.answer ≡ true → ((ppu_write s m a v).out.state ≡ s) × ((ppu_write s m a v).mem ≡ m)
  store_back v y =
      gate_case (gate_mem s m)
      (λ h. not_both (ppu_write s m a v).out.answer y (ap is_refused (who_is_refused.ppu_write_call s m a v h)))
      (λ r h. (ap (λ (x : After). x.out.state) (who_is_refused.ppu_write_shut s m a v r h), ap (λ (x : After). x.mem) (who_is_refused.ppu_write_shut s m a v r h)))
