-- Demand 3 over the board, by crate `theorems_scanlines`' transfer, and what the interrupt call and $5204 then say.
use mathlib.Core.Bool.{Bool, true, false, false≢true}
use mathlib.Core.List.{List, ◌∷◌, ◌++◌}
use mathlib.Core.Logic.{◌↔◌}
use mathlib.Core.Path.{◌≡◌, refl, sym, ◌∙◌, ap}
use Rattle.std.specs.Prelude.{Result, Ok, Err}
use Rattle.memory.specs.Bytes.{Mem}
use Rattle.answers.specs.declared.Answer.TheVariants.{Register}
use Rattle.answers.specs.declared.Refusal.{Refusal}
use Rattle.scanline.specs.declared.Detector.{Detector}
use Rattle.scanline.specs.Steps.{status_of, interrupt_up}
use Rattle.state.specs.declared.State.{State}
use Rattle.state.specs.Gate.{Open, gate_mem}
use Rattle.state.specs.Ranges.{in_range}
use Rattle.cpu.specs.Reads.{register_at, register_read, cpu_answer}
use Rattle.board.specs.CpuSide.{cpu_read}
use Rattle.board.specs.StateCalls.{interrupt_call}
use Rattle.theorems_scanlines.specs.Told.{told_status, Up as ToldUp}
use Rattle.theorems_scanlines.specs.Calls.{History}
use Rattle.theorems_scanlines.specs.Run.{run}
use Rattle.theorems_scanlines.specs.Calls.{history_of}
use Rattle.theorems_scanlines.proofs.Agree.{agrees}
use Rattle.theorems_scanlines.proofs.Flag.{flag_is}
use Rattle.theorems_scanlines.proofs.Transfer.{any_machine}
use Rattle.theorems_promises.proofs.Gates.{in_range_of}
use Rattle.theorems_promises.proofs.Promised.{who_is_refused}
use Rattle.theorems_histories.specs.Boards.{Board, Made}
use Rattle.theorems_histories.specs.Histories.{Load, first, Takes, Reached}
use Rattle.theorems_histories.specs.Watching.{view, event}
use Rattle.theorems_histories.specs.Interrupts.{BoardDemand3, Asked}
use Rattle.theorems_histories.proofs.Along.{open_along, starts, told_along}
use Rattle.theorems_histories.proofs.Following.{follows}

pub board_demand_3 : BoardDemand3
board_demand_3 l = any_machine Board Made (first l) Takes view event (starts l) follows

-- The interrupt -------------------------------------------------------------------------------------------------------------------------

abbrev is_up : Result Bool Refusal → Bool
is_up (Ok up) = up
is_up (Err r) = false

abbrev told_as : Bool → Result Bool Refusal
told_as up = Ok up

up_says : (u : Bool) → (told_as u ≡ told_as true) ↔ (u ≡ true)
up_says u = (λ e. ap is_up e, λ e. ap told_as e)

down_says : (u : Bool) → (told_as u ≡ told_as false) ↔ (u ≡ true → ⊥)
down_says true = (λ e. absurd (false≢true (sym (ap is_up e))), λ f. absurd (f refl))
down_says false = (λ e t. false≢true t, λ f. refl)

asks : (s : State) → in_range s ≡ true → interrupt_call s ≡ Ok (interrupt_up s.irq)
unfolding interrupt_call
asks s h = rw h

-- What $5204 reads ----------------------------------------------------------------------------------------------------------------------

reads_status : (s : State) (m : Mem) → gate_mem s m ≡ Open → (cpu_read s m 0x5204).answer ≡ Register (status_of s.irq)
unfolding cpu_read cpu_answer register_read register_at
reads_status s m h = rw h

status_told : (h : History) → status_of (run h) ≡ told_status h
unfolding told_status
status_told h = rw (flag_is h, (agrees h).in_frame)

module _ (l : Load) (cs : List Made) (b : Board) (r : Reached l cs b) where
  told_status_lem : (cpu_read b.state b.mem 0x5204).answer ≡ Register (told_status (history_of event cs))
  told_status_lem =
      reads_status b.state b.mem (open_along l r)
      ∙ ap (λ (d : Detector). Register (status_of d)) (told_along l r)
      ∙ ap Register (status_told (history_of event cs))

  pub asked_at : interrupt_call b.state ≡ Ok (interrupt_up (view b))
  asked_at = asks b.state (in_range_of b.state b.mem (open_along l r))

  told_up : (interrupt_call b.state ≡ Ok true) ↔ ToldUp (history_of event cs)
  told_up =
      let u = up_says (interrupt_up (view b)) in
      let i = (board_demand_3 l).interrupt r in
      (λ e. i.0 (u.0 (sym asked_at ∙ e)), λ t. asked_at ∙ u.1 (i.1 t))

  told_down : (interrupt_call b.state ≡ Ok false) ↔ (ToldUp (history_of event cs) → ⊥)
  told_down =
      let u = down_says (interrupt_up (view b)) in
      let i = (board_demand_3 l).interrupt r in
      (λ e t. u.0 (sym asked_at ∙ e) (i.1 t), λ f. asked_at ∙ u.1 (λ t. f (i.0 t)))

pub asked : Asked
asked = record {
  up = told_up;
  down = told_down;
  status = told_status_lem;
  no_sooner = λ l hs gs s n w c k b r. asked_at l (gs ++ hs) b r ∙ rw ((board_demand_3 l).no_sooner hs gs s n w c k r);
  served = λ l hs gs s n e w c t k b r. asked_at l (e ∷ (gs ++ hs)) b r ∙ rw ((board_demand_3 l).served hs gs s n e w c t k r);
  status_peek = λ l cs b r. who_is_refused.peek b.state b.mem 0x5204 ∙ told_status_lem l cs b r;
}
