-- Demand 3 for any machine that keeps a detector: it asks that load leaves the detector as loaded, and one law a call, that the call moves
-- the detector by its event.
-- Assumes nothing.
use Prim.Native.Nat.{◌+◌}
use mathlib.Core.Path.{◌≡◌, refl, ◌∙◌, ap}
use mathlib.Core.Bool.{true}
use mathlib.Core.List.{List, [], ◌∷◌, ◌++◌}
use borrow.Author.Tests.{leb-true}
use Rattle.scanline.specs.declared.Detector.{Detector}
use Rattle.scanline.specs.Steps.{detector_at_load}
use Rattle.theorems_scanlines.specs.Calls.{Event}
use Rattle.theorems_scanlines.specs.Told.{lines, is_in_frame}
use Rattle.theorems_scanlines.specs.Calls.{History}
use Rattle.theorems_scanlines.specs.Machine.{Watched, machine_at_load, Taken, watched}
use Rattle.theorems_scanlines.specs.Run.{step, run}
use Rattle.theorems_scanlines.specs.Promise.{Demand3, AnyMachine, DetectorDemand3}
use Rattle.theorems_scanlines.specs.Calls.{history_of, Played}
use Rattle.theorems_scanlines.specs.Calls.Played.{at_load, taken}
use Rattle.theorems_scanlines.proofs.Agree.{agrees}
use Rattle.theorems_scanlines.proofs.Flag.{flag_is, up_is, flag_iff, up_iff}
use Rattle.theorems_scanlines.proofs.Stored.{stored}
use Rattle.theorems_scanlines.proofs.Wait.{no_sooner, served}

history_append : {C : Type 0} (event : C → Event) (gs hs : List C) → history_of event (gs ++ hs) ≡ history_of event gs ++ history_of event hs
unfolding history_of
history_append event [] hs = refl
history_append event (c ∷ gs) hs = ap (λ h. event c ∷ h) (history_append event gs hs)

number_is : (h : History) → is_in_frame h ≡ true → (run h).scanline + 1 ≡ lines h
unfolding is_in_frame
number_is h f = (agrees h).number (leb-true 1 (lines h) f)

-- the count beside it leaves the detector as it runs
pub run_is : (h : History) → run h ≡ (watched h).detector
unfolding run watched
run_is [] = refl
run_is (e ∷ h) = ap (λ d. step d e) (run_is h)

module _ (S C : Type 0) (first : S) (Takes : S → C → S → Type 0) (view : S → Detector) (event : C → Event) (starts : view first ≡ detector_at_load) (follows : (s s' : S) (c : C) → Takes s c s' → view s' ≡ step (view s) (event c)) where
  -- the detector is the one that the history runs to
  pub seen : {cs : List C} {s : S} → Played S C first Takes cs s → view s ≡ run (history_of event cs)
  unfolding history_of run
  seen at_load = starts
  seen (taken {s = s} {s' = s'} c p t) = follows s s' c t ∙ ap (λ d. step d (event c)) (seen p)

  demand_3 : Demand3 S C first Takes view event
  unfolding history_of
  demand_3 = record {
    in_frame = λ {cs} {s} p. rw (seen p) (agrees (history_of event cs)).in_frame;
    number = λ {cs} {s} p. rw (seen p) (number_is (history_of event cs));
    flag = λ {cs} {s} p. rw (seen p, flag_is (history_of event cs)) (flag_iff (history_of event cs));
    interrupt = λ {cs} {s} p. rw (seen p, up_is (history_of event cs)) (up_iff (history_of event cs));
    stored = λ {cs} {s} p. rw (seen p) (stored (history_of event cs));
    no_sooner = λ hs gs l n w c k {s} p.
        rw (seen p, up_is (history_of event (gs ++ hs)), history_append event gs hs) (no_sooner (history_of event hs) l n w (history_of event gs) c k);
    served = λ hs gs l n c w q t k {s} p.
        rw (seen p, up_is (history_of event (c ∷ (gs ++ hs))), history_append event gs hs) (served (history_of event hs) l n w (history_of event gs) (event c) q (rw (history_append event gs hs) at t) k);
  }

pub any_machine : AnyMachine
any_machine = demand_3

-- the detector with the full tile count
pub detector_demand_3 : DetectorDemand3
detector_demand_3 = any_machine Watched Event machine_at_load Taken (λ w. w.detector) (λ e. e) refl (λ w w' e t. ap (λ (x : Watched). x.detector) t.moved)
