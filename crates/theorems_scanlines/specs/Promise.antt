-- Demand 3: "The history alone tells the scanline interrupt." Stated of any machine that keeps a detector: S are its states (with the
-- memories), C its calls, and `Takes s c s'` says that the call c is accepted in s and leaves s'; `first` is the state that load leaves,
-- `view` where the detector lies, and `event` what it can tell of a call. In this crate the machine is the detector with the full tile count;
-- in crate `theorems_histories` it is the whole board.
-- Assumes nothing.
use Rattle.std.specs.Prelude.{ℕ, ◌+◌, ◌-◌, ◌<◌, ◌≡◌, ◌↔◌, true, false, List, ◌∷◌, ◌++◌}
use Rattle.scanline.specs.declared.Detector.{Detector}
use Rattle.scanline.specs.Steps.{detector_at_load, interrupt_up}
use Rattle.scanline.specs.Tiles.{fold, tiles_ok}
use Rattle.scanline.specs.Ranges.{detector_ok}
use Rattle.theorems_scanlines.specs.Calls.{Event}
use Rattle.theorems_scanlines.specs.Told.{line_at, lines, is_in_frame, Flagged, Up, Waiting, new_lines, calm}
use Rattle.theorems_scanlines.specs.Calls.{History}
use Rattle.theorems_scanlines.specs.Machine.{irq_pending, Watched, machine_at_load, Taken}
use Rattle.theorems_scanlines.specs.Run.{step}
use Rattle.theorems_scanlines.specs.Calls.{history_of, Played}

pub record Demand3 (S C : Type 0) (first : S) (Takes : S → C → S → Type 0) (view : S → Detector) (event : C → Event) : Type 0 where
  pub in_frame : {cs : List C} {s : S} → Played S C first Takes cs s → (view s).in_frame ≡ is_in_frame (history_of event cs)
  -- no invented line number: in frame, the counter is the number of the last line
  pub number : {cs : List C} {s : S} → Played S C first Takes cs s → is_in_frame (history_of event cs) ≡ true → (view s).scanline + 1 ≡ lines (history_of event cs)
  pub flag : {cs : List C} {s : S} → Played S C first Takes cs s → ((view s).pending ≡ true) ↔ Flagged (history_of event cs)
  pub interrupt : {cs : List C} {s : S} → Played S C first Takes cs s → (interrupt_up (view s) ≡ true) ↔ Up (history_of event cs)
  -- the Rust's stored bit
  pub stored : {cs : List C} {s : S} → Played S C first Takes cs s → irq_pending (history_of event cs) ≡ interrupt_up (view s)
  -- "the game is served at the (n - s)th next line and no sooner, if no break and no $5203 or $5204 write falls between": after the calls hs
  -- came the calls gs
  pub no_sooner : (hs gs : List C) (l n : ℕ) → Waiting (history_of event hs) l n → calm (history_of event gs) (history_of event hs) ≡ true
      → new_lines (history_of event gs) (history_of event hs) < n - l → {s : S} → Played S C first Takes (gs ++ hs) s → interrupt_up (view s) ≡ false
  pub served : (hs gs : List C) (l n : ℕ) (c : C) → Waiting (history_of event hs) l n → calm (history_of event gs) (history_of event hs) ≡ true
      → line_at (event c) (history_of event (gs ++ hs)) ≡ true → new_lines (history_of event (c ∷ gs)) (history_of event hs) ≡ n - l
      → {s : S} → Played S C first Takes (c ∷ (gs ++ hs)) s → interrupt_up (view s) ≡ true

-- Any machine has it that keeps two things: load leaves its detector as loaded, and each call that is accepted moves it by the call's event.
-- (A contract speaks of no types, so this is cited by way of its instances: the one below, and the board's, `BoardDemand3` of crate `theorems_histories`.)
abbrev pub AnyMachine : Type 1
AnyMachine = (S C : Type 0) (first : S) (Takes : S → C → S → Type 0) (view : S → Detector) (event : C → Event)
    → view first ≡ detector_at_load → ((s s' : S) (c : C) → Takes s c s' → view s' ≡ step (view s) (event c)) → Demand3 S C first Takes view event

-- the detector with the full tile count, over the calls that it tells apart
abbrev pub DetectorDemand3 : Type 0
DetectorDemand3 = Demand3 Watched Event machine_at_load Taken (λ w. w.detector) (λ e. e)

-- the calls of h, from load on, were all accepted, and left w
abbrev pub LedTo : History → Watched → Type 0
LedTo h w = Played Watched Event machine_at_load Taken h w

-- accepted calls keep the detector within its ranges, and what is kept of the tile count is within its own, whatever the count: so the code's own demands
-- are met at every call
abbrev pub StaysInRange : Type 0
StaysInRange = (h : History) (w : Watched) → LedTo h w → (detector_ok w.detector ≡ true) × (tiles_ok (fold w.tiles) ≡ true)
