-- Demand 3 over the board: "The history alone tells the scanline interrupt. Over any accepted calls from load, .." What the sentences say of a
-- history stands in crate `theorems_scanlines`, specs/Told.antt and specs/Promise.antt.
-- Assumes nothing.
use Rattle.std.specs.Prelude.{ℕ, ◌-◌, ◌<◌, ◌≡◌, ◌↔◌, true, false, List, ◌∷◌, ◌++◌, Ok}
use Rattle.answers.specs.declared.Answer.TheVariants.{Register}
use Rattle.board.specs.CpuSide.{cpu_read, cpu_peek}
use Rattle.board.specs.StateCalls.{interrupt_call}
use Rattle.theorems_scanlines.specs.Told.{line_at, Waiting, new_lines, calm, told_status, Up as ToldUp}
use Rattle.theorems_scanlines.specs.Promise.{Demand3}
use Rattle.theorems_scanlines.specs.Calls.{history_of}
use Rattle.theorems_histories.specs.Boards.{Board, Made}
use Rattle.theorems_histories.specs.Histories.{Load, first, Takes, Reached}
use Rattle.theorems_histories.specs.Watching.{view, event}

-- flag, interrupt, in frame, line number, the stored bit, and the wait: "the game is served at the (n - s)th next line and no sooner"
abbrev pub BoardDemand3 : Type 0
BoardDemand3 = (l : Load) → Demand3 Board Made (first l) Takes view event

-- The same as a game and a player ask for it.
pub record Asked : Type 0 where
  -- "The interrupt is up exactly when the flag is set and the last write to $5204 had bit 7 set."
  pub up : (l : Load) (cs : List Made) (b : Board) → Reached l cs b → (interrupt_call b.state ≡ Ok true) ↔ ToldUp (history_of event cs)
  pub down : (l : Load) (cs : List Made) (b : Board) → Reached l cs b → (interrupt_call b.state ≡ Ok false) ↔ (ToldUp (history_of event cs) → ⊥)
  -- $5204 reads 128 for the flag and 64 for in frame; "The $5204 peek clears nothing", and answers the same
  pub status : (l : Load) (cs : List Made) (b : Board) → Reached l cs b → (cpu_read b.state b.mem 0x5204).answer ≡ Register (told_status (history_of event cs))
  pub status_peek : (l : Load) (cs : List Made) (b : Board) → Reached l cs b → cpu_peek b.state b.mem 0x5204 ≡ Register (told_status (history_of event cs))
  -- "in frame at line s, flag clear, interrupt enabled, $5203 last written n from s + 1 to 255, the game is served at the (n - s)th next line and
  -- no sooner, if no break and no $5203 or $5204 write falls between": after the calls hs came the calls gs, and then the call c
  pub no_sooner : (l : Load) (hs gs : List Made) (s n : ℕ) → Waiting (history_of event hs) s n → calm (history_of event gs) (history_of event hs) ≡ true
      → new_lines (history_of event gs) (history_of event hs) < n - s → (b : Board) → Reached l (gs ++ hs) b → interrupt_call b.state ≡ Ok false
  pub served : (l : Load) (hs gs : List Made) (s n : ℕ) (c : Made) → Waiting (history_of event hs) s n → calm (history_of event gs) (history_of event hs) ≡ true
      → line_at (event c) (history_of event (gs ++ hs)) ≡ true → new_lines (history_of event (c ∷ gs)) (history_of event hs) ≡ n - s
      → (b : Board) → Reached l (c ∷ (gs ++ hs)) b → interrupt_call b.state ≡ Ok true
