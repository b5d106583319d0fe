-- Which calls are accepted along a history, and which histories there are: told by the calls alone. Demand 1: "A refusal has one number from
-- 01, is given exactly when 01 says". Along a history 6 and 7 are the only ones, so a board that refuses every call is shut out, and so is one
-- that serves its first call and then refuses. CR 9: the split tile's address along a history.
-- Assumes nothing.
use Rattle.std.specs.Prelude.{ℕ, ◌≤◌, ◌≡◌, ◌↔◌, Bool, true, ◌&&◌, List, [], ◌∷◌, eqb}
use Rattle.memory.specs.Tests.{pick}
use Rattle.scanline.specs.declared.Detector.{Detector}
use Rattle.scanline.specs.Ranges.{counter_refused}
use Rattle.state.specs.Gate.{Open, gate_mem}
use Rattle.cpu.specs.Reads.{audio_read}
use Rattle.cpu.specs.Writes.{audio_write}
use Rattle.trace.specs.declared.Call.TheVariants.{Clock, CpuRead, CpuWrite, PpuRegister, PpuFetch, Reset, PpuWrite}
use Rattle.theorems_scanlines.specs.Run.{run}
use Rattle.theorems_scanlines.specs.Calls.{history_of}
use Rattle.theorems_histories.specs.Boards.{Board, Made, says, number}
use Rattle.theorems_histories.specs.Boards.Made.{call, peek, ppu_peek_lem, sprite_peek_lem, mirroring_asked, interrupt_asked, cpu_page, ppu_page}
use Rattle.theorems_histories.specs.Histories.{Load, Reached}
use Rattle.theorems_histories.specs.Watching.{view, event}

-- The refusal that a call meets along a history, 0 where it meets none. 6: "CPU read or peek of $5010, $5015; CPU write of $5000, $5002-$5004,
-- $5006, $5007, $5010, $5011, $5015"; 7: "a fetch at $2000-$3EFF would need .. a line counter above 65,279"; CR 7: "7 is then given for the line
-- counter alone", so it looks at the detector.
unfoldable pub refusal : Detector → Made → ℕ
refusal d (call Clock) = 0
refusal d (call (CpuRead a)) = pick (audio_read a.0) 6 0
refusal d (call (CpuWrite a v)) = pick (audio_write a.0) 6 0
refusal d (call (PpuRegister a v)) = 0
refusal d (call (PpuFetch a)) = pick (counter_refused d a.0) 7 0
refusal d (call Reset) = 0
refusal d (call (PpuWrite a v)) = 0
refusal d (peek a) = pick (audio_read a.0) 6 0
refusal d (ppu_peek_lem a) = 0
refusal d (sprite_peek_lem a) = 0
refusal d mirroring_asked = 0
refusal d interrupt_asked = 0
refusal d (cpu_page a) = 0
refusal d (ppu_page a) = 0

-- Calls that meet none, each after those before it.
unfoldable pub acceptable : List Made → Bool
acceptable [] = true
acceptable (c ∷ cs) = acceptable cs && eqb (refusal (run (history_of event cs)) c) 0

pub record Along : Type 0 where
  -- an accepted call leads to no refusal 4 or 5
  pub gate : (l : Load) (cs : List Made) (b : Board) → Reached l cs b → gate_mem b.state b.mem ≡ Open
  -- the split tile's address stays at 959 or less
  pub address : (l : Load) (cs : List Made) (b : Board) → Reached l cs b → b.state.vsplit.tile_addr ≤ 959
  -- the next call is refused exactly when 01 says, with that number (that it then changes nothing: `gives_back` of specs/Refusals.antt)
  pub refused : (l : Load) (cs : List Made) (b : Board) → Reached l cs b → (c : Made) → number (says b c) ≡ refusal (view b) c
  -- what refusal 7 looks at is told by the calls alone
  pub told : (l : Load) (cs : List Made) (b : Board) → Reached l cs b → view b ≡ run (history_of event cs)
  -- and so are the histories: there is one of these calls from every load, if they meet no refusal, and else from none
  pub all_of_them : (l : Load) (cs : List Made) → ((b : Board) × Reached l cs b) ↔ (acceptable cs ≡ true)
