-- The wait of demand 3, worked over the board: "in frame at line s, flag clear, interrupt enabled, $5203 last written n from s + 1 to 255, the
-- game is served at the (n - s)th next line and no sooner". Here s is 0 and n is 2: one line and two fetches of the next, and then the line
-- that the game is served at. The calls are accepted from every load, so `BoardDemand3` speaks of something; and there are loads.
-- Assumes nothing.
use Rattle.std.specs.Prelude.{◌≡◌, true, false, List, [], ◌∷◌, ◌++◌, replicate, Ok}
use Rattle.memory.specs.Bytes.{Mem, mem_of}
use Rattle.answers.specs.declared.Answer.TheVariants.{Nothing}
use Rattle.registers.specs.declared.Mirroring.TheVariants.{Horizontal}
use Rattle.board.specs.Loads.{load_call}
use Rattle.board.specs.StateCalls.{interrupt_call}
use Rattle.theorems_scanlines.specs.Told.{line_at, Waiting, new_lines, calm}
use Rattle.theorems_scanlines.specs.Calls.{history_of}
use Rattle.theorems_histories.specs.Boards.{Board, Made}
use Rattle.theorems_histories.specs.Histories.{Load, Reached}
use Rattle.theorems_histories.specs.Watching.{event}
use Rattle.theorems_histories.specs.Shorthand.{write, fetch}

-- The newest first: $5203 = 2, $5204 = $80, line 0.
abbrev pub before : List Made
before = fetch 0x2000 ∷ fetch 0x2000 ∷ fetch 0x2000 ∷ write 0x5204 0x80 ∷ write 0x5203 2 ∷ []

-- A fetch elsewhere, line 1, and two fetches of line 2.
abbrev pub between : List Made
between = fetch 0x2400 ∷ fetch 0x2400 ∷ fetch 0x2000 ∷ fetch 0x2000 ∷ fetch 0x2000 ∷ fetch 0x2001 ∷ []

abbrev pub last : Made
last = fetch 0x2400

pub record WorkedWait (l : Load) : Type 0 where
  pub waiting : Waiting (history_of event before) 0 2
  pub undisturbed : calm (history_of event between) (history_of event before) ≡ true
  pub short : new_lines (history_of event between) (history_of event before) ≡ 1
  pub unserved : (b : Board) × Reached l (between ++ before) b × (interrupt_call b.state ≡ Ok false)
  pub line : line_at (event last) (history_of event (between ++ before)) ≡ true
  pub full : new_lines (history_of event (last ∷ between)) (history_of event before) ≡ 2
  pub served : (b : Board) × Reached l (last ∷ (between ++ before)) b × (interrupt_call b.state ≡ Ok true)

-- The smallest cartridge: PRG-ROM 8,192, no CHR and no PRG-RAM.
abbrev pub smallest : Mem
smallest = mem_of (replicate 8192 0) [] [] (replicate 2048 0) (replicate 1024 0)

pub record Waits : Type 0 where
  pub worked : (l : Load) → WorkedWait l
  pub smallest_loads : (load_call smallest false Horizontal).answer ≡ Nothing
