-- CR 7 over every history of the board. "Demand 2 compares through this fold, as far as the Rust's 32 bits reach."
-- Assumes nothing.
use Rattle.std.specs.Prelude.{ℕ, ◌+◌, ◌%◌, ◌<◌, ◌≤◌, List, ◌≡◌}
use Rattle.scanline.specs.Tiles.{fold, column_of}
use Rattle.theorems_scanlines.specs.Machine.{watched}
use Rattle.theorems_scanlines.specs.Calls.{history_of}
use Rattle.theorems_histories.specs.Boards.{Board, Made, says, number}
use Rattle.theorems_histories.specs.Histories.{Load, first, Reached}
use Rattle.theorems_histories.specs.Watching.{view, event}
use Rattle.theorems_folds.specs.Full.{kept_board, full_says, full_after}

pub record AlongFull : Type 0 where
  -- the calls alone tell the detector and the full count (crate `theorems_scanlines`, specs/Machine.antt), and the state's tile count is its fold
  pub detector : (l : Load) (cs : List Made) (b : Board) → Reached l cs b → view b ≡ (watched (history_of event cs)).detector
  pub tiles : (l : Load) (cs : List Made) (b : Board) → Reached l cs b → b.state.ppu.tile_number ≡ fold (watched (history_of event cs)).tiles
  -- the state, its page tables and the memory are those that a board leaves which counts on without an end: all of it, and of its count the fold
  pub board : (l : Load) (cs : List Made) (b : Board) → Reached l cs b → b ≡ kept_board (full_after (first l) cs)
  pub counts_on : (l : Load) (cs : List Made) (b : Board) → Reached l cs b → (full_after (first l) cs).state.ppu.tile_number ≡ (watched (history_of event cs)).tiles
  -- and so is all that is said: answers, mirroring, interrupt and page views
  pub said : (l : Load) (cs : List Made) (b : Board) (c : Made) → Reached l cs b → number (says b c) ≡ 0 → says b c ≡ full_says (full_after (first l) cs) c

-- How far the Rust's 32 bits reach: up to a count of 4,294,967,293 its column, whose sum has 32 bits, is that of the number, and below it so is its count
-- of one more; at 4,294,967,294 the sum is 0 in 32 bits, and the column another.
pub record RustReaches : Type 0 where
  pub column : (n : ℕ) → n ≤ 4294967293 → (n + 2) % 4294967296 % 42 ≡ column_of n
  pub raised : (n : ℕ) → n < 4294967293 → (n + 1) % 4294967296 ≡ n + 1
  pub no_further : ((4294967294 + 2) % 4294967296 % 42 ≡ 0) × (column_of 4294967294 ≡ 4)
