-- A worked history in which the count turns over: the split is on, and after line 0 come 84 name fetches. The last of them has a full count of 84; 42 is
-- kept. It fetches column 2, the split tile, and does not flip the region, since 84 is not under 42: the split serves on, at the address that the full count
-- gives. A count that started anew from 0 would flip it, one that went back to 41 would have column 1.
-- Assumes nothing.
use Rattle.std.specs.Prelude.{ℕ, true, List, [], ◌∷◌, ◌++◌, ◌≡◌}
use Rattle.theorems_scanlines.specs.Machine.{watched}
use Rattle.theorems_scanlines.specs.Calls.{history_of}
use Rattle.theorems_histories.specs.Boards.{Board, Made}
use Rattle.theorems_histories.specs.Histories.{Load, first, Reached}
use Rattle.theorems_histories.specs.Watching.{event}
use Rattle.theorems_histories.specs.Shorthand.{write, fetch, in_turn}
use Rattle.theorems_histories.specs.Waits.{smallest}
use Rattle.theorems_folds.specs.Full.{full_after}

-- The newest first: $5104 = 0, the split enabled on the left side with tile 2, scroll 8; line 0; n name fetches.
abbrev pub calls : ℕ → List Made
calls n = in_turn n 0x2001 0x2002 ++ (fetch 0x2000 ∷ fetch 0x2000 ∷ fetch 0x2000 ∷ write 0x5201 8 ∷ write 0x5200 0x82 ∷ write 0x5104 0 ∷ [])

pub record Turned (l : Load) (b : Board) : Type 0 where
  pub reached : Reached l (calls 84) b
  pub full : (watched (history_of event (calls 84))).tiles ≡ 84
  pub kept : b.state.ppu.tile_number ≡ 42
  -- in the region, at row 1, column 2, on both
  pub region : b.state.vsplit.in_region ≡ true
  pub address : b.state.vsplit.tile_addr ≡ 34
  pub full_address : (full_after (first l) (calls 84)).state.vsplit.tile_addr ≡ 34

-- The smallest cartridge loads, and the calls are accepted.
abbrev pub Worked : Type 0
Worked = (l : Load) × (l.mem ≡ smallest) × ((b : Board) × Turned l b)
