-- What a history of the board is: calls that were accepted one after the other, from an accepted load on.
-- Assumes nothing.
use Rattle.std.specs.Prelude.{◌≡◌, Bool, List}
use Rattle.memory.specs.Bytes.{Mem}
use Rattle.answers.specs.declared.Answer.TheVariants.{Nothing}
use Rattle.registers.specs.declared.Mirroring.{Mirroring}
use Rattle.board.specs.Loads.{load_call}
use Rattle.theorems_scanlines.specs.Calls.{Played}
use Rattle.theorems_histories.specs.Boards.{Board, Made, says, leaves, number}

-- A load that is accepted. "Load also takes whether CHR is writable and the header's mirroring (five values)."
pub record Load : Type 0 where
  pub mem : Mem
  pub as_ram : Bool
  pub mirroring : Mirroring
  pub accepted : (load_call mem as_ram mirroring).answer ≡ Nothing

-- The board that it leaves. "Load writes no lent byte".
abbrev pub first : Load → Board
first l = record { state = (load_call l.mem l.as_ram l.mirroring).state; mem = l.mem }

-- The call c is accepted at b, and leaves b'.
pub record Takes (b : Board) (c : Made) (b' : Board) : Type 0 where
  pub accepted : number (says b c) ≡ 0
  pub left : b' ≡ leaves b c

-- The calls cs, the newest first, are accepted one after the other from a on, and leave b: "each takes the state and the memories as the call
-- before it left them". `Played` (crate `theorems_scanlines`, specs/Promise.antt) is the chain: no calls leave a; where cs leave b and `Takes b c b'`, the
-- calls `c ∷ cs` leave b'.
abbrev pub Leads : Board → List Made → Board → Type 0
Leads a cs b = Played Board Made a Takes cs b

-- The same from a load on: a history.
abbrev pub Reached : Load → List Made → Board → Type 0
Reached l cs b = Leads (first l) cs b
