-- What the program `replay` prints over 01's cartridge (crate `trace`, specs/Cartridge.antt).
use Rattle.std.specs.Prelude.{ℕ, false, List, replicate}
use Rattle.memory.specs.Bytes.{Mem}
use Rattle.registers.specs.declared.Mirroring.TheVariants.{Horizontal}
use Rattle.board.specs.Loads.{load_call}
use Rattle.trace.specs.Cartridge.{cartridge}
use Rattle.player.specs.Replay.{Left, replayed}
use Rattle.transcript.specs.Printed.{printed}

-- A trace played over a cartridge from its load on, and the lines of that. "CHR-ROM .. Horizontal"
unfoldable pub from_load : List ℕ → Mem → List ℕ → Left
from_load trace m log = replayed (load_call m false Horizontal).state trace m log

unfoldable pub printed_over : List ℕ → Mem → List ℕ → List ℕ
printed_over trace m log = printed trace (from_load trace m log).log (from_load trace m log).out.ending

-- What the program prints for a trace. The log has room for two bytes a record.
unfoldable pub transcript : List ℕ → List ℕ
transcript trace = printed_over trace cartridge (replicate 16384 0)
