-- A replay reads a trace to its end: with more records allowed than a trace has bytes, it comes to the same.
use Rattle.std.specs.Prelude.{ℕ, ◌<◌, List, ◌≡◌, length}
use Rattle.memory.specs.Bytes.{Mem}
use Rattle.state.specs.declared.State.{State}
use Rattle.player.specs.Replay.{played_from, played}

abbrev pub Enough : Type 0
Enough = (n : ℕ) (trace : List ℕ) (s : State) (m : Mem) (log : List ℕ) → length trace < n → played_from n trace 0 0 s m log ≡ played s trace m log
