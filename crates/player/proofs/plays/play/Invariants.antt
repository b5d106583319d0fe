-- `player::plays::play` meets its contract: the loop keeps what Steps states at its head, and each arm goes on, or stops, as Arms has it.
-- The facts are told by the places of the code that they hold at; a place is reached from a later one by `before`.
use Prim.Native.Nat.{◌-◌}
use lib.ListN.{length}
use Rattle.memory.specs.Bytes.{mem_of}
use Rattle.player.specs.Replay.{played}
use Rattle.player.proofs.Steps.{Going}
use Rattle.player.proofs.plays.play.Given as goal

abbrev pub invariant-loop-record : goal.invariant-loop-record
invariant-loop-record l =
    Going l.trace (played l.initial.t l.trace (mem_of l.prg l.initial.chr l.initial.ram l.initial.ciram l.initial.exram) l.initial.log) (mem_of l.prg l.initial.chr l.initial.ram l.initial.ciram l.initial.exram) l.initial.log l.at l.count l.t (mem_of l.prg l.chr l.ram l.ciram l.exram) l.log

abbrev pub decreases-loop-record : goal.decreases-loop-record
decreases-loop-record l = length l.trace - l.at
