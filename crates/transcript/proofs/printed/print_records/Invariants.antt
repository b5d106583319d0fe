-- The reader keeps its trace, and what is left to print comes to all that is printed (`Printing`). The place goes on.
use Rattle.std.proofs.Common.{◌≡◌, suc, length, ◌-◌}
use Rattle.text.specs.Sheet.{written}
use Rattle.transcript.specs.Printed.{printed_from}
use Rattle.transcript.proofs.Printing.{Printing}
use Rattle.transcript.proofs.printed.print_records.Given as goal

abbrev pub invariant-loop-next : goal.invariant-loop-next
invariant-loop-next l =
    (l.reader.trace.now ≡ l.trace)
    × Printing l.trace l.log l.ending (written l.initial.pen (printed_from (suc (length l.trace)) l.trace 0 0 l.log l.ending)) l.pen l.reader.at l.n

abbrev pub decreases-loop-next : goal.decreases-loop-next
decreases-loop-next l = length l.trace - l.reader.at
