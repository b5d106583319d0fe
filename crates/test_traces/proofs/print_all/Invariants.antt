-- The loop goes by the bytes that are left.
use Rattle.std.proofs.Common.{length}
use Rattle.test_traces.proofs.print_all.Given as goal

abbrev pub decreases-loop-trace : goal.decreases-loop-trace
decreases-loop-trace g l = length l.rest
