-- The loop goes by the bytes that are left.
use Rattle.std.proofs.Common.{length}
use Rattle.test_fixed_list.proofs.play_all.Given as goal

abbrev pub decreases-loop-case : goal.decreases-loop-case
decreases-loop-case g l = length l.rest
