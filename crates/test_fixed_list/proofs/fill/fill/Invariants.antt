-- The bytes before the loop's are filled.
use Rattle.std.proofs.Common.{◌≡◌, take}
use Rattle.test_fixed_list.specs.Fill.{filled}
use Rattle.test_fixed_list.proofs.fill.fill.Given as goal

abbrev pub invariant-loop-offset : goal.invariant-loop-offset
invariant-loop-offset l = take l.offset l.bytes ≡ filled l.seed l.buffer l.offset
