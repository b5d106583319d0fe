-- So far the room holds the page.
use Rattle.std.proofs.Common.{◌≡◌, take}
use Rattle.host_looks.proofs.pages.copy.Given as goal

abbrev pub invariant-loop-i : goal.invariant-loop-i
invariant-loop-i l = take l.i l.out ≡ take l.i l.part
