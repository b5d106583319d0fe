-- The windows so far, eight pages each, and the pages so far of one more.
use Prim.Native.Nat.{◌+◌, ◌*◌}
use mathlib.Core.Path.{◌≡◌}
use Rattle.banks.specs.Placed.{placed}
use Rattle.banks.specs.Prg.{page_from6000}
use Rattle.banks.proofs.prg.map_prg.Given as goal

abbrev pub invariant-loop-i : goal.invariant-loop-i
invariant-loop-i l = l.pages ≡ placed l.fn.pages 24 (page_from6000 l.lengths.prg l.lengths.ram l.unlocked l.value-items) (8 * l.i)

abbrev pub invariant-loop-j : goal.invariant-loop-j
invariant-loop-j l = l.pages ≡ placed l.fn.pages 24 (page_from6000 l.lengths.prg l.lengths.ram l.unlocked l.value-items) (8 * l.i + l.j)
