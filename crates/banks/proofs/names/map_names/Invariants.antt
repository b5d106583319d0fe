-- The places so far, from $2000 on.
use Prim.Native.Nat.{ℕ}
use mathlib.Core.Path.{◌≡◌}
use Rattle.banks.specs.Names.{selector, name_page}
use Rattle.banks.specs.Placed.{placed}
use Rattle.banks.proofs.names.map_names.Given as goal

abbrev pub invariant-loop-k : goal.invariant-loop-k
invariant-loop-k l = l.pages ≡ placed l.initial.pages 8 (λ (j : ℕ). name_page (selector l.nametables j) l.nametable_use) l.k
