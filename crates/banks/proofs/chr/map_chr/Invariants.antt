-- The places so far, from the first on.
use Prim.Native.Nat.{ℕ}
use mathlib.Core.Path.{◌≡◌}
use Rattle.banks.specs.Chr.{chr_number}
use Rattle.banks.specs.Placed.{placed}
use Rattle.memory.specs.Windows.{chr_window}
use Rattle.memory.specs.declared.Src.TheVariants.{Chr}
use Rattle.banks.proofs.chr.map_chr.Given as goal

abbrev pub invariant-loop-k : goal.invariant-loop-k
invariant-loop-k l = l.pages ≡ placed l.initial.pages 0 (λ (j : ℕ). chr_window Chr l.lengths.chr (chr_number l.regs l.banks l.background j) l.lengths.chr_writable) l.k
