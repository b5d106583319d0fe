-- The fold of a full tile count: what `Turns` and `FourLooks` say.
use Prim.Native.Nat.{ℕ}
use mathlib.Core.Path.{◌≡◌}
use mathlib.Core.Bool.{true}
use native.Mathlib.Omega.{arith}
use Rattle.std.proofs.lemmas.Grind.{common_steps}
use Rattle.scanline.specs.Tiles.{fold, next_tile, tiles_ok, sprite_fetch, column_of, is_prefetched, is_first}
use Rattle.scanline.specs.Turns.{Turns, FourLooks}

pub turns : Turns
unfolding fold next_tile tiles_ok
turns = grind (arith, common_steps)

pub fold_in_range : (n : ℕ) → tiles_ok (fold n) ≡ true
unfolding fold tiles_ok
fold_in_range n = grind (arith, common_steps)

pub four_looks : FourLooks
unfolding fold sprite_fetch column_of is_prefetched is_first
four_looks = grind (arith, common_steps)
