-- A table with the n entries from a place on written anew: entry at + k becomes f k, for k under n.
use Rattle.std.specs.Prelude.{ℕ, zero, suc, ◌+◌, List, set}

unfoldable pub placed : {A : Type 0} → List A → ℕ → (ℕ → A) → ℕ → List A
placed l at f zero = l
placed l at f (suc n) = set (placed l at f n) (at + n) (f n)
