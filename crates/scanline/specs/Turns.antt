-- CR 7, the tile count turns over: the fold keeps of a full count what the board looks at. A full count is 01's, a number without an end.
-- Proved in proofs/FoldLaws.antt, and pinned by the contract of `promises`. That the board is then the same: crate `theorems_folds`.
use Rattle.std.specs.Prelude.{ℕ, ◌+◌, ◌-◌, ◌%◌, ◌≤◌, ◌≡◌, ◌↔◌, true}
use Rattle.scanline.specs.Tiles.{fold, next_tile, tiles_ok, sprite_fetch, column_of, is_prefetched, is_first}

pub record Turns : Type 0 where
  -- "Keep the count exactly up to 41"
  pub exact : (n : ℕ) → n ≤ 41 → fold n ≡ n
  -- "beyond that, 42 + ((count - 42) mod 42)"
  pub beyond : (n : ℕ) → 42 ≤ n → fold n ≡ 42 + (n - 42) % 42
  -- "so 83 is followed by 42", and any other by one more: what is kept of one more is the next of what is kept
  pub turn : next_tile 83 ≡ 42
  pub next : (n : ℕ) → fold (n + 1) ≡ next_tile (fold n)
  -- "The state's range for it becomes 0 to 83": no other number is kept, and each of these is; a count is in range exactly when it is what is kept of itself
  pub no_more : (n : ℕ) → fold n ≤ 83
  pub each : (t : ℕ) → t ≤ 83 → fold t ≡ t
  pub range : (t : ℕ) → (tiles_ok t ≡ true) ↔ (fold t ≡ t)

-- "Show that sprite fetch, column, the test for 40 and the test for 42 answer as the full count did."
pub record FourLooks : Type 0 where
  pub sprite_fetch_call : (n : ℕ) → sprite_fetch (fold n) ≡ sprite_fetch n
  pub column : (n : ℕ) → column_of (fold n) ≡ column_of n
  pub forty : (n : ℕ) → is_prefetched (fold n) ≡ is_prefetched n
  pub forty_two : (n : ℕ) → is_first (fold n) ≡ is_first n
