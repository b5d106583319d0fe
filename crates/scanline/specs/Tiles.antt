-- The tile count: how a fetch moves it, what it may be, and the four looks at it. CR 7: what is kept of a full count.
use Rattle.std.specs.Prelude.{ℕ, ◌+◌, ◌-◌, ◌%◌, Bool, ◌&&◌, leb, ltb, eqb}
use Rattle.memory.specs.Tests.{pick}
use Rattle.scanline.specs.Fetches.{name_at}

-- The four looks. 01, module 5: "tile count 32-39"; module 6: "tile count outside 32-39".
unfoldable pub sprite_fetch : ℕ → Bool
sprite_fetch t = leb 32 t && leb t 39

-- 01, module 8: "Column = (tile + 2) mod 42."
unfoldable pub column_of : ℕ → ℕ
column_of t = (t + 2) % 42

-- 01, module 8: "+ 1 if tile is 40 or more"
unfoldable pub is_prefetched : ℕ → Bool
is_prefetched t = leb 40 t

-- 01, module 8: "with tile count under 42"
unfoldable pub is_first : ℕ → Bool
is_first t = ltb t 42

-- What is kept of a full count. CR 7: "Keep the count exactly up to 41; beyond that, 42 + ((count - 42) mod 42)".
unfoldable pub fold : ℕ → ℕ
fold n = pick (leb n 41) n (42 + (n - 42) % 42)

-- What it may be. CR 7: "The state's range for it becomes 0 to 83."
unfoldable pub tiles_ok : ℕ → Bool
tiles_ok t = leb t 83

-- 01, "Fetches, runs, breaks": "tile count + 1 for a name fetch to $2FFF"; CR 7: "so 83 is followed by 42"
unfoldable pub next_tile : ℕ → ℕ
next_tile t = pick (eqb t 83) 42 (t + 1)

abbrev pub raised_by : ℕ → ℕ → ℕ
raised_by t a = pick (name_at a) (next_tile t) t

-- "third and later equals zero the tile count": m equal fetches stood before this one, none from $3000 on (docs/DECISIONS.md, first reading)
abbrev pub left_after : ℕ → ℕ → ℕ
left_after m t = pick (leb 2 m) 0 t
