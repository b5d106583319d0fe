-- Which fetches count, and which of them fetch a name.
use Rattle.std.specs.Prelude.{ℕ, ◌%◌, Bool, ◌&&◌, not, leb}

-- 01, "Fetches, runs, breaks": "Only fetches at $2000-$3EFF count here."
abbrev pub counted_at : ℕ → Bool
counted_at a = leb 0x2000 a && leb a 0x3EFF

-- 01, "The board we take": "attribute addresses are those whose low ten bits are $3C0 or more"
abbrev pub attribute_at : ℕ → Bool
attribute_at a = leb 0x3C0 (a % 1024)

-- "a name fetch to $2FFF": at $2000-$2FFF, and no attribute address
abbrev pub name_at : ℕ → Bool
name_at a = leb 0x2000 a && (leb a 0x2FFF && not (attribute_at a))
