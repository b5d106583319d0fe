-- Where 01 refuses a record, said of the bytes alone: refusal 9, "unknown record kind", and refusal 10, "a number is cut, not in shortest form, or
-- above its limit". Nothing here follows how `record_at` reads; that both refuse the same is `Reading.refused` (specs/Promise.antt).
-- Assumes nothing of the bytes.
use Rattle.std.specs.Prelude.{ℕ, suc, ◌+◌, ◌*◌, ◌%◌, Bool, false, ◌&&◌, ◌||◌, List, [], ◌∷◌, eqb, ltb, leb, length, get_or, take, drop}
use Rattle.memory.specs.Tests.{pick}

-- "top bit set on all but the last": with how many such bytes bytes begin. A number there has one group more.
unfoldable pub topped : List ℕ → ℕ
topped [] = 0
topped (b ∷ bytes) = pick (ltb b 128) 0 (suc (topped bytes))

-- "numbers in groups of seven bits, lowest group first"
unfoldable pub worth : List ℕ → ℕ
worth [] = 0
worth (b ∷ bytes) = b % 128 + 128 * worth bytes

-- Of the number that bytes begin with. "cut": its last group is not there.
abbrev pub is_cut : List ℕ → Bool
is_cut bytes = eqb (topped bytes) (length bytes)

-- "not in shortest form": its last group is 0, and not its only one.
abbrev pub is_padded : List ℕ → Bool
is_padded bytes = ltb 0 (topped bytes) && eqb (get_or bytes (topped bytes) 0) 0

-- "above its limit"
abbrev pub is_above : ℕ → List ℕ → Bool
is_above limit bytes = ltb limit (worth (take (suc (topped bytes)) bytes))

abbrev pub is_wrong : ℕ → List ℕ → Bool
is_wrong limit bytes = is_cut bytes || (is_padded bytes || is_above limit bytes)

-- The limits of a kind's numbers. "Kinds: 0 clock; 1 CPU read, address; 2 CPU write, address, value; 3 PPU register write, address, value; 4 PPU fetch,
-- address; 5 reset; 6 PPU memory write, address, value. Addresses to 65,535, values to 255."
abbrev pub limits : List (List ℕ)
limits = [] ∷ (65535 ∷ []) ∷ (65535 ∷ 255 ∷ []) ∷ (65535 ∷ 255 ∷ []) ∷ (65535 ∷ []) ∷ [] ∷ (65535 ∷ 255 ∷ []) ∷ []

-- Of the numbers that bytes begin with, one for each limit, one behind the other, some number is wrong.
unfoldable pub any_wrong : List ℕ → List ℕ → Bool
any_wrong [] bytes = false
any_wrong (limit ∷ more) bytes = is_wrong limit bytes || any_wrong more (drop (suc (topped bytes)) bytes)

-- The number of the refusal at a place of a trace, 0 where a record stands there or nothing is left.
unfoldable pub refusal_at : List ℕ → ℕ → ℕ
refusal_at trace at =
    pick (leb (length trace) at) 0
    (pick (ltb 6 (get_or trace at 0)) 9
    (pick (any_wrong (get_or limits (get_or trace at 0) []) (drop (at + 1) trace)) 10 0))
