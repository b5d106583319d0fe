-- Calls with plain numbers for addresses, as worked cases write them. Assumes nothing.
use Rattle.std.specs.Prelude.{ℕ, zero, suc, List, [], ◌∷◌}
use Rattle.trace.specs.declared.Call.TheVariants.{Clock, CpuRead, CpuWrite, PpuRegister, PpuFetch}
use Rattle.trace.specs.Records.{cpu, ppu}
use Rattle.theorems_histories.specs.Boards.{Made}
use Rattle.theorems_histories.specs.Boards.Made.{call}

abbrev pub read : ℕ → Made
read a = call (CpuRead (cpu a))

abbrev pub write : ℕ → ℕ → Made
write a v = call (CpuWrite (cpu a) v)

-- A PPU register write.
abbrev pub tell : ℕ → ℕ → Made
tell a v = call (PpuRegister (cpu a) v)

abbrev pub fetch : ℕ → Made
fetch a = call (PpuFetch (ppu a))

abbrev pub clock : Made
clock = call Clock

-- n fetches of two addresses in turn.
unfoldable pub in_turn : ℕ → ℕ → ℕ → List Made
in_turn zero a a' = []
in_turn (suc n) a a' = fetch a ∷ in_turn n a' a
