-- Mirroring, as the console is told: the header's at load, then what $5105 says. The Rust's `write_register`, $5105: two bits for each of the
-- four nametables, D C B A; what is neither horizontal, vertical nor one screen of CIRAM is four screens.
use Rattle.std.specs.Prelude.{ℕ, eqb}
use Rattle.memory.specs.Tests.{pick}
use Rattle.registers.specs.declared.Mirroring.{Mirroring}
use Rattle.registers.specs.declared.Mirroring.TheVariants.{Horizontal, Vertical, SingleScreenA, SingleScreenB, FourScreen}

-- The five mirrorings by number; FourScreen is 4, and what is above.
abbrev pub mirroring_numbered : ℕ → Mirroring
mirroring_numbered n =
    pick (eqb n 0) Horizontal
    (pick (eqb n 1) Vertical
    (pick (eqb n 2) SingleScreenA
    (pick (eqb n 3) SingleScreenB
    FourScreen)))

-- What $5105 makes of it.
abbrev pub mirroring_of : ℕ → Mirroring
mirroring_of v =
    pick (eqb v 0x50) Horizontal
    (pick (eqb v 0x44) Vertical
    (pick (eqb v 0x00) SingleScreenA
    (pick (eqb v 0x55) SingleScreenB FourScreen)))

abbrev pub mirroring_after : Mirroring → ℕ → ℕ → Mirroring
mirroring_after m a v = pick (eqb a 0x5105) (mirroring_of v) m
