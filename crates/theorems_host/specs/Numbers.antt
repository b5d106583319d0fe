-- The numbers that a host's calls take: C's types bound them, which a contract does not speak of. Assumes nothing.
use Rattle.std.specs.Prelude.{List, [], ◌∷◌}
use Rattle.trace.specs.Promise.{InRange}
use Rattle.theorems_histories.specs.Boards.{Made}
use Rattle.theorems_histories.specs.Boards.Made.{call, peek, ppu_peek_lem, sprite_peek_lem, mirroring_asked, interrupt_asked, cpu_page, ppu_page}

-- Calls whose addresses are u16 and whose values are bytes, as a host's are. Of peeks and views nothing is asked: they leave the state.
unfoldable pub AllInRange : List Made → Type 0
AllInRange [] = Unit {0}
AllInRange (call c ∷ cs) = InRange c × AllInRange cs
AllInRange (peek a ∷ cs) = AllInRange cs
AllInRange (ppu_peek_lem a ∷ cs) = AllInRange cs
AllInRange (sprite_peek_lem a ∷ cs) = AllInRange cs
AllInRange (mirroring_asked ∷ cs) = AllInRange cs
AllInRange (interrupt_asked ∷ cs) = AllInRange cs
AllInRange (cpu_page a ∷ cs) = AllInRange cs
AllInRange (ppu_page a ∷ cs) = AllInRange cs
