-- The calls of a history, as far as the scanline detector can tell one from another, and what it is that calls were accepted one after the other.
-- Assumes nothing.
use Rattle.std.specs.Prelude.{ℕ, List, [], ◌∷◌}

-- A clock; a PPU fetch at an address; a CPU read at an address; a CPU write of a value; a PPU register write of a value; any other call:
-- a peek, a reset, a PPU memory write, a page view, mirroring or interrupt asked.
pub data Event : Type 0 where
  clock : Event
  fetch : (addr : ℕ) → Event
  cpu_read : (addr : ℕ) → Event
  cpu_write : (addr val : ℕ) → Event
  ppu_register : (addr val : ℕ) → Event
  other : Event

-- The newest stands first.
abbrev pub History : Type 0
History = List Event

-- the history that calls make, the newest first
unfoldable pub history_of : {C : Type 0} → (C → Event) → List C → History
history_of event [] = []
history_of event (c ∷ cs) = event c ∷ history_of event cs

-- the calls cs, the newest first, were accepted one after the other, from load on, and left s: no call at all leaves `first`; and where cs left s and c is
-- taken from s to s', they and then c left s'
pub data Played (S C : Type 0) (first : S) (Takes : S → C → S → Type 0) : List C → S → Type 0 where
  at_load : Played S C first Takes [] first
  taken : {cs : List C} {s s' : S} (c : C) → Played S C first Takes cs s → Takes s c s' → Played S C first Takes (c ∷ cs) s'
