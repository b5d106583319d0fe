-- Memory that holds bytes, as the lent buffers do: their type is u8, which a contract does not speak of. Assumes nothing.
use Rattle.std.specs.Prelude.{ℕ, ◌<◌, List, get_or}
use Rattle.memory.specs.Bytes.{Mem}

abbrev pub Bytes : List ℕ → Type 0
Bytes l = (i : ℕ) → get_or l i 0 < 256

pub record SmallMem (m : Mem) : Type 0 where
  pub prg : Bytes m.prg
  pub chr : Bytes m.chr
  pub ram : Bytes m.ram
  pub ciram : Bytes m.ciram
  pub exram : Bytes m.exram
