-- Laws of places and bytes.
use Rattle.std.proofs.Common.{◌≡◌, ℕ, ◌%◌, arith}
use Rattle.memory.specs.declared.Page.{Page}
use Rattle.memory.specs.Bytes.{Mem, offset_of, page_stored}

-- Of an address a page looks at the offset within it alone.
pub offset_low : (i a : ℕ) → offset_of i (a % 1024) ≡ offset_of i a
offset_low i a = omega arith

pub stored_low : (m : Mem) (p : Page) (a v : ℕ) → page_stored m p (a % 1024) v ≡ page_stored m p a v
unfolding page_stored
stored_low m p a v = rw (offset_low p.index a)
