-- Laws of addresses from one to another, and that a page answers by the offset within it.
use Prim.Native.Nat.{ℕ, ◌%◌, ◌≤◌}
use mathlib.Core.Bool.{true}
use mathlib.Core.Path.{◌≡◌}
use native.Mathlib.Omega.{arith}
use Rattle.std.proofs.lemmas.Grind.{common_steps}
use Rattle.memory.specs.declared.Page.{Page}
use Rattle.memory.specs.Bytes.{Mem}
use Rattle.memory.proofs.ByteLaws.{offset_low}
use Rattle.cpu.specs.Groups.{within}
use Rattle.cpu.specs.Reads.{page_answer}

pub from : (lo hi a : ℕ) → within lo hi a ≡ true → lo ≤ a
from lo hi a e = grind (arith, common_steps)

pub upto : (lo hi a : ℕ) → within lo hi a ≡ true → a ≤ hi
upto lo hi a e = grind (arith, common_steps)

pub answer_low : (m : Mem) (p : Page) (a : ℕ) → page_answer m p (a % 1024) ≡ page_answer m p a
unfolding page_answer
answer_low m p a = rw (offset_low p.index a)
