-- A page table tested by one fold over its words.
use Prim.Native.Nat.{ℕ, suc, ◌<◌, ◌≤◌, max}
use mathlib.Core.Bool.{Bool, ◌&&◌}
use mathlib.Core.List.{List, [], ◌∷◌}
use mathlib.Core.Path.{◌≡◌, sym, ◌∙◌}
use native.Mathlib.Omega.{arith}
use borrow.Author.Tests.{lt-ltb}
use lib.Dec.{ltb}
use lib.ListN.{length, get_or}
use Rattle.std.specs.List.{fold}
use Rattle.std.proofs.Math.Bool.{and_assoc}
use Rattle.std.proofs.lemmas.Bool.Decides.{nat_tests}
use Rattle.memory.specs.declared.PageWord.{PageWord}
use Rattle.memory.specs.ForCode.{prg_place, prg_places}
use Rattle.memory.specs.PageWords.{word}
use Rattle.memory.specs.Tables.{prg_table_ok}
use Rattle.memory.specs.Tests.{all}
use Rattle.memory.proofs.TableLaws.{prg_run}
use Rattle.memory.proofs.Tests.{and_true}
use Rattle.host_state.specs.Words.{pages_of}

-- Every word is asked.
pub all_asked : (f : PageWord → Bool) (ok : Bool) (l : List ℕ) → fold (λ (so : Bool) (n : ℕ). so && f (word n)) ok l ≡ ok && all f (pages_of l)
unfolding all
all_asked f ok [] = sym (and_true ok)
all_asked f ok (x ∷ l) = all_asked f (ok && f (word x)) l ∙ and_assoc ok (f (word x)) (all f (pages_of l))

-- The larger of two passes a test of size where both do.
larger_test : (a b t : ℕ) → ltb (max a b) t ≡ ltb a t && ltb b t
larger_test a b t = grind (arith, nat_tests)

-- The furthest place lies in the run just where every word's does.
furthest_asked : (prg ram top : ℕ) (l : List ℕ) → prg ≤ 1048576 → ram ≤ 65536 → ((i : ℕ) → i < length l → get_or l i 0 < 65536)
    → ltb (fold (λ (t n : ℕ). max t (prg_place ram (word n))) top l) (prg_places prg ram) ≡ ltb top (prg_places prg ram) && prg_table_ok prg ram (pages_of l)
unfolding all
furthest_asked prg ram top [] hp hr small = sym (and_true (ltb top (prg_places prg ram)))
furthest_asked prg ram top (x ∷ l) hp hr small =
    furthest_asked prg ram (max top (prg_place ram (word x))) l hp hr (λ i h. small (suc i) (omega (arith, h)))
    ∙ rw (larger_test top (prg_place ram (word x)) (prg_places prg ram), prg_run prg ram (word x) hp hr (small 0 (omega arith)))
    (and_assoc (ltb top (prg_places prg ram)) _ (prg_table_ok prg ram (pages_of l)))

pub furthest_test : (prg ram : ℕ) (l : List ℕ) → prg ≤ 1048576 → ram ≤ 65536 → ((i : ℕ) → i < length l → get_or l i 0 < 65536)
    → ltb (fold (λ (t n : ℕ). max t (prg_place ram (word n))) 0 l) (prg_places prg ram) ≡ prg_table_ok prg ram (pages_of l)
furthest_test prg ram l hp hr small = furthest_asked prg ram 0 l hp hr small ∙ rw (lt-ltb 0 (prg_places prg ram) (omega arith))
