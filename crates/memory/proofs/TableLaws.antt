-- Laws of the page tables' ranges: the words that a PRG table may hold are the run that `tables.rt` tests, and a test of all elements.
use Rattle.std.proofs.Common.{◌≡◌, ℕ, ◌+◌, ◌<◌, ◌≤◌, Bool, true, ◌&&◌, ltb, List, [], ◌∷◌, length, get_or, take, refl, ap, ◌∙◌, arith, take_all}
use Rattle.std.specs.List.{list_all}
use Rattle.std.proofs.lemmas.Grind.{common_steps}
use Rattle.std.proofs.lemmas.List.Folds.{list_all_more}
use Rattle.memory.specs.declared.PageWord.{PageWord}
use Rattle.memory.specs.PageWords.{page_of}
use Rattle.memory.specs.ForCode.{prg_place, prg_places}
use Rattle.memory.specs.Tests.{all}
use Rattle.memory.specs.Tables.{prg_may_hold, prg_may_hold_as}

-- The words of a PRG table.
pub prg_run : (prg ram : ℕ) (w : PageWord) → prg ≤ 1048576 → ram ≤ 65536 → w.0 < 65536
    → ltb (prg_place ram w) (prg_places prg ram) ≡ prg_may_hold prg ram (page_of w)
unfolding prg_may_hold_as page_of
prg_run prg ram w hp hr hw = grind (arith, common_steps)

-- A test of all elements is std's.
all_is : {A : Type 0} (f : A → Bool) (l : List A) → all f l ≡ list_all f l
unfolding all
all_is f [] = refl
all_is f (x ∷ l) = ap (λ (b : Bool). f x && b) (all_is f l)

-- One element more.
pub all_more : {A : Type 0} (f : A → Bool) (l : List A) (i : ℕ) (d : A) → i < length l → all f (take (i + 1) l) ≡ all f (take i l) && f (get_or l i d)
all_more f l i d h = simp all_is (list_all_more f l i d h)

-- A loop that tests one element after another: so far, and at the end.
pub record Tested {A : Type 0} (f : A → Bool) (l : List A) (ok : Bool) (i : ℕ) : Type 0 where
  pub few : i ≤ length l
  pub so_far : ok ≡ all f (take i l)

pub test_first : {A : Type 0} (f : A → Bool) (l : List A) → Tested f l true 0
unfolding all
test_first f l = record { few = omega arith; so_far = refl }

pub test_next : {A : Type 0} (f : A → Bool) (l : List A) (ok : Bool) (i : ℕ) (d : A) (b : Bool) → Tested f l ok i → i < length l → b ≡ f (get_or l i d) → Tested f l (ok && b) (i + 1)
test_next f l ok i d b t h e =
    record {
      few = omega arith;
      so_far = rw (all_more f l i d h, t.so_far, e);
    }

pub test_last : {A : Type 0} (f : A → Bool) (l : List A) (ok : Bool) (i : ℕ) → Tested f l ok i → length l ≤ i → ok ≡ all f l
test_last f l ok i t h = t.so_far ∙ ap (all f) (take_all i l h)
