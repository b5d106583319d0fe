-- Laws of a table with entries written anew: one more entry, and what each entry satisfies.
use Prim.Native.Nat.{ℕ, zero, suc, ◌+◌, ◌<◌, ◌≤◌}
use mathlib.Core.Bool.{Bool, true}
use mathlib.Core.List.{List, [], ◌∷◌}
use mathlib.Core.Path.{◌≡◌, refl, sym, ◌∙◌}
use native.Mathlib.Numerals.{add-one}
use native.Mathlib.Nat.{zero-add, add-zero, add-suc, add_assoc}
use native.Mathlib.Omega.{arith}
use borrow.Author.Tests.{eqb-true, eqb-false}
use lib.Dec.{eqb}
use lib.ListN.{length, get_or, set, length-set}
use lib.Seq.{get_or-set_same, get_or-set_other}
use Rattle.memory.specs.Tests.{all}
use Rattle.memory.proofs.Tests.{split, and_left, and_right, and_both}
use Rattle.banks.specs.Placed.{placed}

pub placed_none : {A : Type 0} (l : List A) (at : ℕ) (f : ℕ → A) → l ≡ placed l at f 0
unfolding placed
placed_none l at f = refl

-- One entry more.
pub placed_more : {A : Type 0} (l : List A) (at : ℕ) (f : ℕ → A) (k : ℕ) → placed l at f (k + 1) ≡ set (placed l at f k) (at + k) (f k)
unfolding placed
placed_more l at f k = rw (add-one k)

-- The same from the table's first place on.
pub placed_more_first : {A : Type 0} (l : List A) (f : ℕ → A) (k : ℕ) → placed l 0 f (k + 1) ≡ set (placed l 0 f k) k (f k)
placed_more_first l f k = placed_more l 0 f k ∙ rw (zero-add k)

pub placed_next_first : {A : Type 0} (l m : List A) (f : ℕ → A) (k : ℕ) (x : A) → m ≡ placed l 0 f k → x ≡ f k → set m k x ≡ placed l 0 f (k + 1)
placed_next_first l m f k x e h = rw (e, h) (sym (placed_more_first l f k))

pub length_placed : {A : Type 0} (l : List A) (at : ℕ) (f : ℕ → A) (n : ℕ) → length (placed l at f n) ≡ length l
unfolding placed
length_placed l at f zero = refl
length_placed l at f (suc n) = rw (length-set (placed l at f n) (at + n) (f n)) (length_placed l at f n)

-- Entries written anew after those that are.
pub placed_on : {A : Type 0} (l : List A) (at : ℕ) (f g : ℕ → A) (n k : ℕ) → ((j : ℕ) → j < k → g j ≡ f (n + j)) → placed (placed l at f n) (at + n) g k ≡ placed l at f (n + k)
unfolding placed
placed_on l at f g n zero h = rw add-zero
placed_on l at f g n (suc k) h = rw (placed_on l at f g n k (λ j few. h j (omega arith)), h k (omega arith), add_assoc at n k, add-suc n k)

-- What is read at a new entry, of those from the table's first place on.
pub entry_placed : {A : Type 0} (l : List A) (f : ℕ → A) (n i : ℕ) (d : A) → i < n → n ≤ length l → get_or (placed l 0 f n) i d ≡ f i
unfolding placed
entry_placed l f zero i d h k = absurd (omega (arith, h))
entry_placed l f (suc n) i d h k =
    rw (zero-add n)
    (split (eqb i n)
    (λ t. rw (eqb-true i n t) (get_or-set_same (placed l 0 f n) n (f n) d (rw (length_placed l 0 f n) (omega (arith, k)))))
    (λ t. get_or-set_other (placed l 0 f n) n i (f n) d (eqb-false i n t) ∙ entry_placed l f n i d (omega (arith, h, eqb-false i n t)) (omega (arith, k))))

-- A test of all entries stands where each new entry passes it.
pub all_set : {A : Type 0} (t : A → Bool) (l : List A) (i : ℕ) (x : A) → all t l ≡ true → t x ≡ true → all t (set l i x) ≡ true
unfolding all
all_set t [] i x e h = refl
all_set t (y ∷ l) zero x e h = and_both (t x) (all t l) h (and_right (t y) (all t l) e)
all_set t (y ∷ l) (suc i) x e h =
    and_both (t y) (all t (set l i x)) (and_left (t y) (all t l) e) (all_set t l i x (and_right (t y) (all t l) e) h)

pub all_placed : {A : Type 0} (t : A → Bool) (l : List A) (at : ℕ) (f : ℕ → A) (n : ℕ) → all t l ≡ true → ((k : ℕ) → t (f k) ≡ true) → all t (placed l at f n) ≡ true
unfolding placed
all_placed t l at f zero e h = e
all_placed t l at f (suc n) e h = all_set t (placed l at f n) (at + n) (f n) (all_placed t l at f n e h) (h n)
