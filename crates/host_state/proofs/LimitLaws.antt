-- The limits: the loop that gathers by how much words are above theirs, and what holds of a word where none is.
use Prim.Native.Nat.{ℕ, zero, suc, ◌-◌, ◌<◌, ◌≤◌}
use mathlib.Core.Bool.{Bool, true, ◌&&◌}
use mathlib.Core.List.{List, [], ◌∷◌}
use mathlib.Core.Logic.{◌≢◌}
use mathlib.Core.Path.{◌≡◌, refl, sym, ap, ◌∙◌}
use native.Mathlib.Omega.{arith}
use borrow.Author.Tests.{leb-true, ne_eqb}
use lib.Bits.{bit_or, or_zero_l, or_add_and, and_le_r}
use lib.Dec.{eqb, leb, leb-zero, eqb-suc-zero}
use lib.ListN.{length, take, drop, get_or}
use Rattle.std.specs.List.{fold, zip}
use Rattle.std.proofs.Math.Bool.{and_assoc}
use Rattle.std.proofs.lemmas.Bool.Decides.{nat_tests}
use Rattle.memory.proofs.Tests.{split, and_left, and_right, and_true}
use Rattle.host_state.specs.Words.{limits, all_within, within_limits}

-- Each of the words.
pub within_at : (ls w : List ℕ) (k : ℕ) → all_within ls w ≡ true → k < length ls → get_or w k 0 ≤ get_or ls k 0
unfolding all_within
within_at [] w k e h = absurd (omega (arith, h))
within_at (l ∷ ls) [] k e h = omega arith
within_at (l ∷ ls) (x ∷ w) zero e h = leb-true x l (and_left (leb x l) (all_within ls w) e)
within_at (l ∷ ls) (x ∷ w) (suc k) e h = within_at ls w k (and_right (leb x l) (all_within ls w) e) (omega (arith, h))

-- One word more.
pub within_next : (ls w : List ℕ) (i : ℕ) → i < length ls → all_within (take (suc i) ls) w ≡ all_within (take i ls) w && leb (get_or w i 0) (get_or ls i 0)
unfolding all_within
within_next [] w i h = absurd (omega (arith, h))
within_next (l ∷ ls) [] zero h = rw (leb-zero l)
within_next (l ∷ ls) [] (suc i) h = rw (leb-zero (get_or ls i 0))
within_next (l ∷ ls) (x ∷ w) zero h = split (leb x l) (λ t. rw t) (λ t. rw t)
within_next (l ∷ ls) (x ∷ w) (suc i) h = split (leb x l) (λ t. rw t (within_next ls w i (omega (arith, h)))) (λ t. rw t)

-- Bits gathered are none where neither has any.
or_none : (a b : ℕ) → eqb (bit_or a b) 0 ≡ eqb a 0 && eqb b 0
or_none zero b = rw (or_zero_l b)
or_none (suc a) b =
    let some : bit_or (suc a) b ≢ 0 = λ e. omega (arith, e, or_add_and (suc a) b, and_le_r (suc a) b) in
    ne_eqb (bit_or (suc a) b) 0 some ∙ rw (eqb-suc-zero a)

-- A word is above its limit by nothing where it is within it.
excess_none : (x l : ℕ) → eqb (x - l) 0 ≡ leb x l
excess_none x l = grind (arith, nat_tests)

-- The words from one on, against as many limits, their excesses gathered.
gathered : (ls w : List ℕ) (above : ℕ) → eqb (fold (λ (a : ℕ) (p : ℕ × ℕ). bit_or a (p.0 - p.1)) above (zip w ls)) 0 ≡ eqb above 0 && all_within ls w
unfolding all_within
gathered [] [] above = sym (and_true (eqb above 0))
gathered [] (x ∷ w) above = sym (and_true (eqb above 0))
gathered (l ∷ ls) [] above = sym (and_true (eqb above 0))
gathered (l ∷ ls) (x ∷ w) above =
    gathered ls w (bit_or above (x - l)) ∙ rw (or_none above (x - l), excess_none x l) (and_assoc (eqb above 0) (leb x l) (all_within ls w))

within_none : (ls : List ℕ) → all_within ls [] ≡ true
unfolding all_within
within_none [] = refl
within_none (l ∷ ls) = refl

within_apart : (n : ℕ) (ls w : List ℕ) → all_within ls w ≡ all_within (take n ls) w && all_within (drop n ls) (drop n w)
unfolding all_within
within_apart zero ls w = refl
within_apart (suc n) [] w = refl
within_apart (suc n) (l ∷ ls) [] = sym (within_none (drop n ls))
within_apart (suc n) (l ∷ ls) (x ∷ w) = rw (within_apart n ls w) (sym (and_assoc (leb x l) (all_within (take n ls) w) (all_within (drop n ls) (drop n w))))

within_taken : (ls w : List ℕ) → all_within ls (take (length ls) w) ≡ all_within ls w
unfolding all_within
within_taken [] w = refl
within_taken (l ∷ ls) [] = refl
within_taken (l ∷ ls) (x ∷ w) = ap (λ (b : Bool). leb x l && b) (within_taken ls w)

-- The first sixteen by a test of their own, the others by what is gathered.
pub limits_kept : (w : List ℕ) (first : Bool) (above : ℕ) → first ≡ all_within (take 16 limits) w
    → above ≡ fold (λ (a : ℕ) (p : ℕ × ℕ). bit_or a (p.0 - p.1)) 0 (zip (take 48 (drop 16 w)) (drop 16 limits)) → first && eqb above 0 ≡ within_limits w
unfolding within_limits limits
limits_kept w first above ef ea =
    rw (ea, gathered (drop 16 limits) (take 48 (drop 16 w)) 0, ef, within_taken (drop 16 limits) (drop 16 w)) (sym (within_apart 16 limits w))
