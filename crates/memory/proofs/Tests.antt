-- Tests: one proof by the two values of a test, and tests that come to the same.
use Rattle.std.proofs.Common.{◌≡◌, ℕ, zero, suc, Bool, true, false, ◌&&◌, List, [], ◌∷◌, get_or, sym, refl}
use mathlib.Core.Bool.{false≢true}
use Rattle.memory.specs.Tests.{conj, pick}

pub split : {A : Type 0} (b : Bool) → (b ≡ true → A) → (b ≡ false → A) → A
split true f g = f refl
split false f g = g refl

-- two tests that hold of the same numbers
pub same_test : (b c : Bool) → (b ≡ true → c ≡ true) → (c ≡ true → b ≡ true) → b ≡ c
same_test true c f g = sym (f refl)
same_test false true f g = g refl
same_test false false f g = refl

pub and_left : (a b : Bool) → a && b ≡ true → a ≡ true
and_left true b e = refl
and_left false b e = e

pub and_right : (a b : Bool) → a && b ≡ true → b ≡ true
and_right true b e = e
and_right false b e = absurd (false≢true e)

pub and_both : (a b : Bool) → a ≡ true → b ≡ true → a && b ≡ true
and_both a b p q = rw (p, q)

pub and_true : (b : Bool) → b && true ≡ b
and_true true = refl
and_true false = refl

pub and_false : (b : Bool) → b && false ≡ false
and_false true = refl
and_false false = refl

-- What holds of both holds of the one picked.
pub pick_keeps : {A : Type 0} (P : A → Type 0) (b : Bool) {x y : A} → P x → P y → P (pick b x y)
pick_keeps P true p q = p
pick_keeps P false p q = q

-- Each of a list of tests.
pub conj_at : (l : List Bool) (i : ℕ) → conj l ≡ true → get_or l i true ≡ true
conj_at [] i e = refl
conj_at (x ∷ []) zero e = e
conj_at (x ∷ []) (suc i) e = refl
conj_at (x ∷ y ∷ l) zero e = and_left x (conj (y ∷ l)) e
conj_at (x ∷ y ∷ l) (suc i) e = conj_at (y ∷ l) i (and_right x (conj (y ∷ l)) e)
