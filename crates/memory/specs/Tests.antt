-- Tests: one of two things by a test, and tests that all hold.
use Rattle.std.specs.Prelude.{Bool, true, false, ◌&&◌, List, [], ◌∷◌}

-- One of two, by a test.
abbrev pub pick : {A : Type 0} → Bool → A → A → A
pick true a b = a
pick false a b = b

-- A list of tests, all of which hold.
abbrev pub conj : List Bool → Bool
conj [] = true
conj (x ∷ []) = x
conj (x ∷ y ∷ l) = x && conj (y ∷ l)

-- A test that holds of all of a list.
unfoldable pub all : {A : Type 0} → (A → Bool) → List A → Bool
all f [] = true
all f (x ∷ l) = f x && all f l
