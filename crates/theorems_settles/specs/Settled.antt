-- 01, "What each contract settles": "Every public function has a contract for all of its result and all lent bytes afterwards, refusals too. Any two
-- results it allows are proved equal". What is spoken of here is the contract itself, as a function's `ensures` says it (crate `calls`, specs/Own.antt):
-- for the lifetimes κ and the arguments a it says which results r, with the parameters e as they are at the exit, are allowed. It is called `Learnt`,
-- what a caller may rely on. A change of a contract that leaves something open fails here.
-- Assumes nothing.
use Rattle.std.specs.Prelude.{◌≡◌}

-- Two results that a contract allows for the same arguments are equal.
abbrev pub Result : {K : Type 0} {A R E : K → Type 0} → ((κ : K) → A κ → R κ → E κ → Type 0) → Type 0
Result {K} {A} {R} {E} allows = (κ : K) (a : A κ) (r r' : R κ) (e e' : E κ) → allows κ a r e → allows κ a r' e' → r ≡ r'

-- The same of everything that is looked at: the result, and the lent bytes afterwards.
abbrev pub Settles : {K : Type 0} {A R E : K → Type 0} {X : Type 0} → ((κ : K) → A κ → R κ → E κ → Type 0) → ((κ : K) → A κ → R κ → E κ → X) → Type 0
Settles {K} {A} {R} {E} allows look =
    (κ : K) (a : A κ) (r r' : R κ) (e e' : E κ) → allows κ a r e → allows κ a r' e' → look κ a r e ≡ look κ a r' e'

-- Two things that are looked at together.
abbrev pub beside : {X Y : Type 0} → X → Y → X × Y
beside x y = (x, y)
