-- The one law: a contract is an equation with what the arguments alone tell.
use mathlib.Core.Path.{◌≡◌, sym, ◌∙◌}

pub settled : {X : Type 0} {x y z : X} → x ≡ z → y ≡ z → x ≡ y
settled p q = p ∙ sym q

-- Two equations at once.
pub both : {X Y : Type 0} {x x' : X} {y y' : Y} → x ≡ x' → y ≡ y' → ◌≡◌ {A = X × Y} (x, y) (x', y')
both p q = rw (p, q)
