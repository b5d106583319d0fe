-- What `array::from_fn` and an array's `map` make, where the closure stays as it is.
use Prim.Native.Nat.{ℕ, zero, suc, ◌+◌, ◌<◌, ◌≤◌}
use mathlib.Core.List.{List, map}
use mathlib.Core.Path.{◌≡◌, sym, ap, subst, ◌∙◌}
use native.Mathlib.Omega.{arith}
use lib.ListN.{length, take, drop, get_or, length-map}
use Rattle.std.specs.Fn.{Called, Mut}
use Rattle.std.specs.Array.{IsFromFnResultFrom, IsFromFnResult, IsMapOf}
use Rattle.std.proofs.lemmas.List.{same_lists, get_or-map}
use Rattle.host_state.proofs.PartLaws.{part_at, part_length}

module _ {F B : Type 0} (g : Mut F (ℕ × Unit {0}) B) (f : F) (h : ℕ → B) where
  made_at : (ys : List B) (i n k j : ℕ) (d : B)
      → ((m : ℕ) (y : B) (q : F) → m < i + n → Called g f (m, tt) y q → (q ≡ f) × (y ≡ h m))
      → IsFromFnResultFrom g f ys i n → k < n → j ≡ i + k → get_or ys j d ≡ h j
  made_at ys i zero k j d says r below e = absurd (omega arith)
  made_at ys i (suc n) zero j d says (q, y, at, called, rest) below e =
      let here : j ≡ i = omega arith in
      rw here (at.1 d ∙ (says i y q (omega arith) called).1)
  made_at ys i (suc n) (suc k) j d says (q, y, at, called, rest) below e =
      made_at ys (i + 1) n k j d (λ m x p high. says m x p (omega arith))
      (subst (λ (p : F). IsFromFnResultFrom g p ys (i + 1) n) (says i y q (omega arith) called).0 rest) (omega arith) (omega arith)

-- An array made of another, place by place.
pub array_made : {F A B : Type 0} {g : Mut F (ℕ × Unit {0}) B} {f : F} (h : A → B) (xs : List A) (d : A) (n : ℕ) {ys : List B} → length xs ≡ n
    → IsFromFnResult g f ys n
    → ((i : ℕ) (y : B) (q : F) → i < n → Called g f (i, tt) y q → (q ≡ f) × (y ≡ h (get_or xs i d)))
    → ys ≡ map h xs
array_made {g} {f} h xs d n {ys} long made says =
    same_lists ys (map h xs) (made.long ∙ sym (length-map xs h ∙ long))
    (λ i e below.
    made_at g f (λ (j : ℕ). h (get_or xs j d)) ys 0 n i i e (λ m y q high. says m y q (omega arith)) made.each (omega (arith, made.long)) (omega arith)
    ∙ sym (get_or-map h xs i d e (omega (arith, made.long))))

-- A part of the words, read place by place.
pub part_made : {F B : Type 0} {g : Mut F (ℕ × Unit {0}) B} {f : F} (h : ℕ → B) (w : List ℕ) (from n : ℕ) {ys : List B} → from + n ≤ length w
    → IsFromFnResult g f ys n
    → ((i : ℕ) (y : B) (q : F) → i < n → Called g f (i, tt) y q → (q ≡ f) × (y ≡ h (get_or w (from + i) 0)))
    → ys ≡ map h (take n (drop from w))
part_made h w from n room made says =
    array_made h (take n (drop from w)) 0 n (part_length w from n room) made
    (λ i y q small called. let r = says i y q small called in (r.0, r.1 ∙ ap h (sym (part_at w from n i small))))

-- An array mapped.
pub array_mapped : {F A B : Type 0} {g : Mut F (A × Unit {0}) B} {f : F} (h : A → B) (xs : List A) (d : A) (n : ℕ) {ys : List B} → length xs ≡ n
    → IsMapOf g f xs ys n
    → ((p : F) (x : A) (y : B) (q : F) → Called g p (x, tt) y q → y ≡ h x)
    → ys ≡ map h xs
array_mapped h xs d n {ys} long made says =
    same_lists ys (map h xs) (made.long ∙ sym (length-map xs h ∙ long))
    (λ i e below.
    let r = made.at i d e (omega (arith, made.long)) in
    says r.0 (get_or xs i d) (get_or ys i e) r.1 r.2 ∙ sym (get_or-map h xs i d e (omega (arith, made.long))))
