-- `line_at` is the line of 01's sentence.
-- Assumes nothing.
use Prim.Native.Nat.{ℕ, ◌+◌}
use mathlib.Core.Path.{◌≡◌, refl, ◌∙◌, ap}
use mathlib.Core.Bool.{true, false, not}
use mathlib.Core.List.{List, [], ◌∷◌}
use native.Mathlib.Omega.{arith}
use borrow.Author.Tests.{eqb-true, eqb-false, eq-eqb, ne_eqb, not-true}
use lib.Dec.{eqb}
use Rattle.memory.proofs.Tests.{split, and_left, and_right}
use Rattle.theorems_scanlines.specs.Events.{is_clock, fetches, reads, darkens, address, counts, vectors}
use Rattle.theorems_scanlines.specs.Calls.{Event}
use Rattle.theorems_scanlines.specs.Calls.Event.{clock, fetch, cpu_read, cpu_write, ppu_register, other}
use Rattle.theorems_scanlines.specs.Told.{breaks, recent, alike, none_of, line_at}
use Rattle.theorems_scanlines.specs.Calls.{History}
use Rattle.theorems_scanlines.specs.Sentence.{Before, Behind, Apart, Line, LineIsTheSentence}
use Rattle.theorems_scanlines.specs.Sentence.Before.{here, further}
use Rattle.theorems_scanlines.specs.Sentence.Behind.{broken, earlier}
use Rattle.theorems_scanlines.specs.Sentence.Apart.{differs, missing, behind}

fetch_no_break : (e : Event) (h : History) → counts e ≡ true → breaks e h ≡ false
unfolding counts fetches breaks darkens vectors reads is_clock
fetch_no_break (fetch a) h p = refl
fetch_no_break clock h p = cc
fetch_no_break (cpu_read a) h p = cc
fetch_no_break (cpu_write a v) h p = refl
fetch_no_break (ppu_register a v) h p = cc
fetch_no_break other h p = refl

-- the fetch before the end of a history is the newest of `recent`
before_recent : {h : History} {a : ℕ} {k : History} → Before h a k → recent h ≡ a ∷ recent k
unfolding recent
before_recent (here {e = e} {h = h} c) = rw (fetch_no_break e h c, c)
before_recent (further {e = e} {h = h} c n b) = rw (n, c) (before_recent b)

record Found (h : History) (a : ℕ) (xs : List ℕ) : Type 0 where
  rest : History
  before : Before h a rest
  same : recent rest ≡ xs

empty_cons : {a : ℕ} {xs : List ℕ} → [] ≡ a ∷ xs → ⊥
empty_cons p = let z : ◌≡◌ {A = ℕ} 0 1 = cc in omega arith

recent_before : (h : History) (a : ℕ) (xs : List ℕ) → recent h ≡ a ∷ xs → Found h a xs
unfolding recent
recent_before [] a xs p = absurd (empty_cons p)
recent_before (e ∷ h) a xs p =
    split (breaks e h)
    (λ t. absurd (empty_cons (rw t at p)))
    (λ t. split (counts e)
    (λ u. let q : address e ∷ recent h ≡ a ∷ xs = rw (t, u) at p in
    let qa : address e ≡ a = cc in
    let w : Before (e ∷ h) (address e) h = here u in
    record { rest = h; before = rw qa at w; same = cc })
    (λ u. let f = recent_before h a xs (rw (t, u) at p) in record { rest = f.rest; before = further u t f.before; same = f.same }))

-- one alike more: the newest is it
record Led (a : ℕ) (xs : List ℕ) (n : ℕ) : Type 0 where
  tail : List ℕ
  led : xs ≡ a ∷ tail
  left : alike a tail ≡ n

led : (a n : ℕ) (xs : List ℕ) → alike a xs ≡ n + 1 → Led a xs n
unfolding alike
led a n [] p = absurd (omega arith)
led a n (x ∷ xs) p =
    split (eqb a x)
    (λ t. let q : alike a xs + 1 ≡ n + 1 = rw t at p in let k : a ≡ x = eqb-true a x t in record { tail = xs; led = rw k; left = omega arith })
    (λ t. let q : 0 ≡ n + 1 = rw t at p in absurd (omega arith))

leads : (a : ℕ) (xs : List ℕ) → alike a (a ∷ xs) ≡ alike a xs + 1
unfolding alike
leads a xs = rw (eq-eqb a a refl)

-- the fetch before is not alike: it differs, is missing, or lies behind a break
to_apart : (a : ℕ) (h : History) → alike a (recent h) ≡ 0 → Apart h a
unfolding recent alike none_of
to_apart a [] p = missing refl
to_apart a (e ∷ h) p =
    split (breaks e h)
    (λ t. behind (broken t))
    (λ t. split (counts e)
    (λ u. split (eqb a (address e)) (λ v. let z : alike a (recent h) + 1 ≡ 0 = rw (t, u, v) at p in absurd (omega arith)) (λ v. differs (here u) (eqb-false a (address e) v)))
    (λ u. moved u t (to_apart a h (rw (t, u) at p))))
  where
    moved : counts e ≡ false → breaks e h ≡ false → Apart h a → Apart (e ∷ h) a
    moved u t (differs b n) = differs (further u t b) n
    moved u t (missing m) = missing (rw u m)
    moved u t (behind b) = behind (earlier u b)

missing_recent : (h : History) → none_of counts h ≡ true → recent h ≡ []
unfolding recent none_of
missing_recent [] m = refl
missing_recent (e ∷ h) m =
    rw (not-true (counts e) (and_left (not (counts e)) (none_of counts h) m), missing_recent h (and_right (not (counts e)) (none_of counts h) m))
    (split (breaks e h) (λ t. rw t) (λ t. rw t))

behind_recent : {h : History} → Behind h → recent h ≡ []
unfolding recent
behind_recent (broken t) = rw t
behind_recent (earlier {e = e} {h = h} u b) = rw (u, behind_recent b) (split (breaks e h) (λ t. rw t) (λ t. rw t))

from_apart : (a : ℕ) (h : History) → Apart h a → alike a (recent h) ≡ 0
unfolding alike
from_apart a h (differs {b = b} w n) = rw (before_recent w, ne_eqb a b n)
from_apart a h (missing m) = rw (missing_recent h m)
from_apart a h (behind b) = rw (behind_recent b)

module _ (e : Event) (h : History) where
  to_line : line_at e h ≡ true → Line e h
  unfolding line_at
  to_line p =
      let x = led (address e) 1 (recent h) (eqb-true _ _ (and_right (fetches 0x2000 0x2FFF e) (eqb (alike (address e) (recent h)) 2) p)) in
      let y = led (address e) 0 x.tail x.left in
      let f = recent_before h (address e) x.tail x.led in
      let g = recent_before f.rest (address e) y.tail (f.same ∙ y.led) in
      record {
        table = and_left (fetches 0x2000 0x2FFF e) (eqb (alike (address e) (recent h)) 2) p;
        one = f.rest;
        two = g.rest;
        equal_one = f.before;
        equal_two = g.before;
        apart = to_apart (address e) g.rest (ap (alike (address e)) g.same ∙ y.left);
      }

  -- each equal fetch before adds one
  adds : {a : ℕ} {j k : History} → Before j a k → alike a (recent j) ≡ alike a (recent k) + 1
  adds {a} {j} {k} b = ap (alike a) (before_recent b) ∙ leads a (recent k)

  from_line : Line e h → line_at e h ≡ true
  unfolding line_at
  from_line l = rw l.table (eq-eqb (alike (address e) (recent h)) 2 (omega (arith, adds l.equal_one, adds l.equal_two, from_apart (address e) l.two l.apart)))

pub line_is_the_sentence : LineIsTheSentence
line_is_the_sentence e h = (to_line e h, from_line e h)
