-- Laws of writing: one byte with room and without, texts one after another, a text that finds room; and of a pen, which the check uses at each method.
use Prim.Native.Nat.{ℕ, suc, ◌+◌, ◌<◌, ◌≤◌}
use mathlib.Core.List.{List, [], ◌∷◌, ◌++◌}
use mathlib.Core.Path.{◌≡◌, refl, sym, ap, ◌∙◌}
use native.Mathlib.Nat.{add-zero}
use native.Mathlib.Numerals.{add-one}
use native.Mathlib.Omega.{arith}
use borrow.Author.Tests.{lt-ltb, le-ltb}
use lib.ListN.{length, set, length-set, take, drop}
use lib.Seq.{sets, sets-eq}
use Rattle.text.specs.declared.pen.Pen.{Pen}
use Rattle.text.specs.Sheet.{Sheet, sheet, byte_placed, text_written, over, written}

pub placed_in : (out : List ℕ) (at b : ℕ) → at < length out → byte_placed (sheet out at) b ≡ sheet (set out at b) (at + 1)
unfolding byte_placed
placed_in out at b h = rw (lt-ltb at (length out) h)

pub placed_out : (out : List ℕ) (at b : ℕ) → length out ≤ at → byte_placed (sheet out at) b ≡ sheet out at
unfolding byte_placed
placed_out out at b h = rw (le-ltb at (length out) h)

pub joined : (s : Sheet) (xs ys : List ℕ) → text_written s (xs ++ ys) ≡ text_written (text_written s xs) ys
unfolding text_written
joined s [] ys = refl
joined s (b ∷ xs) ys = joined (byte_placed s b) xs ys

pub full : (out : List ℕ) (at : ℕ) (xs : List ℕ) → length out ≤ at → text_written (sheet out at) xs ≡ sheet out at
unfolding text_written
full out at [] h = refl
full out at (b ∷ xs) h = ap (λ (s : Sheet). text_written s xs) (placed_out out at b h) ∙ full out at xs h

stored : (out : List ℕ) (at : ℕ) (xs : List ℕ) → at + length xs ≤ length out → text_written (sheet out at) xs ≡ sheet (sets out at xs) (at + length xs)
unfolding text_written
stored out at [] h = ap (sheet out) (sym (add-zero at))
stored out at (b ∷ xs) h =
    ap (λ (s : Sheet). text_written s xs) (placed_in out at b (omega arith) ∙ ap (sheet (set out at b)) (add-one at))
    ∙ stored (set out at b) (suc at) xs (omega (arith, length-set out at b))
    ∙ ap (sheet (sets (set out at b) (suc at) xs)) (omega arith)

pub fits : (out : List ℕ) (at : ℕ) (xs : List ℕ) → at + length xs ≤ length out
    → text_written (sheet out at) xs ≡ sheet (take at out ++ xs ++ drop (at + length xs) out) (at + length xs)
fits out at xs h = stored out at xs h ∙ ap (λ (l : List ℕ). sheet l (at + length xs)) (sets-eq xs out at h)

-- A pen that writes two texts, and that writes none.
pub then : (p : Pen) (xs ys : List ℕ) → written (written p xs) ys ≡ written p (xs ++ ys)
unfolding written
then p xs ys = ap (over p) (sym (joined (sheet p.out.now p.at) xs ys))

pub nothing : (p : Pen) → written p [] ≡ p
unfolding written text_written
nothing p = refl
