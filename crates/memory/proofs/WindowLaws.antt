-- Laws of windows, over their size: a window starts in its buffer, each page follows the page before it, wrapped, and a whole page lies
-- in the buffer.
use Rattle.std.proofs.Common.{◌≡◌, ℕ, ◌+◌, ◌*◌, ◌/◌, ◌%◌, ◌<◌, ◌≤◌, max, Bool, ltb, leb, sym, ap, ◌∙◌, add-zero, mul-le-mul_right, mod-lt, mod-eq_of_lt, add-mul, le-div_iff_mul-le, div-mul-le_self, arith, ltb-false, ltb-true, ne_eqb, leb-false, leb-true}
use native.Mathlib.Nat.{mod-one, mod-add-mod, mod-eq-sub-mod, div-eq_of_lt}
use Rattle.memory.specs.declared.Src.{Src}
use Rattle.memory.specs.PageWords.{page}
use Rattle.memory.specs.Windows.{banks, window_start, page_start, window_page}
use Rattle.memory.specs.ForCode.{following}
use Rattle.memory.proofs.Tests.{split}

-- As many whole banks as the buffer holds, where it holds one.
banks_fit : (len size : ℕ) → 1 ≤ size → size ≤ len → banks len size * size ≤ len
banks_fit len size h k =
    let one : 1 ≤ len / size = (le-div_iff_mul-le {k = size} {x = 1} {y = len} h).1 (omega arith) in
    let e : max 1 (len / size) ≡ len / size = omega arith in
    rw e (div-mul-le_self len size)

-- A window starts in its buffer.
pub start_inside : (len size bank : ℕ) → 1 ≤ len → 1 ≤ size → window_start len size bank < len
start_inside len size bank h k =
    split (leb size len)
    (λ t.
    let fit = banks_fit len size k (leb-true _ _ t) in
    let x = bank % banks len size in
    let below : x < banks len size = mod-lt bank {m = banks len size} (omega arith) in
    omega (arith, add-mul x 1 size, mul-le-mul_right {m = x + 1} {n = banks len size} size (omega arith)))
    (λ t.
    let e : banks len size ≡ 1 = rw (div-eq_of_lt (leb-false _ _ t)) in
    rw (e, mod-one bank) (omega arith))

pub first_page : (len size bank : ℕ) → 1 ≤ len → 1 ≤ size → page_start len size bank 0 ≡ window_start len size bank
unfolding page_start
first_page len size bank h k = rw (add-zero (window_start len size bank)) (mod-eq_of_lt (start_inside len size bank h k))

-- Each page follows the page before it, wrapped.
pub next_page : (len size bank i : ℕ) → 1024 ≤ len → page_start len size bank (i + 1) ≡ following len (page_start len size bank i)
unfolding page_start
next_page len size bank i h =
    let s = window_start len size bank in
    let x = (s + 1024 * i) % len in
    let below : x < len = mod-lt (s + 1024 * i) {m = len} (omega arith) in
    let e : (s + 1024 * (i + 1)) % len ≡ (x + 1024) % len = ap (λ (n : ℕ). n % len) (omega arith) ∙ sym (mod-add-mod (s + 1024 * i) len 1024) in
    split (ltb (x + 1024) len)
    (λ t. rw t (e ∙ mod-eq_of_lt (ltb-true _ _ t)))
    (λ t.
    let past : len ≤ x + 1024 = ltb-false _ _ t in
    rw t (e ∙ (mod-eq-sub-mod past ∙ mod-eq_of_lt (omega arith))))

pub start_below : (len size bank i : ℕ) → 1 ≤ len → page_start len size bank i < len
unfolding page_start
start_below len size bank i h = mod-lt (window_start len size bank + 1024 * i) {m = len} h

-- A whole page lies in its buffer.
pub page_inside : (len size bank i : ℕ) → 1 ≤ len → len % 1024 ≡ 0 → page_start len size bank i / 1024 * 1024 + 1024 ≤ len
unfolding page_start
page_inside len size bank i h e = omega (arith, mod-lt (window_start len size bank + 1024 * i) {m = len} h)

-- 01, module 2: "CHR windows are one page, number mod pages."
pub one_page_window : (len number : ℕ) → 1 ≤ len → len % 1024 ≡ 0 → page_start len 1024 number 0 / 1024 ≡ number % (len / 1024)
one_page_window len number h e =
    let m : banks len 1024 ≡ len / 1024 = omega arith in
    rw (first_page len 1024 number h (omega arith), m) (omega arith)

-- A page of a buffer that is not empty.
pub shown_page : (s : Src) (len size bank : ℕ) (w : Bool) (i : ℕ) → 1 ≤ len → window_page s len size bank w i ≡ page s (page_start len size bank i / 1024) w
unfolding window_page
shown_page s len size bank w i h = rw (ne_eqb len 0 (λ (e : len ≡ 0). omega arith))
