-- Laws of decimals: the last digit taken off, and that the digits are the number's and no others. Of every number: std's laws of its `decimal` end at 10 ^ 64.
use Prim.Native.Nat.{ℕ, zero, suc, ◌+◌, ◌-◌, ◌*◌, ◌/◌, ◌%◌, ◌^◌, ◌<◌, ◌≤◌}
use mathlib.Core.List.{List, [], ◌∷◌, ◌++◌, append-nil}
use mathlib.Core.Path.{◌≡◌, refl, sym, ap, ap₂, ◌∙◌}
use native.Mathlib.Nat.{pow-suc}
use native.Mathlib.Omega.{arith}
use borrow.Author.Tests.{ltb-true, ltb-false}
use lib.Dec.{ltb}
use lib.ListN.{length, length-append, get_or}
use lib.Seq.{append_snoc}
use Rattle.memory.proofs.Tests.{split}
use Rattle.text.specs.Digits.{before, digits, read_on, decimal_value, AllDigits}

-- What stands after the text stays after it.
before_append : (most n : ℕ) (text rest : List ℕ) → before most n (text ++ rest) ≡ before most n text ++ rest
unfolding before
before_append zero n text rest = refl
before_append (suc most) zero text rest = refl
before_append (suc most) (suc n) text rest = before_append most (suc n / 10) ((48 + suc n % 10) ∷ text) rest

-- More room than digits changes nothing.
before_enough : (m k n : ℕ) (text : List ℕ) → n ≤ m → n ≤ k → before m n text ≡ before k n text
unfolding before
before_enough zero zero zero text h j = refl
before_enough zero (suc k) zero text h j = refl
before_enough (suc m) zero zero text h j = refl
before_enough (suc m) (suc k) zero text h j = refl
before_enough zero k (suc n) text h j = absurd (omega arith)
before_enough (suc m) zero (suc n) text h j = absurd (omega arith)
before_enough (suc m) (suc k) (suc n) text h j = before_enough m k (suc n / 10) ((48 + suc n % 10) ∷ text) (omega arith) (omega arith)

-- One digit.
pub one_digit : (n : ℕ) → n < 10 → digits n ≡ (48 + n % 10) ∷ []
unfolding before
one_digit zero h = refl
one_digit (suc n) h = let z : suc n / 10 ≡ 0 = omega arith in rw z

-- The last digit stands after those of the tens.
tens : (m q d : ℕ) → 1 ≤ q → q < m → before m q (d ∷ []) ≡ digits q ++ (d ∷ [])
unfolding before
tens zero q d p h = absurd (omega arith)
tens (suc m) zero d p h = absurd (omega arith)
tens (suc m) (suc q) d p h =
    before_append m (suc q / 10) ((48 + suc q % 10) ∷ []) (d ∷ [])
    ∙ ap (λ (l : List ℕ). l ++ (d ∷ [])) (before_enough m (suc q) (suc q / 10) ((48 + suc q % 10) ∷ []) (omega arith) (omega arith))

pub more_digits : (n : ℕ) → 10 ≤ n → digits n ≡ digits (n / 10) ++ ((48 + n % 10) ∷ [])
more_digits n h = tens n (n / 10) (48 + n % 10) (omega arith) (omega arith)

-- Read back.
read_before : (most n : ℕ) (text : List ℕ) → n ≤ most → read_on 0 (before most n text) ≡ read_on n text
unfolding before read_on
read_before zero zero text h = refl
read_before zero (suc n) text h = absurd (omega arith)
read_before (suc most) zero text h = refl
read_before (suc most) (suc n) text h =
    read_before most (suc n / 10) ((48 + suc n % 10) ∷ text) (omega arith) ∙ ap (λ (v : ℕ). read_on v text) (omega arith)

pub read_back : (n : ℕ) → decimal_value (digits n) ≡ n
unfolding read_on
read_back n = read_before n (n / 10) ((48 + n % 10) ∷ []) (omega arith) ∙ omega arith

-- Each is a digit.
all_before : (most n : ℕ) (text : List ℕ) → AllDigits text → AllDigits (before most n text)
unfolding before AllDigits
all_before zero n text a = a
all_before (suc most) zero text a = a
all_before (suc most) (suc n) text a = all_before most (suc n / 10) ((48 + suc n % 10) ∷ text) (omega arith, omega arith, a)

pub all_digits : (n : ℕ) → AllDigits (digits n)
unfolding AllDigits
all_digits n = all_before n (n / 10) ((48 + n % 10) ∷ []) (omega arith, omega arith, tt)

-- The first is not 0.
first_before : (most n d : ℕ) (text : List ℕ) → n ≤ most → (n ≡ 0 → 49 ≤ d) → 49 ≤ get_or (before most n (d ∷ text)) 0 0
unfolding before
first_before zero zero d text h f = f refl
first_before zero (suc n) d text h f = absurd (omega arith)
first_before (suc most) zero d text h f = f refl
first_before (suc most) (suc n) d text h f = first_before most (suc n / 10) (48 + suc n % 10) (d ∷ text) (omega arith) (λ z. omega arith)

pub first_digit : (n : ℕ) → 1 ≤ n → 49 ≤ get_or (digits n) 0 0
first_digit n h = first_before n (n / 10) (48 + n % 10) [] (omega arith) (λ z. omega arith)

-- Digits read after a number that is not 0 stand after that number's digits.
digits_on : (v : ℕ) (ds : List ℕ) → 1 ≤ v → AllDigits ds → digits (read_on v ds) ≡ digits v ++ ds
unfolding read_on AllDigits
digits_on v [] h a = sym (append-nil (digits v))
digits_on v (d ∷ ds) h (low, high, rest) =
    let n : ℕ = v * 10 + (d - 48) in
    let tens : n / 10 ≡ v = omega arith in
    let last : 48 + n % 10 ≡ d = omega arith in
    let step : digits n ≡ digits v ++ (d ∷ []) = more_digits n (omega arith) ∙ ap₂ (λ (q e : ℕ). digits q ++ (e ∷ [])) tens last in
    digits_on n ds (omega arith) rest ∙ ap (λ (l : List ℕ). l ++ ds) step ∙ append_snoc (digits v) d ds

pub only_digits : (d : ℕ) (ds : List ℕ) → 49 ≤ d → AllDigits (d ∷ ds) → digits (decimal_value (d ∷ ds)) ≡ d ∷ ds
unfolding read_on AllDigits
only_digits d ds h (low, high, rest) =
    let n : ℕ = 0 * 10 + (d - 48) in
    let last : 48 + n % 10 ≡ d = omega arith in
    digits_on n ds (omega arith) rest ∙ ap (λ (l : List ℕ). l ++ ds) (one_digit n (omega arith)) ∙ ap (λ (e : ℕ). e ∷ ds) last

-- A number below a power of ten has no more digits than the power.
pub few_digits : (k n : ℕ) → n < 10 ^ suc k → length (digits n) ≤ suc k
few_digits zero n h = omega (arith, ap (λ (l : List ℕ). length l) (one_digit n (omega arith)))
few_digits (suc k) n h =
    split (ltb n 10)
    (λ t. omega (arith, ap (λ (l : List ℕ). length l) (one_digit n (ltb-true n 10 t))))
    (λ t.
    let tens : length (digits (n / 10)) ≤ suc k = few_digits k (n / 10) (omega (arith, pow-suc 10 (suc k))) in
    let e : length (digits n) ≡ length (digits (n / 10) ++ ((48 + n % 10) ∷ [])) = ap (λ (l : List ℕ). length l) (more_digits n (ltb-false n 10 t)) in
    omega (arith, length-append (digits (n / 10)) ((48 + n % 10) ∷ [])))
