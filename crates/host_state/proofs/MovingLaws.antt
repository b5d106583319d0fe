-- The first sixteen words, tested each alone: flags by what they have together, and bytes so too.
use Prim.Native.Nat.{ℕ, ◌+◌, ◌<◌, ◌≤◌, ◌^◌}
use mathlib.Core.Bool.{Bool, true, ◌&&◌}
use mathlib.Core.List.{List}
use mathlib.Core.Path.{◌≡◌, refl}
use native.Mathlib.Omega.{arith}
use borrow.Author.Tests.{leb-true, le-leb}
use lib.Bits.{bit_or, or_lt}
use lib.Dec.{leb}
use lib.ListN.{take, get_or}
use Rattle.std.proofs.lemmas.Nat.{le_or_l, le_or_r}
use Rattle.memory.proofs.Tests.{same_test, and_left, and_right, and_both}
use Rattle.host_state.specs.Words.{limits, all_within}
use Rattle.host_state.proofs.LimitLaws.{within_next}

-- Both have at most so many bits where what they have together does.
or_most : (k m a b : ℕ) → m + 1 ≡ 2 ^ k → leb (bit_or a b) m ≡ leb a m && leb b m
or_most k m a b e =
    same_test (leb (bit_or a b) m) (leb a m && leb b m)
    (λ t. let h : bit_or a b ≤ m = leb-true (bit_or a b) m t in and_both (leb a m) (leb b m) (le-leb a m (omega (arith, h, le_or_l a b))) (le-leb b m (omega (arith, h, le_or_r a b))))
    (λ t.
    let x : a < 2 ^ k = omega (arith, e, leb-true a m (and_left (leb a m) (leb b m) t)) in
    let y : b < 2 ^ k = omega (arith, e, leb-true b m (and_right (leb a m) (leb b m) t)) in
    le-leb (bit_or a b) m (omega (arith, e, or_lt k a b x y)))

-- The sixteen tests, as the limits have them.
sixteen : (w : List ℕ) → all_within (take 16 limits) w
    ≡ ((((((((((((((((true && leb (get_or w 0 0) 1) && leb (get_or w 1 0) 65535) && leb (get_or w 2 0) 255) && leb (get_or w 3 0) 1) && leb (get_or w 4 0) 2) && leb (get_or w 5 0) 1)
    && leb (get_or w 6 0) 65279) && leb (get_or w 7 0) 1) && leb (get_or w 8 0) 1) && leb (get_or w 9 0) 255) && leb (get_or w 10 0) 1) && leb (get_or w 11 0) 959)
    && leb (get_or w 12 0) 83) && leb (get_or w 13 0) 1023) && leb (get_or w 14 0) 1) && leb (get_or w 15 0) 1)
unfolding limits all_within
sixteen w =
    rw (
      within_next limits w 15 (omega arith),
      within_next limits w 14 (omega arith),
      within_next limits w 13 (omega arith),
      within_next limits w 12 (omega arith),
      within_next limits w 11 (omega arith),
      within_next limits w 10 (omega arith),
      within_next limits w 9 (omega arith),
      within_next limits w 8 (omega arith),
      within_next limits w 7 (omega arith),
      within_next limits w 6 (omega arith),
      within_next limits w 5 (omega arith),
      within_next limits w 4 (omega arith),
      within_next limits w 3 (omega arith),
      within_next limits w 2 (omega arith),
      within_next limits w 1 (omega arith),
      within_next limits w 0 (omega arith),
    )

-- The eight flags together, and the two bytes.
flags_most : (a b c d e f g h : ℕ) → leb (bit_or (bit_or (bit_or (bit_or (bit_or (bit_or (bit_or a b) c) d) e) f) g) h) 1
    ≡ ((((((leb a 1 && leb b 1) && leb c 1) && leb d 1) && leb e 1) && leb f 1) && leb g 1) && leb h 1
flags_most a b c d e f g h =
    let both : (x y : ℕ) → leb (bit_or x y) 1 ≡ leb x 1 && leb y 1 = λ x y. or_most 1 1 x y refl in simp both

-- Sixteen tests in the one order, and in the other.
ordered : (t0 t1 t2 t3 t4 t5 t6 t7 t8 t9 ta tb tc td te tf : Bool)
    → (((((((((t0 && t3) && t5) && t7) && t8) && ta) && te) && tf) && (t2 && t9)) && ((t4 && t6) && tc)) && ((t1 && tb) && td)
    ≡ (((((((((((((((true && t0) && t1) && t2) && t3) && t4) && t5) && t6) && t7) && t8) && t9) && ta) && tb) && tc) && td) && te) && tf
ordered t0 t1 t2 t3 t4 t5 t6 t7 t8 t9 ta tb tc td te tf = grind arith

pub moving : (w : List ℕ)
    → leb (bit_or (bit_or (bit_or (bit_or (bit_or (bit_or (bit_or (get_or w 0 0) (get_or w 3 0)) (get_or w 5 0)) (get_or w 7 0)) (get_or w 8 0)) (get_or w 10 0)) (get_or w 14 0)) (get_or w 15 0)) 1
    && leb (bit_or (get_or w 2 0) (get_or w 9 0)) 255
    && (leb (get_or w 4 0) 2 && leb (get_or w 6 0) 65279 && leb (get_or w 12 0) 83)
    && (leb (get_or w 1 0) 65535 && leb (get_or w 11 0) 959 && leb (get_or w 13 0) 1023)
    ≡ all_within (take 16 limits) w
moving w =
    rw (
      flags_most (get_or w 0 0) (get_or w 3 0) (get_or w 5 0) (get_or w 7 0) (get_or w 8 0) (get_or w 10 0) (get_or w 14 0) (get_or w 15 0),
      or_most 8 255 (get_or w 2 0) (get_or w 9 0) refl,
      sixteen w,
    )
    (ordered (leb (get_or w 0 0) 1) (leb (get_or w 1 0) 65535) (leb (get_or w 2 0) 255) (leb (get_or w 3 0) 1) (leb (get_or w 4 0) 2) (leb (get_or w 5 0) 1)
    (leb (get_or w 6 0) 65279) (leb (get_or w 7 0) 1) (leb (get_or w 8 0) 1) (leb (get_or w 9 0) 255) (leb (get_or w 10 0) 1) (leb (get_or w 11 0) 959) (leb (get_or w 12 0) 83)
    (leb (get_or w 13 0) 1023) (leb (get_or w 14 0) 1) (leb (get_or w 15 0) 1))
