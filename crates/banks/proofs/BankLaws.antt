-- Laws of banks.
use Prim.Native.Nat.{ℕ, zero, suc, ◌+◌, ◌*◌, ◌-◌, ◌/◌, ◌%◌, ◌<◌, ◌≤◌}
use mathlib.Core.Bool.{Bool}
use mathlib.Core.List.{List}
use mathlib.Core.Path.{◌≡◌}
use native.Mathlib.Omega.{arith}
use native.Mathlib.Nat.{add_assoc, mul-le-mul}
use lib.ListN.{get_or, set}
use Rattle.memory.specs.declared.PageWord.{PageWord}
use Rattle.memory.specs.PageWords.{word}
use Rattle.banks.specs.Placed.{placed}
use Rattle.banks.specs.Prg.{prg_value_pages, page_from6000}
use Rattle.banks.specs.Chr.{window_pages, window_register}
use Rattle.banks.proofs.PlacedLaws.{placed_more}

-- One page more: page j of window i.
pub page_more : (prg ram : ℕ) (writable : Bool) (values : List ℕ) (pages : List PageWord) (i j : ℕ) → j < 8
    → placed pages 24 (page_from6000 prg ram writable values) (8 * i + (j + 1))
    ≡ set (placed pages 24 (page_from6000 prg ram writable values) (8 * i + j)) (24 + 8 * i + j) (get_or (prg_value_pages prg ram writable (get_or values i 0)) j (word 0))
page_more prg ram writable values pages i j few =
    let window : (8 * i + j) / 8 ≡ i = omega arith in
    let inside : (8 * i + j) % 8 ≡ j = omega arith in
    rw (← add_assoc (8 * i) j 1, placed_more, add_assoc 24 (8 * i) j, window, inside)

-- From mode 3 on a window has one page.
pub one_page : (mode : ℕ) → 3 ≤ mode → window_pages mode ≡ 1
unfolding window_pages
one_page mode h = let e : 3 - mode ≡ 0 = omega arith in rw e

-- By the four window sizes.
pub by_size : (P : ℕ → Type 0) (mode : ℕ) → P 8 → P 4 → P 2 → P 1 → P (window_pages mode)
unfolding window_pages
by_size P zero a b c d = a
by_size P (suc zero) a b c d = b
by_size P (suc (suc zero)) a b c d = c
by_size P (suc (suc (suc mode))) a b c d = rw (one_page (suc (suc (suc mode))) (omega arith)) d

pub register_inside : (mode k : ℕ) → k < 8 → window_register (window_pages mode) k < 8
register_inside mode k h = by_size (λ (n : ℕ). window_register n k < 8) mode (omega arith) (omega arith) (omega arith) (omega arith)

pub size_most : (mode : ℕ) → window_pages mode ≤ 8
size_most mode = by_size (λ (n : ℕ). n ≤ 8) mode (omega arith) (omega arith) (omega arith) (omega arith)

pub place_inside : (mode k : ℕ) → k % window_pages mode < 8
place_inside mode k = by_size (λ (n : ℕ). k % n < 8) mode (omega arith) (omega arith) (omega arith) (omega arith)

-- A page number fits: sixteen bits of bank, eight pages a window.
pub number_fits : (bank pages : ℕ) → bank < 65536 → pages ≤ 8 → bank * pages ≤ 524280
number_fits bank pages a b = omega (arith, mul-le-mul {n₁ = bank} {m₁ = pages} {n₂ = 65535} {m₂ = 8} (omega arith) b)
