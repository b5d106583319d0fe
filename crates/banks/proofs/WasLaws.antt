-- Definitions that are written in 01's words are the formulas by which they were first defined, case by case as the code goes.
use Prim.Native.Nat.{ℕ, zero, suc, ◌+◌, ◌*◌, ◌/◌, ◌%◌, ◌<◌}
use mathlib.Core.Bool.{Bool, false}
use mathlib.Core.List.{List, [], ◌∷◌}
use mathlib.Core.Path.{◌≡◌, refl, sym}
use native.Mathlib.Omega.{arith}
use native.Mathlib.Nat.{add-zero}
use native.Mathlib.Numerals.{add-one}
use borrow.Author.Tests.{ne_eqb}
use lib.Dec.{eqb}
use lib.ListN.{get_or}
use Rattle.memory.specs.declared.PageWord.{PageWord}
use Rattle.memory.specs.Bits.{◌OR◌}
use Rattle.memory.specs.Tests.{pick}
use Rattle.memory.specs.PageWords.{word}
use Rattle.registers.specs.declared.Regs.{Regs}
use Rattle.registers.specs.Registers.{unlocked}
use Rattle.banks.specs.Placed.{placed}
use Rattle.banks.specs.Prg.{pair_first, pair_second, quarter, rom, prg_values, prg_value_pages, page_from6000, prg_mapped}
use Rattle.banks.specs.Chr.{window_pages, window_register, set_start, chr_number}
use Rattle.banks.proofs.PlacedLaws.{placed_none, placed_on}
use Rattle.banks.proofs.BankLaws.{one_page}

pub prg_values_is : (mode : ℕ) (b : List ℕ)
    → prg_values mode b
    ≡ get_or b 0 0 % 8
    ∷ pick (eqb mode 0)
    (rom (get_or b 4 0) / 4 * 4 ∷ quarter (rom (get_or b 4 0)) 1 ∷ quarter (rom (get_or b 4 0)) 2 ∷ quarter (rom (get_or b 4 0)) 3 ∷ [])
    (pick (eqb mode 1)
    (pair_first (get_or b 2 0) ∷ pair_second (get_or b 2 0) ∷ pair_first (rom (get_or b 4 0)) ∷ pair_second (rom (get_or b 4 0)) ∷ [])
    (pick (eqb mode 2)
    (pair_first (get_or b 2 0) ∷ pair_second (get_or b 2 0) ∷ get_or b 3 0 ∷ rom (get_or b 4 0) ∷ [])
    (get_or b 1 0 ∷ get_or b 2 0 ∷ get_or b 3 0 ∷ rom (get_or b 4 0) ∷ [])))
unfolding prg_values
prg_values_is mode b = rw (add-zero (rom (get_or b 4 0) / 4 * 4))

-- The first n windows mapped, one after the other.
unfoldable pub windows_mapped : ℕ → ℕ → Bool → List ℕ → List PageWord → ℕ → List PageWord
windows_mapped prg ram writable values pages zero = pages
windows_mapped prg ram writable values pages (suc n) =
    placed (windows_mapped prg ram writable values pages n) (24 + 8 * n) (λ (k : ℕ). get_or (prg_value_pages prg ram writable (get_or values n 0)) k (word 0)) 8

-- One window more: its eight pages.
window_next : (prg ram : ℕ) (writable : Bool) (values : List ℕ) (pages : List PageWord) (i : ℕ)
    → placed (placed pages 24 (page_from6000 prg ram writable values) (8 * i)) (24 + 8 * i) (λ (j : ℕ). get_or (prg_value_pages prg ram writable (get_or values i 0)) j (word 0)) 8
    ≡ placed pages 24 (page_from6000 prg ram writable values) (8 * (i + 1))
window_next prg ram writable values pages i =
    let more : 8 * (i + 1) ≡ 8 * i + 8 = omega arith in
    rw more
    (placed_on pages 24 (page_from6000 prg ram writable values) _ (8 * i) 8
    (λ j few.
    let window : (8 * i + j) / 8 ≡ i = omega arith in
    let inside : (8 * i + j) % 8 ≡ j = omega arith in
    rw (window, inside)))

windows_are : (prg ram : ℕ) (writable : Bool) (values : List ℕ) (pages : List PageWord) (n : ℕ)
    → windows_mapped prg ram writable values pages n ≡ placed pages 24 (page_from6000 prg ram writable values) (8 * n)
unfolding windows_mapped placed
windows_are prg ram writable values pages zero = placed_none pages 24 (page_from6000 prg ram writable values)
windows_are prg ram writable values pages (suc n) =
    rw (windows_are prg ram writable values pages n, ← add-one n) (window_next prg ram writable values pages n)

pub prg_mapped_is : (prg ram : ℕ) (g : Regs) (b : List ℕ) (pages : List PageWord)
    → prg_mapped prg ram g b pages ≡ windows_mapped prg ram (unlocked g) (prg_values g.prg_mode b) pages 5
prg_mapped_is prg ram g b pages = sym (windows_are prg ram (unlocked g) (prg_values g.prg_mode b) pages 5)

pub window_pages_is : (mode : ℕ) → window_pages mode ≡ pick (eqb mode 0) 8 (pick (eqb mode 1) 4 (pick (eqb mode 2) 2 1))
unfolding window_pages
window_pages_is zero = refl
window_pages_is (suc zero) = refl
window_pages_is (suc (suc zero)) = refl
window_pages_is (suc (suc (suc mode))) =
    let n = suc (suc (suc mode)) in
    let past : (k : ℕ) → k < n → eqb n k ≡ false = λ k h. ne_eqb n k (λ (e : n ≡ k). omega arith) in
    rw (past 0 (omega arith), past 1 (omega arith), past 2 (omega arith)) (one_page n (omega arith))

pub chr_number_is : (g : Regs) (b : List ℕ) (bg : Bool) (k : ℕ) → let n = window_pages g.chr_mode in
    chr_number g b bg k ≡ (get_or b (set_start bg + window_register n k) 0 OR g.chr_hi) * n + k % n
unfolding chr_number window_pages
chr_number_is g b bg k = refl
