-- A window's word names the window's page, and a page starts at a multiple of 1,024: so page words and page numbers lose nothing of what 01 says of windows.
use Rattle.std.proofs.Common.{◌≡◌, ℕ, ◌+◌, ◌*◌, ◌/◌, ◌%◌, ◌≤◌, Bool, true, false, eqb, sym, refl, ap, ◌∙◌, mul_assoc, arith, lt-ltb}
use borrow.Author.Tests.{eqb-false}
use lib.Arith.{mod-mul}
use Rattle.memory.specs.declared.Src.{Src}
use Rattle.memory.specs.declared.Src.TheVariants.{PrgRom, PrgRam, Chr}
use Rattle.memory.specs.PageWords.{page, blank, word_of, page_of}
use Rattle.memory.specs.Named.{named_as}
use Rattle.memory.specs.Windows.{banks, window_start, page_start, window_page}
use Rattle.memory.proofs.Tests.{split}
use Rattle.memory.proofs.WindowLaws.{page_inside, shown_page}
use Rattle.memory.proofs.WordLaws.{making_is_undone}

pub empty_page : (s : Src) (len size bank : ℕ) (w : Bool) (i : ℕ) → eqb len 0 ≡ true → window_page s len size bank w i ≡ blank
unfolding window_page
empty_page s len size bank w i t = rw t

named_page : (s : Src) (len size bank : ℕ) (w : Bool) (i : ℕ) → len % 1024 ≡ 0 → ((k : ℕ) → k * 1024 + 1024 ≤ len → named_as s k w ≡ true)
    → page_of (word_of (window_page s len size bank w i)) ≡ window_page s len size bank w i
unfolding named_as
named_page s len size bank w i e names =
    split (eqb len 0)
    (λ t. rw (empty_page s len size bank w i t) (making_is_undone blank refl))
    (λ t.
    let h : 1 ≤ len = omega (arith, eqb-false len 0 t) in
    let k = page_start len size bank i / 1024 in
    rw (shown_page s len size bank w i h) (making_is_undone (page s k w) (names k (page_inside len size bank i h e))))

rom_named : (len k : ℕ) → len ≤ 1048576 → k * 1024 + 1024 ≤ len → named_as PrgRom k false ≡ true
unfolding named_as
rom_named len k m h = rw (lt-ltb k 1024 (omega arith))

ram_named : (len k : ℕ) (w : Bool) → len ≤ 65536 → k * 1024 + 1024 ≤ len → named_as PrgRam k w ≡ true
unfolding named_as
ram_named len k w m h = lt-ltb k 64 (omega arith)

chr_named : (len k : ℕ) (w : Bool) → len ≤ 1048576 → k * 1024 + 1024 ≤ len → named_as Chr k w ≡ true
unfolding named_as
chr_named len k w m h = lt-ltb k 1024 (omega arith)

pub rom_page : (len size bank i : ℕ) → len % 1024 ≡ 0 → len ≤ 1048576 → page_of (word_of (window_page PrgRom len size bank false i)) ≡ window_page PrgRom len size bank false i
rom_page len size bank i e m = named_page PrgRom len size bank false i e (λ k. rom_named len k m)

pub ram_page : (len size bank i : ℕ) (w : Bool) → len % 1024 ≡ 0 → len ≤ 65536 → page_of (word_of (window_page PrgRam len size bank w i)) ≡ window_page PrgRam len size bank w i
ram_page len size bank i w e m = named_page PrgRam len size bank w i e (λ k. ram_named len k w m)

pub chr_page_lem : (len size bank i : ℕ) (w : Bool) → len % 1024 ≡ 0 → len ≤ 1048576 → page_of (word_of (window_page Chr len size bank w i)) ≡ window_page Chr len size bank w i
chr_page_lem len size bank i w e m = named_page Chr len size bank w i e (λ k. chr_named len k w m)

-- A remainder by whole pages.
pub by_pages : (len x : ℕ) → 1 ≤ len → len % 1024 ≡ 0 → x % len ≡ x / 1024 % (len / 1024) * 1024 + x % 1024
by_pages len x h e =
    let whole : len ≡ len / 1024 * 1024 = omega arith in
    ap (λ (n : ℕ). x % n) whole ∙ mod-mul x {m = len / 1024} {c = 1024} (omega arith) (omega arith)

start_whole : (len size bank : ℕ) → size % 1024 ≡ 0 → window_start len size bank % 1024 ≡ 0
start_whole len size bank e =
    let b = bank % banks len size in
    let whole : size ≡ size / 1024 * 1024 = omega (arith, e) in
    let pages : b * size ≡ b * (size / 1024) * 1024 = ap (λ (n : ℕ). b * n) whole ∙ sym (mul_assoc b (size / 1024) 1024) in
    rw pages (omega arith)

pub aligned : (len size bank i : ℕ) → 1 ≤ len → size % 1024 ≡ 0 → len % 1024 ≡ 0 → page_start len size bank i % 1024 ≡ 0
unfolding page_start
aligned len size bank i h es el = rw (by_pages len (window_start len size bank + 1024 * i) h el) (omega (arith, start_whole len size bank es))
