-- Mapping puts into a page table only what the table may show.
use Prim.Native.Nat.{ℕ, zero, suc, ◌+◌, ◌*◌, ◌/◌, ◌%◌, ◌≤◌}
use mathlib.Core.Bool.{Bool, true, false, ◌||◌, not}
use mathlib.Core.List.{List, [], ◌∷◌, map}
use mathlib.Core.Path.{◌≡◌, refl}
use native.Mathlib.Omega.{arith}
use borrow.Author.Tests.{le-leb, lt-ltb, eq-eqb, eqb-true, eqb-false}
use lib.Dec.{eqb, leb, ltb}
use lib.ListN.{get_or, set}
use Rattle.memory.specs.declared.Page.{Page}
use Rattle.memory.specs.declared.PageWord.{PageWord}
use Rattle.memory.specs.declared.Src.{Src}
use Rattle.memory.specs.declared.Src.TheVariants.{PrgRom, PrgRam, Chr, CiRam, ExRam}
use Rattle.memory.specs.Tests.{all}
use Rattle.memory.specs.Tables.{prg_may_hold, prg_may_hold_as, chr_may_hold, chr_may_hold_as, prg_table_ok, chr_table_ok}
use Rattle.memory.specs.Windows.{page_start, window_page, window_word, chr_window}
use Rattle.memory.specs.PageWords.{word, page, blank, word_of, page_of}
use Rattle.memory.specs.Named.{named, named_as}
use Rattle.memory.proofs.Tests.{split, and_left, and_right, and_both, pick_keeps}
use Rattle.memory.proofs.WindowLaws.{page_inside, shown_page}
use Rattle.memory.proofs.WordLaws.{making_is_undone}
use Rattle.registers.specs.declared.Regs.{Regs}
use Rattle.registers.specs.Registers.{unlocked}
use Rattle.banks.specs.Chr.{chr_number, chr_mapped}
use Rattle.banks.specs.Names.{selector, name_page, names_mapped}
use Rattle.banks.specs.Prg.{ram_bank, prg_values, prg_value_pages, page_from6000, prg_mapped, exram_page}
use Rattle.banks.proofs.PlacedLaws.{all_set, all_placed}

-- A test of a page that has a word holds of the page that the word names.
of_word : (t : Page → Bool) (p : Page) → named p ≡ true → t p ≡ true → t (page_of (word_of p)) ≡ true
of_word t p n h = rw (making_is_undone p n) h

empty_maps_blank : (s : Src) (len size bank : ℕ) (w : Bool) (i : ℕ) → len ≡ 0 → window_page s len size bank w i ≡ blank
unfolding window_page
empty_maps_blank s len size bank w i e = rw (eq-eqb len 0 e)

-- PRG-ROM's pages.
rom_shows : (prg ram bank i : ℕ) → 1 ≤ prg → prg % 1024 ≡ 0 → prg ≤ 1048576 → prg_may_hold prg ram (page_of (window_word PrgRom prg bank false i)) ≡ true
unfolding named_as prg_may_hold_as
rom_shows prg ram bank i h e m =
    let k = page_start prg 8192 bank i / 1024 in
    let inside : k * 1024 + 1024 ≤ prg = page_inside prg 8192 bank i h e in
    rw (shown_page PrgRom prg 8192 bank false i h)
    (of_word (prg_may_hold prg ram) (page PrgRom k false) (rw (lt-ltb k 1024 (omega arith))) (rw (le-leb (k * 1024 + 1024) prg inside)))

-- PRG-RAM's pages; an empty one is blank.
ram_shows : (prg ram bank i : ℕ) (w : Bool) → ram % 1024 ≡ 0 → ram ≤ 65536 → prg_may_hold prg ram (page_of (window_word PrgRam ram bank w i)) ≡ true
unfolding named_as prg_may_hold_as
ram_shows prg ram bank i w e m =
    split (eqb ram 0)
    (λ t. rw (empty_maps_blank PrgRam ram 8192 bank w i (eqb-true ram 0 t)) (of_word (prg_may_hold prg ram) blank refl refl))
    (λ t.
    let h : 1 ≤ ram = omega (arith, eqb-false ram 0 t) in
    let k = page_start ram 8192 bank i / 1024 in
    let inside : k * 1024 + 1024 ≤ ram = page_inside ram 8192 bank i h e in
    rw (shown_page PrgRam ram 8192 bank w i h)
    (of_word (prg_may_hold prg ram) (page PrgRam k w) (lt-ltb k 64 (omega arith)) (le-leb (k * 1024 + 1024) ram inside)))

not_or : (b : Bool) → not b || b ≡ true
not_or true = refl
not_or false = refl

-- CHR's pages, marked writable as load took them.
chr_window_shows : (chr n : ℕ) (as_ram : Bool) → chr % 1024 ≡ 0 → chr ≤ 1048576 → chr_may_hold chr as_ram (page_of (chr_window Chr chr n as_ram)) ≡ true
unfolding named_as chr_may_hold_as
chr_window_shows chr n as_ram e m =
    split (eqb chr 0)
    (λ t. rw (empty_maps_blank Chr chr 1024 n as_ram 0 (eqb-true chr 0 t)) (of_word (chr_may_hold chr as_ram) blank refl refl))
    (λ t.
    let h : 1 ≤ chr = omega (arith, eqb-false chr 0 t) in
    let k = page_start chr 1024 n 0 / 1024 in
    let inside : k * 1024 + 1024 ≤ chr = page_inside chr 1024 n 0 h e in
    rw (shown_page Chr chr 1024 n as_ram 0 h)
    (of_word (chr_may_hold chr as_ram) (page Chr k as_ram) (lt-ltb k 1024 (omega arith)) (rw (le-leb (k * 1024 + 1024) chr inside) (not_or as_ram))))

-- Lists: a test of all elements of a mapped list, and of an element of a list that passes, or of the default.
all_map : {A B : Type 0} (t : B → Bool) (f : A → B) (l : List A) → ((x : A) → t (f x) ≡ true) → all t (map f l) ≡ true
unfolding all
all_map t f [] h = refl
all_map t f (x ∷ l) h = and_both (t (f x)) (all t (map f l)) (h x) (all_map t f l h)

all_get_d : {A : Type 0} (t : A → Bool) (l : List A) (k : ℕ) (d : A) → all t l ≡ true → t d ≡ true → t (get_or l k d) ≡ true
unfolding all
all_get_d t [] k d e h = h
all_get_d t (x ∷ l) zero d e h = and_left (t x) (all t l) e
all_get_d t (x ∷ l) (suc k) d e h = all_get_d t l k d (and_right (t x) (all t l) e) h

-- What the lengths are, as far as mapping asks.
pub record Mappable (prg chr ram : ℕ) : Type 0 where
  pub prg_least : 1 ≤ prg
  pub prg_whole : prg % 1024 ≡ 0
  pub prg_most : prg ≤ 1048576
  pub chr_whole : chr % 1024 ≡ 0
  pub chr_most : chr ≤ 1048576
  pub ram_whole : ram % 1024 ≡ 0
  pub ram_most : ram ≤ 65536

module _ (prg chr ram : ℕ) (m : Mappable prg chr ram) where
  abbrev in_prg : PageWord → Bool
  in_prg w = prg_may_hold prg ram (page_of w)

  blank_in_prg : in_prg (word 0) ≡ true
  unfolding page_of prg_may_hold_as
  blank_in_prg = refl

  shown_in_prg : (free : Bool) (v : ℕ) → all in_prg (prg_value_pages prg ram free v) ≡ true
  unfolding prg_value_pages
  shown_in_prg free v =
      pick_keeps (λ (l : List PageWord). all in_prg l ≡ true) (leb 128 v)
      (all_map in_prg (window_word PrgRom prg (v % 128) false) (0 ∷ 1 ∷ 2 ∷ 3 ∷ 4 ∷ 5 ∷ 6 ∷ 7 ∷ []) (λ i. rom_shows prg ram (v % 128) i m.prg_least m.prg_whole m.prg_most))
      (all_map in_prg (window_word PrgRam ram (ram_bank v) free) (0 ∷ 1 ∷ 2 ∷ 3 ∷ 4 ∷ 5 ∷ 6 ∷ 7 ∷ []) (λ i. ram_shows prg ram (ram_bank v) i free m.ram_whole m.ram_most))

  pub prg_keeps : (g : Regs) (b : List ℕ) (pages : List PageWord) → prg_table_ok prg ram pages ≡ true → prg_table_ok prg ram (prg_mapped prg ram g b pages) ≡ true
  prg_keeps g b pages h =
      let shown : ℕ → ℕ = λ (k : ℕ). get_or (prg_values g.prg_mode b) (k / 8) 0 in
      all_placed in_prg pages 24 (page_from6000 prg ram (unlocked g) (prg_values g.prg_mode b)) 40 h
      (λ k. all_get_d in_prg (prg_value_pages prg ram (unlocked g) (shown k)) (k % 8) (word 0) (shown_in_prg (unlocked g) (shown k)) blank_in_prg)

  pub exram_keeps : (mode : ℕ) (pages : List PageWord) → prg_table_ok prg ram pages ≡ true → prg_table_ok prg ram (set pages 23 (exram_page mode)) ≡ true
  unfolding exram_page named_as prg_may_hold_as
  exram_keeps mode pages h =
      all_set in_prg pages 23 (exram_page mode) h
      (pick_keeps (λ (w : PageWord). in_prg w ≡ true) (ltb mode 2) (of_word (prg_may_hold prg ram) blank refl refl) (of_word (prg_may_hold prg ram) (page ExRam 0 (eqb mode 2)) refl refl))

  pub chr_keeps : (as_ram : Bool) (g : Regs) (b : List ℕ) (bg : Bool) (pages : List PageWord) → chr_table_ok chr as_ram pages ≡ true → chr_table_ok chr as_ram (chr_mapped chr as_ram g b bg pages) ≡ true
  unfolding chr_mapped
  chr_keeps as_ram g b bg pages h =
      all_placed (λ (w : PageWord). chr_may_hold chr as_ram (page_of w)) pages 0 (λ (k : ℕ). chr_window Chr chr (chr_number g b bg k) as_ram) 8 h
      (λ k. chr_window_shows chr (chr_number g b bg k) as_ram m.chr_whole m.chr_most)

  name_shows : (as_ram : Bool) (s : ℕ) (as_name : Bool) → chr_may_hold chr as_ram (page_of (name_page s as_name)) ≡ true
  unfolding name_page named_as chr_may_hold_as
  name_shows as_ram s as_name =
      let empty = of_word (chr_may_hold chr as_ram) blank refl refl in
      pick_keeps (λ (w : PageWord). chr_may_hold chr as_ram (page_of w) ≡ true) (eqb s 0) (of_word (chr_may_hold chr as_ram) (page CiRam 0 true) refl refl)
      (pick_keeps (λ (w : PageWord). chr_may_hold chr as_ram (page_of w) ≡ true) (eqb s 1) (of_word (chr_may_hold chr as_ram) (page CiRam 1 true) refl refl)
      (pick_keeps (λ (w : PageWord). chr_may_hold chr as_ram (page_of w) ≡ true) (eqb s 2)
      (pick_keeps (λ (w : PageWord). chr_may_hold chr as_ram (page_of w) ≡ true) as_name (of_word (chr_may_hold chr as_ram) (page ExRam 0 true) refl refl) empty)
      empty))

  pub names_keep : (as_ram : Bool) (n : ℕ) (as_name : Bool) (pages : List PageWord) → chr_table_ok chr as_ram pages ≡ true → chr_table_ok chr as_ram (names_mapped n as_name pages) ≡ true
  unfolding names_mapped
  names_keep as_ram n as_name pages h =
      all_placed (λ (w : PageWord). chr_may_hold chr as_ram (page_of w)) pages 8 (λ (k : ℕ). name_page (selector n k) as_name) 8 h (λ k. name_shows as_ram (selector n k) as_name)
