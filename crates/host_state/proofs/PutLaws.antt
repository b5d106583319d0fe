-- One group put into the words of a state: the words of the state with that group. And every group put, whatever the words were: the words of the state.
use Prim.Native.Nat.{ℕ, zero, suc, ◌+◌, ◌≤◌}
use mathlib.Core.List.{List, [], ◌∷◌, ◌++◌, append-nil}
use mathlib.Core.Path.{◌≡◌, refl, sym, ap, ◌∙◌}
use native.Mathlib.Nat.{add-zero}
use native.Mathlib.Omega.{arith}
use lib.ListN.{length, get_or, set, take, drop, length-append, length-drop, drop_of_length-le}
use lib.Seq.{take_all, take_at, drop_at, set-append_left}
use Rattle.std.proofs.lemmas.List.{map-set}
use Rattle.memory.specs.declared.PageWord.{PageWord}
use Rattle.registers.specs.declared.Mirroring.{Mirroring}
use Rattle.registers.specs.declared.Regs.{Regs}
use Rattle.scanline.specs.declared.Detector.{Detector}
use Rattle.split.specs.declared.VSplit.{VSplit}
use Rattle.state.specs.declared.PpuStatus.{PpuStatus}
use Rattle.state.specs.declared.State.{State}
use Rattle.state.specs.With.{with_irq, with_ppu, with_regs, with_vsplit, with_chr_pages}
use Rattle.host_state.proofs.With.{with_mirroring, with_prg_banks, with_chr_banks, with_prg_pages}
use Rattle.host_state.specs.Put.{length_words, reg_words, region_words, split_words, irq_words, tile_words, set_words, status_words, mirroring_words, prg_bank_words, chr_bank_words, prg_page_words, chr_page_words, exram_words}
use Rattle.host_state.specs.Words.{page_number, numbers_of, numbers_at, words_of}
use Rattle.host_state.proofs.PartLaws.{numbers_length}

-- A list from a place on, element by element.
abbrev pub up_from : ℕ → ℕ → (ℕ → ℕ) → List ℕ
up_from k zero f = []
up_from k (suc n) f = f k ∷ up_from (k + 1) n f

front : (l : List ℕ) (k n : ℕ) (f : ℕ → ℕ) → n ≤ length l → ((i : ℕ) → f (k + i) ≡ get_or l i 0) → up_from k n f ++ drop n l ≡ l
front l k zero f h e = refl
front [] k (suc n) f h e = absurd (omega (arith, h))
front (x ∷ l) k (suc n) f h e =
    let first : f k ≡ x = ap f (sym (add-zero k)) ∙ e 0 in
    let rest : up_from (k + 1) n f ++ drop n l ≡ l = front l (k + 1) n f (omega (arith, h)) (λ (i : ℕ). ap f (omega arith) ∙ e (suc i)) in
    ap (λ (y : ℕ). y ∷ (up_from (k + 1) n f ++ drop n l)) first ∙ ap (λ (r : List ℕ). x ∷ r) rest

pub spelled : (l : List ℕ) (n : ℕ) → n ≤ length l → up_from 0 n (λ (i : ℕ). get_or l i 0) ++ drop n l ≡ l
spelled l n h = front l 0 n (λ (i : ℕ). get_or l i 0) h (λ (i : ℕ). ap (λ (j : ℕ). get_or l j 0) (omega arith))

-- Numbers, one group each.
pub irq_put : (s : State) (d : Detector) → irq_words (words_of s) d ≡ words_of (with_irq s d)
irq_put s d = refl

pub regs_put : (s : State) (g : Regs) → reg_words (words_of s) g ≡ words_of (with_regs s g)
regs_put s g = refl

pub status_put : (s : State) (p : PpuStatus) → status_words (words_of s) p ≡ words_of (with_ppu s p)
status_put s p = refl

pub split_put : (s : State) (v : VSplit) → split_words (words_of s) v ≡ words_of (with_vsplit s v)
split_put s v = refl

pub mirroring_put : (s : State) (m : Mirroring) → mirroring_words (words_of s) m ≡ words_of (with_mirroring s m)
mirroring_put s m = refl

-- The banks, element by element.
pub listed : (l : List ℕ) (n : ℕ) → length l ≡ n → up_from 0 n (λ (i : ℕ). get_or l i 0) ≡ l
listed l n e = sym (append-nil (up_from 0 n (λ (i : ℕ). get_or l i 0))) ∙ ap (λ (r : List ℕ). up_from 0 n (λ (i : ℕ). get_or l i 0) ++ r) (sym (drop_of_length-le l {i = n} (omega (arith, e)))) ∙ spelled l n (omega (arith, e))

pub prg_banks_put : (s : State) (b : List ℕ) → length b ≡ 5 → prg_bank_words (words_of s) b ≡ words_of (with_prg_banks s b)
prg_banks_put s b e = ap (prg_bank_words (words_of s)) (sym (listed b 5 e))

pub chr_banks_put : (s : State) (b : List ℕ) → length b ≡ 16 → chr_bank_words (words_of s) b ≡ words_of (with_chr_banks s b)
chr_banks_put s b e = ap (chr_bank_words (words_of s)) (sym (listed b 16 e))

-- What a fetch changes of a split and of a status, where it keeps the rest.
pub record KeepsSplit (v v' : VSplit) : Type 0 where
  pub mode : v'.mode ≡ v.mode
  pub enabled : v'.enabled ≡ v.enabled
  pub right : v'.right ≡ v.right
  pub tile : v'.tile ≡ v.tile
  pub scroll : v'.scroll ≡ v.scroll
  pub bank : v'.bank ≡ v.bank

pub record KeepsFlags (p p' : PpuStatus) : Type 0 where
  pub sprite8x16 : p'.sprite8x16 ≡ p.sprite8x16
  pub rendering : p'.rendering ≡ p.rendering
  pub bg_set : p'.bg_set ≡ p.bg_set
  pub bg_written : p'.bg_written ≡ p.bg_written

pub record KeepsTiles (p p' : PpuStatus) : Type 0 where
  pub sprite8x16 : p'.sprite8x16 ≡ p.sprite8x16
  pub rendering : p'.rendering ≡ p.rendering
  pub tile_number : p'.tile_number ≡ p.tile_number
  pub tile_cache : p'.tile_cache ≡ p.tile_cache

pub region_put : (s : State) (v : VSplit) → KeepsSplit s.vsplit v → region_words (words_of s) v ≡ words_of (with_vsplit s v)
region_put s v k = rw (k.enabled, k.right, k.mode, k.tile, k.scroll, k.bank)

pub tiles_put : (s : State) (p : PpuStatus) → KeepsFlags s.ppu p → tile_words (words_of s) p ≡ words_of (with_ppu s p)
tiles_put s p k = rw (k.sprite8x16, k.rendering, k.bg_set, k.bg_written)

pub set_put : (s : State) (p : PpuStatus) → KeepsTiles s.ppu p → set_words (words_of s) p ≡ words_of (with_ppu s p)
set_put s p k = rw (k.sprite8x16, k.rendering, k.tile_number, k.tile_cache)

-- The tables.
prg_over : (s : State) (rest : List ℕ) (pages : List PageWord) → length pages ≡ 64 → prg_page_words (numbers_at s rest) pages ≡ numbers_at s (numbers_of pages ++ drop 64 rest)
prg_over s rest pages e = ap (λ (l : List ℕ). numbers_at s (l ++ drop 64 rest)) (take_all 64 (numbers_of pages) (omega (arith, numbers_length pages 64 e)))

chr_over : (s : State) (front rest : List ℕ) (pages : List PageWord) → length front ≡ 64 → length rest ≡ 16 → length pages ≡ 16
    → chr_page_words (numbers_at s (front ++ rest)) pages ≡ numbers_at s (front ++ numbers_of pages)
chr_over s front rest pages ef er ep =
    let n = numbers_of pages in
    let none : drop 80 (front ++ rest) ≡ [] = drop_of_length-le (front ++ rest) {i = 80} (rw (length-append front rest, ef, er) (omega arith)) in
    ap (λ (l : List ℕ). numbers_at s (l ++ take 16 n ++ drop 80 (front ++ rest))) (take_at front rest 64 ef)
    ∙ ap (λ (l : List ℕ). numbers_at s (front ++ take 16 n ++ l)) none
    ∙ ap (numbers_at s) (append-nil (front ++ take 16 n))
    ∙ ap (λ (l : List ℕ). numbers_at s (front ++ l)) (take_all 16 n (omega (arith, numbers_length pages 16 ep)))

pub prg_pages_put : (s : State) (pages : List PageWord) → length s.prg_pages ≡ 64 → length pages ≡ 64 → prg_page_words (words_of s) pages ≡ words_of (with_prg_pages s pages)
prg_pages_put s pages es e =
    prg_over s (numbers_of s.prg_pages ++ numbers_of s.chr_pages) pages e
    ∙ ap (λ (l : List ℕ). numbers_at s (numbers_of pages ++ l)) (drop_at (numbers_of s.prg_pages) (numbers_of s.chr_pages) 64 (numbers_length s.prg_pages 64 es))

pub chr_pages_put : (s : State) (pages : List PageWord) → length s.prg_pages ≡ 64 → length s.chr_pages ≡ 16 → length pages ≡ 16 → chr_page_words (words_of s) pages ≡ words_of (with_chr_pages s pages)
chr_pages_put s pages ep ec e = chr_over s (numbers_of s.prg_pages) (numbers_of s.chr_pages) pages (numbers_length s.prg_pages 64 ep) (numbers_length s.chr_pages 16 ec) e

pub exram_put : (s : State) (x : PageWord) → length s.prg_pages ≡ 64 → exram_words (words_of s) x ≡ words_of (with_prg_pages s (set s.prg_pages 23 x))
exram_put s x e =
    ap (numbers_at s) (set-append_left (numbers_of s.prg_pages) (numbers_of s.chr_pages) 23 x.0 (omega (arith, numbers_length s.prg_pages 64 e)))
    ∙ ap (λ (l : List ℕ). numbers_at s (l ++ numbers_of s.chr_pages)) (sym (map-set page_number s.prg_pages 23 x))

-- Every group, over any words.
numbers_put : (s : State) (l rest : List ℕ) (f : ℕ → ℕ) → l ≡ up_from 0 64 f ++ rest → length s.prg_banks ≡ 5 → length s.chr_banks ≡ 16
    → set (chr_bank_words (prg_bank_words (mirroring_words (status_words (irq_words (split_words (reg_words (length_words l s.lengths) s.regs) s.vsplit) s.irq) s.ppu) s.screen.mirroring) s.prg_banks) s.chr_banks) 63 0
    ≡ numbers_at s rest
numbers_put s l rest f e ep ec = rw (e, ← listed s.prg_banks 5 ep, ← listed s.chr_banks 16 ec)

whole_put : (s : State) (l w : List ℕ) → length l ≡ 144 → length s.prg_banks ≡ 5 → length s.chr_banks ≡ 16 → length s.prg_pages ≡ 64 → length s.chr_pages ≡ 16
    → w ≡ set (chr_bank_words (prg_bank_words (mirroring_words (status_words (irq_words (split_words (reg_words (length_words l s.lengths) s.regs) s.vsplit) s.irq) s.ppu) s.screen.mirroring) s.prg_banks) s.chr_banks) 63 0
    → chr_page_words (prg_page_words w s.prg_pages) s.chr_pages ≡ words_of s
whole_put s l w e eb ecb ep ec ew =
    let rest = drop 64 l in
    let numbers : w ≡ numbers_at s rest = ew ∙ numbers_put s l rest (λ (i : ℕ). get_or l i 0) (sym (spelled l 64 (omega (arith, e)))) eb ecb in
    let sixteen : length (drop 64 rest) ≡ 16 = rw (length-drop 64 rest, length-drop 64 l, e) in
    ap (λ (x : List ℕ). chr_page_words (prg_page_words x s.prg_pages) s.chr_pages) numbers
    ∙ ap (λ (x : List ℕ). chr_page_words x s.chr_pages) (prg_over s rest s.prg_pages ep)
    ∙ chr_over s (numbers_of s.prg_pages) (drop 64 rest) s.chr_pages (numbers_length s.prg_pages 64 ep) sixteen ec

-- The same, step by step.
pub steps_put : (s : State) (l a b c d e f g h x y : List ℕ) → length l ≡ 144 → length s.prg_banks ≡ 5 → length s.chr_banks ≡ 16 → length s.prg_pages ≡ 64 → length s.chr_pages ≡ 16
    → a ≡ length_words l s.lengths → b ≡ reg_words a s.regs → c ≡ split_words b s.vsplit → d ≡ irq_words c s.irq → e ≡ status_words d s.ppu → f ≡ mirroring_words e s.screen.mirroring
    → g ≡ prg_bank_words f s.prg_banks → h ≡ chr_bank_words g s.chr_banks → x ≡ prg_page_words (set h 63 0) s.prg_pages → y ≡ chr_page_words x s.chr_pages → y ≡ words_of s
steps_put s l a b c d e f g h x y el en em ep ec ea eb ec' ed ee ef eg eh ex ey =
    let over : set h 63 0 ≡ _ = ap (λ (w : List ℕ). set w 63 0)
    (eh ∙ ap (λ (w : List ℕ). chr_bank_words w s.chr_banks)
    (eg ∙ ap (λ (w : List ℕ). prg_bank_words w s.prg_banks)
    (ef ∙ ap (λ (w : List ℕ). mirroring_words w s.screen.mirroring)
    (ee ∙ ap (λ (w : List ℕ). status_words w s.ppu)
    (ed ∙ ap (λ (w : List ℕ). irq_words w s.irq)
    (ec' ∙ ap (λ (w : List ℕ). split_words w s.vsplit)
    (eb ∙ ap (λ (w : List ℕ). reg_words w s.regs) ea))))))) in
    ey ∙ ap (λ (w : List ℕ). chr_page_words w s.chr_pages) ex ∙ whole_put s l (set h 63 0) el en em ep ec over
