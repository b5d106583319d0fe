-- Laws of page words: taking apart undoes making, and two different pages have different words.
use Rattle.std.proofs.Common.{◌≡◌, ℕ, Bool, true, false, sym, refl, ap, ◌∙◌, arith}
use mir.Val.{bool_byte}
use Rattle.std.proofs.lemmas.Grind.{common_steps}
use Rattle.memory.specs.declared.Page.{Page}
use Rattle.memory.specs.declared.Src.{Src}
use Rattle.memory.specs.declared.Src.TheVariants.{Blank, PrgRom, PrgRam, Chr, CiRam, ExRam}
use Rattle.memory.specs.Bits.{as_bit}
use Rattle.memory.specs.PageWords.{page, word_number, word_of, page_of}
use Rattle.memory.specs.Named.{named, named_as}

-- A bool as a number.
pub bit_is : (b : Bool) → bool_byte b ≡ as_bit b
bit_is true = refl
bit_is false = refl

-- By source: the page's number lies in its own run of words alone, and gives the page back.
undone : (s : Src) (i : ℕ) (w : Bool) → named_as s i w ≡ true → page_of (word_of (page s i w)) ≡ page s i w
unfolding named_as word_number page_of
undone Blank i w h = grind (arith, common_steps)
undone ExRam i w h = grind (arith, common_steps)
undone PrgRom i w h = grind (arith, common_steps)
undone PrgRam i w h = grind (arith, common_steps)
undone Chr i true h = grind (arith, common_steps)
undone Chr i false h = grind (arith, common_steps)
undone CiRam i w h = grind (arith, common_steps)

-- Taking apart undoes making: a page that has a word is what its word names.
pub making_is_undone : (p : Page) → named p ≡ true → page_of (word_of p) ≡ p
making_is_undone p h = undone p.src p.index p.writable h

-- Two different pages have different words.
pub words_differ : (p q : Page) → named p ≡ true → named q ≡ true → word_of p ≡ word_of q → p ≡ q
words_differ p q hp hq e = sym (making_is_undone p hp) ∙ (ap page_of e ∙ making_is_undone q hq)
