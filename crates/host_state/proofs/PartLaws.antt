-- A table's part of the words: its places, and its length.
use Prim.Native.Nat.{ℕ, ◌+◌, ◌<◌, ◌≤◌}
use mathlib.Core.List.{List}
use mathlib.Core.Path.{◌≡◌, sym, ap, ◌∙◌}
use native.Mathlib.Omega.{arith}
use lib.ListN.{length, take, drop, get_or, length-drop, length-map, get_or-map}
use lib.Seq.{length-take-le, get_or-take, get_or-drop}
use Rattle.memory.specs.declared.PageWord.{PageWord}
use Rattle.memory.specs.PageWords.{word}
use Rattle.host_state.specs.Words.{page_number, pages_of, numbers_of}

pub part_at : (w : List ℕ) (from n i : ℕ) → i < n → get_or (take n (drop from w)) i 0 ≡ get_or w (from + i) 0
part_at w from n i h = get_or-take n (drop from w) i 0 h ∙ get_or-drop from w i 0

pub part_length : (w : List ℕ) (from n : ℕ) → from + n ≤ length w → length (take n (drop from w)) ≡ n
part_length w from n h = length-take-le n (drop from w) (rw (length-drop from w) (omega (arith, h)))

-- A page word of a table is its number's.
pub page_at : (w : List ℕ) (from n i : ℕ) → i < n → word (get_or w (from + i) 0) ≡ get_or (pages_of (take n (drop from w))) i (word 0)
page_at w from n i h = ap word (sym (part_at w from n i h)) ∙ sym (get_or-map word (take n (drop from w)) i 0)

pub numbers_length : (pages : List PageWord) (n : ℕ) → length pages ≡ n → length (numbers_of pages) ≡ n
numbers_length pages n e = length-map pages page_number ∙ e
