-- Windows, over their size. 01, module 2: "For a PRG window of 8,192: banks = max(1, length / 8,192); start = (bank mod banks) x 8,192; page i
-- starts at (start + 1,024 i) mod length. CHR windows are one page, number mod pages. An empty buffer maps blank."
use Rattle.std.specs.Prelude.{ℕ, ◌+◌, ◌*◌, ◌/◌, ◌%◌, max, Bool, List, [], ◌∷◌, map, ◌==◌}
use Rattle.memory.specs.declared.Page.{Page}
use Rattle.memory.specs.declared.PageWord.{PageWord}
use Rattle.memory.specs.declared.Src.{Src}
use Rattle.memory.specs.Tests.{pick}
use Rattle.memory.specs.PageWords.{page, blank, word_of}

-- "banks = max(1, length / 8,192)"
abbrev pub banks : ℕ → ℕ → ℕ
banks len size = max 1 (len / size)

-- "start = (bank mod banks) x 8,192"
abbrev pub window_start : ℕ → ℕ → ℕ → ℕ
window_start len size bank = (bank % banks len size) * size

-- "page i starts at (start + 1,024 i) mod length"
unfoldable pub page_start : ℕ → ℕ → ℕ → ℕ → ℕ
page_start len size bank i = (window_start len size bank + 1024 * i) % len

-- Page i of a window. "An empty buffer maps blank."
unfoldable pub window_page : Src → ℕ → ℕ → ℕ → Bool → ℕ → Page
window_page s len size bank w i = pick (len == 0) blank (page s (page_start len size bank i / 1024) w)

-- "For a PRG window of 8,192": its eight page words.
abbrev pub window_word : Src → ℕ → ℕ → Bool → ℕ → PageWord
window_word s len bank w i = word_of (window_page s len 8192 bank w i)

abbrev pub prg_window : Src → ℕ → ℕ → Bool → List PageWord
prg_window s len bank w = map (window_word s len bank w) (0 ∷ 1 ∷ 2 ∷ 3 ∷ 4 ∷ 5 ∷ 6 ∷ 7 ∷ [])

-- "CHR windows are one page": its page word. That the page is "number mod pages" is `one_page_window` of `proofs/WindowLaws.antt`.
abbrev pub chr_window : Src → ℕ → ℕ → Bool → PageWord
chr_window s len number w = word_of (window_page s len 1024 number w 0)
