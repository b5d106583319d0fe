-- Eight pages, each after the page before it: page i starts at `at`, and the words before it stand.
use Rattle.std.proofs.Common.{◌≡◌, ℕ, ◌<◌, ◌≤◌, length, get_or}
use Rattle.memory.specs.PageWords.{word}
use Rattle.memory.specs.Windows.{page_start, window_word}
use Rattle.memory.proofs.windows.prg_window.Given as goal

abbrev pub invariant-loop-page : goal.invariant-loop-page
invariant-loop-page l =
    (1 ≤ l.len) × (l.at ≡ page_start l.len 8192 l.bank l.page-index) × (length l.page-items ≡ 8) × ((k : ℕ) → k < l.page-index → get_or l.page-items k (word 0) ≡ window_word l.src l.len l.bank l.writable k)
