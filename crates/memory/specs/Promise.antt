-- What is promised of pages, over every page, buffer and window size: pinned by the contract of `promises`.
use Rattle.std.specs.Prelude.{◌≡◌, ℕ, ◌+◌, ◌*◌, ◌/◌, ◌%◌, ◌≤◌, Bool, true, false}
use Rattle.memory.specs.declared.Page.{Page}
use Rattle.memory.specs.declared.Src.TheVariants.{PrgRom, PrgRam, Chr}
use Rattle.memory.specs.PageWords.{word_of, page_of}
use Rattle.memory.specs.Named.{named}
use Rattle.memory.specs.Windows.{page_start, window_page}

pub record Pages : Type 0 where
  -- taking a word apart undoes making it
  pub undone : (p : Page) → named p ≡ true → page_of (word_of p) ≡ p
  -- two different pages have different words
  pub apart : (p q : Page) → named p ≡ true → named q ≡ true → word_of p ≡ word_of q → p ≡ q
  -- the page that a window shows lies whole in its buffer, for every window size
  pub inside : (len size bank i : ℕ) → 1 ≤ len → len % 1024 ≡ 0 → page_start len size bank i / 1024 * 1024 + 1024 ≤ len
  -- 01, module 2: "CHR windows are one page, number mod pages."
  pub one_page : (len number : ℕ) → 1 ≤ len → len % 1024 ≡ 0 → page_start len 1024 number 0 / 1024 ≡ number % (len / 1024)
  -- the word of a window's page names that page, of buffers as long as 01 lets them be, so that a reader may take one for the other
  pub rom : (len size bank i : ℕ) → len % 1024 ≡ 0 → len ≤ 1048576 → page_of (word_of (window_page PrgRom len size bank false i)) ≡ window_page PrgRom len size bank false i
  pub ram : (len size bank i : ℕ) (w : Bool) → len % 1024 ≡ 0 → len ≤ 65536 → page_of (word_of (window_page PrgRam len size bank w i)) ≡ window_page PrgRam len size bank w i
  pub chr : (len size bank i : ℕ) (w : Bool) → len % 1024 ≡ 0 → len ≤ 1048576 → page_of (word_of (window_page Chr len size bank w i)) ≡ window_page Chr len size bank w i
  -- a page starts at a multiple of 1,024: its number says where
  pub aligned : (len size bank i : ℕ) → 1 ≤ len → size % 1024 ≡ 0 → len % 1024 ≡ 0 → page_start len size bank i % 1024 ≡ 0
