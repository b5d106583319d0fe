-- PRG, end to end: the page that stands at an address of a window, by the value that the window shows; the byte that it answers, and a store through it;
-- then that a call behind an open gate is just that. `prg_bytes` is the theorem.
use Prim.Native.Nat.{ℕ, zero, suc, ◌+◌, ◌*◌, ◌/◌, ◌%◌, ◌<◌, ◌≤◌, max}
use mathlib.Core.Bool.{Bool, true, false, ◌&&◌, not, false≢true}
use mathlib.Core.List.{List, [], ◌∷◌, map}
use mathlib.Core.Path.{◌≡◌, refl, ap, ◌∙◌}
use native.Mathlib.Omega.{arith}
use borrow.Author.Tests.{eqb-true, eqb-false, ne_eqb, lt-leb, le-leb, leb-true, leb-false}
use lib.Dec.{eqb, leb}
use lib.ListN.{length, get_or}
use lib.Seq.{get_or-set_same}
use Rattle.memory.specs.declared.Page.{Page}
use Rattle.memory.specs.declared.PageWord.{PageWord}
use Rattle.memory.specs.declared.Src.{Src}
use Rattle.memory.specs.declared.Src.TheVariants.{PrgRom, PrgRam}
use Rattle.memory.specs.Bytes.{Mem, byte_at, stored_at, page_stored}
use Rattle.memory.specs.PageWords.{word, page, page_of}
use Rattle.memory.specs.Tests.{pick}
use Rattle.memory.specs.Windows.{page_start, window_page, window_word}
use Rattle.memory.proofs.Tests.{split}
use Rattle.memory.proofs.NamedLaws.{empty_page, by_pages, rom_page, ram_page}
use Rattle.memory.proofs.WindowLaws.{page_inside, shown_page}
use Rattle.answers.specs.declared.Answer.TheVariants.{Page as FromPage}
use Rattle.registers.specs.Registers.{unlocked, written}
use Rattle.banks.specs.Placed.{placed}
use Rattle.banks.specs.Prg.{prg_values, prg_value_pages, page_from6000, prg_mapped}
use Rattle.state.specs.declared.State.{State}
use Rattle.state.specs.Gate.{Open, gate_mem}
use Rattle.state.proofs.GateLaws.{open_in_range, open_same_lengths, range_lengths}
use Rattle.state.proofs.SizeLaws.{lengths_say}
use Rattle.cpu.specs.Groups.{prg_banks_after}
use Rattle.cpu.specs.Reads.{page_answer}
use Rattle.cpu.specs.Writes.{maps_prg, prg_pages_after, prg_word_at, latched, register_written, cpu_stored}
use Rattle.board.specs.CpuSide.{cpu_read, cpu_write}
use Rattle.theorems_promises.proofs.Promised.{gate_stays_open}
use Rattle.theorems_bytes.specs.Taken.{Taken, read_at, bank_byte}
use Rattle.theorems_bytes.specs.Prg.{in_window, value_at, value_byte, PrgBytes}
use Rattle.theorems_bytes.proofs.Behind.{entry_inside, past, past_all, Recorded, recorded, write_is, read_is}

-- Tables -----------------------------------------------------------------------------------------------------------------------------

-- Page i of window w.
window_entry : (prg ram : ℕ) (writable : Bool) (values : List ℕ) (pages : List PageWord) (w i : ℕ) → w < 5 → i < 8 → 64 ≤ length pages
    → get_or (placed pages 24 (page_from6000 prg ram writable values) 40) (24 + (8 * w + i)) (word 0) ≡ get_or (prg_value_pages prg ram writable (get_or values w 0)) i (word 0)
window_entry prg ram writable values pages w i h k e =
    let window : (8 * w + i) / 8 ≡ w = omega arith in
    let inside : (8 * w + i) % 8 ≡ i = omega arith in
    entry_inside pages 24 (page_from6000 prg ram writable values) 40 (8 * w + i) (word 0) (omega arith) (omega (arith, e)) ∙ rw (window, inside)

-- An entry of a function's values at the numbers in a row.
abbrev row : ℕ → ℕ → List ℕ
row at zero = []
row at (suc n) = at ∷ row (suc at) n

row_mapped : {A : Type 0} (f : ℕ → A) (at n i : ℕ) (d : A) → i < n → get_or (map f (row at n)) i d ≡ f (at + i)
row_mapped f at zero i d h = absurd (omega (arith, h))
row_mapped f at (suc n) zero d h = ap f (omega arith)
row_mapped f at (suc n) (suc i) d h = row_mapped f (suc at) n i d (omega (arith, h)) ∙ ap f (omega arith)

eight_mapped : {A : Type 0} (f : ℕ → A) (i : ℕ) (d : A) → i < 8 → get_or (map f (0 ∷ 1 ∷ 2 ∷ 3 ∷ 4 ∷ 5 ∷ 6 ∷ 7 ∷ [])) i d ≡ f i
eight_mapped f i d h = row_mapped f 0 8 i d h ∙ ap f (omega arith)

-- Pages ------------------------------------------------------------------------------------------------------------------------------

-- The page of a window that shows a value.
unfoldable value_page : ℕ → ℕ → Bool → ℕ → ℕ → Page
value_page prg ram writable v i = pick (leb 128 v) (window_page PrgRom prg 8192 (v % 128) false i) (window_page PrgRam ram 8192 (v % 8) writable i)

-- The lengths as far as this asks.
record Sized (prg ram : ℕ) : Type 0 where
  prg_whole : prg % 1024 ≡ 0
  prg_most : prg ≤ 1048576
  ram_whole : ram % 1024 ≡ 0
  ram_most : ram ≤ 65536

value_page_lem : (prg ram : ℕ) → Sized prg ram → (writable : Bool) (v i : ℕ) → i < 8 → page_of (get_or (prg_value_pages prg ram writable v) i (word 0)) ≡ value_page prg ram writable v i
unfolding prg_value_pages value_page
value_page_lem prg ram z writable v i h =
    split (leb 128 v)
    (λ t. rw (t, eight_mapped (window_word PrgRom prg (v % 128) false) i (word 0) h) (rom_page prg 8192 (v % 128) i z.prg_whole z.prg_most))
    (λ t. rw (t, eight_mapped (window_word PrgRam ram (v % 8) writable) i (word 0) h) (ram_page ram 8192 (v % 8) i writable z.ram_whole z.ram_most))

-- The page at an address of window w.
mapped_page : (prg ram : ℕ) → Sized prg ram → (writable : Bool) (values : List ℕ) (pages : List PageWord) → length pages ≡ 64 → (w o : ℕ) → w < 5 → o < 8192
    → page_of (prg_word_at (placed pages 24 (page_from6000 prg ram writable values) 40) (in_window w o)) ≡ value_page prg ram writable (get_or values w 0) (o / 1024)
mapped_page prg ram z writable values pages e w o hw ho =
    let at : in_window w o / 1024 ≡ 24 + (8 * w + o / 1024) = omega arith in
    rw (at, window_entry prg ram writable values pages w (o / 1024) hw (omega arith) (omega (arith, e)))
    (value_page_lem prg ram z writable (get_or values w 0) (o / 1024) (omega arith))

-- Bytes ------------------------------------------------------------------------------------------------------------------------------

-- The byte of a page, counted from the window's start: pages wrap as bytes do.
wrapped : (len n o : ℕ) → 1 ≤ len → len % 1024 ≡ 0 → (n * 8192 + 1024 * (o / 1024)) % len / 1024 * 1024 + o % 1024 ≡ (n * 8192 + o) % len
wrapped len n o h e =
    let x = n * 8192 + 1024 * (o / 1024) in
    let y = n * 8192 + o in
    let same : x / 1024 ≡ y / 1024 = omega arith in
    let none : x % 1024 ≡ 0 = omega arith in
    let rest : y % 1024 ≡ o % 1024 = omega arith in
    rw (by_pages len x h e, by_pages len y h e, same, none, rest) (omega arith)

window_offset : (len bank o a : ℕ) → 1 ≤ len → len % 1024 ≡ 0 → a % 1024 ≡ o % 1024
    → page_start len 8192 bank (o / 1024) / 1024 * 1024 + a % 1024 ≡ (bank % max 1 (len / 8192) * 8192 + o) % len
unfolding page_start
window_offset len bank o a h e low = rw low (wrapped len (bank % max 1 (len / 8192)) o h e)

module _ (m : Mem) (o a : ℕ) (low : a % 1024 ≡ o % 1024) where
  -- A buffer's window answers its bank's byte, where a page of the source answers the buffer's.
  bank_answers : (s : Src) (buffer : List ℕ) (bank : ℕ) (w : Bool) → ((k : ℕ) → page_answer m (page s k w) a ≡ FromPage (get_or buffer (k * 1024 + a % 1024) 0))
      → length buffer % 1024 ≡ 0 → page_answer m (window_page s (length buffer) 8192 bank w (o / 1024)) a ≡ bank_byte buffer bank o
  unfolding page_answer
  bank_answers s buffer bank w shows e =
      split (eqb (length buffer) 0)
      (λ t. rw (empty_page s (length buffer) 8192 bank w (o / 1024) t, t))
      (λ t.
      let h : 1 ≤ length buffer = omega (arith, eqb-false (length buffer) 0 t) in
      rw (shown_page s (length buffer) 8192 bank w (o / 1024) h, t, ← window_offset (length buffer) bank o a h e low) (shows (page_start (length buffer) 8192 bank (o / 1024) / 1024)))

  value_answers : Sized (length m.prg) (length m.ram) → (writable : Bool) (v : ℕ)
      → page_answer m (value_page (length m.prg) (length m.ram) writable v (o / 1024)) a ≡ value_byte m v o
  unfolding value_page page_answer byte_at
  value_answers z writable v =
      split (leb 128 v)
      (λ t. rw t (bank_answers PrgRom m.prg (v % 128) false (λ _. refl) z.prg_whole))
      (λ t. rw t (bank_answers PrgRam m.ram (v % 8) writable (λ _. refl) z.ram_whole))

  -- A store through the page: RAM that is unlocked and not empty takes it, and answers it.
  locked_keeps : (s : Src) (len bank n : ℕ) → page_stored m (window_page s len 8192 bank false (o / 1024)) a n ≡ m
  unfolding page_stored window_page
  locked_keeps s len bank n = split (eqb len 0) (λ t. rw t) (λ t. rw t)

  ram_stored : (bank : ℕ) (writable : Bool) (n : ℕ) → length m.ram % 1024 ≡ 0
      → let p = window_page PrgRam (length m.ram) 8192 bank writable (o / 1024) in
      page_answer (page_stored m p a n) p a ≡ pick (writable && leb 1 (length m.ram)) (FromPage n) (page_answer m p a)
  unfolding page_answer page_stored stored_at byte_at
  ram_stored bank false n e = rw (locked_keeps PrgRam (length m.ram) bank n)
  ram_stored bank true n e =
      let len = length m.ram in
      split (eqb len 0)
      (λ t. rw (empty_page PrgRam len 8192 bank true (o / 1024) t, lt-leb 1 len (omega (arith, eqb-true len 0 t))))
      (λ t.
      let h : 1 ≤ len = omega (arith, eqb-false len 0 t) in
      let inside = page_inside len 8192 bank (o / 1024) h e in
      rw (shown_page PrgRam len 8192 bank true (o / 1024) h, le-leb 1 len h)
      (ap FromPage (get_or-set_same m.ram (page_start len 8192 bank (o / 1024) / 1024 * 1024 + a % 1024) n 0 (omega arith))))

  value_stored : Sized (length m.prg) (length m.ram) → (writable : Bool) (v n : ℕ)
      → let p = value_page (length m.prg) (length m.ram) writable v (o / 1024) in
      page_answer (page_stored m p a n) p a ≡ pick (not (leb 128 v) && (writable && leb 1 (length m.ram))) (FromPage n) (page_answer m p a)
  unfolding value_page
  value_stored z writable v n =
      split (leb 128 v)
      (λ t. rw (t, locked_keeps PrgRom (length m.prg) (v % 128) n))
      (λ t. rw t (ram_stored (v % 8) writable n z.ram_whole))

-- Calls ------------------------------------------------------------------------------------------------------------------------------

-- No register that maps PRG is one of audio: they start at $5100.
maps_from : (r : ℕ) → maps_prg r ≡ true → 0x5100 ≤ r
maps_from r e =
    split (leb 0x5100 r)
    (λ t. leb-true 0x5100 r t)
    (λ t.
    let h = leb-false 0x5100 r t in
    absurd (false≢true (rw (ne_eqb r 0x5100 (λ (k : r ≡ 0x5100). omega arith), lt-leb 0x5102 r (omega arith), lt-leb 0x5113 r (omega arith)) at e)))

-- From $6000 on a write stores through the page alone.
pages_stay : (s : State) (a n : ℕ) → 0x6000 ≤ a → (register_written s a n).prg_pages ≡ s.prg_pages
unfolding register_written prg_pages_after
pages_stay s a n h =
    rw (past 0x5100 a (omega arith), past_all 0x5102 0x5103 a (omega arith) (omega arith), past_all 0x5113 0x5117 a (omega arith) (omega arith), past 0x5104 a (omega arith))

page_takes : (s : State) (m : Mem) (a n : ℕ) → 0x6000 ≤ a → cpu_stored s m a n ≡ page_stored m (page_of (prg_word_at s.prg_pages a)) a n
unfolding cpu_stored latched
page_takes s m a n h = rw (pages_stay s a n h, past_all 0x5C00 0x5FFF a (omega arith) (omega arith))

-- A board whose PRG windows show what its registers say.
record Mapped (s : State) (m : Mem) : Type 0 where
  opened : gate_mem s m ≡ Open
  pages : List PageWord
  long : length pages ≡ 64
  table : s.prg_pages ≡ prg_mapped s.lengths.prg s.lengths.ram s.regs s.prg_banks pages

table_after : (s : State) (r v : ℕ) → maps_prg r ≡ true → let t = register_written s r v in
    t.prg_pages ≡ prg_mapped t.lengths.prg t.lengths.ram t.regs t.prg_banks s.prg_pages
unfolding register_written prg_pages_after
table_after s r v e = rw e

after_write : (s : State) (m : Mem) → Taken s m → (r v : ℕ) → maps_prg r ≡ true → Mapped (cpu_write s m r v).out.state (cpu_write s m r v).mem
after_write s m k r v e =
    record {
      opened = gate_stays_open.write s m r v k.opened;
      pages = s.prg_pages;
      long = k.fits.prg_pages;
      table = rw (write_is s m r v k.opened (maps_from r e)) (table_after s r v e);
    }

module _ (s : State) (m : Mem) (k : Mapped s m) where
  lent : Recorded s.lengths (length m.prg) (length m.chr) (length m.ram)
  lent = recorded s.lengths _ _ _ _ _ (open_same_lengths s _ _ _ _ _ k.opened)

  sized : Sized (length m.prg) (length m.ram)
  sized =
      let z = lengths_say s.lengths (range_lengths s (open_in_range s _ _ _ _ _ k.opened)) in
      record {
        prg_whole = omega (arith, z.prg_whole, lent.prg);
        prg_most = omega (arith, z.prg_most, lent.prg);
        ram_whole = omega (arith, z.ram_whole, lent.ram);
        ram_most = omega (arith, z.ram_most, lent.ram);
      }

  page_at : (w o : ℕ) → w < 5 → o < 8192
      → page_of (prg_word_at s.prg_pages (in_window w o)) ≡ value_page (length m.prg) (length m.ram) (unlocked s.regs) (value_at s w) (o / 1024)
  page_at w o hw ho = rw (k.table, lent.prg, lent.ram) (mapped_page (length m.prg) (length m.ram) sized (unlocked s.regs) (prg_values s.regs.prg_mode s.prg_banks) k.pages k.long w o hw ho)

  window_read : (w o : ℕ) → w < 5 → o < 8192 → (cpu_read s m (in_window w o)).answer ≡ value_byte m (value_at s w) o
  window_read w o hw ho =
      rw (read_is s m (in_window w o) k.opened (omega arith), page_at w o hw ho)
      (value_answers m o (in_window w o) (omega arith) sized (unlocked s.regs) (value_at s w))

  window_written : (w o n : ℕ) → w < 5 → o < 8192
      → read_at (cpu_write s m (in_window w o) n) (in_window w o)
      ≡ pick (not (leb 128 (value_at s w)) && (unlocked s.regs && leb 1 (length m.ram))) (FromPage n) (cpu_read s m (in_window w o)).answer
  window_written w o n hw ho =
      let a = in_window w o in
      let h : 0x6000 ≤ a = omega arith in
      read_is (cpu_write s m a n).out.state (cpu_write s m a n).mem a (gate_stays_open.write s m a n k.opened) (omega arith)
      ∙ rw (write_is s m a n k.opened (omega arith), page_takes s m a n h, pages_stay s a n h, read_is s m a k.opened (omega arith), page_at w o hw ho)
      (value_stored m o a (omega arith) sized (unlocked s.regs) (value_at s w) n)

-- In mode 3 the value at $8000 is $5114's.
first_bank : (s : State) (m : Mem) → Taken s m → s.regs.prg_mode ≡ 3 → (v : ℕ) → value_at (cpu_write s m 0x5114 v).out.state 1 ≡ v
unfolding register_written written prg_banks_after prg_values
first_bank s m k e v = rw (write_is s m 0x5114 v k.opened (omega arith), e) (get_or-set_same s.prg_banks 1 v 0 (omega (arith, k.fits.prg_banks)))

pub prg_bytes : PrgBytes
prg_bytes =
    record {
      window = λ s m k r v e w o hw ho. window_read _ _ (after_write s m k r v e) w o hw ho;
      at_8000 = λ s m k e v o ho. window_read _ _ (after_write s m k 0x5114 v refl) 1 o (omega arith) ho ∙ rw (first_bank s m k e v);
      ram_write = λ s m k r v e w o n hw ho. window_written _ _ (after_write s m k r v e) w o n hw ho;
    }
