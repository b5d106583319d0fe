-- A pattern fetch answers CHR at its page: the eight pattern pages that a write left mapped, the set that the fetch chooses, and the byte that the page shows.
use Prim.Native.Nat.{ℕ, ◌+◌, ◌*◌, ◌/◌, ◌%◌, ◌<◌, ◌≤◌}
use mathlib.Core.Bool.{Bool, true, false, ◌&&◌}
use mathlib.Core.List.{List}
use mathlib.Core.Path.{◌≡◌, refl, sym, ap, ◌∙◌}
use native.Mathlib.Nat.{mod-lt}
use native.Mathlib.Omega.{arith}
use borrow.Author.Tests.{eqb-true, eqb-false, lt-ltb, lt-leb}
use lib.Dec.{eqb}
use lib.ListN.{length, get_or}
use Rattle.memory.specs.declared.PageWord.{PageWord}
use Rattle.memory.specs.declared.Src.{Src}
use Rattle.memory.specs.declared.Src.TheVariants.{Chr}
use Rattle.memory.specs.Bytes.{Mem, page_byte}
use Rattle.memory.specs.Windows.{window_page, chr_window}
use Rattle.memory.specs.PageWords.{word, page, blank, page_of}
use Rattle.memory.specs.Named.{named_as}
use Rattle.memory.proofs.Tests.{split}
use Rattle.memory.proofs.WindowLaws.{one_page_window, shown_page}
use Rattle.memory.proofs.WordLaws.{making_is_undone}
use Rattle.answers.specs.declared.Answer.TheVariants.{Page as FromPage}
use Rattle.registers.specs.declared.Regs.{Regs}
use Rattle.banks.specs.Chr.{background, window_pages, chr_number, chr_mapped}
use Rattle.banks.proofs.PlacedLaws.{entry_placed, length_placed}
use Rattle.scanline.specs.Ranges.{counter_refused}
use Rattle.scanline.specs.Tiles.{sprite_fetch}
use Rattle.state.specs.declared.State.{State}
use Rattle.state.specs.Gate.{Open, gate_mem}
use Rattle.state.proofs.GateLaws.{open_same_lengths, range_lengths}
use Rattle.state.proofs.SizeLaws.{lengths_say}
use Rattle.cpu.specs.Chosen.{chosen, set_changed}
use Rattle.cpu.specs.Groups.{within}
use Rattle.cpu.specs.Reads.{answered_as, page_answer}
use Rattle.cpu.specs.Writes.{maps_chr, chr_pages_after, register_written}
use Rattle.cpu.proofs.Addresses.{from}
use Rattle.ppu.specs.Served.{direct, pattern_served}
use Rattle.board.specs.CpuSide.{cpu_write}
use Rattle.board_ppu.specs.Fetch.{pattern_pages, pattern_ppu, pattern_call, ppu_fetch}
use Rattle.board_ppu.specs.Peeks.{chr_answer}
use Rattle.board_ppu.proofs.SpriteLaws.{direct_page}
use Rattle.theorems_promises.proofs.Promised.{gate_stays_open}
use Rattle.theorems_bytes.specs.Chr.{set_wanted, page_number, unserved, ChrBytes}
use Rattle.theorems_bytes.specs.Taken.{byte_of}
use Rattle.theorems_bytes.proofs.Behind.{recorded, write_is}

-- One page -----------------------------------------------------------------------------------------------------------------------------

-- The page of a CHR that is not empty is one of CHR's.
is_chr : (len n : ℕ) (w : Bool) → 1 ≤ len → len % 1024 ≡ 0 → len ≤ 1048576 → (page_of (chr_window Chr len n w)).src ≡ Chr
unfolding named_as
is_chr len n w h e most =
    let few : n % (len / 1024) < 1024 = omega (arith, mod-lt n {m = len / 1024} (omega arith)) in
    rw (shown_page Chr len 1024 n w 0 h, one_page_window len n h e, making_is_undone (page Chr (n % (len / 1024)) w) (lt-ltb (n % (len / 1024)) 1024 few))

-- It answers CHR's byte; an empty CHR's answers blank.
module _ (m : Mem) (n a : ℕ) (w : Bool) where
  none_shown : eqb (length m.chr) 0 ≡ true → page_answer m (page_of (chr_window Chr (length m.chr) n w)) a ≡ byte_of m.chr (n * 1024 + a % 1024)
  unfolding window_page named_as page_answer
  none_shown t = rw (t, making_is_undone blank refl)

  page_shown : length m.chr % 1024 ≡ 0 → length m.chr ≤ 1048576
      → page_answer m (page_of (chr_window Chr (length m.chr) n w)) a ≡ byte_of m.chr (n * 1024 + a % 1024)
  unfolding page_answer direct
  page_shown e most =
      split (eqb (length m.chr) 0) none_shown
      (λ t.
      let p = page_of (chr_window Chr (length m.chr) n w) in
      let h : 1 ≤ length m.chr = omega (arith, eqb-false (length m.chr) 0 t) in
      ap (λ (s : Src). answered_as s (page_byte m p a)) (is_chr (length m.chr) n w h e most) ∙ (ap FromPage (sym (direct_page m n a w e most)) ∙ rw t))

-- The table ----------------------------------------------------------------------------------------------------------------------------

-- The word of a set's page k.
abbrev word_in : State → Bool → ℕ → PageWord
word_in s bg k = chr_window Chr s.lengths.chr (chr_number s.regs s.chr_banks bg k) s.lengths.chr_writable

-- The eight pattern pages are those of the set that the state holds.
record Mapped (s : State) : Type 0 where
  room : 8 ≤ length s.chr_pages
  shows : (k : ℕ) → k < 8 → get_or s.chr_pages k (word 0) ≡ word_in s s.ppu.bg_set k

module _ (chr : ℕ) (as_ram : Bool) (g : Regs) (b : List ℕ) (bg : Bool) (pages : List PageWord) where
  mapped_room : length (chr_mapped chr as_ram g b bg pages) ≡ length pages
  unfolding chr_mapped
  mapped_room = length_placed pages 0 (λ (k : ℕ). chr_window Chr chr (chr_number g b bg k) as_ram) 8

  mapped_shows : 8 ≤ length pages → (k : ℕ) → k < 8 → get_or (chr_mapped chr as_ram g b bg pages) k (word 0) ≡ chr_window Chr chr (chr_number g b bg k) as_ram
  unfolding chr_mapped
  mapped_shows r k h = entry_placed pages (λ (k : ℕ). chr_window Chr chr (chr_number g b bg k) as_ram) 8 k (word 0) h r

-- A write to a register that maps CHR leaves them so.
written_mapped : (s : State) (r v : ℕ) → maps_chr r ≡ true → 8 ≤ length s.chr_pages → Mapped (register_written s r v)
unfolding register_written chr_pages_after
written_mapped s r v c h =
    record {
      room = rw (c, mapped_room s.lengths.chr s.lengths.chr_writable _ _ _ s.chr_pages) h;
      shows = λ k few. rw c (mapped_shows s.lengths.chr s.lengths.chr_writable _ _ _ s.chr_pages h k few);
    }

same_set : (before after : Bool) → set_changed before after ≡ false → before ≡ after
same_set true true e = refl
same_set true false e = e
same_set false true e = sym e
same_set false false e = refl

-- A fetch maps them anew only where it wants the other set: in both cases they are then those of the set that it wants.
fetched_shows : (s : State) → Mapped s → (bg : Bool) (k : ℕ) → k < 8 → get_or (pattern_pages s bg) k (word 0) ≡ word_in s bg k
unfolding pattern_pages
fetched_shows s m bg k h =
    split (set_changed s.ppu.bg_set bg)
    (λ t. rw t (mapped_shows s.lengths.chr s.lengths.chr_writable s.regs s.chr_banks bg s.chr_pages m.room k h))
    (λ t. rw t (m.shows k h ∙ ap (λ (x : Bool). word_in s x k) (same_set s.ppu.bg_set bg t)))

-- The fetch ----------------------------------------------------------------------------------------------------------------------------

-- With 8x8 sprites it does not matter which registers were written last.
set_of : (tall fetches framed last : Bool) → background (record { tall = tall; fetching_sprites = fetches; framed = framed; written_to_background = tall && last })
    ≡ background (record { tall = tall; fetching_sprites = fetches; framed = framed; written_to_background = last })
set_of true fetches framed last = refl
set_of false fetches framed last = refl

wanted : (s : State) → (pattern_ppu s).bg_set ≡ set_wanted s
unfolding chosen
wanted s = set_of s.ppu.sprite8x16 (sprite_fetch s.ppu.tile_number) s.irq.in_frame s.ppu.bg_written

numbered : (s : State) (k : ℕ) → chr_number s.regs s.chr_banks (set_wanted s) k ≡ page_number s k
unfolding chr_number window_pages
numbered s k = refl

-- The page answers where nothing is served in its place.
page_answers : (s : State) (m : Mem) (a : ℕ) → gate_mem s m ≡ Open → a < 0x2000 → unserved s
    → (ppu_fetch s m a).answer ≡ chr_answer (pattern_pages s (pattern_ppu s).bg_set) m a
unfolding ppu_fetch pattern_call pattern_served counter_refused chosen
page_answers s m a h low u = rw (h, lt-leb 0x2000 a low, lt-ltb a 0x2000 low, u.0, u.1)

fetched : (s : State) (m : Mem) (a : ℕ) → gate_mem s m ≡ Open → Mapped s → a < 0x2000 → unserved s
    → (ppu_fetch s m a).answer ≡ byte_of m.chr (page_number s (a / 1024) * 1024 + a % 1024)
unfolding chr_answer
fetched s m a h t low u =
    let z = lengths_say s.lengths (range_lengths s (gate_stays_open.ranged s m h)) in
    let len : s.lengths.chr ≡ length m.chr = (recorded s.lengths _ _ _ _ _ (open_same_lengths s _ _ _ _ _ h)).chr in
    let place : a / 1024 % 16 ≡ a / 1024 = omega arith in
    page_answers s m a h low u
    ∙ rw (place, fetched_shows s t (pattern_ppu s).bg_set (a / 1024) (omega arith), wanted s, numbered s (a / 1024), len)
    (page_shown m (page_number s (a / 1024)) a s.lengths.chr_writable (rw len at z.chr_whole) (rw len at z.chr_most))

-- The write ----------------------------------------------------------------------------------------------------------------------------

-- No register that maps CHR is an audio register: those lie below $5100.
maps_above : (r : ℕ) → maps_chr r ≡ true → 0x5100 ≤ r
maps_above r c =
    split (eqb r 0x5101) (λ t. omega (arith, eqb-true r 0x5101 t))
    (λ f. split (within 0x5120 0x512B r) (λ t. omega (arith, from 0x5120 0x512B r t))
    (λ g. omega (arith, eqb-true r 0x5130 (rw (f, g) at c))))

pub chr_bytes : ChrBytes
chr_bytes =
    record {
      pattern = λ s m t r v c a low u.
          let x = cpu_write s m r v in
          fetched x.out.state x.mem a (gate_stays_open.write s m r v t.opened)
          (rw (write_is s m r v t.opened (maps_above r c)) (written_mapped s r v c (omega (arith, t.fits.chr_pages)))) low u;
    }
