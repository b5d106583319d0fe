-- Nametables (specs/Names.antt): what a fetch answers behind an open gate, first what is served in the page's place, then by the selector that was
-- written to $5105.
use Prim.Native.Nat.{ℕ, zero, suc, ◌+◌, ◌*◌, ◌-◌, ◌/◌, ◌%◌, ◌^◌, ◌<◌}
use mathlib.Core.Bool.{Bool, true, false, ◌&&◌}
use mathlib.Core.List.{List}
use mathlib.Core.Path.{◌≡◌, refl, ap, ◌∙◌}
use native.Mathlib.Nat.{zero-add, pow-suc}
use native.Mathlib.Omega.{arith}
use borrow.Author.Tests.{lt-ltb, lt-leb}
use lib.Bits.{and_mask}
use lib.Dec.{eqb}
use lib.ListN.{length}
use lib.Pow.{pow-add}
use Rattle.memory.specs.declared.PageWord.{PageWord}
use Rattle.memory.specs.Bits.{◌>>◌}
use Rattle.memory.specs.Bytes.{Mem, byte_at}
use Rattle.memory.specs.PageWords.{word, word_number, page_of}
use Rattle.memory.specs.Tests.{pick}
use Rattle.memory.proofs.Tests.{split, and_false}
use Rattle.answers.specs.declared.Answer.TheVariants.{Served}
use Rattle.registers.specs.Registers.{attribute_use, nametable_use, written}
use Rattle.banks.specs.Names.{selector, name_page, names_mapped}
use Rattle.scanline.specs.Fetches.{counted_at, name_at}
use Rattle.scanline.specs.Ranges.{counter_refused}
use Rattle.split.specs.Places.{mirrored_byte, attribute_address, attribute_shift, pattern_offset}
use Rattle.cpu.specs.Chosen.{chosen}
use Rattle.cpu.specs.Reads.{page_answer}
use Rattle.cpu.specs.Writes.{chr_pages_after, register_written}
use Rattle.cpu.proofs.Addresses.{from, upto}
use Rattle.ppu.specs.Fetches.{split_seen}
use Rattle.ppu.specs.Served.{direct, ex_offset, split_byte, split_serves, counted_served, pattern_served}
use Rattle.ppu.proofs.ServedLaws.{counted_is}
use Rattle.state.specs.declared.State.{State}
use Rattle.state.specs.Gate.{Open, gate_mem}
use Rattle.board.specs.CpuSide.{cpu_write}
use Rattle.board_ppu.specs.Counted.{counted_irq, counted_split}
use Rattle.board_ppu.specs.Fetch.{pattern_call, ppu_fetch}
use Rattle.board_ppu.proofs.Made.{fetch_counted}
use Rattle.board_ppu.specs.Peeks.{chr_answer}
use Rattle.theorems_promises.proofs.Promised.{gate_stays_open}
use Rattle.theorems_bytes.specs.Names.{NameBytes, ServedBytes, selector_at, fill_answer, selector_byte, Fetched}
use Rattle.theorems_bytes.proofs.Behind.{entry_inside}

-- Served in the page's place -------------------------------------------------------------------------------------------------------------

mirrored_low : (n : ℕ) → mirrored_byte (n % 4) ≡ mirrored_byte n
unfolding mirrored_byte
mirrored_low n = let e : n % 4 % 4 ≡ n % 4 = omega arith in rw e

low_uncounted : (a : ℕ) → a < 0x2000 → counted_at a ≡ false
low_uncounted a h = rw (lt-leb 0x2000 a h)

-- A fetch behind an open gate at a pattern address; at a counted address that the counter does not refuse, it is `fetch_counted`.
patterned : (s : State) (m : Mem) (a : ℕ) → gate_mem s m ≡ Open → a < 0x2000 → ppu_fetch s m a ≡ pattern_call s m a
unfolding ppu_fetch counter_refused
patterned s m a h l = rw (h, low_uncounted a l, lt-ltb a 0x2000 l)

pub served_bytes : ServedBytes
unfolding counted_served split_byte pattern_call pattern_served direct pattern_offset ex_offset attribute_address attribute_shift chosen
served_bytes =
    record {
      split_name = λ s m h a c n f q. let e = fetch_counted s m h.opened a f c in rw (e, rw e at q, n);
      split_attribute = λ s m h a c n f q. let e = fetch_counted s m h.opened a f c in rw (e, rw e at q, n) (ap Served (mirrored_low _));
      split_pattern = λ s m h a l q. rw (patterned s m a h.opened l, q);
      attribute = λ s m h a c n f q u t. let e = fetch_counted s m h.opened a f c in rw (e, rw e at q, rw e at u, n, rw e at t);
      attribute_pattern = λ s m h a l q u t. rw (patterned s m a h.opened l, q, u, t);
    }

-- By selector ----------------------------------------------------------------------------------------------------------------------------

four_powers : (k : ℕ) → 2 ^ (2 * k) ≡ 4 ^ k
four_powers zero = refl
four_powers (suc k) =
    let e : 2 * suc k ≡ 2 * k + 2 = omega arith in
    rw (e, pow-add 2 (2 * k) 2, four_powers k, pow-suc 4 k)

-- Module 3's two bits by shift and mask are the digit to base four.
selector_is : (v a : ℕ) → selector_at v a ≡ selector v (a / 1024)
unfolding selector
selector_is v a = and_mask (v >> (2 * (a / 1024 % 4))) 2 ∙ ap (λ (n : ℕ). v / n % 4) (four_powers (a / 1024 % 4))

selector_small : (v i : ℕ) → selector v i < 4
unfolding selector
selector_small v i = omega arith

-- The four from $3000 on are those from $2000 on.
selector_again : (v i : ℕ) → selector v i ≡ selector v (8 + i)
unfolding selector
selector_again v i = let e : (8 + i) % 4 ≡ i % 4 = omega arith in rw e

by_four : (P : ℕ → Type 0) → P 0 → P 1 → P 2 → P 3 → (n : ℕ) → n < 4 → P n
by_four P a b c d zero h = a
by_four P a b c d (suc zero) h = b
by_four P a b c d (suc (suc zero)) h = c
by_four P a b c d (suc (suc (suc zero))) h = d
by_four P a b c d (suc (suc (suc (suc n)))) h = absurd (omega (arith, h))

-- The page of a selector, and Fill in its place, answer by the selector.
abbrev Shown : State → Mem → ℕ → ℕ → Type 0
Shown s m a n =
    pick (nametable_use s.regs && eqb n 3) (fill_answer s.regs a) (page_answer m (page_of (name_page n (nametable_use s.regs))) a) ≡ selector_byte s m n a

shown : (s : State) (m : Mem) (a n : ℕ) → n < 4 → Shown s m a n
unfolding name_page word_number page_of page_answer byte_at
shown s m a =
    split (nametable_use s.regs)
    (λ e. by_four (Shown s m a) (rw (e, zero-add)) (rw e) (rw (e, zero-add)) (rw e))
    (λ e. by_four (Shown s m a) (rw (e, zero-add)) (rw e) (rw e) (rw e))

-- The page at a nametable address, in a table mapped by selectors.
page_shown : (pages : List PageWord) (m : Mem) (v : ℕ) (used : Bool) (a : ℕ) → length pages ≡ 16 → counted_at a ≡ true
    → chr_answer (names_mapped v used pages) m a ≡ page_answer m (page_of (name_page (selector_at v a) used)) a
unfolding chr_answer names_mapped
page_shown pages m v used a l c =
    let lo = from 0x2000 0x3EFF a c in
    let hi = upto 0x2000 0x3EFF a c in
    let k = a / 1024 - 8 in
    let at : a / 1024 % 16 ≡ 8 + k = omega arith in
    let same : a / 1024 ≡ 8 + k = omega arith in
    rw (at, entry_inside pages 8 (λ (k : ℕ). name_page (selector v k) used) 8 k (word 0) (omega arith) (omega arith), selector_again v k, ← same, ← selector_is v a)

-- With the split off the fetch leaves it off.
split_off : (s : State) (a : ℕ) → s.vsplit.enabled ≡ false → split_serves s.regs (counted_split s a) (counted_irq s a).in_frame ≡ false
unfolding split_seen
split_off s a e = rw (e, and_false (name_at a))

-- A fetch from any board whose table is mapped by the selectors that $5105 has.
fetched : (t : State) (m : Mem) (pages : List PageWord) (v a : ℕ) → gate_mem t m ≡ Open → length pages ≡ 16
    → t.regs.nametables ≡ v → t.chr_pages ≡ names_mapped v (nametable_use t.regs) pages
    → counted_at a ≡ true → t.vsplit.enabled ≡ false → attribute_use t.regs ≡ false → Fetched t a
    → (ppu_fetch t m a).answer ≡ selector_byte t m (selector_at v a) a
fetched t m pages v a h l n p c off plain f =
    rw (fetch_counted t m h a f c, counted_is _ _ _ _ _ _ _, split_off t a off, plain, n, p, page_shown pages m v (nametable_use t.regs) a l c, ← selector_is v a)
    (shown t m a (selector_at v a) (rw selector_is (selector_small v (a / 1024))))

-- What a write to $5105 leaves.
names_written : (s : State) (m : Mem) (v : ℕ) → gate_mem s m ≡ Open → (cpu_write s m 0x5105 v).out.state.regs.nametables ≡ v
unfolding cpu_write register_written written
names_written s m v h = rw h

pages_written : (s : State) (m : Mem) (v : ℕ) → gate_mem s m ≡ Open
    → let t = (cpu_write s m 0x5105 v).out.state in t.chr_pages ≡ names_mapped v (nametable_use t.regs) s.chr_pages
unfolding cpu_write register_written written chr_pages_after
pages_written s m v h = rw h

pub name_bytes : NameBytes
name_bytes =
    record {
      selected = λ s m h v a c.
          let x = cpu_write s m 0x5105 v in
          let o = h.opened in
          fetched x.out.state x.mem s.chr_pages v a (gate_stays_open.write s m 0x5105 v o) h.fits.chr_pages (names_written s m v o) (pages_written s m v o) c;
    }
