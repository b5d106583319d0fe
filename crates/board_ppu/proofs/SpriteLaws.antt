-- A direct CHR offset is the byte that a CHR window shows: the offset modulo the length is the page's number modulo the pages.
use Prim.Native.Nat.{ℕ, ◌+◌, ◌*◌, ◌/◌, ◌%◌, ◌<◌, ◌≤◌}
use mathlib.Core.Bool.{Bool, true, false}
use mathlib.Core.List.{List}
use mathlib.Core.Path.{◌≡◌, refl, sym, ap, ◌∙◌}
use native.Mathlib.Nat.{mod-lt}
use native.Mathlib.Omega.{arith}
use borrow.Author.Tests.{eqb-false, lt-ltb}
use lib.Arith.{mod-mul}
use lib.Dec.{eqb}
use lib.ListN.{length, get_or}
use Rattle.memory.specs.declared.Src.TheVariants.{Chr}
use Rattle.memory.specs.Bytes.{Mem, byte_at, page_byte}
use Rattle.memory.specs.Windows.{window_page, chr_window}
use Rattle.memory.specs.PageWords.{word, page, blank, page_of}
use Rattle.memory.specs.Named.{named_as}
use Rattle.memory.proofs.Tests.{split}
use Rattle.memory.proofs.WindowLaws.{one_page_window, shown_page}
use Rattle.memory.proofs.WordLaws.{making_is_undone}
use Rattle.banks.specs.Chr.{chr_number, chr_mapped}
use Rattle.banks.proofs.PlacedLaws.{entry_placed}
use Rattle.ppu.specs.Served.{direct, sprite_byte}
use Rattle.board_ppu.specs.Promise.{SpriteSetMapped}

-- In a CHR that is not empty.
there : (chr : List ℕ) (n a : ℕ) → 1 ≤ length chr → length chr % 1024 ≡ 0 → (n * 1024 + a % 1024) % length chr ≡ n % (length chr / 1024) * 1024 + a % 1024
there chr n a h e =
    let len : length chr ≡ length chr / 1024 * 1024 = omega arith in
    let d : (n * 1024 + a % 1024) / 1024 ≡ n = omega arith in
    let r : (n * 1024 + a % 1024) % 1024 ≡ a % 1024 = omega arith in
    ap (λ (x : ℕ). (n * 1024 + a % 1024) % x) len
    ∙ (mod-mul (n * 1024 + a % 1024) {m = length chr / 1024} {c = 1024} (omega arith) (omega arith)
    ∙ rw (d, r))

module _ (m : Mem) (n a : ℕ) (w : Bool) where
  empty : eqb (length m.chr) 0 ≡ true → page_byte m (page_of (chr_window Chr (length m.chr) n w)) a ≡ 0
  unfolding window_page named_as byte_at
  empty t = rw (t, making_is_undone blank refl)

  shown : 1 ≤ length m.chr → length m.chr % 1024 ≡ 0 → length m.chr ≤ 1048576
      → page_byte m (page_of (chr_window Chr (length m.chr) n w)) a ≡ get_or m.chr (n % (length m.chr / 1024) * 1024 + a % 1024) 0
  unfolding byte_at named_as
  shown h e most =
      let few : n % (length m.chr / 1024) < 1024 = omega (arith, mod-lt n {m = length m.chr / 1024} (omega arith)) in
      rw (shown_page Chr (length m.chr) 1024 n w 0 h, one_page_window (length m.chr) n h e, making_is_undone (page Chr (n % (length m.chr / 1024)) w) (lt-ltb (n % (length m.chr / 1024)) 1024 few))

  pub direct_page : length m.chr % 1024 ≡ 0 → length m.chr ≤ 1048576
      → direct m.chr (n * 1024 + a % 1024) ≡ page_byte m (page_of (chr_window Chr (length m.chr) n w)) a
  unfolding direct
  direct_page e most =
      split (eqb (length m.chr) 0)
      (λ t. rw t (sym (empty t)))
      (λ t. let h : 1 ≤ length m.chr = omega (arith, eqb-false (length m.chr) 0 t) in rw (t, there m.chr n a h e) (sym (shown h e most)))

pub sprite_set_mapped : SpriteSetMapped
unfolding sprite_byte chr_mapped
sprite_set_mapped g b m as_ram pages a low sixteen e most =
    let k : a / 1024 % 16 ≡ a / 1024 % 8 = omega arith in
    rw (k, entry_placed pages (λ (k : ℕ). chr_window Chr (length m.chr) (chr_number g b false k) as_ram) 8 (a / 1024 % 8) (word 0) (omega arith) (omega arith))
    (direct_page m (chr_number g b false (a / 1024 % 8)) a as_ram e most)
