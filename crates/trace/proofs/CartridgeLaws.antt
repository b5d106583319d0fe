-- Laws of counted pages: how long they are, and each byte.
use Prim.Native.Nat.{ℕ, zero, suc, ◌+◌, ◌-◌, ◌*◌, ◌/◌, ◌<◌, ◌≤◌}
use mathlib.Core.List.{◌++◌}
use mathlib.Core.Path.{◌≡◌, refl, ap, ◌∙◌}
use native.Mathlib.Omega.{arith}
use borrow.Author.Tests.{ltb-true, ltb-false}
use lib.Dec.{ltb}
use lib.ListN.{length, get_or, replicate, length-append, length-replicate, get_or-replicate, get_or-append}
use lib.Seq.{get_or-append-add}
use Rattle.memory.proofs.Tests.{split}
use Rattle.trace.specs.Cartridge.{counted_pages, cartridge, CartridgeBytes}

pub length_pages : (b n : ℕ) → length (counted_pages b n) ≡ 1024 * n
unfolding counted_pages
length_pages b zero = refl
length_pages b (suc n) =
    length-append (replicate 1024 b) (counted_pages (b + 1) n) ∙ omega (arith, length-replicate 1024 b, length_pages (b + 1) n)

pub byte_of_pages : (b n i : ℕ) → i < 1024 * n → get_or (counted_pages b n) i 0 ≡ b + i / 1024
unfolding counted_pages
byte_of_pages b zero i h = absurd (omega (arith, h))
byte_of_pages b (suc n) i h =
    split (ltb i 1024)
    (λ t.
    let l : i < 1024 = ltb-true i 1024 t in
    get_or-append (replicate 1024 b) (counted_pages (b + 1) n) 0 i (rw (length-replicate 1024 b) l) ∙ get_or-replicate 1024 i b 0 l ∙ omega (arith, l))
    (λ t.
    let l : 1024 ≤ i = ltb-false i 1024 t in
    let e : i ≡ length (replicate 1024 b) + (i - 1024) = rw (length-replicate 1024 b) (omega (arith, l)) in
    ap (λ (k : ℕ). get_or (replicate 1024 b ++ counted_pages (b + 1) n) k 0) e
    ∙ get_or-append-add (replicate 1024 b) (counted_pages (b + 1) n) (i - 1024) 0
    ∙ byte_of_pages (b + 1) n (i - 1024) (omega (arith, h, l))
    ∙ omega (arith, l))

pub cartridge_bytes : CartridgeBytes
unfolding cartridge
cartridge_bytes = record {
  prg_length = length_pages 0 32;
  prg_byte = λ i h. byte_of_pages 0 32 i h ∙ omega arith;
  chr_length = length_pages 128 8;
  chr_byte = λ i h. byte_of_pages 128 8 i h;
}
