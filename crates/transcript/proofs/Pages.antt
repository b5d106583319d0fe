-- A ROM that is filled byte by byte with the number of each byte's page is pages counted.
use Prim.Native.Nat.{ℕ, ◌+◌, ◌*◌, ◌/◌, ◌<◌}
use mathlib.Core.Path.{◌≡◌, sym, ◌∙◌}
use native.Mathlib.Omega.{arith}
use lib.ListN.{length, replicate, length-replicate}
use lib.Seq.{ext_get_or}
use Rattle.banks.specs.Placed.{placed}
use Rattle.banks.proofs.PlacedLaws.{length_placed, entry_placed}
use Rattle.trace.specs.Cartridge.{counted_pages}
use Rattle.trace.proofs.CartridgeLaws.{length_pages, byte_of_pages}

pub filled_is_counted : (first n : ℕ) → placed (replicate (1024 * n) 0) 0 (λ (i : ℕ). first + i / 1024) (1024 * n) ≡ counted_pages first n
filled_is_counted first n =
    let size : length (placed (replicate (1024 * n) 0) 0 (λ (i : ℕ). first + i / 1024) (1024 * n)) ≡ 1024 * n =
    length_placed (replicate (1024 * n) 0) 0 (λ (i : ℕ). first + i / 1024) (1024 * n) ∙ length-replicate {A = ℕ} (1024 * n) 0 in
    ext_get_or 0 (placed (replicate (1024 * n) 0) 0 (λ (i : ℕ). first + i / 1024) (1024 * n)) (counted_pages first n) (size ∙ sym (length_pages first n))
    (λ i h.
    let k : i < 1024 * n = omega (arith, h, size) in
    entry_placed (replicate (1024 * n) 0) (λ (j : ℕ). first + j / 1024) (1024 * n) i 0 k (omega (arith, length-replicate {A = ℕ} (1024 * n) 0)) ∙ sym (byte_of_pages first n i k))
