-- CHR banks. 01, module 5: "Page = ((bank OR hi) << shift) + place in window; shifts 3, 2, 1, 0. Set: sprite if 8x8, or tile count 32-39, or out
-- of frame with the last CHR write a sprite one; else background."
use Rattle.std.specs.Prelude.{ℕ, ◌+◌, ◌-◌, ◌*◌, ◌/◌, ◌%◌, ◌^◌, Bool, ◌||◌, not, ◌&&◌, List, get_or}
use Rattle.memory.specs.Bits.{◌OR◌, ◌<<◌}
use Rattle.memory.specs.declared.PageWord.{PageWord}
use Rattle.memory.specs.declared.Src.TheVariants.{Chr}
use Rattle.memory.specs.Tests.{pick}
use Rattle.memory.specs.Windows.{chr_window}
use Rattle.registers.specs.declared.Regs.{Regs}
use Rattle.banks.specs.Placed.{placed}

-- "shifts 3, 2, 1, 0" in the modes 0 to 3
abbrev pub shift_of : ℕ → ℕ
shift_of mode = 3 - mode

-- How many pages a window of the mode has: two to the shift.
unfoldable pub window_pages : ℕ → ℕ
window_pages mode = 2 ^ shift_of mode

-- Each of the eight places has a register in its set. A window of n pages uses its last place's (docs/DECISIONS.md, "a window's register"); place k
-- lies in the window of the places k / n * n to k / n * n + n - 1.
abbrev pub window_register : ℕ → ℕ → ℕ
window_register n k = k / n * n + n - 1

-- The sprites' registers are 0-7, the background's 8-15.
abbrev pub set_start : Bool → ℕ
set_start bg = pick bg 8 0

-- "Page = ((bank OR hi) << shift) + place in window"
unfoldable pub chr_number : Regs → List ℕ → Bool → ℕ → ℕ
chr_number g b bg k =
    let shift = shift_of g.chr_mode in let n = window_pages g.chr_mode in
    let bank = get_or b (set_start bg + window_register n k) 0 in let hi = g.chr_hi in
    ((bank OR hi) << shift) + k % n

-- The table with the eight pattern pages mapped.
unfoldable pub chr_mapped : ℕ → Bool → Regs → List ℕ → Bool → List PageWord → List PageWord
chr_mapped chr as_ram g b bg pages = placed pages 0 (λ (k : ℕ). chr_window Chr chr (chr_number g b bg k) as_ram) 8

-- "Set: sprite if 8x8, or tile count 32-39, or out of frame with the last CHR write a sprite one; else background."
pub record Asked : Type 0 where
  pub tall : Bool
  pub fetching_sprites : Bool
  pub framed : Bool
  pub written_to_background : Bool

abbrev pub sprites : Asked → Bool
sprites q = not q.tall || (q.fetching_sprites || (not q.framed && not q.written_to_background))

abbrev pub background : Asked → Bool
background q = not (sprites q)
