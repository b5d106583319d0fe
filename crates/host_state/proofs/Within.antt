-- Words within their limits: the ranges of the state that they stand for.
use Prim.Native.Nat.{ℕ, ◌+◌, ◌*◌, ◌%◌, ◌<◌, ◌≤◌}
use mathlib.Core.Bool.{true, false, ◌&&◌, false≢true}
use mathlib.Core.List.{List}
use mathlib.Core.Path.{◌≡◌, sym, ◌∙◌}
use native.Mathlib.Omega.{arith}
use borrow.Author.Tests.{le-leb, eq-eqb}
use lib.Dec.{leb, eqb}
use lib.ListN.{get_or}
use Rattle.memory.specs.Tables.{prg_table_ok, chr_table_ok}
use Rattle.memory.proofs.Tests.{split}
use Rattle.registers.specs.Registers.{regs_ok}
use Rattle.scanline.specs.Ranges.{detector_ok}
use Rattle.scanline.specs.Tiles.{tiles_ok}
use Rattle.split.specs.Control.{split_ranges}
use Rattle.state.specs.Lengths.{lengths_ok}
use Rattle.state.specs.Ranges.{in_range}
use Rattle.host_state.specs.Words.{limits, within_limits, flag_at, lengths_of, regs_of, split_of, detector_of, pages_of, prg_numbers, chr_numbers, state_of}
use Rattle.host_state.proofs.LimitLaws.{within_at}

-- A word and its limit.
pub limit_at : (w : List ℕ) (k : ℕ) → within_limits w ≡ true → k < 64 → get_or w k 0 ≤ get_or limits k 0
unfolding within_limits limits
limit_at w k h small = within_at limits w k h small

small_byte : (n l : ℕ) → n ≤ l → leb (n % 256) l ≡ true
small_byte n l h = le-leb (n % 256) l (omega (arith, h))

hi_whole : (n : ℕ) → eqb (n % 4 * 256 % 256) 0 ≡ true
hi_whole n = eq-eqb (n % 4 * 256 % 256) 0 (omega arith)

hi_small : (n : ℕ) → leb (n % 4 * 256) 768 ≡ true
hi_small n = le-leb (n % 4 * 256) 768 (omega arith)

module _ (w : List ℕ) (h : within_limits w ≡ true) where
  regs_within : regs_ok (regs_of w) ≡ true
  unfolding regs_ok limits
  regs_within =
      rw (
        small_byte (get_or w 24 0) 3 (limit_at w 24 h (omega arith)),
        small_byte (get_or w 25 0) 3 (limit_at w 25 h (omega arith)),
        small_byte (get_or w 26 0) 3 (limit_at w 26 h (omega arith)),
        small_byte (get_or w 27 0) 3 (limit_at w 27 h (omega arith)),
        small_byte (get_or w 28 0) 3 (limit_at w 28 h (omega arith)),
        small_byte (get_or w 31 0) 3 (limit_at w 31 h (omega arith)),
        hi_whole (get_or w 38 0),
        hi_small (get_or w 38 0),
      )

  split_within : split_ranges (split_of w) ≡ true
  unfolding limits
  split_within = rw (small_byte (get_or w 35 0) 31 (limit_at w 35 h (omega arith)), le-leb (get_or w 11 0) 959 (limit_at w 11 h (omega arith)))

  detector_within : detector_ok (detector_of w) ≡ true
  unfolding detector_ok limits
  detector_within = rw (small_byte (get_or w 4 0) 2 (limit_at w 4 h (omega arith)), le-leb (get_or w 6 0) 65279 (limit_at w 6 h (omega arith)))

  cache_within : leb (get_or w 13 0) 1023 ≡ true
  unfolding limits
  cache_within = le-leb (get_or w 13 0) 1023 (limit_at w 13 h (omega arith))

  tiles_within : tiles_ok (get_or w 12 0) ≡ true
  unfolding tiles_ok limits
  tiles_within = le-leb (get_or w 12 0) 83 (limit_at w 12 h (omega arith))

  -- The lengths that load takes.
  pub prg_small : (lengths_of w).prg ≤ 1048576
  unfolding limits
  prg_small = let m : get_or w 39 0 ≤ 127 = limit_at w 39 h (omega arith) in omega (arith, m)

  pub chr_small : (lengths_of w).chr ≤ 1048576
  unfolding limits
  chr_small = let m : get_or w 40 0 ≤ 1024 = limit_at w 40 h (omega arith) in omega (arith, m)

  pub ram_small : (lengths_of w).ram ≤ 65536
  unfolding limits
  ram_small = let m : get_or w 41 0 ≤ 64 = limit_at w 41 h (omega arith) in omega (arith, m)

  lengths_within : lengths_ok (lengths_of w) ≡ flag_at w 16
  unfolding lengths_ok
  lengths_within =
      rw (
        eq-eqb ((get_or w 39 0 + 1) * 8192 % 8192) 0 (omega arith),
        le-leb 8192 ((get_or w 39 0 + 1) * 8192) (omega arith),
        le-leb ((get_or w 39 0 + 1) * 8192) 1048576 prg_small,
        eq-eqb (get_or w 40 0 * 1024 % 1024) 0 (omega arith),
        le-leb (get_or w 40 0 * 1024) 1048576 chr_small,
        eq-eqb (get_or w 41 0 * 1024 % 1024) 0 (omega arith),
        le-leb (get_or w 41 0 * 1024) 65536 ram_small,
      ) (split (flag_at w 16) (λ t. rw t) (λ t. rw t))

  range_within : in_range (state_of w)
      ≡ flag_at w 16 && (prg_table_ok (lengths_of w).prg (lengths_of w).ram (pages_of (prg_numbers w)) && chr_table_ok (lengths_of w).chr (lengths_of w).chr_writable (pages_of (chr_numbers w)))
  unfolding in_range
  range_within = rw (h, lengths_within, regs_within, split_within, detector_within, cache_within, tiles_within)

-- A word above its limit: no state in range.
pub above_limit : (w : List ℕ) → within_limits w ≡ false → in_range (state_of w) ≡ false
unfolding in_range tiles_ok
above_limit w f =
    rw f
    (split (lengths_ok (lengths_of w)) (λ a. rw a
    (split (detector_ok (detector_of w)) (λ b. rw b
    (split (regs_ok (regs_of w)) (λ c. rw c
    (split (split_ranges (split_of w)) (λ d. rw d
    (split (leb (get_or w 13 0) 1023) (λ e. rw e) (λ e. rw e))) (λ d. rw d))) (λ c. rw c))) (λ b. rw b))) (λ a. rw a))

pub ranges_of : (w : List ℕ)
    → in_range (state_of w)
    ≡ within_limits w && (flag_at w 16
    && (prg_table_ok (lengths_of w).prg (lengths_of w).ram (pages_of (prg_numbers w)) && chr_table_ok (lengths_of w).chr (lengths_of w).chr_writable (pages_of (chr_numbers w))))
ranges_of w = split (within_limits w) (λ t. range_within w t ∙ rw t) (λ f. above_limit w f ∙ rw f)

-- Words that stand for a state in range are within their limits.
pub range_limits : (w : List ℕ) → in_range (state_of w) ≡ true → within_limits w ≡ true
range_limits w r = split (within_limits w) (λ t. t) (λ f. absurd (false≢true (sym (above_limit w f) ∙ r)))
