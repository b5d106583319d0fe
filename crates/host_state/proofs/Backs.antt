-- Words in range are the words of their state: what is read from them, put back, leaves them as they are.
use Prim.Native.Nat.{ℕ, zero, suc, ◌+◌, ◌*◌, ◌-◌, ◌/◌, ◌%◌, ◌<◌, ◌≤◌}
use mathlib.Core.Bool.{true}
use mathlib.Core.List.{List, [], ◌∷◌, ◌++◌, map}
use mathlib.Core.Path.{◌≡◌, refl, ap, ◌∙◌}
use native.Mathlib.Omega.{arith}
use lib.Dec.{eqb}
use lib.ListN.{length, get_or, take, drop, length-drop, take-append-drop, get_or-map}
use lib.Seq.{take_all, drop-drop}
use Rattle.memory.specs.Bits.{as_bit}
use Rattle.state.specs.Ranges.{in_range}
use Rattle.host_state.specs.Words.{limits, within_limits, flag_at, byte_at, low_byte, in_word, mirroring_numbered, number_of_mirroring, pages_of, numbers_of, prg_numbers, chr_numbers, numbers_at, state_of, words_of}
use Rattle.host_state.proofs.PartLaws.{part_at}
use Rattle.host_state.proofs.PutLaws.{up_from, spelled}
use Rattle.host_state.proofs.Within.{limit_at, range_limits}

flag_small : (n : ℕ) → n ≤ 1 → as_bit (eqb n 1) ≡ n
flag_small zero h = refl
flag_small (suc zero) h = refl
flag_small (suc (suc n)) h = absurd (omega (arith, h))

mirroring_small : (n : ℕ) → n ≤ 4 → number_of_mirroring (mirroring_numbered n) ≡ n
mirroring_small zero h = refl
mirroring_small (suc zero) h = refl
mirroring_small (suc (suc zero)) h = refl
mirroring_small (suc (suc (suc zero))) h = refl
mirroring_small (suc (suc (suc (suc zero)))) h = refl
mirroring_small (suc (suc (suc (suc (suc n))))) h = absurd (omega (arith, h))

pub numbers_back : (l : List ℕ) → numbers_of (pages_of l) ≡ l
numbers_back [] = refl
numbers_back (x ∷ l) = ap (λ (r : List ℕ). x ∷ r) (numbers_back l)

module _ (w : List ℕ) (h : within_limits w ≡ true) where
  flag : (k : ℕ) → k < 64 → get_or limits k 0 ≤ 1 → as_bit (flag_at w k) ≡ get_or w k 0
  flag k small l = flag_small (get_or w k 0) (omega (arith, l, limit_at w k h small))

  byte : (k : ℕ) → k < 64 → get_or limits k 0 ≤ 255 → byte_at w k ≡ get_or w k 0
  byte k small l = omega (arith, l, limit_at w k h small)

  mirroring : number_of_mirroring (mirroring_numbered (get_or w 23 0)) ≡ get_or w 23 0
  unfolding limits
  mirroring = mirroring_small (get_or w 23 0) (limit_at w 23 h (omega arith))

  hi : get_or w 38 0 % 4 * 256 / 256 ≡ get_or w 38 0
  unfolding limits
  hi = let m : get_or w 38 0 ≤ 3 = limit_at w 38 h (omega arith) in omega (arith, m)

  prg : in_word ((get_or w 39 0 + 1) * 8192 / 8192 - 1) ≡ get_or w 39 0
  unfolding limits
  prg = let m : get_or w 39 0 ≤ 127 = limit_at w 39 h (omega arith) in omega (arith, m)

  chr : in_word (get_or w 40 0 * 1024 / 1024) ≡ get_or w 40 0
  unfolding limits
  chr = let m : get_or w 40 0 ≤ 1024 = limit_at w 40 h (omega arith) in omega (arith, m)

  ram : in_word (get_or w 41 0 * 1024 / 1024) ≡ get_or w 41 0
  unfolding limits
  ram = let m : get_or w 41 0 ≤ 64 = limit_at w 41 h (omega arith) in omega (arith, m)

  tiles : in_word (get_or w 12 0) ≡ get_or w 12 0
  unfolding limits
  tiles = let m : get_or w 12 0 ≤ 83 = limit_at w 12 h (omega arith) in omega (arith, m)

  spare : get_or w 63 0 ≡ 0
  unfolding limits
  spare = let m : get_or w 63 0 ≤ 0 = limit_at w 63 h (omega arith) in omega (arith, m)

  -- A bank register, in its part.
  bank : (from n i : ℕ) → i < n → from + i < 64 → get_or limits (from + i) 0 ≤ 255 → get_or (map low_byte (take n (drop from w))) i 0 ≡ get_or w (from + i) 0
  bank from n i h small l = get_or-map low_byte (take n (drop from w)) i 0 ∙ ap low_byte (part_at w from n i h) ∙ byte (from + i) small l

  -- Each of the first 64.
  numbers : (tables : List ℕ) → numbers_at (state_of w) tables ≡ up_from 0 64 (λ (i : ℕ). get_or w i 0) ++ tables
  unfolding limits
  numbers tables =
      rw (
        h,
        flag 16 (omega arith) (omega arith),
        flag 17 (omega arith) (omega arith),
        flag 18 (omega arith) (omega arith),
        flag 19 (omega arith) (omega arith),
        flag 20 (omega arith) (omega arith),
        flag 10 (omega arith) (omega arith),
        flag 0 (omega arith) (omega arith),
        flag 3 (omega arith) (omega arith),
        flag 5 (omega arith) (omega arith),
        flag 7 (omega arith) (omega arith),
        flag 8 (omega arith) (omega arith),
        flag 21 (omega arith) (omega arith),
        flag 22 (omega arith) (omega arith),
        flag 14 (omega arith) (omega arith),
        flag 15 (omega arith) (omega arith),
        mirroring,
        hi,
        prg,
        chr,
        ram,
        tiles,
        spare,
        byte 24 (omega arith) (omega arith),
        byte 25 (omega arith) (omega arith),
        byte 26 (omega arith) (omega arith),
        byte 27 (omega arith) (omega arith),
        byte 28 (omega arith) (omega arith),
        byte 29 (omega arith) (omega arith),
        byte 30 (omega arith) (omega arith),
        byte 31 (omega arith) (omega arith),
        byte 32 (omega arith) (omega arith),
        byte 33 (omega arith) (omega arith),
        byte 34 (omega arith) (omega arith),
        byte 35 (omega arith) (omega arith),
        byte 36 (omega arith) (omega arith),
        byte 37 (omega arith) (omega arith),
        byte 2 (omega arith) (omega arith),
        byte 4 (omega arith) (omega arith),
        byte 9 (omega arith) (omega arith),
        bank 42 5 0 (omega arith) (omega arith) (omega arith),
        bank 42 5 1 (omega arith) (omega arith) (omega arith),
        bank 42 5 2 (omega arith) (omega arith) (omega arith),
        bank 42 5 3 (omega arith) (omega arith) (omega arith),
        bank 42 5 4 (omega arith) (omega arith) (omega arith),
        bank 47 16 0 (omega arith) (omega arith) (omega arith),
        bank 47 16 1 (omega arith) (omega arith) (omega arith),
        bank 47 16 2 (omega arith) (omega arith) (omega arith),
        bank 47 16 3 (omega arith) (omega arith) (omega arith),
        bank 47 16 4 (omega arith) (omega arith) (omega arith),
        bank 47 16 5 (omega arith) (omega arith) (omega arith),
        bank 47 16 6 (omega arith) (omega arith) (omega arith),
        bank 47 16 7 (omega arith) (omega arith) (omega arith),
        bank 47 16 8 (omega arith) (omega arith) (omega arith),
        bank 47 16 9 (omega arith) (omega arith) (omega arith),
        bank 47 16 10 (omega arith) (omega arith) (omega arith),
        bank 47 16 11 (omega arith) (omega arith) (omega arith),
        bank 47 16 12 (omega arith) (omega arith) (omega arith),
        bank 47 16 13 (omega arith) (omega arith) (omega arith),
        bank 47 16 14 (omega arith) (omega arith) (omega arith),
        bank 47 16 15 (omega arith) (omega arith) (omega arith),
      )

pub tables_back : (w : List ℕ) → length w ≡ 144 → numbers_of (pages_of (prg_numbers w)) ++ numbers_of (pages_of (chr_numbers w)) ≡ drop 64 w
tables_back w e =
    rw (numbers_back (prg_numbers w), numbers_back (chr_numbers w), take_all 16 (drop 128 w) (rw (length-drop 128 w, e) (omega arith)), ← drop-drop 64 64 w)
    (take-append-drop 64 (drop 64 w))

pub words_back : (w : List ℕ) → length w ≡ 144 → in_range (state_of w) ≡ true → words_of (state_of w) ≡ w
words_back w e r =
    numbers w (range_limits w r) (numbers_of (pages_of (prg_numbers w)) ++ numbers_of (pages_of (chr_numbers w)))
    ∙ ap (λ (l : List ℕ). up_from 0 64 (λ (i : ℕ). get_or w i 0) ++ l) (tables_back w e)
    ∙ spelled w 64 (omega (arith, e))
