-- The state as a host lends it: one array of 144 words of 16 bits, which word is which field, and the most that it may be. docs/HOST.md has the same
-- table for a reader. Words 0 to 63 are numbers, each from 0 to its limit; 64 to 127 are the PRG table and 128 to 143 the CHR table, in the page words of
-- crate `memory`.
use Rattle.std.specs.Prelude.{ℕ, ◌+◌, ◌*◌, ◌-◌, ◌/◌, ◌%◌, Bool, true, ◌&&◌, List, [], ◌∷◌, ◌++◌, map, eqb, leb, get_or, take, drop}
use Rattle.memory.specs.declared.PageWord.{PageWord}
use Rattle.memory.specs.declared.PpuAddr.{PpuAddr}
use Rattle.memory.specs.Bits.{as_bit}
use Rattle.memory.specs.Tests.{pick}
use Rattle.memory.specs.PageWords.{word}
use Rattle.registers.specs.declared.Mirroring.{Mirroring}
use Rattle.registers.specs.declared.Mirroring.TheVariants.{Horizontal, Vertical, SingleScreenA, SingleScreenB, FourScreen}
use Rattle.registers.specs.declared.Regs.{Regs}
use Rattle.scanline.specs.declared.Detector.{Detector}
use Rattle.split.specs.declared.VSplit.{VSplit}
use Rattle.state.specs.declared.Lengths.{Lengths}
use Rattle.state.specs.declared.PpuStatus.{PpuStatus}
use Rattle.state.specs.declared.State.{State}

-- The most that each of the first 64 words may be: 01, "STATE ranges", and refusals 1 to 3 for the lengths; a flag is 0 or 1, a byte at most 255.
unfoldable pub limits : List ℕ
limits =
    -- 0-9: the detector, in the order of its fields
    1 ∷ 65535 ∷ 255 ∷ 1 ∷ 2 ∷ 1 ∷ 65279 ∷ 1 ∷ 1 ∷ 255
    -- 10-15: in region, tile address, tile count (CR 7), tile cache, the CHR set, the last CHR write's
    ∷ 1 ∷ 959 ∷ 83 ∷ 1023 ∷ 1 ∷ 1
    -- 16-22: flags
    ∷ 1 ∷ 1 ∷ 1 ∷ 1 ∷ 1 ∷ 1 ∷ 1
    -- 23: mirroring
    ∷ 4
    -- 24-33: modes, protection, ExRAM mode, $5105, fill, multiplier
    ∷ 3 ∷ 3 ∷ 3 ∷ 3 ∷ 3 ∷ 255 ∷ 255 ∷ 3 ∷ 255 ∷ 255
    -- 34-37: the split's registers
    ∷ 255 ∷ 31 ∷ 255 ∷ 255
    -- 38: $5130
    ∷ 3
    -- 39-41: the lengths
    ∷ 127 ∷ 1024 ∷ 64
    -- 42-46: $5113-$5117
    ∷ 255 ∷ 255 ∷ 255 ∷ 255 ∷ 255
    -- 47-62: $5120-$512B
    ∷ 255 ∷ 255 ∷ 255 ∷ 255 ∷ 255 ∷ 255 ∷ 255 ∷ 255 ∷ 255 ∷ 255 ∷ 255 ∷ 255 ∷ 255 ∷ 255 ∷ 255 ∷ 255
    -- 63: spare
    ∷ 0
    ∷ []

unfoldable pub all_within : List ℕ → List ℕ → Bool
all_within [] w = true
all_within (l ∷ ls) [] = true
all_within (l ∷ ls) (x ∷ w) = leb x l && all_within ls w

-- No word is above its limit.
unfoldable pub within_limits : List ℕ → Bool
within_limits w = all_within limits w

-- A flag is its word being 1; a byte is its word's low byte. Within the limits a flag's word is 0 or 1, and a byte's word is the byte.
abbrev pub flag_at : List ℕ → ℕ → Bool
flag_at w k = eqb (get_or w k 0) 1

abbrev pub byte_at : List ℕ → ℕ → ℕ
byte_at w k = get_or w k 0 % 256

-- The five mirrorings by number; FourScreen is 4, and what is above.
abbrev pub mirroring_numbered : ℕ → Mirroring
mirroring_numbered n =
    pick (eqb n 0) Horizontal
    (pick (eqb n 1) Vertical
    (pick (eqb n 2) SingleScreenA
    (pick (eqb n 3) SingleScreenB
    FourScreen)))

abbrev pub number_of_mirroring : Mirroring → ℕ
number_of_mirroring Horizontal = 0
number_of_mirroring Vertical = 1
number_of_mirroring SingleScreenA = 2
number_of_mirroring SingleScreenB = 3
number_of_mirroring FourScreen = 4

-- 39: PRG-ROM in banks of 8 KiB less one; 40 and 41: CHR and PRG-RAM in KiB. CIRAM and ExRAM have one length that load takes.
abbrev pub lengths_of : List ℕ → Lengths
lengths_of w =
    record {
      loaded = flag_at w 16;
      prg = (get_or w 39 0 + 1) * 8192;
      chr = get_or w 40 0 * 1024;
      ram = get_or w 41 0 * 1024;
      ciram = 2048;
      exram = 1024;
      chr_writable = flag_at w 17;
    }

-- 38: `chr_hi` is 0, 256, 512 or 768, its word 0 to 3.
abbrev pub regs_of : List ℕ → Regs
regs_of w =
    record {
      prg_mode = byte_at w 24;
      chr_mode = byte_at w 25;
      protect_a = byte_at w 26;
      protect_b = byte_at w 27;
      exram_mode = byte_at w 28;
      exram_chosen = flag_at w 18;
      nametables = byte_at w 29;
      fill_tile = byte_at w 30;
      fill_attr = byte_at w 31;
      chr_hi = get_or w 38 0 % 4 * 256;
      multiplicand = byte_at w 32;
      multiplier = byte_at w 33;
    }

abbrev pub split_of : List ℕ → VSplit
split_of w =
    record {
      mode = byte_at w 34;
      enabled = flag_at w 19;
      right = flag_at w 20;
      tile = byte_at w 35;
      scroll = byte_at w 36;
      bank = byte_at w 37;
      in_region = flag_at w 10;
      tile_addr = get_or w 11 0;
    }

abbrev pub ppu_addr : ℕ → PpuAddr
ppu_addr n = record { 0 = n }

abbrev pub detector_of : List ℕ → Detector
detector_of w =
    record {
      prev_some = flag_at w 0;
      prev_addr = ppu_addr (get_or w 1 0);
      match_count = byte_at w 2;
      reading = flag_at w 3;
      idle_count = byte_at w 4;
      in_frame = flag_at w 5;
      scanline = get_or w 6 0;
      pending = flag_at w 7;
      irq_enabled = flag_at w 8;
      irq_scanline = byte_at w 9;
    }

abbrev pub status_of : List ℕ → PpuStatus
status_of w =
    record {
      tile_number = get_or w 12 0;
      tile_cache = get_or w 13 0;
      sprite8x16 = flag_at w 21;
      rendering = flag_at w 22;
      bg_set = flag_at w 14;
      bg_written = flag_at w 15;
    }

-- A tile count that no board in range has (CR 7: "0 to 83").
abbrev pub with_no_tile : PpuStatus → PpuStatus
with_no_tile p =
    record { tile_number = 84; tile_cache = p.tile_cache; sprite8x16 = p.sprite8x16; rendering = p.rendering; bg_set = p.bg_set; bg_written = p.bg_written }

-- $5113-$5117 at 42; $5120-$512B at 47, the last four twice.
abbrev pub low_byte : ℕ → ℕ
low_byte n = n % 256

abbrev pub prg_banks_of : List ℕ → List ℕ
prg_banks_of w = map low_byte (take 5 (drop 42 w))

abbrev pub chr_banks_of : List ℕ → List ℕ
chr_banks_of w = map low_byte (take 16 (drop 47 w))

-- A page table is lent as the numbers of its page words.
abbrev pub pages_of : List ℕ → List PageWord
pages_of l = map word l

abbrev pub page_number : PageWord → ℕ
page_number w = w.0

abbrev pub numbers_of : List PageWord → List ℕ
numbers_of l = map page_number l

abbrev pub prg_numbers : List ℕ → List ℕ
prg_numbers w = take 64 (drop 64 w)

abbrev pub chr_numbers : List ℕ → List ℕ
chr_numbers w = take 16 (drop 128 w)

-- The state that words stand for. Words with one above its limit stand for a state that is out of range, which a flag or a mirroring could not say: its
-- tile count is 84.
abbrev pub state_of : List ℕ → State
state_of w =
    record {
      lengths = lengths_of w;
      regs = regs_of w;
      vsplit = split_of w;
      irq = detector_of w;
      ppu = pick (within_limits w) (status_of w) (with_no_tile (status_of w));
      screen = record { mirroring = mirroring_numbered (get_or w 23 0) };
      prg_banks = prg_banks_of w;
      chr_banks = chr_banks_of w;
      prg_pages = pages_of (prg_numbers w);
      chr_pages = pages_of (chr_numbers w);
    }

-- What a word holds of a number that has more bits in the code; in range it is the number.
abbrev pub in_word : ℕ → ℕ
in_word n = n % 65536

-- The words that stand for a state: the numbers, the spare word, the tables.
abbrev pub numbers_at : State → List ℕ → List ℕ
numbers_at s tables =
    as_bit s.irq.prev_some ∷ s.irq.prev_addr.0 ∷ s.irq.match_count ∷ as_bit s.irq.reading ∷ s.irq.idle_count
    ∷ as_bit s.irq.in_frame ∷ s.irq.scanline ∷ as_bit s.irq.pending ∷ as_bit s.irq.irq_enabled ∷ s.irq.irq_scanline
    ∷ as_bit s.vsplit.in_region ∷ s.vsplit.tile_addr ∷ in_word s.ppu.tile_number ∷ s.ppu.tile_cache
    ∷ as_bit s.ppu.bg_set ∷ as_bit s.ppu.bg_written
    ∷ as_bit s.lengths.loaded ∷ as_bit s.lengths.chr_writable ∷ as_bit s.regs.exram_chosen
    ∷ as_bit s.vsplit.enabled ∷ as_bit s.vsplit.right ∷ as_bit s.ppu.sprite8x16 ∷ as_bit s.ppu.rendering
    ∷ number_of_mirroring s.screen.mirroring
    ∷ s.regs.prg_mode ∷ s.regs.chr_mode ∷ s.regs.protect_a ∷ s.regs.protect_b ∷ s.regs.exram_mode
    ∷ s.regs.nametables ∷ s.regs.fill_tile ∷ s.regs.fill_attr ∷ s.regs.multiplicand ∷ s.regs.multiplier
    ∷ s.vsplit.mode ∷ s.vsplit.tile ∷ s.vsplit.scroll ∷ s.vsplit.bank
    ∷ s.regs.chr_hi / 256
    ∷ in_word (s.lengths.prg / 8192 - 1) ∷ in_word (s.lengths.chr / 1024) ∷ in_word (s.lengths.ram / 1024)
    ∷ get_or s.prg_banks 0 0 ∷ get_or s.prg_banks 1 0 ∷ get_or s.prg_banks 2 0 ∷ get_or s.prg_banks 3 0 ∷ get_or s.prg_banks 4 0
    ∷ get_or s.chr_banks 0 0 ∷ get_or s.chr_banks 1 0 ∷ get_or s.chr_banks 2 0 ∷ get_or s.chr_banks 3 0
    ∷ get_or s.chr_banks 4 0 ∷ get_or s.chr_banks 5 0 ∷ get_or s.chr_banks 6 0 ∷ get_or s.chr_banks 7 0
    ∷ get_or s.chr_banks 8 0 ∷ get_or s.chr_banks 9 0 ∷ get_or s.chr_banks 10 0 ∷ get_or s.chr_banks 11 0
    ∷ get_or s.chr_banks 12 0 ∷ get_or s.chr_banks 13 0 ∷ get_or s.chr_banks 14 0 ∷ get_or s.chr_banks 15 0
    ∷ 0
    ∷ tables

abbrev pub words_of : State → List ℕ
words_of s = numbers_at s (numbers_of s.prg_pages ++ numbers_of s.chr_pages)
