-- Words with one group of the state put anew, or what a call can change of it: steps inside a call. No promise names them: what they come to is the
-- words of the state with that group (proofs/PutLaws.antt).
use Rattle.std.specs.Prelude.{ℕ, ◌-◌, ◌/◌, List, set}
use Rattle.std.proofs.Math.Seq.{paste}
use Rattle.memory.specs.declared.PageWord.{PageWord}
use Rattle.memory.specs.Bits.{as_bit}
use Rattle.registers.specs.declared.Mirroring.{Mirroring}
use Rattle.registers.specs.declared.Regs.{Regs}
use Rattle.scanline.specs.declared.Detector.{Detector}
use Rattle.split.specs.declared.VSplit.{VSplit}
use Rattle.state.specs.declared.Lengths.{Lengths}
use Rattle.state.specs.declared.PpuStatus.{PpuStatus}
use Rattle.host_state.specs.Words.{number_of_mirroring, numbers_of, in_word}

abbrev pub length_words : List ℕ → Lengths → List ℕ
length_words w z =
    set (set (set (set (set w 16 (as_bit z.loaded)) 17 (as_bit z.chr_writable)) 39 (in_word (z.prg / 8192 - 1))) 40 (in_word (z.chr / 1024))) 41 (in_word (z.ram / 1024))

abbrev pub mode_words : List ℕ → Regs → List ℕ
mode_words w g =
    set (set (set (set (set (set (set w 18 (as_bit g.exram_chosen)) 24 g.prg_mode) 25 g.chr_mode) 26 g.protect_a) 27 g.protect_b) 28 g.exram_mode) 29 g.nametables

abbrev pub reg_words : List ℕ → Regs → List ℕ
reg_words w g =
    set (set (set (set (set (mode_words w g) 30 g.fill_tile) 31 g.fill_attr) 32 g.multiplicand) 33 g.multiplier) 38 (g.chr_hi / 256)

-- The split's region and tile address; the whole split.
abbrev pub region_words : List ℕ → VSplit → List ℕ
region_words w v = set (set w 10 (as_bit v.in_region)) 11 v.tile_addr

abbrev pub split_words : List ℕ → VSplit → List ℕ
split_words w v =
    set (set (set (set (set (set (region_words w v) 19 (as_bit v.enabled)) 20 (as_bit v.right)) 34 v.mode) 35 v.tile) 36 v.scroll) 37 v.bank

abbrev pub irq_words : List ℕ → Detector → List ℕ
irq_words w d =
    set (set (set (set (set (set (set (set (set (set w 0 (as_bit d.prev_some)) 3 (as_bit d.reading)) 5 (as_bit d.in_frame)) 7 (as_bit d.pending)) 8 (as_bit d.irq_enabled))
    2 d.match_count) 4 d.idle_count) 9 d.irq_scanline) 1 d.prev_addr.0) 6 d.scanline

-- The tile count and the tile cache; the CHR set and to which set the last CHR write was; the whole status.
abbrev pub tile_words : List ℕ → PpuStatus → List ℕ
tile_words w p = set (set w 13 p.tile_cache) 12 (in_word p.tile_number)

abbrev pub set_words : List ℕ → PpuStatus → List ℕ
set_words w p = set (set w 14 (as_bit p.bg_set)) 15 (as_bit p.bg_written)

abbrev pub status_words : List ℕ → PpuStatus → List ℕ
status_words w p = set (set (set_words (tile_words w p) p) 21 (as_bit p.sprite8x16)) 22 (as_bit p.rendering)

abbrev pub mirroring_words : List ℕ → Mirroring → List ℕ
mirroring_words w m = set w 23 (number_of_mirroring m)

-- The bank registers, in their part of the words.
abbrev pub prg_bank_words : List ℕ → List ℕ → List ℕ
prg_bank_words w b = paste w 42 b 5

abbrev pub chr_bank_words : List ℕ → List ℕ → List ℕ
chr_bank_words w b = paste w 47 b 16

-- A page table, in its part of the words.
abbrev pub prg_page_words : List ℕ → List PageWord → List ℕ
prg_page_words w pages = paste w 64 (numbers_of pages) 64

abbrev pub chr_page_words : List ℕ → List PageWord → List ℕ
chr_page_words w pages = paste w 128 (numbers_of pages) 16

-- The page word at $5C00, page 23 of the PRG table.
abbrev pub exram_words : List ℕ → PageWord → List ℕ
exram_words w x = set w 87 x.0
