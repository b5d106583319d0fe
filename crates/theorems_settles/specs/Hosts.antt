-- The contracts of the host's boundary, function by function, crate by crate: words read and put back, what is answered, and the calls of the three
-- static library. Of a call that takes words to change, every word is looked at; of one that takes memory to change, every byte too.
-- Assumes nothing.
use Rattle.std.specs.Prelude.{ℕ, List}
use Rattle.host.specs.Hosted.{left_words, left_memory}
use Rattle.host_looks.specs.Pages.{copied_of}
use Rattle.host_replay.specs.Replays.{left_replay}
use Rattle.theorems_settles.specs.OwnHosts.{host_state_in_range, host_state_passed, host_state_put_regs, host_state_put_region, host_state_put_split, host_state_put_detector, host_state_put_tiles, host_state_put_set, host_state_put_status, host_state_number_of_mirroring, host_state_put_mirroring, host_state_put_prg_banks, host_state_put_chr_banks, host_state_put_exram_word, host_state_put_lengths, host_state_sized, host_state_within_limits, host_state_mirroring_numbered, host_state_lengths_of, host_state_regs_of, host_state_split_of, host_state_detector_of, host_state_status_of, host_state_mirroring_of, host_state_prg_banks_of, host_state_chr_banks_of, host_state_arrays_sized, host_state_prg_ok, host_state_chr_ok, host_state_prg_word, host_state_chr_word, host_state_prg_table, host_state_chr_table, host_state_put_prg_table, host_state_put_chr_table, host_state_state_of, host_state_put_state, host_answers_interrupt, host_answers_mirroring, host_answers_plain, host_answers_with_interrupt, host_clock, host_cpu_write, host_ppu_fetch, host_load, host_ppu_write, host_cpu_read, host_ppu_register, host_reset, host_looks_cpu_entry, host_looks_cpu_page, host_looks_ppu_entry, host_looks_ppu_page, host_looks_cpu_peek, host_looks_ppu_peek, host_looks_sprite_peek, host_looks_interrupt, host_looks_mirroring, host_replay_replay}
use Rattle.calls.specs.Lent.{ChangedThen, mem_left}
use Rattle.theorems_settles.specs.Settled.{Result, Settles}

-- A call's first parameter is the array of words: a look at it, where it is lent to be changed, and what comes behind it.
abbrev pub words_left : {X : Type 0} → ChangedThen X → List ℕ
words_left e = e.0.now

abbrev pub behind_words : {W X : Type 0} → W × X → X
behind_words e = e.1

pub record HostState : Type 0 where
  pub in_range : Result host_state_in_range.Learnt
  pub passed : Result host_state_passed.Learnt
  pub put_regs : Settles host_state_put_regs.Learnt (λ κ a r e. words_left e.1)
  pub put_region : Settles host_state_put_region.Learnt (λ κ a r e. words_left e.1)
  pub put_split : Settles host_state_put_split.Learnt (λ κ a r e. words_left e.1)
  pub put_detector : Settles host_state_put_detector.Learnt (λ κ a r e. words_left e.1)
  pub put_tiles : Settles host_state_put_tiles.Learnt (λ κ a r e. words_left e.1)
  pub put_set : Settles host_state_put_set.Learnt (λ κ a r e. words_left e.1)
  pub put_status : Settles host_state_put_status.Learnt (λ κ a r e. words_left e.1)
  pub number_of_mirroring : Result host_state_number_of_mirroring.Learnt
  pub put_mirroring : Settles host_state_put_mirroring.Learnt (λ κ a r e. words_left e.1)
  pub put_prg_banks : Settles host_state_put_prg_banks.Learnt (λ κ a r e. words_left e.1)
  pub put_chr_banks : Settles host_state_put_chr_banks.Learnt (λ κ a r e. words_left e.1)
  pub put_exram_word : Settles host_state_put_exram_word.Learnt (λ κ a r e. words_left e.1)
  pub put_lengths : Settles host_state_put_lengths.Learnt (λ κ a r e. words_left e.1)
  pub sized : Result host_state_sized.Learnt
  pub within_limits : Result host_state_within_limits.Learnt
  pub mirroring_numbered : Result host_state_mirroring_numbered.Learnt
  pub lengths_of : Result host_state_lengths_of.Learnt
  pub regs_of : Result host_state_regs_of.Learnt
  pub split_of : Result host_state_split_of.Learnt
  pub detector_of : Result host_state_detector_of.Learnt
  pub status_of : Result host_state_status_of.Learnt
  pub mirroring_of : Result host_state_mirroring_of.Learnt
  pub prg_banks_of : Result host_state_prg_banks_of.Learnt
  pub chr_banks_of : Result host_state_chr_banks_of.Learnt
  pub arrays_sized : Result host_state_arrays_sized.Learnt
  pub prg_ok : Result host_state_prg_ok.Learnt
  pub chr_ok : Result host_state_chr_ok.Learnt
  pub prg_word : Result host_state_prg_word.Learnt
  pub chr_word : Result host_state_chr_word.Learnt
  pub prg_table : Result host_state_prg_table.Learnt
  pub chr_table : Result host_state_chr_table.Learnt
  pub put_prg_table : Settles host_state_put_prg_table.Learnt (λ κ a r e. words_left e.1)
  pub put_chr_table : Settles host_state_put_chr_table.Learnt (λ κ a r e. words_left e.1)
  pub state_of : Result host_state_state_of.Learnt
  pub put_state : Settles host_state_put_state.Learnt (λ κ a r e. words_left e.1)

pub record HostAnswers : Type 0 where
  pub interrupt : Result host_answers_interrupt.Learnt
  pub mirroring : Result host_answers_mirroring.Learnt
  pub plain : Result host_answers_plain.Learnt
  pub with_interrupt : Result host_answers_with_interrupt.Learnt

pub record Host : Type 0 where
  pub clock : Settles host_clock.Learnt (λ κ a r e. left_words r (words_left e))
  pub cpu_write : Settles host_cpu_write.Learnt (λ κ a r e. left_memory r (words_left e) (mem_left (behind_words a).0.now (behind_words e).1))
  pub ppu_fetch : Settles host_ppu_fetch.Learnt (λ κ a r e. left_words r (words_left e))
  pub load : Settles host_load.Learnt (λ κ a r e. left_words r (words_left e))
  pub ppu_write_call : Settles host_ppu_write.Learnt (λ κ a r e. left_memory r (words_left e) (mem_left (behind_words a).0.now (behind_words e).1))
  pub cpu_read : Settles host_cpu_read.Learnt (λ κ a r e. left_words r (words_left e))
  pub ppu_register : Settles host_ppu_register.Learnt (λ κ a r e. left_words r (words_left e))
  pub reset : Settles host_reset.Learnt (λ κ a r e. left_words r (words_left e))

pub record HostLooks : Type 0 where
  pub cpu_entry : Result host_looks_cpu_entry.Learnt
  pub cpu_page : Settles host_looks_cpu_page.Learnt (λ κ a r e. copied_of r (behind_words e).1.1.1.1.1.1.0.now)
  pub ppu_entry : Result host_looks_ppu_entry.Learnt
  pub ppu_page : Settles host_looks_ppu_page.Learnt (λ κ a r e. copied_of r (behind_words e).1.1.1.1.1.1.0.now)
  pub cpu_peek : Result host_looks_cpu_peek.Learnt
  pub ppu_peek_call : Result host_looks_ppu_peek.Learnt
  pub sprite_peek_call : Result host_looks_sprite_peek.Learnt
  pub interrupt : Result host_looks_interrupt.Learnt
  pub mirroring : Result host_looks_mirroring.Learnt

pub record HostReplay : Type 0 where
  pub replay : Settles host_replay_replay.Learnt (λ κ a r e. left_replay r (words_left e) (mem_left (behind_words a).0.now (behind_words e).1) (behind_words e).1.1.1.1.1.1.0.now)
