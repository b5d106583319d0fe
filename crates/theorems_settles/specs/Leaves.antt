-- The contracts of what stands below the entry points, function by function, crate by crate.
-- Assumes nothing.
use Rattle.std.specs.Prelude.{[]}
use Rattle.theorems_settles.specs.OwnLeaves.{memory_byte, memory_put, memory_peek, memory_store, memory_prg_table_ok, memory_chr_table_ok, memory_prg_place, memory_prg_places, memory_chr_word_ok, memory_prg_window, memory_chr_window, memory_word_of, memory_page_of, memory_place_of, answers_number_of, answers_letter_of, answers_has_value, answers_value_of, registers_new, registers_reset, registers_attribute_use, registers_nametable_use, registers_unlocked, registers_write, registers_mirroring_after, registers_ranges_ok, banks_chr_number, banks_map_chr, banks_wants_background, banks_selector_of, banks_map_names, banks_map_prg, banks_exram_page, scanline_new, scanline_seen, scanline_counter_refused, scanline_darkened, scanline_vector_read, scanline_status_read, scanline_set_target, scanline_set_enabled, scanline_status, scanline_interrupt_up, scanline_ranges_ok, scanline_clock, scanline_of, scanline_ticked, scanline_clock_record, scanline_counted, scanline_attribute_address, scanline_name_fetch, scanline_sprite_fetch, scanline_column, scanline_prefetched, scanline_first_tiles, scanline_tiles_ok, scanline_tiles_raised, scanline_tiles_after}
use Rattle.theorems_settles.specs.OwnStates.{split_new, split_set_control, split_set_scroll, split_set_bank, split_active_lem, split_ranges_ok, split_attribute_place, split_attribute_bits, split_mirrored, split_pattern_offset, split_scroll_of, split_moved_lem, state_passed, state_in_range, state_same_lengths, state_prg_taken, state_chr_taken, state_ram_taken, state_lengths_ok, cpu_choose, cpu_ppu_after, cpu_set_changed, cpu_split_after, cpu_irq_after, cpu_is_within, cpu_prg_banks_after, cpu_chr_banks_after, cpu_status_after, cpu_detector_after, cpu_page_answer, cpu_register_or, cpu_irq_read, cpu_audio_read, cpu_maps_prg, cpu_maps_chr, cpu_chr_pages_after, cpu_latch, cpu_prg_word_at, cpu_audio_write, ppu_ppu_seen, ppu_split_seen, ppu_direct_byte, ppu_ex_offset, ppu_counted_served, ppu_pattern_served, ppu_sprite_byte}
use Rattle.calls.specs.Lent.{mem_left}
use Rattle.theorems_settles.specs.Settled.{Result, Settles}

pub record Memory : Type 0 where
  pub byte : Result memory_byte.Learnt
  pub put : Settles memory_put.Learnt (λ κ a r e. e.0.now)
  pub peek : Result memory_peek.Learnt
  pub store : Settles memory_store.Learnt (λ κ a r e. mem_left [] e)
  pub prg_table_ok : Result memory_prg_table_ok.Learnt
  pub chr_table_ok : Result memory_chr_table_ok.Learnt
  pub prg_place : Result memory_prg_place.Learnt
  pub prg_places : Result memory_prg_places.Learnt
  pub chr_word_ok : Result memory_chr_word_ok.Learnt
  pub prg_window : Result memory_prg_window.Learnt
  pub chr_window : Result memory_chr_window.Learnt
  pub word_of : Result memory_word_of.Learnt
  pub page_of : Result memory_page_of.Learnt
  pub place_of : Result memory_place_of.Learnt

pub record Answers : Type 0 where
  pub number_of : Result answers_number_of.Learnt
  pub letter_of : Result answers_letter_of.Learnt
  pub has_value : Result answers_has_value.Learnt
  pub value_of : Result answers_value_of.Learnt

pub record Registers : Type 0 where
  pub new : Result registers_new.Learnt
  pub reset : Result registers_reset.Learnt
  pub attribute_use : Result registers_attribute_use.Learnt
  pub nametable_use : Result registers_nametable_use.Learnt
  pub unlocked : Result registers_unlocked.Learnt
  pub write : Result registers_write.Learnt
  pub mirroring_after : Result registers_mirroring_after.Learnt
  pub ranges_ok : Result registers_ranges_ok.Learnt

pub record Banks : Type 0 where
  pub chr_number : Result banks_chr_number.Learnt
  pub map_chr : Result banks_map_chr.Learnt
  pub wants_background : Result banks_wants_background.Learnt
  pub selector_of : Result banks_selector_of.Learnt
  pub map_names : Result banks_map_names.Learnt
  pub map_prg : Result banks_map_prg.Learnt
  pub exram_page : Result banks_exram_page.Learnt

pub record Scanline : Type 0 where
  pub new : Result scanline_new.Learnt
  pub seen : Result scanline_seen.Learnt
  pub counter_refused : Result scanline_counter_refused.Learnt
  pub darkened : Result scanline_darkened.Learnt
  pub vector_read_call : Result scanline_vector_read.Learnt
  pub status_read_call : Result scanline_status_read.Learnt
  pub set_target : Result scanline_set_target.Learnt
  pub set_enabled : Result scanline_set_enabled.Learnt
  pub status : Result scanline_status.Learnt
  pub interrupt_up : Result scanline_interrupt_up.Learnt
  pub ranges_ok : Result scanline_ranges_ok.Learnt
  pub clock : Result scanline_clock.Learnt
  pub of : Result scanline_of.Learnt
  pub ticked : Result scanline_ticked.Learnt
  pub clock_record : Result scanline_clock_record.Learnt
  pub counted : Result scanline_counted.Learnt
  pub attribute_address : Result scanline_attribute_address.Learnt
  pub name_fetch : Result scanline_name_fetch.Learnt
  pub sprite_fetch_call : Result scanline_sprite_fetch.Learnt
  pub column : Result scanline_column.Learnt
  pub prefetched : Result scanline_prefetched.Learnt
  pub first_tiles : Result scanline_first_tiles.Learnt
  pub tiles_ok : Result scanline_tiles_ok.Learnt
  pub tiles_raised : Result scanline_tiles_raised.Learnt
  pub tiles_after : Result scanline_tiles_after.Learnt

pub record Split : Type 0 where
  pub new : Result split_new.Learnt
  pub set_control : Result split_set_control.Learnt
  pub set_scroll : Result split_set_scroll.Learnt
  pub set_bank : Result split_set_bank.Learnt
  pub active : Result split_active_lem.Learnt
  pub ranges_ok : Result split_ranges_ok.Learnt
  pub attribute_place : Result split_attribute_place.Learnt
  pub attribute_bits : Result split_attribute_bits.Learnt
  pub mirrored : Result split_mirrored.Learnt
  pub pattern_offset : Result split_pattern_offset.Learnt
  pub scroll_of : Result split_scroll_of.Learnt
  pub moved : Result split_moved_lem.Learnt

pub record State : Type 0 where
  pub passed : Result state_passed.Learnt
  pub in_range : Result state_in_range.Learnt
  pub same_lengths : Result state_same_lengths.Learnt
  pub prg_taken : Result state_prg_taken.Learnt
  pub chr_taken : Result state_chr_taken.Learnt
  pub ram_taken : Result state_ram_taken.Learnt
  pub lengths_ok : Result state_lengths_ok.Learnt

pub record Cpu : Type 0 where
  pub choose : Result cpu_choose.Learnt
  pub ppu_after : Result cpu_ppu_after.Learnt
  pub set_changed : Result cpu_set_changed.Learnt
  pub split_after : Result cpu_split_after.Learnt
  pub irq_after : Result cpu_irq_after.Learnt
  pub is_within : Result cpu_is_within.Learnt
  pub prg_banks_after : Result cpu_prg_banks_after.Learnt
  pub chr_banks_after : Result cpu_chr_banks_after.Learnt
  pub status_after : Result cpu_status_after.Learnt
  pub detector_after : Result cpu_detector_after.Learnt
  pub page_answer : Result cpu_page_answer.Learnt
  pub register_or : Result cpu_register_or.Learnt
  pub irq_read : Result cpu_irq_read.Learnt
  pub audio_read : Result cpu_audio_read.Learnt
  pub maps_prg : Result cpu_maps_prg.Learnt
  pub maps_chr : Result cpu_maps_chr.Learnt
  pub chr_pages_after : Result cpu_chr_pages_after.Learnt
  pub latch : Settles cpu_latch.Learnt (λ κ a r e. e.0.now)
  pub prg_word_at : Result cpu_prg_word_at.Learnt
  pub audio_write : Result cpu_audio_write.Learnt

pub record Ppu : Type 0 where
  pub ppu_seen : Result ppu_ppu_seen.Learnt
  pub split_seen : Result ppu_split_seen.Learnt
  pub direct_byte : Result ppu_direct_byte.Learnt
  pub ex_offset : Result ppu_ex_offset.Learnt
  pub counted_served : Result ppu_counted_served.Learnt
  pub pattern_served : Result ppu_pattern_served.Learnt
  pub sprite_byte : Result ppu_sprite_byte.Learnt
