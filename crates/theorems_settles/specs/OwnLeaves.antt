-- The own contracts of the functions of crates memory, answers, registers, banks and scanline (crate `calls`, specs/Own.antt).
-- Assumes nothing.
use Rattle.calls.specs.Own.{Own, own}
use Rattle.calls.specs.Own.Says.{nothing, fact_of}
use Rattle.memory.specs.contracts as memory
use Rattle.answers.specs.contracts as answers
use Rattle.registers.specs.contracts as registers
use Rattle.banks.specs.contracts as banks
use Rattle.scanline.specs.contracts as scanline

abbrev pub memory_byte : Own memory.bytes.byte.ended (λ w. memory.bytes.byte.clauses w.𝓛 w.𝓜.mem w.𝓡.returns)
memory_byte = own (λ w κ a g. nothing) (λ w κ a g r e. fact_of)

abbrev pub memory_put : Own memory.bytes.put.ended (λ w. memory.bytes.put.clauses w.𝓛 w.𝓜.mem w.𝓡.returns)
memory_put = own (λ w κ a g. nothing) (λ w κ a g r e. fact_of)

abbrev pub memory_peek : Own memory.Lent.peek.ended (λ w. memory.Lent.peek.clauses w.𝓛 w.𝓜.mem w.𝓡.returns)
memory_peek = own (λ w κ a g. nothing) (λ w κ a g r e. fact_of)

abbrev pub memory_store : Own memory.bytes.store.ended (λ w. memory.bytes.store.clauses w.𝓛 w.𝓜.mem w.𝓡.returns)
memory_store = own (λ w κ a g. nothing) (λ w κ a g r e. fact_of)

abbrev pub memory_prg_table_ok : Own memory.tables.prg_table_ok.ended (λ w. memory.tables.prg_table_ok.clauses w.𝓛 w.𝓜.mem w.𝓡.returns)
memory_prg_table_ok = own (λ w κ a g. fact_of) (λ w κ a g r e. fact_of)

abbrev pub memory_chr_table_ok : Own memory.tables.chr_table_ok.ended (λ w. memory.tables.chr_table_ok.clauses w.𝓛 w.𝓜.mem w.𝓡.returns)
memory_chr_table_ok = own (λ w κ a g. fact_of) (λ w κ a g r e. fact_of)

abbrev pub memory_prg_place : Own memory.tables.prg_place.ended (λ w. memory.tables.prg_place.clauses w.𝓛 w.𝓜.mem w.𝓡.returns)
memory_prg_place = own (λ w κ a g. fact_of) (λ w κ a g r e. fact_of)

abbrev pub memory_prg_places : Own memory.tables.prg_places.ended (λ w. memory.tables.prg_places.clauses w.𝓛 w.𝓜.mem w.𝓡.returns)
memory_prg_places = own (λ w κ a g. fact_of) (λ w κ a g r e. fact_of)

abbrev pub memory_chr_word_ok : Own memory.tables.chr_word_ok.ended (λ w. memory.tables.chr_word_ok.clauses w.𝓛 w.𝓜.mem w.𝓡.returns)
memory_chr_word_ok = own (λ w κ a g. fact_of) (λ w κ a g r e. fact_of)

abbrev pub memory_prg_window : Own memory.windows.prg_window.ended (λ w. memory.windows.prg_window.clauses w.𝓛 w.𝓜.mem w.𝓡.returns)
memory_prg_window = own (λ w κ a g. fact_of) (λ w κ a g r e. fact_of)

abbrev pub memory_chr_window : Own memory.windows.chr_window.ended (λ w. memory.windows.chr_window.clauses w.𝓛 w.𝓜.mem w.𝓡.returns)
memory_chr_window = own (λ w κ a g. nothing) (λ w κ a g r e. fact_of)

abbrev pub memory_word_of : Own memory.page_words.word_of.ended (λ w. memory.page_words.word_of.clauses w.𝓛 w.𝓜.mem w.𝓡.returns)
memory_word_of = own (λ w κ a g. nothing) (λ w κ a g r e. fact_of)

abbrev pub memory_page_of : Own memory.page_words.page_of.ended (λ w. memory.page_words.page_of.clauses w.𝓛 w.𝓜.mem w.𝓡.returns)
memory_page_of = own (λ w κ a g. nothing) (λ w κ a g r e. fact_of)

abbrev pub memory_place_of : Own memory.page_words.place_of.ended (λ w. memory.page_words.place_of.clauses w.𝓛 w.𝓜.mem w.𝓡.returns)
memory_place_of = own (λ w κ a g. nothing) (λ w κ a g r e. fact_of)

abbrev pub answers_number_of : Own answers.number_of.ended (λ w. answers.number_of.clauses w.𝓛 w.𝓜.mem w.𝓡.returns)
answers_number_of = own (λ w κ a g. nothing) (λ w κ a g r e. fact_of)

abbrev pub answers_letter_of : Own answers.letter_of.ended (λ w. answers.letter_of.clauses w.𝓛 w.𝓜.mem w.𝓡.returns)
answers_letter_of = own (λ w κ a g. nothing) (λ w κ a g r e. fact_of)

abbrev pub answers_has_value : Own answers.has_value.ended (λ w. answers.has_value.clauses w.𝓛 w.𝓜.mem w.𝓡.returns)
answers_has_value = own (λ w κ a g. nothing) (λ w κ a g r e. fact_of)

abbrev pub answers_value_of : Own answers.value_of.ended (λ w. answers.value_of.clauses w.𝓛 w.𝓜.mem w.𝓡.returns)
answers_value_of = own (λ w κ a g. nothing) (λ w κ a g r e. fact_of)

abbrev pub registers_new : Own registers.new.ended (λ w. registers.new.clauses w.𝓛 w.𝓜.mem w.𝓡.returns)
registers_new = own (λ w κ a g. nothing) (λ w κ a g r e. fact_of)

abbrev pub registers_reset : Own registers.reset.ended (λ w. registers.reset.clauses w.𝓛 w.𝓜.mem w.𝓡.returns)
registers_reset = own (λ w κ a g. nothing) (λ w κ a g r e. fact_of)

abbrev pub registers_attribute_use : Own registers.attribute_use.ended (λ w. registers.attribute_use.clauses w.𝓛 w.𝓜.mem w.𝓡.returns)
registers_attribute_use = own (λ w κ a g. nothing) (λ w κ a g r e. fact_of)

abbrev pub registers_nametable_use : Own registers.nametable_use.ended (λ w. registers.nametable_use.clauses w.𝓛 w.𝓜.mem w.𝓡.returns)
registers_nametable_use = own (λ w κ a g. nothing) (λ w κ a g r e. fact_of)

abbrev pub registers_unlocked : Own registers.unlocked.ended (λ w. registers.unlocked.clauses w.𝓛 w.𝓜.mem w.𝓡.returns)
registers_unlocked = own (λ w κ a g. nothing) (λ w κ a g r e. fact_of)

abbrev pub registers_write : Own registers.write.ended (λ w. registers.write.clauses w.𝓛 w.𝓜.mem w.𝓡.returns)
registers_write = own (λ w κ a g. nothing) (λ w κ a g r e. fact_of)

abbrev pub registers_mirroring_after : Own registers.mirroring_after.ended (λ w. registers.mirroring_after.clauses w.𝓛 w.𝓜.mem w.𝓡.returns)
registers_mirroring_after = own (λ w κ a g. nothing) (λ w κ a g r e. fact_of)

abbrev pub registers_ranges_ok : Own registers.ranges_ok.ended (λ w. registers.ranges_ok.clauses w.𝓛 w.𝓜.mem w.𝓡.returns)
registers_ranges_ok = own (λ w κ a g. nothing) (λ w κ a g r e. fact_of)

abbrev pub banks_chr_number : Own banks.chr.chr_number.ended (λ w. banks.chr.chr_number.clauses w.𝓛 w.𝓜.mem w.𝓡.returns)
banks_chr_number = own (λ w κ a g. fact_of) (λ w κ a g r e. fact_of)

abbrev pub banks_map_chr : Own banks.chr.map_chr.ended (λ w. banks.chr.map_chr.clauses w.𝓛 w.𝓜.mem w.𝓡.returns)
banks_map_chr = own (λ w κ a g. nothing) (λ w κ a g r e. fact_of)

abbrev pub banks_wants_background : Own banks.chr.wants_background.ended (λ w. banks.chr.wants_background.clauses w.𝓛 w.𝓜.mem w.𝓡.returns)
banks_wants_background = own (λ w κ a g. nothing) (λ w κ a g r e. fact_of)

abbrev pub banks_selector_of : Own banks.names.selector_of.ended (λ w. banks.names.selector_of.clauses w.𝓛 w.𝓜.mem w.𝓡.returns)
banks_selector_of = own (λ w κ a g. nothing) (λ w κ a g r e. fact_of)

abbrev pub banks_map_names : Own banks.names.map_names.ended (λ w. banks.names.map_names.clauses w.𝓛 w.𝓜.mem w.𝓡.returns)
banks_map_names = own (λ w κ a g. nothing) (λ w κ a g r e. fact_of)

abbrev pub banks_map_prg : Own banks.prg.map_prg.ended (λ w. banks.prg.map_prg.clauses w.𝓛 w.𝓜.mem w.𝓡.returns)
banks_map_prg = own (λ w κ a g. fact_of) (λ w κ a g r e. fact_of)

abbrev pub banks_exram_page : Own banks.prg.exram_page.ended (λ w. banks.prg.exram_page.clauses w.𝓛 w.𝓜.mem w.𝓡.returns)
banks_exram_page = own (λ w κ a g. nothing) (λ w κ a g r e. fact_of)

abbrev pub scanline_new : Own scanline.new.ended (λ w. scanline.new.clauses w.𝓛 w.𝓜.mem w.𝓡.returns)
scanline_new = own (λ w κ a g. nothing) (λ w κ a g r e. fact_of)

abbrev pub scanline_seen : Own scanline.seen.ended (λ w. scanline.seen.clauses w.𝓛 w.𝓜.mem w.𝓡.returns)
scanline_seen = own (λ w κ a g. fact_of) (λ w κ a g r e. fact_of)

abbrev pub scanline_counter_refused : Own scanline.counter_refused.ended (λ w. scanline.counter_refused.clauses w.𝓛 w.𝓜.mem w.𝓡.returns)
scanline_counter_refused = own (λ w κ a g. nothing) (λ w κ a g r e. fact_of)

abbrev pub scanline_darkened : Own scanline.darkened.ended (λ w. scanline.darkened.clauses w.𝓛 w.𝓜.mem w.𝓡.returns)
scanline_darkened = own (λ w κ a g. nothing) (λ w κ a g r e. fact_of)

abbrev pub scanline_vector_read : Own scanline.vector_read.ended (λ w. scanline.vector_read.clauses w.𝓛 w.𝓜.mem w.𝓡.returns)
scanline_vector_read = own (λ w κ a g. nothing) (λ w κ a g r e. fact_of)

abbrev pub scanline_status_read : Own scanline.status_read.ended (λ w. scanline.status_read.clauses w.𝓛 w.𝓜.mem w.𝓡.returns)
scanline_status_read = own (λ w κ a g. nothing) (λ w κ a g r e. fact_of)

abbrev pub scanline_set_target : Own scanline.set_target.ended (λ w. scanline.set_target.clauses w.𝓛 w.𝓜.mem w.𝓡.returns)
scanline_set_target = own (λ w κ a g. nothing) (λ w κ a g r e. fact_of)

abbrev pub scanline_set_enabled : Own scanline.set_enabled.ended (λ w. scanline.set_enabled.clauses w.𝓛 w.𝓜.mem w.𝓡.returns)
scanline_set_enabled = own (λ w κ a g. nothing) (λ w κ a g r e. fact_of)

abbrev pub scanline_status : Own scanline.status.ended (λ w. scanline.status.clauses w.𝓛 w.𝓜.mem w.𝓡.returns)
scanline_status = own (λ w κ a g. nothing) (λ w κ a g r e. fact_of)

abbrev pub scanline_interrupt_up : Own scanline.interrupt_up.ended (λ w. scanline.interrupt_up.clauses w.𝓛 w.𝓜.mem w.𝓡.returns)
scanline_interrupt_up = own (λ w κ a g. nothing) (λ w κ a g r e. fact_of)

abbrev pub scanline_ranges_ok : Own scanline.ranges_ok.ended (λ w. scanline.ranges_ok.clauses w.𝓛 w.𝓜.mem w.𝓡.returns)
scanline_ranges_ok = own (λ w κ a g. nothing) (λ w κ a g r e. fact_of)

abbrev pub scanline_clock : Own scanline.clock.ended (λ w. scanline.clock.clauses w.𝓛 w.𝓜.mem w.𝓡.returns)
scanline_clock = own (λ w κ a g. fact_of) (λ w κ a g r e. fact_of)

abbrev pub scanline_of : Own scanline.record.of.ended (λ w. scanline.record.of.clauses w.𝓛 w.𝓜.mem w.𝓡.returns)
scanline_of = own (λ w κ a g. nothing) (λ w κ a g r e. fact_of)

abbrev pub scanline_ticked : Own scanline.record.ticked.ended (λ w. scanline.record.ticked.clauses w.𝓛 w.𝓜.mem w.𝓡.returns)
scanline_ticked = own (λ w κ a g. fact_of) (λ w κ a g r e. fact_of)

abbrev pub scanline_clock_record : Own scanline.record.clock_record.ended (λ w. scanline.record.clock_record.clauses w.𝓛 w.𝓜.mem w.𝓡.returns)
scanline_clock_record = own (λ w κ a g. nothing) (λ w κ a g r e. fact_of)

abbrev pub scanline_counted : Own scanline.tiles.counted.ended (λ w. scanline.tiles.counted.clauses w.𝓛 w.𝓜.mem w.𝓡.returns)
scanline_counted = own (λ w κ a g. nothing) (λ w κ a g r e. fact_of)

abbrev pub scanline_attribute_address : Own scanline.tiles.attribute_address.ended (λ w. scanline.tiles.attribute_address.clauses w.𝓛 w.𝓜.mem w.𝓡.returns)
scanline_attribute_address = own (λ w κ a g. nothing) (λ w κ a g r e. fact_of)

abbrev pub scanline_name_fetch : Own scanline.tiles.name_fetch.ended (λ w. scanline.tiles.name_fetch.clauses w.𝓛 w.𝓜.mem w.𝓡.returns)
scanline_name_fetch = own (λ w κ a g. nothing) (λ w κ a g r e. fact_of)

abbrev pub scanline_sprite_fetch : Own scanline.tiles.sprite_fetch.ended (λ w. scanline.tiles.sprite_fetch.clauses w.𝓛 w.𝓜.mem w.𝓡.returns)
scanline_sprite_fetch = own (λ w κ a g. nothing) (λ w κ a g r e. fact_of)

abbrev pub scanline_column : Own scanline.tiles.column.ended (λ w. scanline.tiles.column.clauses w.𝓛 w.𝓜.mem w.𝓡.returns)
scanline_column = own (λ w κ a g. fact_of) (λ w κ a g r e. fact_of)

abbrev pub scanline_prefetched : Own scanline.tiles.prefetched.ended (λ w. scanline.tiles.prefetched.clauses w.𝓛 w.𝓜.mem w.𝓡.returns)
scanline_prefetched = own (λ w κ a g. nothing) (λ w κ a g r e. fact_of)

abbrev pub scanline_first_tiles : Own scanline.tiles.first_tiles.ended (λ w. scanline.tiles.first_tiles.clauses w.𝓛 w.𝓜.mem w.𝓡.returns)
scanline_first_tiles = own (λ w κ a g. nothing) (λ w κ a g r e. fact_of)

abbrev pub scanline_tiles_ok : Own scanline.tiles.tiles_ok.ended (λ w. scanline.tiles.tiles_ok.clauses w.𝓛 w.𝓜.mem w.𝓡.returns)
scanline_tiles_ok = own (λ w κ a g. nothing) (λ w κ a g r e. fact_of)

abbrev pub scanline_tiles_raised : Own scanline.tiles.tiles_raised.ended (λ w. scanline.tiles.tiles_raised.clauses w.𝓛 w.𝓜.mem w.𝓡.returns)
scanline_tiles_raised = own (λ w κ a g. fact_of) (λ w κ a g r e. fact_of)

abbrev pub scanline_tiles_after : Own scanline.tiles.tiles_after.ended (λ w. scanline.tiles.tiles_after.clauses w.𝓛 w.𝓜.mem w.𝓡.returns)
scanline_tiles_after = own (λ w κ a g. nothing) (λ w κ a g r e. fact_of)
