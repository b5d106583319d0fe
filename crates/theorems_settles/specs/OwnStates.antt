-- The own contracts of the functions of crates split, state, cpu and ppu (crate `calls`, specs/Own.antt).
-- Assumes nothing.
use Rattle.calls.specs.Own.{Own, own}
use Rattle.calls.specs.Own.Says.{nothing, fact_of}
use Rattle.split.specs.contracts as split
use Rattle.state.specs.contracts as state
use Rattle.cpu.specs.contracts as cpu
use Rattle.ppu.specs.contracts as ppu

abbrev pub split_new : Own split.control.new.ended (λ w. split.control.new.clauses w.𝓛 w.𝓜.mem w.𝓡.returns)
split_new = own (λ w κ a g. nothing) (λ w κ a g r e. fact_of)

abbrev pub split_set_control : Own split.control.set_control.ended (λ w. split.control.set_control.clauses w.𝓛 w.𝓜.mem w.𝓡.returns)
split_set_control = own (λ w κ a g. nothing) (λ w κ a g r e. fact_of)

abbrev pub split_set_scroll : Own split.control.set_scroll.ended (λ w. split.control.set_scroll.clauses w.𝓛 w.𝓜.mem w.𝓡.returns)
split_set_scroll = own (λ w κ a g. nothing) (λ w κ a g r e. fact_of)

abbrev pub split_set_bank : Own split.control.set_bank.ended (λ w. split.control.set_bank.clauses w.𝓛 w.𝓜.mem w.𝓡.returns)
split_set_bank = own (λ w κ a g. nothing) (λ w κ a g r e. fact_of)

abbrev pub split_active_lem : Own split.control.active.ended (λ w. split.control.active.clauses w.𝓛 w.𝓜.mem w.𝓡.returns)
split_active_lem = own (λ w κ a g. nothing) (λ w κ a g r e. fact_of)

abbrev pub split_ranges_ok : Own split.control.ranges_ok.ended (λ w. split.control.ranges_ok.clauses w.𝓛 w.𝓜.mem w.𝓡.returns)
split_ranges_ok = own (λ w κ a g. nothing) (λ w κ a g r e. fact_of)

abbrev pub split_attribute_place : Own split.places.attribute_place.ended (λ w. split.places.attribute_place.clauses w.𝓛 w.𝓜.mem w.𝓡.returns)
split_attribute_place = own (λ w κ a g. nothing) (λ w κ a g r e. fact_of)

abbrev pub split_attribute_bits : Own split.places.attribute_bits.ended (λ w. split.places.attribute_bits.clauses w.𝓛 w.𝓜.mem w.𝓡.returns)
split_attribute_bits = own (λ w κ a g. nothing) (λ w κ a g r e. fact_of)

abbrev pub split_mirrored : Own split.places.mirrored.ended (λ w. split.places.mirrored.clauses w.𝓛 w.𝓜.mem w.𝓡.returns)
split_mirrored = own (λ w κ a g. nothing) (λ w κ a g r e. fact_of)

abbrev pub split_pattern_offset : Own split.places.pattern_offset.ended (λ w. split.places.pattern_offset.clauses w.𝓛 w.𝓜.mem w.𝓡.returns)
split_pattern_offset = own (λ w κ a g. nothing) (λ w κ a g r e. fact_of)

abbrev pub split_scroll_of : Own split.region.scroll_of.ended (λ w. split.region.scroll_of.clauses w.𝓛 w.𝓜.mem w.𝓡.returns)
split_scroll_of = own (λ w κ a g. nothing) (λ w κ a g r e. fact_of)

abbrev pub split_moved_lem : Own split.region.moved.ended (λ w. split.region.moved.clauses w.𝓛 w.𝓜.mem w.𝓡.returns)
split_moved_lem = own (λ w κ a g. nothing) (λ w κ a g r e. fact_of)

abbrev pub state_passed : Own state.gate.passed.ended (λ w. state.gate.passed.clauses w.𝓛 w.𝓜.mem w.𝓡.returns)
state_passed = own (λ w κ a g. nothing) (λ w κ a g r e. fact_of)

abbrev pub state_in_range : Own state.ranges.in_range.ended (λ w. state.ranges.in_range.clauses w.𝓛 w.𝓜.mem w.𝓡.returns)
state_in_range = own (λ w κ a g. nothing) (λ w κ a g r e. fact_of)

abbrev pub state_same_lengths : Own state.gate.same_lengths.ended (λ w. state.gate.same_lengths.clauses w.𝓛 w.𝓜.mem w.𝓡.returns)
state_same_lengths = own (λ w κ a g. nothing) (λ w κ a g r e. fact_of)

abbrev pub state_prg_taken : Own state.sizes.prg_taken.ended (λ w. state.sizes.prg_taken.clauses w.𝓛 w.𝓜.mem w.𝓡.returns)
state_prg_taken = own (λ w κ a g. nothing) (λ w κ a g r e. fact_of)

abbrev pub state_chr_taken : Own state.sizes.chr_taken.ended (λ w. state.sizes.chr_taken.clauses w.𝓛 w.𝓜.mem w.𝓡.returns)
state_chr_taken = own (λ w κ a g. nothing) (λ w κ a g r e. fact_of)

abbrev pub state_ram_taken : Own state.sizes.ram_taken.ended (λ w. state.sizes.ram_taken.clauses w.𝓛 w.𝓜.mem w.𝓡.returns)
state_ram_taken = own (λ w κ a g. nothing) (λ w κ a g r e. fact_of)

abbrev pub state_lengths_ok : Own state.sizes.lengths_ok.ended (λ w. state.sizes.lengths_ok.clauses w.𝓛 w.𝓜.mem w.𝓡.returns)
state_lengths_ok = own (λ w κ a g. nothing) (λ w κ a g r e. fact_of)

abbrev pub cpu_choose : Own cpu.chosen.choose.ended (λ w. cpu.chosen.choose.clauses w.𝓛 w.𝓜.mem w.𝓡.returns)
cpu_choose = own (λ w κ a g. nothing) (λ w κ a g r e. fact_of)

abbrev pub cpu_ppu_after : Own cpu.chosen.ppu_after.ended (λ w. cpu.chosen.ppu_after.clauses w.𝓛 w.𝓜.mem w.𝓡.returns)
cpu_ppu_after = own (λ w κ a g. nothing) (λ w κ a g r e. fact_of)

abbrev pub cpu_set_changed : Own cpu.chosen.set_changed.ended (λ w. cpu.chosen.set_changed.clauses w.𝓛 w.𝓜.mem w.𝓡.returns)
cpu_set_changed = own (λ w κ a g. nothing) (λ w κ a g r e. fact_of)

abbrev pub cpu_split_after : Own cpu.groups.split_after.ended (λ w. cpu.groups.split_after.clauses w.𝓛 w.𝓜.mem w.𝓡.returns)
cpu_split_after = own (λ w κ a g. nothing) (λ w κ a g r e. fact_of)

abbrev pub cpu_irq_after : Own cpu.groups.irq_after.ended (λ w. cpu.groups.irq_after.clauses w.𝓛 w.𝓜.mem w.𝓡.returns)
cpu_irq_after = own (λ w κ a g. nothing) (λ w κ a g r e. fact_of)

abbrev pub cpu_is_within : Own cpu.groups.is_within.ended (λ w. cpu.groups.is_within.clauses w.𝓛 w.𝓜.mem w.𝓡.returns)
cpu_is_within = own (λ w κ a g. nothing) (λ w κ a g r e. fact_of)

abbrev pub cpu_prg_banks_after : Own cpu.groups.prg_banks_after.ended (λ w. cpu.groups.prg_banks_after.clauses w.𝓛 w.𝓜.mem w.𝓡.returns)
cpu_prg_banks_after = own (λ w κ a g. nothing) (λ w κ a g r e. fact_of)

abbrev pub cpu_chr_banks_after : Own cpu.groups.chr_banks_after.ended (λ w. cpu.groups.chr_banks_after.clauses w.𝓛 w.𝓜.mem w.𝓡.returns)
cpu_chr_banks_after = own (λ w κ a g. nothing) (λ w κ a g r e. fact_of)

abbrev pub cpu_status_after : Own cpu.ppu_registers.status_after.ended (λ w. cpu.ppu_registers.status_after.clauses w.𝓛 w.𝓜.mem w.𝓡.returns)
cpu_status_after = own (λ w κ a g. nothing) (λ w κ a g r e. fact_of)

abbrev pub cpu_detector_after : Own cpu.ppu_registers.detector_after.ended (λ w. cpu.ppu_registers.detector_after.clauses w.𝓛 w.𝓜.mem w.𝓡.returns)
cpu_detector_after = own (λ w κ a g. nothing) (λ w κ a g r e. fact_of)

abbrev pub cpu_page_answer : Own cpu.reads.page_answer.ended (λ w. cpu.reads.page_answer.clauses w.𝓛 w.𝓜.mem w.𝓡.returns)
cpu_page_answer = own (λ w κ a g. nothing) (λ w κ a g r e. fact_of)

abbrev pub cpu_register_or : Own cpu.reads.register_or.ended (λ w. cpu.reads.register_or.clauses w.𝓛 w.𝓜.mem w.𝓡.returns)
cpu_register_or = own (λ w κ a g. nothing) (λ w κ a g r e. fact_of)

abbrev pub cpu_irq_read : Own cpu.reads.irq_read.ended (λ w. cpu.reads.irq_read.clauses w.𝓛 w.𝓜.mem w.𝓡.returns)
cpu_irq_read = own (λ w κ a g. nothing) (λ w κ a g r e. fact_of)

abbrev pub cpu_audio_read : Own cpu.reads.audio_read.ended (λ w. cpu.reads.audio_read.clauses w.𝓛 w.𝓜.mem w.𝓡.returns)
cpu_audio_read = own (λ w κ a g. nothing) (λ w κ a g r e. fact_of)

abbrev pub cpu_maps_prg : Own cpu.writes.maps_prg.ended (λ w. cpu.writes.maps_prg.clauses w.𝓛 w.𝓜.mem w.𝓡.returns)
cpu_maps_prg = own (λ w κ a g. nothing) (λ w κ a g r e. fact_of)

abbrev pub cpu_maps_chr : Own cpu.writes.maps_chr.ended (λ w. cpu.writes.maps_chr.clauses w.𝓛 w.𝓜.mem w.𝓡.returns)
cpu_maps_chr = own (λ w κ a g. nothing) (λ w κ a g r e. fact_of)

abbrev pub cpu_chr_pages_after : Own cpu.writes.chr_pages_after.ended (λ w. cpu.writes.chr_pages_after.clauses w.𝓛 w.𝓜.mem w.𝓡.returns)
cpu_chr_pages_after = own (λ w κ a g. nothing) (λ w κ a g r e. fact_of)

abbrev pub cpu_latch : Own cpu.writes.latch.ended (λ w. cpu.writes.latch.clauses w.𝓛 w.𝓜.mem w.𝓡.returns)
cpu_latch = own (λ w κ a g. nothing) (λ w κ a g r e. fact_of)

abbrev pub cpu_prg_word_at : Own cpu.writes.prg_word_at.ended (λ w. cpu.writes.prg_word_at.clauses w.𝓛 w.𝓜.mem w.𝓡.returns)
cpu_prg_word_at = own (λ w κ a g. nothing) (λ w κ a g r e. fact_of)

abbrev pub cpu_audio_write : Own cpu.writes.audio_write.ended (λ w. cpu.writes.audio_write.clauses w.𝓛 w.𝓜.mem w.𝓡.returns)
cpu_audio_write = own (λ w κ a g. nothing) (λ w κ a g r e. fact_of)

abbrev pub ppu_ppu_seen : Own ppu.fetches.ppu_seen.ended (λ w. ppu.fetches.ppu_seen.clauses w.𝓛 w.𝓜.mem w.𝓡.returns)
ppu_ppu_seen = own (λ w κ a g. fact_of) (λ w κ a g r e. fact_of)

abbrev pub ppu_split_seen : Own ppu.fetches.split_seen.ended (λ w. ppu.fetches.split_seen.clauses w.𝓛 w.𝓜.mem w.𝓡.returns)
ppu_split_seen = own (λ w κ a g. fact_of) (λ w κ a g r e. fact_of)

abbrev pub ppu_direct_byte : Own ppu.served.direct_byte.ended (λ w. ppu.served.direct_byte.clauses w.𝓛 w.𝓜.mem w.𝓡.returns)
ppu_direct_byte = own (λ w κ a g. nothing) (λ w κ a g r e. fact_of)

abbrev pub ppu_ex_offset : Own ppu.served.ex_offset.ended (λ w. ppu.served.ex_offset.clauses w.𝓛 w.𝓜.mem w.𝓡.returns)
ppu_ex_offset = own (λ w κ a g. nothing) (λ w κ a g r e. fact_of)

abbrev pub ppu_counted_served : Own ppu.served.counted_served.ended (λ w. ppu.served.counted_served.clauses w.𝓛 w.𝓜.mem w.𝓡.returns)
ppu_counted_served = own (λ w κ a g. nothing) (λ w κ a g r e. fact_of)

abbrev pub ppu_pattern_served : Own ppu.served.pattern_served.ended (λ w. ppu.served.pattern_served.clauses w.𝓛 w.𝓜.mem w.𝓡.returns)
ppu_pattern_served = own (λ w κ a g. nothing) (λ w κ a g r e. fact_of)

abbrev pub ppu_sprite_byte : Own ppu.served.sprite_byte.ended (λ w. ppu.served.sprite_byte.clauses w.𝓛 w.𝓜.mem w.𝓡.returns)
ppu_sprite_byte = own (λ w κ a g. nothing) (λ w κ a g r e. fact_of)
