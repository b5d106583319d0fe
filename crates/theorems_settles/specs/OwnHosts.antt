-- The own contracts of the functions of the host's boundary (crate `calls`, specs/Own.antt).
-- Assumes nothing.
use Rattle.calls.specs.Own.{Own, own}
use Rattle.calls.specs.Own.Says.{nothing, fact_of}
use Rattle.host_state.specs.contracts as host_state
use Rattle.host_answers.specs.contracts as host_answers
use Rattle.host.specs.contracts as host
use Rattle.host_looks.specs.contracts as host_looks
use Rattle.host_replay.specs.contracts as host_replay

abbrev pub host_state_in_range : Own host_state.gate.in_range.ended (λ w. host_state.gate.in_range.clauses w.𝓛 w.𝓜.mem w.𝓡.returns)
host_state_in_range = own (λ w κ a g. nothing) (λ w κ a g r e. fact_of)

abbrev pub host_state_passed : Own host_state.gate.passed.ended (λ w. host_state.gate.passed.clauses w.𝓛 w.𝓜.mem w.𝓡.returns)
host_state_passed = own (λ w κ a g. nothing) (λ w κ a g r e. fact_of)

abbrev pub host_state_put_regs : Own host_state.groups.put_regs.ended (λ w. host_state.groups.put_regs.clauses w.𝓛 w.𝓜.mem w.𝓡.returns)
host_state_put_regs = own (λ w κ a g. nothing) (λ w κ a g r e. fact_of)

abbrev pub host_state_put_region : Own host_state.groups.put_region.ended (λ w. host_state.groups.put_region.clauses w.𝓛 w.𝓜.mem w.𝓡.returns)
host_state_put_region = own (λ w κ a g. nothing) (λ w κ a g r e. fact_of)

abbrev pub host_state_put_split : Own host_state.groups.put_split.ended (λ w. host_state.groups.put_split.clauses w.𝓛 w.𝓜.mem w.𝓡.returns)
host_state_put_split = own (λ w κ a g. nothing) (λ w κ a g r e. fact_of)

abbrev pub host_state_put_detector : Own host_state.groups.put_detector.ended (λ w. host_state.groups.put_detector.clauses w.𝓛 w.𝓜.mem w.𝓡.returns)
host_state_put_detector = own (λ w κ a g. nothing) (λ w κ a g r e. fact_of)

abbrev pub host_state_put_tiles : Own host_state.groups.put_tiles.ended (λ w. host_state.groups.put_tiles.clauses w.𝓛 w.𝓜.mem w.𝓡.returns)
host_state_put_tiles = own (λ w κ a g. nothing) (λ w κ a g r e. fact_of)

abbrev pub host_state_put_set : Own host_state.groups.put_set.ended (λ w. host_state.groups.put_set.clauses w.𝓛 w.𝓜.mem w.𝓡.returns)
host_state_put_set = own (λ w κ a g. nothing) (λ w κ a g r e. fact_of)

abbrev pub host_state_put_status : Own host_state.groups.put_status.ended (λ w. host_state.groups.put_status.clauses w.𝓛 w.𝓜.mem w.𝓡.returns)
host_state_put_status = own (λ w κ a g. nothing) (λ w κ a g r e. fact_of)

abbrev pub host_state_number_of_mirroring : Own host_state.groups.number_of_mirroring.ended (λ w. host_state.groups.number_of_mirroring.clauses w.𝓛 w.𝓜.mem w.𝓡.returns)
host_state_number_of_mirroring = own (λ w κ a g. nothing) (λ w κ a g r e. fact_of)

abbrev pub host_state_put_mirroring : Own host_state.groups.put_mirroring.ended (λ w. host_state.groups.put_mirroring.clauses w.𝓛 w.𝓜.mem w.𝓡.returns)
host_state_put_mirroring = own (λ w κ a g. nothing) (λ w κ a g r e. fact_of)

abbrev pub host_state_put_prg_banks : Own host_state.groups.put_prg_banks.ended (λ w. host_state.groups.put_prg_banks.clauses w.𝓛 w.𝓜.mem w.𝓡.returns)
host_state_put_prg_banks = own (λ w κ a g. nothing) (λ w κ a g r e. fact_of)

abbrev pub host_state_put_chr_banks : Own host_state.groups.put_chr_banks.ended (λ w. host_state.groups.put_chr_banks.clauses w.𝓛 w.𝓜.mem w.𝓡.returns)
host_state_put_chr_banks = own (λ w κ a g. nothing) (λ w κ a g r e. fact_of)

abbrev pub host_state_put_exram_word : Own host_state.groups.put_exram_word.ended (λ w. host_state.groups.put_exram_word.clauses w.𝓛 w.𝓜.mem w.𝓡.returns)
host_state_put_exram_word = own (λ w κ a g. nothing) (λ w κ a g r e. fact_of)

abbrev pub host_state_put_lengths : Own host_state.groups.put_lengths.ended (λ w. host_state.groups.put_lengths.clauses w.𝓛 w.𝓜.mem w.𝓡.returns)
host_state_put_lengths = own (λ w κ a g. nothing) (λ w κ a g r e. fact_of)

abbrev pub host_state_sized : Own host_state.limits.sized.ended (λ w. host_state.limits.sized.clauses w.𝓛 w.𝓜.mem w.𝓡.returns)
host_state_sized = own (λ w κ a g. nothing) (λ w κ a g r e. fact_of)

abbrev pub host_state_within_limits : Own host_state.limits.within_limits.ended (λ w. host_state.limits.within_limits.clauses w.𝓛 w.𝓜.mem w.𝓡.returns)
host_state_within_limits = own (λ w κ a g. nothing) (λ w κ a g r e. fact_of)

abbrev pub host_state_mirroring_numbered : Own host_state.read.mirroring_numbered.ended (λ w. host_state.read.mirroring_numbered.clauses w.𝓛 w.𝓜.mem w.𝓡.returns)
host_state_mirroring_numbered = own (λ w κ a g. nothing) (λ w κ a g r e. fact_of)

abbrev pub host_state_lengths_of : Own host_state.read.lengths_of.ended (λ w. host_state.read.lengths_of.clauses w.𝓛 w.𝓜.mem w.𝓡.returns)
host_state_lengths_of = own (λ w κ a g. nothing) (λ w κ a g r e. fact_of)

abbrev pub host_state_regs_of : Own host_state.read.regs_of.ended (λ w. host_state.read.regs_of.clauses w.𝓛 w.𝓜.mem w.𝓡.returns)
host_state_regs_of = own (λ w κ a g. nothing) (λ w κ a g r e. fact_of)

abbrev pub host_state_split_of : Own host_state.read.split_of.ended (λ w. host_state.read.split_of.clauses w.𝓛 w.𝓜.mem w.𝓡.returns)
host_state_split_of = own (λ w κ a g. nothing) (λ w κ a g r e. fact_of)

abbrev pub host_state_detector_of : Own host_state.read.detector_of.ended (λ w. host_state.read.detector_of.clauses w.𝓛 w.𝓜.mem w.𝓡.returns)
host_state_detector_of = own (λ w κ a g. nothing) (λ w κ a g r e. fact_of)

abbrev pub host_state_status_of : Own host_state.read.status_of.ended (λ w. host_state.read.status_of.clauses w.𝓛 w.𝓜.mem w.𝓡.returns)
host_state_status_of = own (λ w κ a g. nothing) (λ w κ a g r e. fact_of)

abbrev pub host_state_mirroring_of : Own host_state.read.mirroring_of.ended (λ w. host_state.read.mirroring_of.clauses w.𝓛 w.𝓜.mem w.𝓡.returns)
host_state_mirroring_of = own (λ w κ a g. nothing) (λ w κ a g r e. fact_of)

abbrev pub host_state_prg_banks_of : Own host_state.read.prg_banks_of.ended (λ w. host_state.read.prg_banks_of.clauses w.𝓛 w.𝓜.mem w.𝓡.returns)
host_state_prg_banks_of = own (λ w κ a g. nothing) (λ w κ a g r e. fact_of)

abbrev pub host_state_chr_banks_of : Own host_state.read.chr_banks_of.ended (λ w. host_state.read.chr_banks_of.clauses w.𝓛 w.𝓜.mem w.𝓡.returns)
host_state_chr_banks_of = own (λ w κ a g. nothing) (λ w κ a g r e. fact_of)

abbrev pub host_state_arrays_sized : Own host_state.tables.arrays_sized.ended (λ w. host_state.tables.arrays_sized.clauses w.𝓛 w.𝓜.mem w.𝓡.returns)
host_state_arrays_sized = own (λ w κ a g. nothing) (λ w κ a g r e. fact_of)

abbrev pub host_state_prg_ok : Own host_state.tables.prg_ok.ended (λ w. host_state.tables.prg_ok.clauses w.𝓛 w.𝓜.mem w.𝓡.returns)
host_state_prg_ok = own (λ w κ a g. fact_of) (λ w κ a g r e. fact_of)

abbrev pub host_state_chr_ok : Own host_state.tables.chr_ok.ended (λ w. host_state.tables.chr_ok.clauses w.𝓛 w.𝓜.mem w.𝓡.returns)
host_state_chr_ok = own (λ w κ a g. fact_of) (λ w κ a g r e. fact_of)

abbrev pub host_state_prg_word : Own host_state.tables.prg_word.ended (λ w. host_state.tables.prg_word.clauses w.𝓛 w.𝓜.mem w.𝓡.returns)
host_state_prg_word = own (λ w κ a g. nothing) (λ w κ a g r e. fact_of)

abbrev pub host_state_chr_word : Own host_state.tables.chr_word.ended (λ w. host_state.tables.chr_word.clauses w.𝓛 w.𝓜.mem w.𝓡.returns)
host_state_chr_word = own (λ w κ a g. nothing) (λ w κ a g r e. fact_of)

abbrev pub host_state_prg_table : Own host_state.tables.prg_table.ended (λ w. host_state.tables.prg_table.clauses w.𝓛 w.𝓜.mem w.𝓡.returns)
host_state_prg_table = own (λ w κ a g. nothing) (λ w κ a g r e. fact_of)

abbrev pub host_state_chr_table : Own host_state.tables.chr_table.ended (λ w. host_state.tables.chr_table.clauses w.𝓛 w.𝓜.mem w.𝓡.returns)
host_state_chr_table = own (λ w κ a g. nothing) (λ w κ a g r e. fact_of)

abbrev pub host_state_put_prg_table : Own host_state.tables.put_prg_table.ended (λ w. host_state.tables.put_prg_table.clauses w.𝓛 w.𝓜.mem w.𝓡.returns)
host_state_put_prg_table = own (λ w κ a g. nothing) (λ w κ a g r e. fact_of)

abbrev pub host_state_put_chr_table : Own host_state.tables.put_chr_table.ended (λ w. host_state.tables.put_chr_table.clauses w.𝓛 w.𝓜.mem w.𝓡.returns)
host_state_put_chr_table = own (λ w κ a g. nothing) (λ w κ a g r e. fact_of)

abbrev pub host_state_state_of : Own host_state.whole_state.state_of.ended (λ w. host_state.whole_state.state_of.clauses w.𝓛 w.𝓜.mem w.𝓡.returns)
host_state_state_of = own (λ w κ a g. nothing) (λ w κ a g r e. fact_of)

abbrev pub host_state_put_state : Own host_state.whole_state.put_state.ended (λ w. host_state.whole_state.put_state.clauses w.𝓛 w.𝓜.mem w.𝓡.returns)
host_state_put_state = own (λ w κ a g. nothing) (λ w κ a g r e. fact_of)

abbrev pub host_answers_interrupt : Own host_answers.interrupt.ended (λ w. host_answers.interrupt.clauses w.𝓛 w.𝓜.mem w.𝓡.returns)
host_answers_interrupt = own (λ w κ a g. nothing) (λ w κ a g r e. fact_of)

abbrev pub host_answers_mirroring : Own host_answers.mirroring.ended (λ w. host_answers.mirroring.clauses w.𝓛 w.𝓜.mem w.𝓡.returns)
host_answers_mirroring = own (λ w κ a g. nothing) (λ w κ a g r e. fact_of)

abbrev pub host_answers_plain : Own host_answers.plain.ended (λ w. host_answers.plain.clauses w.𝓛 w.𝓜.mem w.𝓡.returns)
host_answers_plain = own (λ w κ a g. nothing) (λ w κ a g r e. fact_of)

abbrev pub host_answers_with_interrupt : Own host_answers.with_interrupt.ended (λ w. host_answers.with_interrupt.clauses w.𝓛 w.𝓜.mem w.𝓡.returns)
host_answers_with_interrupt = own (λ w κ a g. nothing) (λ w κ a g r e. fact_of)

abbrev pub host_clock : Own host.clocks.mmc5_clock.ended (λ w. host.clocks.mmc5_clock.clauses w.𝓛 w.𝓜.mem w.𝓡.returns)
host_clock = own (λ w κ a g. nothing) (λ w κ a g r e. fact_of)

abbrev pub host_cpu_write : Own host.writes.mmc5_cpu_write.ended (λ w. host.writes.mmc5_cpu_write.clauses w.𝓛 w.𝓜.mem w.𝓡.returns)
host_cpu_write = own (λ w κ a g. nothing) (λ w κ a g r e. fact_of)

abbrev pub host_ppu_fetch : Own host.fetches.mmc5_ppu_fetch.ended (λ w. host.fetches.mmc5_ppu_fetch.clauses w.𝓛 w.𝓜.mem w.𝓡.returns)
host_ppu_fetch = own (λ w κ a g. nothing) (λ w κ a g r e. fact_of)

abbrev pub host_load : Own host.loads.mmc5_load.ended (λ w. host.loads.mmc5_load.clauses w.𝓛 w.𝓜.mem w.𝓡.returns)
host_load = own (λ w κ a g. nothing) (λ w κ a g r e. fact_of)

abbrev pub host_ppu_write : Own host.ppu_writes.mmc5_ppu_write.ended (λ w. host.ppu_writes.mmc5_ppu_write.clauses w.𝓛 w.𝓜.mem w.𝓡.returns)
host_ppu_write = own (λ w κ a g. nothing) (λ w κ a g r e. fact_of)

abbrev pub host_cpu_read : Own host.reads.mmc5_cpu_read.ended (λ w. host.reads.mmc5_cpu_read.clauses w.𝓛 w.𝓜.mem w.𝓡.returns)
host_cpu_read = own (λ w κ a g. nothing) (λ w κ a g r e. fact_of)

abbrev pub host_ppu_register : Own host.ppu_registers.mmc5_ppu_register.ended (λ w. host.ppu_registers.mmc5_ppu_register.clauses w.𝓛 w.𝓜.mem w.𝓡.returns)
host_ppu_register = own (λ w κ a g. nothing) (λ w κ a g r e. fact_of)

abbrev pub host_reset : Own host.resets.mmc5_reset.ended (λ w. host.resets.mmc5_reset.clauses w.𝓛 w.𝓜.mem w.𝓡.returns)
host_reset = own (λ w κ a g. nothing) (λ w κ a g r e. fact_of)

abbrev pub host_looks_cpu_entry : Own host_looks.pages.mmc5_cpu_entry.ended (λ w. host_looks.pages.mmc5_cpu_entry.clauses w.𝓛 w.𝓜.mem w.𝓡.returns)
host_looks_cpu_entry = own (λ w κ a g. nothing) (λ w κ a g r e. fact_of)

abbrev pub host_looks_cpu_page : Own host_looks.pages.mmc5_cpu_page.ended (λ w. host_looks.pages.mmc5_cpu_page.clauses w.𝓛 w.𝓜.mem w.𝓡.returns)
host_looks_cpu_page = own (λ w κ a g. nothing) (λ w κ a g r e. fact_of)

abbrev pub host_looks_ppu_entry : Own host_looks.pages.mmc5_ppu_entry.ended (λ w. host_looks.pages.mmc5_ppu_entry.clauses w.𝓛 w.𝓜.mem w.𝓡.returns)
host_looks_ppu_entry = own (λ w κ a g. nothing) (λ w κ a g r e. fact_of)

abbrev pub host_looks_ppu_page : Own host_looks.pages.mmc5_ppu_page.ended (λ w. host_looks.pages.mmc5_ppu_page.clauses w.𝓛 w.𝓜.mem w.𝓡.returns)
host_looks_ppu_page = own (λ w κ a g. nothing) (λ w κ a g r e. fact_of)

abbrev pub host_looks_cpu_peek : Own host_looks.peeks.mmc5_cpu_peek.ended (λ w. host_looks.peeks.mmc5_cpu_peek.clauses w.𝓛 w.𝓜.mem w.𝓡.returns)
host_looks_cpu_peek = own (λ w κ a g. nothing) (λ w κ a g r e. fact_of)

abbrev pub host_looks_ppu_peek : Own host_looks.peeks.mmc5_ppu_peek.ended (λ w. host_looks.peeks.mmc5_ppu_peek.clauses w.𝓛 w.𝓜.mem w.𝓡.returns)
host_looks_ppu_peek = own (λ w κ a g. nothing) (λ w κ a g r e. fact_of)

abbrev pub host_looks_sprite_peek : Own host_looks.peeks.mmc5_sprite_peek.ended (λ w. host_looks.peeks.mmc5_sprite_peek.clauses w.𝓛 w.𝓜.mem w.𝓡.returns)
host_looks_sprite_peek = own (λ w κ a g. nothing) (λ w κ a g r e. fact_of)

abbrev pub host_looks_interrupt : Own host_looks.questions.mmc5_interrupt.ended (λ w. host_looks.questions.mmc5_interrupt.clauses w.𝓛 w.𝓜.mem w.𝓡.returns)
host_looks_interrupt = own (λ w κ a g. nothing) (λ w κ a g r e. fact_of)

abbrev pub host_looks_mirroring : Own host_looks.questions.mmc5_mirroring.ended (λ w. host_looks.questions.mmc5_mirroring.clauses w.𝓛 w.𝓜.mem w.𝓡.returns)
host_looks_mirroring = own (λ w κ a g. nothing) (λ w κ a g r e. fact_of)

abbrev pub host_replay_replay : Own host_replay.mmc5_replay.ended (λ w. host_replay.mmc5_replay.clauses w.𝓛 w.𝓜.mem w.𝓡.returns)
host_replay_replay = own (λ w κ a g. nothing) (λ w κ a g r e. fact_of)
