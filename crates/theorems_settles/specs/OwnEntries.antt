-- The own contracts of the entry points and of what is public beside them (crate `calls`, specs/Own.antt).
-- Assumes nothing.
use Rattle.calls.specs.Own.{Own, own}
use Rattle.calls.specs.Own.Says.{nothing, fact_of}
use Rattle.board.specs.contracts as board
use Rattle.board_ppu.specs.contracts as board_ppu
use Rattle.views.specs.contracts as views
use Rattle.trace.specs.contracts as trace
use Rattle.calls.specs.contracts as calls
use Rattle.text.specs.contracts as text
use Rattle.logs.specs.contracts as logs
use Rattle.steps.specs.contracts as steps
use Rattle.player.specs.contracts as player
use Rattle.transcript.specs.contracts as transcript

abbrev pub board_clock : Own board.clocks.clock.ended (λ w. board.clocks.clock.clauses w.𝓛 w.𝓜.mem w.𝓡.returns)
board_clock = own (λ w κ a g. nothing) (λ w κ a g r e. fact_of)

abbrev pub board_cpu_read : Own board.cpu_side.cpu_read.ended (λ w. board.cpu_side.cpu_read.clauses w.𝓛 w.𝓜.mem w.𝓡.returns)
board_cpu_read = own (λ w κ a g. nothing) (λ w κ a g r e. fact_of)

abbrev pub board_cpu_peek : Own board.cpu_side.cpu_peek.ended (λ w. board.cpu_side.cpu_peek.clauses w.𝓛 w.𝓜.mem w.𝓡.returns)
board_cpu_peek = own (λ w κ a g. nothing) (λ w κ a g r e. fact_of)

abbrev pub board_cpu_write : Own board.cpu_side.cpu_write.ended (λ w. board.cpu_side.cpu_write.clauses w.𝓛 w.𝓜.mem w.𝓡.returns)
board_cpu_write = own (λ w κ a g. nothing) (λ w κ a g r e. fact_of)

abbrev pub board_refuse : Own board.refuse.ended (λ w. board.refuse.clauses w.𝓛 w.𝓜.mem w.𝓡.returns)
board_refuse = own (λ w κ a g. nothing) (λ w κ a g r e. fact_of)

abbrev pub board_load : Own board.loads.load.ended (λ w. board.loads.load.clauses w.𝓛 w.𝓜.mem w.𝓡.returns)
board_load = own (λ w κ a g. nothing) (λ w κ a g r e. fact_of)

abbrev pub board_ppu_register : Own board.ppu_registers.ppu_register.ended (λ w. board.ppu_registers.ppu_register.clauses w.𝓛 w.𝓜.mem w.𝓡.returns)
board_ppu_register = own (λ w κ a g. nothing) (λ w κ a g r e. fact_of)

abbrev pub board_reset : Own board.state_calls.reset.ended (λ w. board.state_calls.reset.clauses w.𝓛 w.𝓜.mem w.𝓡.returns)
board_reset = own (λ w κ a g. nothing) (λ w κ a g r e. fact_of)

abbrev pub board_mirroring : Own board.state_calls.mirroring.ended (λ w. board.state_calls.mirroring.clauses w.𝓛 w.𝓜.mem w.𝓡.returns)
board_mirroring = own (λ w κ a g. nothing) (λ w κ a g r e. fact_of)

abbrev pub board_interrupt_up : Own board.state_calls.interrupt_up.ended (λ w. board.state_calls.interrupt_up.clauses w.𝓛 w.𝓜.mem w.𝓡.returns)
board_interrupt_up = own (λ w κ a g. nothing) (λ w κ a g r e. fact_of)

abbrev pub board_ppu_ppu_fetch : Own board_ppu.fetches.ppu_fetch.ended (λ w. board_ppu.fetches.ppu_fetch.clauses w.𝓛 w.𝓜.mem w.𝓡.returns)
board_ppu_ppu_fetch = own (λ w κ a g. nothing) (λ w κ a g r e. fact_of)

abbrev pub board_ppu_chr_word_at : Own board_ppu.pages.chr_word_at.ended (λ w. board_ppu.pages.chr_word_at.clauses w.𝓛 w.𝓜.mem w.𝓡.returns)
board_ppu_chr_word_at = own (λ w κ a g. nothing) (λ w κ a g r e. fact_of)

abbrev pub board_ppu_ppu_peek : Own board_ppu.peeks.ppu_peek.ended (λ w. board_ppu.peeks.ppu_peek.clauses w.𝓛 w.𝓜.mem w.𝓡.returns)
board_ppu_ppu_peek = own (λ w κ a g. nothing) (λ w κ a g r e. fact_of)

abbrev pub board_ppu_sprite_peek : Own board_ppu.peeks.sprite_peek.ended (λ w. board_ppu.peeks.sprite_peek.clauses w.𝓛 w.𝓜.mem w.𝓡.returns)
board_ppu_sprite_peek = own (λ w κ a g. nothing) (λ w κ a g r e. fact_of)

abbrev pub board_ppu_ppu_write : Own board_ppu.stores.ppu_write.ended (λ w. board_ppu.stores.ppu_write.clauses w.𝓛 w.𝓜.mem w.𝓡.returns)
board_ppu_ppu_write = own (λ w κ a g. nothing) (λ w κ a g r e. fact_of)

abbrev pub views_cpu_view : Own views.cpu_view.ended (λ w. views.cpu_view.clauses w.𝓛 w.𝓜.mem w.𝓡.returns)
views_cpu_view = own (λ w κ a g. nothing) (λ w κ a g r e. fact_of)

abbrev pub views_ppu_view : Own views.ppu_view.ended (λ w. views.ppu_view.clauses w.𝓛 w.𝓜.mem w.𝓡.returns)
views_ppu_view = own (λ w κ a g. nothing) (λ w κ a g r e. fact_of)

abbrev pub trace_kind_of : Own trace.kind_of.ended (λ w. trace.kind_of.clauses w.𝓛 w.𝓜.mem w.𝓡.returns)
trace_kind_of = own (λ w κ a g. nothing) (λ w κ a g r e. fact_of)

abbrev pub trace_too_long : Own trace.too_long.ended (λ w. trace.too_long.clauses w.𝓛 w.𝓜.mem w.𝓡.returns)
trace_too_long = own (λ w κ a g. nothing) (λ w κ a g r e. fact_of)

abbrev pub trace_address_at : Own trace.numbers.address_at.ended (λ w. trace.numbers.address_at.clauses w.𝓛 w.𝓜.mem w.𝓡.returns)
trace_address_at = own (λ w κ a g. nothing) (λ w κ a g r e. fact_of)

abbrev pub trace_value_at : Own trace.numbers.value_at.ended (λ w. trace.numbers.value_at.clauses w.𝓛 w.𝓜.mem w.𝓡.returns)
trace_value_at = own (λ w κ a g. nothing) (λ w κ a g r e. fact_of)

abbrev pub trace_record_at : Own trace.records.record_at.ended (λ w. trace.records.record_at.clauses w.𝓛 w.𝓜.mem w.𝓡.returns)
trace_record_at = own (λ w κ a g. nothing) (λ w κ a g r e. fact_of)

abbrev pub trace_first_record : Own trace.reader.first_record.ended (λ w. trace.reader.first_record.clauses w.𝓛 w.𝓜.mem w.𝓡.returns)
trace_first_record = own (λ w κ a g. nothing) (λ w κ a g r e. fact_of)

abbrev pub calls_call_on : Own calls.call_on.ended (λ w. calls.call_on.clauses w.𝓛 w.𝓜.mem w.𝓡.returns)
calls_call_on = own (λ w κ a g. nothing) (λ w κ a g r e. fact_of)

abbrev pub text_logged_line : Own text.pen.Pen.logged_line.ended (λ w. text.pen.Pen.logged_line.clauses w.𝓛 w.𝓜.mem w.𝓡.returns)
text_logged_line = own (λ w κ a g. nothing) (λ w κ a g r e. fact_of)

abbrev pub text_refused_line : Own text.pen.Pen.refused_line.ended (λ w. text.pen.Pen.refused_line.clauses w.𝓛 w.𝓜.mem w.𝓡.returns)
text_refused_line = own (λ w κ a g. nothing) (λ w κ a g r e. fact_of)

abbrev pub text_unreadable_line : Own text.pen.Pen.unreadable_line.ended (λ w. text.pen.Pen.unreadable_line.clauses w.𝓛 w.𝓜.mem w.𝓡.returns)
text_unreadable_line = own (λ w κ a g. nothing) (λ w κ a g r e. fact_of)

abbrev pub text_too_long_line : Own text.pen.Pen.too_long_line.ended (λ w. text.pen.Pen.too_long_line.clauses w.𝓛 w.𝓜.mem w.𝓡.returns)
text_too_long_line = own (λ w κ a g. nothing) (λ w κ a g r e. fact_of)

abbrev pub text_end_line : Own text.pen.Pen.end_line.ended (λ w. text.pen.Pen.end_line.clauses w.𝓛 w.𝓜.mem w.𝓡.returns)
text_end_line = own (λ w κ a g. nothing) (λ w κ a g r e. fact_of)

abbrev pub text_put : Own text.pen.Pen.put.ended (λ w. text.pen.Pen.put.clauses w.𝓛 w.𝓜.mem w.𝓡.returns)
text_put = own (λ w κ a g. nothing) (λ w κ a g r e. fact_of)

abbrev pub text_decimal : Own text.pen.Pen.decimal.ended (λ w. text.pen.Pen.decimal.clauses w.𝓛 w.𝓜.mem w.𝓡.returns)
text_decimal = own (λ w κ a g. nothing) (λ w κ a g r e. fact_of)

abbrev pub text_number : Own text.pen.Pen.number.ended (λ w. text.pen.Pen.number.clauses w.𝓛 w.𝓜.mem w.𝓡.returns)
text_number = own (λ w κ a g. nothing) (λ w κ a g r e. fact_of)

abbrev pub text_letter : Own text.pen.Pen.letter.ended (λ w. text.pen.Pen.letter.clauses w.𝓛 w.𝓜.mem w.𝓡.returns)
text_letter = own (λ w κ a g. nothing) (λ w κ a g r e. fact_of)

abbrev pub logs_log_record : Own logs.log_record.ended (λ w. logs.log_record.clauses w.𝓛 w.𝓜.mem w.𝓡.returns)
logs_log_record = own (λ w κ a g. fact_of) (λ w κ a g r e. fact_of)

abbrev pub steps_read : Own steps.cpu_side.read.ended (λ w. steps.cpu_side.read.clauses w.𝓛 w.𝓜.mem w.𝓡.returns)
steps_read = own (λ w κ a g. nothing) (λ w κ a g r e. fact_of)

abbrev pub steps_store : Own steps.cpu_side.store.ended (λ w. steps.cpu_side.store.clauses w.𝓛 w.𝓜.mem w.𝓡.returns)
steps_store = own (λ w κ a g. nothing) (λ w κ a g r e. fact_of)

abbrev pub steps_exram_word : Own steps.cpu_side.exram_word.ended (λ w. steps.cpu_side.exram_word.clauses w.𝓛 w.𝓜.mem w.𝓡.returns)
steps_exram_word = own (λ w κ a g. nothing) (λ w κ a g r e. fact_of)

abbrev pub steps_count_fetch : Own steps.ppu_side.count_fetch.ended (λ w. steps.ppu_side.count_fetch.clauses w.𝓛 w.𝓜.mem w.𝓡.returns)
steps_count_fetch = own (λ w κ a g. fact_of) (λ w κ a g r e. fact_of)

abbrev pub steps_counted_answer : Own steps.ppu_side.counted_answer.ended (λ w. steps.ppu_side.counted_answer.clauses w.𝓛 w.𝓜.mem w.𝓡.returns)
steps_counted_answer = own (λ w κ a g. nothing) (λ w κ a g r e. fact_of)

abbrev pub steps_chosen_at : Own steps.ppu_side.chosen_at.ended (λ w. steps.ppu_side.chosen_at.clauses w.𝓛 w.𝓜.mem w.𝓡.returns)
steps_chosen_at = own (λ w κ a g. nothing) (λ w κ a g r e. fact_of)

abbrev pub steps_map_on_change : Own steps.ppu_side.map_on_change.ended (λ w. steps.ppu_side.map_on_change.clauses w.𝓛 w.𝓜.mem w.𝓡.returns)
steps_map_on_change = own (λ w κ a g. nothing) (λ w κ a g r e. fact_of)

abbrev pub steps_other_answer : Own steps.ppu_side.other_answer.ended (λ w. steps.ppu_side.other_answer.clauses w.𝓛 w.𝓜.mem w.𝓡.returns)
steps_other_answer = own (λ w κ a g. nothing) (λ w κ a g r e. fact_of)

abbrev pub steps_write_prg : Own steps.register_writes.write_prg.ended (λ w. steps.register_writes.write_prg.clauses w.𝓛 w.𝓜.mem w.𝓡.returns)
steps_write_prg = own (λ w κ a g. fact_of) (λ w κ a g r e. fact_of)

abbrev pub steps_write_other : Own steps.register_writes.write_other.ended (λ w. steps.register_writes.write_other.clauses w.𝓛 w.𝓜.mem w.𝓡.returns)
steps_write_other = own (λ w κ a g. nothing) (λ w κ a g r e. fact_of)

abbrev pub player_replay : Own player.replay.ended (λ w. player.replay.clauses w.𝓛 w.𝓜.mem w.𝓡.returns)
player_replay = own (λ w κ a g. nothing) (λ w κ a g r e. fact_of)

abbrev pub player_play : Own player.plays.play.ended (λ w. player.plays.play.clauses w.𝓛 w.𝓜.mem w.𝓡.returns)
player_play = own (λ w κ a g. fact_of) (λ w κ a g r e. fact_of)

abbrev pub transcript_print : Own transcript.printed.print.ended (λ w. transcript.printed.print.clauses w.𝓛 w.𝓜.mem w.𝓡.returns)
transcript_print = own (λ w κ a g. nothing) (λ w κ a g r e. fact_of)

abbrev pub transcript_transcribe : Own transcript.cartridge.transcribe.ended (λ w. transcript.cartridge.transcribe.clauses w.𝓛 w.𝓜.mem w.𝓡.returns)
transcript_transcribe = own (λ w κ a g. nothing) (λ w κ a g r e. fact_of)
