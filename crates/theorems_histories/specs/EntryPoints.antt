-- The entry points' own contracts (crate `calls`, specs/Own.antt).
-- Assumes nothing.
use Rattle.calls.specs.Own.{Own, own}
use Rattle.calls.specs.Own.Says.{nothing, fact_of}
use Rattle.board.specs.contracts as board
use Rattle.board_ppu.specs.contracts as board_ppu
use Rattle.views.specs.contracts as views
use Rattle.trace.specs.contracts as trace
use Rattle.calls.specs.contracts as calls
use Rattle.player.specs.contracts as player

abbrev pub board_load : Own board.loads.load.ended (λ w. board.loads.load.clauses w.𝓛 w.𝓜.mem w.𝓡.returns)
board_load = own (λ w κ a g. nothing) (λ w κ a g r e. fact_of)

abbrev pub board_clock : Own board.clocks.clock.ended (λ w. board.clocks.clock.clauses w.𝓛 w.𝓜.mem w.𝓡.returns)
board_clock = own (λ w κ a g. nothing) (λ w κ a g r e. fact_of)

abbrev pub board_cpu_read : Own board.cpu_side.cpu_read.ended (λ w. board.cpu_side.cpu_read.clauses w.𝓛 w.𝓜.mem w.𝓡.returns)
board_cpu_read = own (λ w κ a g. nothing) (λ w κ a g r e. fact_of)

abbrev pub board_cpu_peek : Own board.cpu_side.cpu_peek.ended (λ w. board.cpu_side.cpu_peek.clauses w.𝓛 w.𝓜.mem w.𝓡.returns)
board_cpu_peek = own (λ w κ a g. nothing) (λ w κ a g r e. fact_of)

abbrev pub board_cpu_write : Own board.cpu_side.cpu_write.ended (λ w. board.cpu_side.cpu_write.clauses w.𝓛 w.𝓜.mem w.𝓡.returns)
board_cpu_write = own (λ w κ a g. nothing) (λ w κ a g r e. fact_of)

abbrev pub board_ppu_register : Own board.ppu_registers.ppu_register.ended (λ w. board.ppu_registers.ppu_register.clauses w.𝓛 w.𝓜.mem w.𝓡.returns)
board_ppu_register = own (λ w κ a g. nothing) (λ w κ a g r e. fact_of)

abbrev pub board_reset : Own board.state_calls.reset.ended (λ w. board.state_calls.reset.clauses w.𝓛 w.𝓜.mem w.𝓡.returns)
board_reset = own (λ w κ a g. nothing) (λ w κ a g r e. fact_of)

abbrev pub board_mirroring : Own board.state_calls.mirroring.ended (λ w. board.state_calls.mirroring.clauses w.𝓛 w.𝓜.mem w.𝓡.returns)
board_mirroring = own (λ w κ a g. nothing) (λ w κ a g r e. fact_of)

abbrev pub board_interrupt_up : Own board.state_calls.interrupt_up.ended (λ w. board.state_calls.interrupt_up.clauses w.𝓛 w.𝓜.mem w.𝓡.returns)
board_interrupt_up = own (λ w κ a g. nothing) (λ w κ a g r e. fact_of)

abbrev pub board_ppu_fetch : Own board_ppu.fetches.ppu_fetch.ended (λ w. board_ppu.fetches.ppu_fetch.clauses w.𝓛 w.𝓜.mem w.𝓡.returns)
board_ppu_fetch = own (λ w κ a g. nothing) (λ w κ a g r e. fact_of)

abbrev pub board_ppu_peek : Own board_ppu.peeks.ppu_peek.ended (λ w. board_ppu.peeks.ppu_peek.clauses w.𝓛 w.𝓜.mem w.𝓡.returns)
board_ppu_peek = own (λ w κ a g. nothing) (λ w κ a g r e. fact_of)

abbrev pub board_sprite_peek : Own board_ppu.peeks.sprite_peek.ended (λ w. board_ppu.peeks.sprite_peek.clauses w.𝓛 w.𝓜.mem w.𝓡.returns)
board_sprite_peek = own (λ w κ a g. nothing) (λ w κ a g r e. fact_of)

abbrev pub board_ppu_write : Own board_ppu.stores.ppu_write.ended (λ w. board_ppu.stores.ppu_write.clauses w.𝓛 w.𝓜.mem w.𝓡.returns)
board_ppu_write = own (λ w κ a g. nothing) (λ w κ a g r e. fact_of)

abbrev pub views_cpu_view : Own views.cpu_view.ended (λ w. views.cpu_view.clauses w.𝓛 w.𝓜.mem w.𝓡.returns)
views_cpu_view = own (λ w κ a g. nothing) (λ w κ a g r e. fact_of)

abbrev pub views_ppu_view : Own views.ppu_view.ended (λ w. views.ppu_view.clauses w.𝓛 w.𝓜.mem w.𝓡.returns)
views_ppu_view = own (λ w κ a g. nothing) (λ w κ a g r e. fact_of)

abbrev pub trace_record_at : Own trace.records.record_at.ended (λ w. trace.records.record_at.clauses w.𝓛 w.𝓜.mem w.𝓡.returns)
trace_record_at = own (λ w κ a g. nothing) (λ w κ a g r e. fact_of)

abbrev pub calls_call_on : Own calls.call_on.ended (λ w. calls.call_on.clauses w.𝓛 w.𝓜.mem w.𝓡.returns)
calls_call_on = own (λ w κ a g. nothing) (λ w κ a g r e. fact_of)

abbrev pub player_replay : Own player.replay.ended (λ w. player.replay.clauses w.𝓛 w.𝓜.mem w.𝓡.returns)
player_replay = own (λ w κ a g. nothing) (λ w κ a g r e. fact_of)
