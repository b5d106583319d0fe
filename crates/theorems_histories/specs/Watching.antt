-- Where the scanline detector lies in a board, and what it can tell of a call: demand 3, and refusal 7 along a history, speak of these alone.
-- Assumes nothing.
use Rattle.scanline.specs.declared.Detector.{Detector}
use Rattle.trace.specs.declared.Call.TheVariants.{Clock, CpuRead, CpuWrite, PpuRegister, PpuFetch, Reset, PpuWrite}
use Rattle.theorems_scanlines.specs.Calls.{Event}
use Rattle.theorems_scanlines.specs.Calls.Event.{clock, fetch, cpu_read, cpu_write, ppu_register, other}
use Rattle.theorems_histories.specs.Boards.{Board, Made}
use Rattle.theorems_histories.specs.Boards.Made.{call, peek, ppu_peek_lem, sprite_peek_lem, mirroring_asked, interrupt_asked, cpu_page, ppu_page}

abbrev pub view : Board → Detector
view b = b.state.irq

abbrev pub event : Made → Event
event (call Clock) = clock
event (call (CpuRead a)) = cpu_read a.0
event (call (CpuWrite a v)) = cpu_write a.0 v
event (call (PpuRegister a v)) = ppu_register a.0 v
event (call (PpuFetch a)) = fetch a.0
event (call Reset) = other
event (call (PpuWrite a v)) = other
event (peek a) = other
event (ppu_peek_lem a) = other
event (sprite_peek_lem a) = other
event mirroring_asked = other
event interrupt_asked = other
event (cpu_page a) = other
event (ppu_page a) = other
