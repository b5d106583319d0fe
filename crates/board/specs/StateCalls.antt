-- Calls on the state alone: they ask only for its ranges (refusal 5).
use Rattle.std.specs.Prelude.{ℕ, Bool, not, Result, Ok, Err}
use Rattle.memory.specs.Tests.{pick}
use Rattle.answers.specs.declared.Answer.TheVariants.{Nothing}
use Rattle.answers.specs.declared.Refusal.{Refusal}
use Rattle.answers.specs.declared.Refusal.TheVariants.{State as StateBroken}
use Rattle.registers.specs.declared.Mirroring.{Mirroring}
use Rattle.registers.specs.Registers.{reset_regs}
use Rattle.scanline.specs.Steps.{interrupt_up, clocked}
use Rattle.state.specs.declared.State.{State}
use Rattle.state.specs.Gate.{Gate, Open, Shut}
use Rattle.state.specs.Ranges.{in_range}
use Rattle.state.specs.With.{with_regs, with_irq, with_ppu}
use Rattle.cpu.specs.PpuRegisters.{status_after, detector_after}
use Rattle.board.specs.declared.Outcome.{Outcome}
use Rattle.board.specs.Outcomes.{outcome, refused}

-- The state alone, against its ranges.
unfoldable pub state_asked : State → Gate
state_asked s = pick (not (in_range s)) (Shut StateBroken) Open

-- 01, module 10: "Reset sets modes 8k and 1k and maps nothing."
unfoldable pub reset_call : State → Outcome
reset_call s = pick (not (in_range s)) (refused s StateBroken) (outcome Nothing (with_regs s (reset_regs s.regs)))

unfoldable pub mirroring_call : State → Result Mirroring Refusal
mirroring_call s = pick (not (in_range s)) (Err StateBroken) (Ok s.screen.mirroring)

-- Demand 3: "The interrupt is up exactly when the flag is set and the last write to $5204 had bit 7 set."
unfoldable pub interrupt_call : State → Result Bool Refusal
interrupt_call s = pick (not (in_range s)) (Err StateBroken) (Ok (interrupt_up s.irq))

-- 01, "Fetches, runs, breaks": a clock moves the detector alone.
unfoldable pub clock_call : State → Outcome
clock_call s = pick (not (in_range s)) (refused s StateBroken) (outcome Nothing (with_irq s (clocked s.irq)))

-- A PPU register write moves the PPU status and the detector.
abbrev pub ppu_register_written : State → ℕ → ℕ → State
ppu_register_written s a v = with_irq (with_ppu s (status_after s.ppu a v)) (detector_after s.irq a v)

unfoldable pub ppu_register_call : State → ℕ → ℕ → Outcome
ppu_register_call s a v = pick (not (in_range s)) (refused s StateBroken) (outcome Nothing (ppu_register_written s a v))
