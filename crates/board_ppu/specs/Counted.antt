-- What a fetch at $2000-$3EFF leaves in each group of the state, as the code's functions leave it. These serve the steps of the code, and no promise names
-- them; that the five steps of `counted_call` leave the same is `counted_by_groups` of `proofs/Made.antt`.
use Rattle.std.specs.Prelude.{ℕ}
use Rattle.ppu.specs.Fetches.{ppu_seen, split_seen}
use Rattle.scanline.specs.declared.Detector.{Detector}
use Rattle.scanline.specs.Steps.{seen_at}
use Rattle.split.specs.declared.VSplit.{VSplit}
use Rattle.state.specs.declared.PpuStatus.{PpuStatus}
use Rattle.state.specs.declared.State.{State}
use Rattle.state.specs.With.{with_irq, with_ppu, with_vsplit}

abbrev pub counted_irq : State → ℕ → Detector
counted_irq s a = seen_at s.irq a

abbrev pub counted_ppu : State → ℕ → PpuStatus
counted_ppu s a = ppu_seen s.regs (counted_irq s a).match_count s.ppu a

abbrev pub counted_split : State → ℕ → VSplit
counted_split s a = split_seen s.regs s.vsplit (counted_irq s a) (counted_ppu s a).tile_number a

abbrev pub counted_state : State → ℕ → State
counted_state s a = with_vsplit (with_ppu (with_irq s (counted_irq s a)) (counted_ppu s a)) (counted_split s a)
