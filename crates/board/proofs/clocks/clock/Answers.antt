-- The ranges give the idle count's.
use mathlib.Core.Bool.{true}
use mathlib.Core.Path.{◌≡◌}
use native.Mathlib.Omega.{arith}
use Rattle.state.specs.Ranges.{in_range}
use Rattle.scanline.proofs.RangeLaws.{ranges_kept}
use Rattle.state.proofs.RangeLaws.{ranged}
use Rattle.board.specs.StateCalls.{state_asked}
use Rattle.board.proofs.clocks.clock.Goals as goal

pub clock-irq-requires : goal.clock-irq-requires
unfolding state_asked
clock-irq-requires c =
    let h : in_range c.args.s ≡ true = grind arith in
    ranges_kept.idle_fits _ (ranged _ h).detector
