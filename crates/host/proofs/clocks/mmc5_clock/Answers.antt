-- Words that are no state in range are refused and stay; else only the detector changes.
use Rattle.host_state.specs.Words.{state_of}
use Rattle.host.proofs.HostLaws.{in_range_said}
use Rattle.host.proofs.CallLaws.{clock_left, idle_small}
use Rattle.host.proofs.clocks.mmc5_clock.Goals as goal

pub clock-after-requires : goal.clock-after-requires
clock-after-requires c =
    let w = c.args.words.now in
    idle_small (state_of w) _ (in_range_said w _ c.in_range.ensures c.if-not-in_range.false) c.detector_of-before.ensures

pub returns : goal.returns
returns c =
    let w = c.args.words.now in
    clock_left w _ _ _ _ c.told-words (in_range_said w _ c.in_range.ensures c.if-not-in_range.false)
    c.detector_of-before.ensures c.clock-after.ensures c.put_detector.ensures c.with_interrupt.ensures
