-- Words that are no state in range are refused and stay; else only the registers change.
use Rattle.host.proofs.HostLaws.{in_range_said}
use Rattle.host.proofs.CallLaws.{reset_left}
use Rattle.host.proofs.resets.mmc5_reset.Goals as goal

pub returns : goal.returns
returns c =
    let w = c.args.words.now in
    reset_left w _ _ _ _ _ c.told-words (in_range_said w _ c.in_range.ensures c.if-not-in_range.false)
    c.regs_of-before.ensures c.reset-after.ensures c.detector_of-irq.ensures c.put_regs.ensures
    c.with_interrupt.ensures
