-- Words that are no state in range are refused and stay; else the PPU status and the detector change.
use Rattle.host.proofs.HostLaws.{in_range_said}
use Rattle.host.proofs.CallLaws.{register_left}
use Rattle.host.proofs.ppu_registers.mmc5_ppu_register.Goals as goal

pub returns : goal.returns
returns c =
    let w = c.args.words.now in
    register_left w _ _ _ _ _ _ _ _ _ c.told-words
    (in_range_said w _ c.in_range.ensures c.if-not-in_range.false) c.detector_of-before.ensures
    c.detector_after-irq.ensures c.status_of-status.ensures c.status_after-ppu.ensures
    c.put_status.ensures c.put_detector.ensures c.with_interrupt.ensures
