-- A shut gate is refused and leaves words and bytes; else a byte is stored, and the words stay.
use mathlib.Core.Path.{◌∙◌}
use Rattle.memory.specs.Bytes.{mem_of}
use Rattle.memory.proofs.ByteLaws.{stored_low}
use Rattle.host.proofs.HostLaws.{open_said}
use Rattle.host.proofs.CallLaws.{store_shut, store_left}
use Rattle.host.proofs.ppu_writes.mmc5_ppu_write.Goals as goal

pub returns-in-Err : goal.returns-in-Err
returns-in-Err c =
    let a = c.args in
    let m = mem_of a.prg.now a.chr.now a.ram.now a.ciram.now a.exram.now in
    store_shut a.words.now m _ _ _ _ _ c.passed-gate.ensures c.in-Err.is c.plain.ensures

pub returns : goal.returns
returns c =
    let a = c.args in
    let m = mem_of a.prg.now a.chr.now a.ram.now a.ciram.now a.exram.now in
    store_left a.words.now m _ _ _ _ _ _ c.told-words
    (open_said a.words.now m _ c.passed-gate.ensures c.in_default.is) c.chr_word-word.ensures
    (c.store.ensures a.prg.now ∙ stored_low _ _ _ _) c.detector_of-irq.ensures c.with_interrupt.ensures
