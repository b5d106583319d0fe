-- A shut gate and an audio register are refused and leave the words; else only the detector changes.
use Rattle.memory.specs.Bytes.{mem_of}
use Rattle.host.proofs.HostLaws.{open_said}
use Rattle.host.proofs.CallLaws.{read_shut, read_audio, read_left}
use Rattle.host.proofs.reads.mmc5_cpu_read.Goals as goal

pub returns-in-Err : goal.returns-in-Err
returns-in-Err c =
    let a = c.args in
    let m = mem_of a.prg.now a.chr.now a.ram.now a.ciram.now a.exram.now in
    read_shut a.words.now m _ _ _ _ c.passed-gate.ensures c.in-Err.is c.plain.ensures

pub returns-then-audio_read : goal.returns-then-audio_read
returns-then-audio_read c =
    let a = c.args in
    let m = mem_of a.prg.now a.chr.now a.ram.now a.ciram.now a.exram.now in
    read_audio a.words.now m _ _ _ (open_said a.words.now m _ c.passed-gate.ensures c.in_default.is)
    c.audio_read.ensures c.if-audio_read.true c.plain-then-audio_read.ensures

pub returns : goal.returns
returns c =
    let a = c.args in
    let m = mem_of a.prg.now a.chr.now a.ram.now a.ciram.now a.exram.now in
    read_left a.words.now _ m _ _ _ _ _ _ _ _ _ _ _ c.told-words
    (open_said a.words.now m _ c.passed-gate.ensures c.in_default.is)
    c.audio_read.ensures c.if-audio_read.false c.prg_word-word.ensures c.regs_of-regs.ensures
    c.split_of-vsplit.ensures c.detector_of-irq.ensures c.prg_banks_of-prg_banks.ensures
    c.chr_banks_of-chr_banks.ensures c.read-answer.ensures c.irq_read-after.ensures
    c.put_detector.ensures c.with_interrupt.ensures
