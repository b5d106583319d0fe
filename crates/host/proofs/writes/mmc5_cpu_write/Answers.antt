-- The gate, refusal 6, the bytes, and then the register by its address (`idle_words`, `write_prg`, `write_other`).
use mathlib.Core.Bool.{true}
use mathlib.Core.Path.{◌≡◌, sym, ◌∙◌}
use Rattle.memory.specs.Bytes.{mem_of}
use Rattle.state.specs.Ranges.{in_range}
use Rattle.cpu.specs.Writes.{register_written}
use Rattle.host_state.specs.Words.{state_of, words_of}
use Rattle.host.proofs.HostLaws.{open_said, open_in_range}
use Rattle.host.proofs.WriteLaws.{idle_words, bytes_stored, write_shut, write_audio, write_done}
use Rattle.host.proofs.writes.mmc5_cpu_write.Goals as goal
use Rattle.host.proofs.writes.mmc5_cpu_write.Goals.{then-is_within+then-maps_prg, then-is_within+else-maps_prg, else-is_within}

pub returns-in-Err : goal.returns-in-Err
returns-in-Err c =
    let a = c.args in
    write_shut a.words.now (mem_of a.prg.now a.chr.now a.ram.now a.ciram.now a.exram.now) a.addr a.val _ _ _ c.passed-gate.ensures c.in-Err.is c.plain.ensures

pub returns-then-audio_write : goal.returns-then-audio_write
returns-then-audio_write c =
    let a = c.args in
    write_audio a.words.now (mem_of a.prg.now a.chr.now a.ram.now a.ciram.now a.exram.now) a.addr a.val _ _ _ c.passed-gate.ensures c.in_default.is
    c.audio_write.ensures c.if-audio_write.true c.plain-then-audio_write.ensures

pub write_prg-requires : goal.write_prg-requires
write_prg-requires c =
    let a = c.args in let m = mem_of a.prg.now a.chr.now a.ram.now a.ciram.now a.exram.now in
    (open_in_range a.words.now m (open_said a.words.now m _ c.passed-gate.ensures c.in_default.is), sym c.maps_prg.ensures ∙ c.if-maps_prg.true)

pub write_other-requires : goal.write_other-requires
write_other-requires c =
    let a = c.args in let m = mem_of a.prg.now a.chr.now a.ram.now a.ciram.now a.exram.now in
    (open_in_range a.words.now m (open_said a.words.now m _ c.passed-gate.ensures c.in_default.is), sym c.maps_prg.ensures ∙ c.if-maps_prg.false)

pub returns : goal.returns
returns c =
    let a = c.args in let w = a.words.now in let n = c.store.new in
    let m = mem_of a.prg.now a.chr.now a.ram.now a.ciram.now a.exram.now in
    let m' = mem_of a.prg.now n.chr n.ram n.ciram n.exram in
    let ranged : in_range (state_of w) ≡ true = open_in_range w m (open_said w m _ c.passed-gate.ensures c.in_default.is) in
    -- the words where the three ways meet
    let after : c.if-is_within.words ≡ words_of (register_written (state_of w) a.addr a.val) =
    elim c.if-is_within.branch [
      | then-is_within+then-maps_prg x ↦ x.words-is ∙ x.write_prg.ensures
      | then-is_within+else-maps_prg x ↦ x.words-is ∙ x.write_other.ensures
      | else-is_within x ↦ x.words-is ∙ idle_words w a.addr a.val c.told-words ranged (sym c.is_within.ensures ∙ x.if-is_within.false)
    ] in
    write_done w m a.addr a.val _ _ m' _ _ _ c.passed-gate.ensures c.in_default.is c.audio_write.ensures c.if-audio_write.false
    (bytes_stored w m m' a.addr a.val _ _ _ ranged c.regs_of-regs.ensures c.status_of-ppu.ensures c.prg_word-word.ensures (c.store.ensures a.prg.now))
    after c.detector_of-irq.ensures c.with_interrupt.ensures
