-- The groups read, written and put back (`other_words`).
use Rattle.host.proofs.WriteLaws.{other_words}
use Rattle.host.proofs.writes.write_other.Goals as goal

pub returns : goal.returns
returns c =
    other_words c.args.words.now c.args.addr.0 c.args.val c.told-words c.requires.0
    _ _ _ _ _ _ _ _ _ _ _ _ _ _ _ _ _ _ c.requires.1
    c.lengths_of-lengths.ensures c.regs_of-regs.ensures c.split_of-vsplit.ensures c.detector_of-irq.ensures
    c.status_of-ppu.ensures c.mirroring_of-mirroring.ensures c.chr_banks_of-banks.ensures c.chr_table-pages.ensures c.prg_word-exram.ensures
    c.write_other-w.ensures c.put_regs.ensures c.put_split.ensures c.put_detector.ensures
    c.put_status.ensures c.put_mirroring.ensures c.put_chr_banks.ensures c.put_exram_word.ensures c.put_chr_table.ensures
