-- Without a change the words are those of their state; else the mapped table is put into them.
use Rattle.host.proofs.FetchLaws.{unmapped_words, mapped_words}
use Rattle.host.proofs.fetches.map_on_change.Goals as goal

pub returns-then-not-set_changed : goal.returns-then-not-set_changed
returns-then-not-set_changed c =
    unmapped_words c.args.words.now c.told-words c.requires.0 c.args.before c.args.after _ c.requires.1
    c.set_changed.ensures c.if-not-set_changed.true

pub returns : goal.returns
returns c =
    mapped_words c.args.words.now c.told-words c.requires.0 c.args.before c.args.after _ c.requires.1
    c.set_changed.ensures _ _ _ _ _ _ c.if-not-set_changed.false c.lengths_of-lengths.ensures c.regs_of-regs.ensures
    c.chr_banks_of-banks.ensures c.chr_table-shown.ensures c.map_chr-mapped.ensures c.put_chr_table.ensures
