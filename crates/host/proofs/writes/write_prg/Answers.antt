-- The groups read, written and put back (`prg_words`); words in range have lengths that load takes.
use Rattle.state.proofs.GateLaws.{range_lengths}
use Rattle.host_state.specs.Words.{state_of}
use Rattle.host.proofs.WriteLaws.{prg_words}
use Rattle.host.proofs.writes.write_prg.Goals as goal

pub write_prg-w-requires : goal.write_prg-w-requires
write_prg-w-requires c =
    rw c.lengths_of-lengths.ensures (range_lengths (state_of c.args.words.now) c.requires.0)

pub returns : goal.returns
returns c =
    prg_words c.args.words.now c.args.addr.0 c.args.val c.told-words c.requires.0
    _ _ _ _ _ _ _ _ c.requires.1
    c.lengths_of-lengths.ensures c.regs_of-regs.ensures
    c.prg_banks_of-banks.ensures c.prg_table-pages.ensures
    c.write_prg-w.ensures c.put_regs.ensures c.put_prg_banks.ensures c.put_prg_table.ensures
