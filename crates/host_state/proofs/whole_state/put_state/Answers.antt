-- Group by group, then the tables.
use Rattle.std.proofs.Common.{rules}
use Rattle.host_state.proofs.PutLaws.{steps_put}
use Rattle.host_state.proofs.whole_state.put_state.Goals as goal

pub returns : goal.returns
returns c =
    steps_put c.args.s c.args.words.now _ _ _ _ _ _ _ _ _ _ c.told-words (search rules) (search rules) (search rules) (search rules)
    c.put_lengths.ensures
    c.put_regs.ensures
    c.put_split.ensures
    c.put_detector.ensures
    c.put_status.ensures
    c.put_mirroring.ensures
    c.put_prg_banks.ensures
    c.put_chr_banks.ensures
    c.put_prg_table.ensures
    c.put_chr_table.ensures
