-- Each page word is its number.
use Rattle.std.proofs.Common.{rules}
use Rattle.memory.specs.PageWords.{word}
use Rattle.host_state.proofs.ArrayLaws.{part_made}
use Rattle.host_state.proofs.tables.chr_table.Goals as goal

pub returns : goal.returns
returns c = part_made word c.args.words.now 128 16 (search rules) c.from_fn.ensures.items (λ i y q small call. search rules)
