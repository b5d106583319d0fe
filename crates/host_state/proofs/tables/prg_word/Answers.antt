-- The table's page word is its number.
use Rattle.std.proofs.Common.{rules}
use Rattle.host_state.proofs.PartLaws.{page_at}
use Rattle.host_state.proofs.tables.prg_word.Goals as goal

pub returns : goal.returns
returns c = page_at c.args.words.now 64 64 _ (search rules)
