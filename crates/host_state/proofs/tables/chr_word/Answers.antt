-- The table's page word is its number.
use Rattle.std.proofs.Common.{rules}
use Rattle.host_state.proofs.PartLaws.{page_at}
use Rattle.host_state.proofs.tables.chr_word.Goals as goal

pub returns : goal.returns
returns c = page_at c.args.words.now 128 16 _ (search rules)
