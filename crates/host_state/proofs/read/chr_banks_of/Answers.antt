-- Each bank is the low byte of its word.
use Rattle.std.proofs.Common.{rules}
use Rattle.host_state.specs.Words.{low_byte}
use Rattle.host_state.proofs.ArrayLaws.{part_made}
use Rattle.host_state.proofs.read.chr_banks_of.Goals as goal

pub returns : goal.returns
returns c = part_made low_byte c.args.words.now 47 16 (search rules) c.from_fn.ensures.items (λ i y q small call. search rules)
