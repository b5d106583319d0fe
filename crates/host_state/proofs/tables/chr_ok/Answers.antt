-- Every word is asked.
use Rattle.std.proofs.Common.{true, ◌∙◌, rules}
use Rattle.std.proofs.lemmas.Iterator.{YieldsList-from_slice}
use Rattle.std.proofs.lemmas.Iterator.Consumers.{fold_from_yields_List}
use Rattle.host_state.specs.Words.{chr_numbers}
use Rattle.host_state.proofs.FoldLaws.{all_asked}
use Rattle.host_state.proofs.tables.chr_ok.Goals as goal

pub returns : goal.returns
returns c =
    fold_from_yields_List _ _ true _ c.fold.ensures.ran (YieldsList-from_slice (chr_numbers c.args.words.now) (cc)) (λ a x b q k. search rules)
    ∙ all_asked _ true (chr_numbers c.args.words.now)
