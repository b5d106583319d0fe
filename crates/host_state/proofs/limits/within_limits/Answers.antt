-- The first sixteen by their own function; of the others the fold gathers the excesses.
use Rattle.std.proofs.Common.{drop, take, rules}
use Rattle.std.proofs.lemmas.Iterator.{YieldsList-from_slice, YieldsList-from_zip}
use Rattle.std.proofs.lemmas.Iterator.Consumers.{fold_from_yields_List}
use Rattle.host_state.specs.Words.{limits}
use Rattle.host_state.proofs.LimitLaws.{limits_kept}
use Rattle.host_state.proofs.limits.within_limits.Goals as goal

pub returns : goal.returns
unfolding limits
returns c =
    let w = c.args.words.now in
    limits_kept w _ c.fold-above.result c.moving_within-moving.ensures
    (fold_from_yields_List _ _ 0 c.fold-above.result c.fold-above.ensures.ran (YieldsList-from_zip (YieldsList-from_slice (take 48 (drop 16 w)) (cc)) (YieldsList-from_slice (drop 16 limits) (cc))) (λ a x b q k. search rules))
