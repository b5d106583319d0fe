-- Each `return` stands behind the tests before it.
use Rattle.host_state.proofs.GateLaws.{opens, not_loaded_lem, other_lengths, out_of_range}
use Rattle.host_state.proofs.gate.passed.Goals as goal

pub returns-then-ok-same : goal.returns-then-ok-same
returns-then-ok-same c =
    opens c.args.words.now _ _ _ _ _ _ _ _ c.lengths_of-z.ensures c.same_lengths-same.ensures c.in_range-ok.ensures c.if-ok-same.true

pub returns-then-not-z : goal.returns-then-not-z
returns-then-not-z c =
    not_loaded_lem c.args.words.now _ _ _ _ _ _ _ _ c.lengths_of-z.ensures c.same_lengths-same.ensures c.in_range-ok.ensures c.if-not-z.true

pub returns-then-not-same : goal.returns-then-not-same
returns-then-not-same c =
    other_lengths c.args.words.now _ _ _ _ _ _ _ _ c.lengths_of-z.ensures c.same_lengths-same.ensures c.in_range-ok.ensures
    c.if-not-z.false c.if-not-same.true

pub returns : goal.returns
returns c =
    out_of_range c.args.words.now _ _ _ _ _ _ _ _ c.lengths_of-z.ensures c.same_lengths-same.ensures c.in_range-ok.ensures
    c.if-ok-same.false c.if-not-z.false c.if-not-same.false
