-- `trace::numbers::address_at` meets its contract: the only group by `only_group`, a first one of several by `further_group`.
use mathlib.Core.Path.{sym, ◌∙◌}
use native.Mathlib.Omega.{arith}
use Rattle.trace.specs.Numbers.{limited}
use Rattle.trace.proofs.NumberLaws.{no_group, only_group, further_group}
use Rattle.trace.proofs.numbers.address_at.Goals as goal

pub returns-in_default : goal.returns-in_default
unfolding limited
returns-in_default c = rw (no_group 2 _ _ c.in_default.ensures.lookup.3)

pub returns-then-first-lt128 : goal.returns-then-first-lt128
returns-then-first-lt128 c = sym (only_group _ _ _ c.in-Some.ensures.lookup.3.0 (c.from-first.ensures ∙ c.in-Some.ensures.lookup.3.1 0) 2 65535 c.if-first-lt128.true (omega arith))

pub returns : goal.returns
returns c = rw (further_group _ _ _ c.in-Some.ensures.lookup.3.0 (c.from-first.ensures ∙ c.in-Some.ensures.lookup.3.1 0) 2 c.if-first-lt128.false) c.second_at.ensures
