-- `trace::numbers::value_at` meets its contract: the only group by `only_group`, a first one of two by `further_group`.
use mathlib.Core.Path.{sym, ◌∙◌}
use native.Mathlib.Omega.{arith}
use Rattle.trace.specs.Numbers.{limited}
use Rattle.trace.proofs.NumberLaws.{no_group, only_group, further_group}
use Rattle.trace.proofs.numbers.value_at.Goals as goal

pub returns-in_default : goal.returns-in_default
unfolding limited
returns-in_default c = rw (no_group 1 _ _ c.in_default.ensures.lookup.3)

pub returns-then-low-lt128 : goal.returns-then-low-lt128
returns-then-low-lt128 c = sym (only_group _ _ _ c.in-Some.ensures.lookup.3.0 (c.from-low.ensures ∙ c.in-Some.ensures.lookup.3.1 0) 1 255 c.if-low-lt128.true (omega arith))

pub returns : goal.returns
returns c = rw (further_group _ _ _ c.in-Some.ensures.lookup.3.0 (c.from-low.ensures ∙ c.in-Some.ensures.lookup.3.1 0) 1 c.if-low-lt128.false) c.last_at.ensures
