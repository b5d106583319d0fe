-- `trace::numbers::second_at` meets its contract: at each `return`, the law of the group that stands there (NumberLaws.antt); a further group by
-- `further_over`.
use mathlib.Core.Path.{sym, ◌∙◌}
use native.Mathlib.Omega.{arith}
use Rattle.trace.specs.Numbers.{limited, grouped}
use Rattle.trace.proofs.NumberLaws.{no_group, padded_group, top_group, further_over}
use Rattle.trace.proofs.numbers.second_at.Goals as goal

pub returns-in_default : goal.returns-in_default
unfolding limited grouped
returns-in_default c = rw (no_group 1 _ _ c.in_default.ensures.lookup.3)

pub returns-then-second-eq0 : goal.returns-then-second-eq0
returns-then-second-eq0 c = sym (padded_group _ _ _ c.in-Some.ensures.lookup.3.0 (c.from-second.ensures ∙ c.in-Some.ensures.lookup.3.1 0) 1 _ 128 65535 c.if-second-eq0.true)

pub returns-then-second-lt128 : goal.returns-then-second-lt128
returns-then-second-lt128 c = sym (top_group _ _ _ c.in-Some.ensures.lookup.3.0 (c.from-second.ensures ∙ c.in-Some.ensures.lookup.3.1 0) 1 _ 128 65535 c.if-second-eq0.false c.if-second-lt128.true (omega arith))

pub returns : goal.returns
returns c = rw (further_over _ _ _ c.in-Some.ensures.lookup.3.0 (c.from-second.ensures ∙ c.in-Some.ensures.lookup.3.1 0) 1 _ 128 c.if-second-lt128.false) c.last_at.ensures
