-- `trace::numbers::last_at` meets its contract: at each `return`, the law of the group that stands there (NumberLaws.antt). The product fits by
-- `share_small`.
use mathlib.Core.Path.{sym, ◌∙◌}
use Rattle.trace.specs.Numbers.{limited, grouped}
use Rattle.trace.proofs.NumberLaws.{no_group, padded_group, above_group, sound_group}
use Rattle.trace.proofs.numbers.last_at.Goals as goal

pub returns-in_default : goal.returns-in_default
unfolding limited grouped
returns-in_default c = rw (no_group 0 _ _ c.in_default.ensures.lookup.3)

pub returns-then-last-eq0 : goal.returns-then-last-eq0
returns-then-last-eq0 c = sym (padded_group _ _ _ c.in-Some.ensures.lookup.3.0 (c.from-last.ensures ∙ c.in-Some.ensures.lookup.3.1 0) 0 _ _ _ c.if-last-eq0.true)

pub returns-then-limit-value : goal.returns-then-limit-value
returns-then-limit-value c = sym (above_group _ _ _ c.in-Some.ensures.lookup.3.0 (c.from-last.ensures ∙ c.in-Some.ensures.lookup.3.1 0) _ _ _ c.if-last-eq0.false c.if-limit-value.true)

pub returns : goal.returns
returns c = sym (sound_group _ _ _ c.in-Some.ensures.lookup.3.0 (c.from-last.ensures ∙ c.in-Some.ensures.lookup.3.1 0) _ _ _ c.if-last-eq0.false c.requires.2 c.if-limit-value.false)
