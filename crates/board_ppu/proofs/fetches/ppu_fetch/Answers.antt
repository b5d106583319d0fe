-- The gate, refusal 7, then the two kinds of fetch (`fetch_counted`, `fetch_other`).
use mathlib.Core.Path.{sym, ◌∙◌}
use Rattle.state.proofs.GateLaws.{open_in_range}
use Rattle.state.proofs.RangeLaws.{ranged}
use Rattle.board_ppu.specs.Fetch.{pattern_pages}
use Rattle.board_ppu.specs.Peeks.{chr_answer}
use Rattle.board_ppu.proofs.Made.{fetch_counted, fetch_other}
use Rattle.board_ppu.proofs.fetches.ppu_fetch.Goals as goal

pub count_fetch-after-requires : goal.count_fetch-after-requires
count_fetch-after-requires c =
    let r = ranged _ (open_in_range _ _ _ _ _ _ (sym c.passed-gate.ensures ∙ c.in_default.is)) in
    (r.detector, r.tiles)

pub returns-then-counted : goal.returns-then-counted
unfolding chr_answer
returns-then-counted c =
    rw (
      c.counted_answer-answer.ensures,
      c.chr_word_at-word.ensures,
      c.count_fetch-after.ensures.0,
      c.count_fetch-after.ensures.1.0,
      c.count_fetch-after.ensures.1.1,
    )
    (sym (fetch_counted _ _ (sym c.passed-gate.ensures ∙ c.in_default.is) _
    (sym c.counter_refused.ensures ∙ c.if-counter_refused.false)
    (sym c.counted.ensures ∙ c.if-counted.true)))

pub returns : goal.returns
unfolding chr_answer pattern_pages
returns c =
    rw (
      c.other_answer-answer.ensures,
      c.chr_word_at-word-2.ensures,
      c.map_on_change-mapped.ensures,
      c.chosen_at-status.ensures,
    )
    (sym (fetch_other _ _ (sym c.passed-gate.ensures ∙ c.in_default.is) _
    (sym c.counter_refused.ensures ∙ c.if-counter_refused.false)
    (sym c.counted.ensures ∙ c.if-counted.false)))
