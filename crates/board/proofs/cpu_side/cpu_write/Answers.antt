-- Behind the gate the lengths pass; and the bytes come first, since no register maps the page that registers are written at (`word_kept`).
use mathlib.Core.Path.{sym, ap, ◌∙◌}
use Rattle.cpu.specs.Writes.{cpu_stored}
use Rattle.steps.proofs.Idle.{word_kept}
use Rattle.board.specs.CpuSide.{cpu_write}
use Rattle.board.specs.Outcomes.{after_of}
use Rattle.state.proofs.GateLaws.{open_in_range, range_lengths}
use Rattle.board.proofs.cpu_side.cpu_write.Goals as goal

pub register_written-requires : goal.register_written-requires
register_written-requires c =
    range_lengths _ (open_in_range _ _ _ _ _ _ (sym c.passed-gate.ensures ∙ c.in_default.is))

pub returns : goal.returns
unfolding cpu_write cpu_stored
returns c =
    rw (
      ← c.passed-gate.ensures,
      c.in_default.is,
      ← c.audio_write.ensures,
      c.if-audio_write.false,
      c.register_written.ensures,
      word_kept _ _ _,
      ← c.prg_word_at-word.ensures,
    ) (ap (after_of _) (c.store.ensures _))
