-- The store through the page, for the buffers too.
use mathlib.Core.Path.{ap, ◌∙◌}
use Rattle.memory.proofs.ByteLaws.{stored_low}
use Rattle.board.specs.Outcomes.{after_of}
use Rattle.board_ppu.specs.Peeks.{ppu_write}
use Rattle.board_ppu.proofs.stores.ppu_write.Goals as goal

pub returns : goal.returns
unfolding ppu_write
returns c =
    rw (
      ← c.passed-gate.ensures,
      c.in_default.is,
    ) (ap (after_of _) (c.store.ensures _ ∙ stored_low _ _ _ _ ∙ rw c.chr_word_at-word.ensures))
