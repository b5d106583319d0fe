-- Lengths that load takes fit 32 bits and pass (`lengths_hold`).
use mathlib.Core.Path.{sym, ◌∙◌}
use Rattle.state.proofs.SizeLaws.{lengths_hold}
use Rattle.board.proofs.loads.load.Goals as goal

pub loaded-requires : goal.loaded-requires
loaded-requires c =
    lengths_hold _ _ _ _ _ c.args.settings.chr_writable
    (sym c.prg_taken.ensures ∙ c.if-not-prg_taken.false)
    (sym c.chr_taken.ensures ∙ c.if-not-chr_taken.false)
    (sym c.ram_taken.ensures ∙ c.if-not-ram_taken.false)
