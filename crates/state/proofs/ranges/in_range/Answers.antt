-- The tables are tested only where the lengths pass (`lengths_say`).
use mathlib.Core.Path.{sym, ◌∙◌}
use Rattle.state.proofs.SizeLaws.{lengths_say}
use Rattle.state.proofs.ranges.in_range.Goals as goal

pub prg_table_ok-prg-requires : goal.prg_table_ok-prg-requires
prg_table_ok-prg-requires c =
    let t = lengths_say _ (sym c.lengths_ok.ensures ∙ c.if-not-lengths_ok.false) in (t.prg_most, t.ram_most)

pub chr_table_ok-chr-requires : goal.chr_table_ok-chr-requires
chr_table_ok-chr-requires c =
    let t = lengths_say _ (sym c.lengths_ok.ensures ∙ c.if-not-lengths_ok.false) in t.chr_most
