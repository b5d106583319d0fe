-- By the address: no register, one that maps PRG pages, any other (`write_idle`, `write_prg_is`, `write_rest_is`).
use mathlib.Core.Path.{sym, ◌∙◌}
use Rattle.steps.proofs.Idle.{write_idle, write_prg_is, write_rest_is}
use Rattle.board.proofs.cpu_side.register_written.Goals as goal

pub returns-then-not-is_within : goal.returns-then-not-is_within
returns-then-not-is_within c = sym (write_idle _ (sym c.is_within.ensures ∙ c.if-not-is_within.true) _ _)

pub returns-then-maps_prg : goal.returns-then-maps_prg
returns-then-maps_prg c =
    rw c.write_prg-w.ensures (sym (write_prg_is _ _ _ (sym c.maps_prg.ensures ∙ c.if-maps_prg.true)))

pub returns : goal.returns
returns c =
    rw c.write_other-w.ensures (sym (write_rest_is _ _ _ (sym c.maps_prg.ensures ∙ c.if-maps_prg.false)))
