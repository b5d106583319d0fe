-- The line of what stands at a place: the end's, an unreadable record's, a refused call's or an accepted one's.
use mathlib.Core.Path.{refl, sym, ◌∙◌}
use Rattle.player.proofs.Steps.{read}
use Rattle.transcript.specs.Printed.{line_of, next_of}
use Rattle.transcript.proofs.printed.print_record.Goals as goal

pub returns-in-Ok-None : goal.returns-in-Ok-None
unfolding line_of next_of
returns-in-Ok-None c = rw (read c.next_record.ensures c.in-Ok-None.is c.in-Ok-None.field-0-is) (c.end_line.ensures, refl)

pub returns-in-Err : goal.returns-in-Err
unfolding line_of next_of
returns-in-Err c = rw (sym c.next_record.ensures ∙ c.in-Err.is) (c.unreadable_line.ensures, refl)

pub returns-in-Some : goal.returns-in-Some
unfolding line_of next_of
returns-in-Some c =
    rw (read c.next_record.ensures c.in-Ok-Some.is c.in-Ok-Some.field-0-is, sym c.refusal_at.ensures ∙ c.in-Some.is) (rw c.kind_of-kind.ensures at c.refused_line.ensures, refl)

pub returns-in_default : goal.returns-in_default
unfolding line_of next_of
returns-in_default c =
    rw (read c.next_record.ensures c.in-Ok-Some.is c.in-Ok-Some.field-0-is, sym c.refusal_at.ensures ∙ c.in_default.is)
    (rw (c.kind_of-kind.ensures, c.byte-first.ensures, c.byte-second.ensures) at c.logged_line.ensures, refl)
