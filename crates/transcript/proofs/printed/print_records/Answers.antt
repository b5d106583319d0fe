-- Each turn by `last_line` and `onward`: the reader is still over the trace.
use mathlib.Core.Path.{ap, ◌∙◌}
use mathlib.Core.List.{List}
use Prim.Native.Nat.{ℕ}
use Rattle.std.specs.Borrow.{Bor}
use Rattle.transcript.proofs.Printing.{last_line, onward, nearer}
use Rattle.transcript.proofs.printed.print_records.Goals as goal

pub loop-next-smaller : goal.loop-next-smaller
loop-next-smaller c =
    let i = c.loop-next.invariant in
    rw c.advanced-reader.ensures.1 (nearer i.1 _ i.0 c.print_record.result c.print_record.new.pen c.print_record.ensures _ c.in-Some.is)

pub loop-next-preserved : goal.loop-next-preserved
loop-next-preserved c =
    let i = c.loop-next.invariant in (
      ap (λ (t : Bor (List ℕ)). t.now) c.advanced-reader.ensures.0 ∙ i.0,
      rw c.advanced-reader.ensures.1 (onward i.1 _ i.0 c.print_record.result c.print_record.new.pen c.print_record.ensures _ c.in-Some.is).1,
    )

pub returns : goal.returns
returns c = let i = c.loop-next.invariant in last_line i.1 _ i.0 c.print_record.result c.print_record.new.pen c.print_record.ensures c.in_default.is
