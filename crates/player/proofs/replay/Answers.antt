-- The checks in 01's order, each with its refusal at place 0; then the records.
use Rattle.player.specs.Replay.{replayed}
use Rattle.player.proofs.replay.Goals as goal

pub returns-then-too_long : goal.returns-then-too_long
unfolding replayed
returns-then-too_long c = rw (← c.too_long.ensures, c.if-too_long.true, c.refuse.ensures)

pub returns-in-Err : goal.returns-in-Err
unfolding replayed
returns-in-Err c = rw (← c.too_long.ensures, c.if-too_long.false, ← c.passed-gate.ensures, c.in-Err.is, c.refuse-in-Err.ensures)

pub returns : goal.returns
unfolding replayed
returns c = rw (← c.too_long.ensures, c.if-too_long.false, ← c.passed-gate.ensures, c.in_default.is) c.play.ensures
