-- A trace that is too long and a shut gate change nothing; else the words are read, the trace is played, and its state is put back.
use Rattle.host_replay.proofs.ReplayLaws.{too_long_stays, shut_stays, replay_left, short_ending}
use Rattle.host_replay.proofs.mmc5_replay.Goals as goal

pub returns-then-too_long : goal.returns-then-too_long
returns-then-too_long c = too_long_stays _ _ _ _ _ _ c.too_long.ensures c.if-too_long.true c.ending_number.ensures

pub returns-in-Err : goal.returns-in-Err
returns-in-Err c =
    shut_stays _ _ _ _ _ _ _ _ c.too_long.ensures c.if-too_long.false c.passed-gate.ensures c.in-Err.is c.ending_number-in-Err.ensures

pub ending_number-requires-2 : goal.ending_number-requires-2
ending_number-requires-2 c = short_ending _ _ _ _ _ _ _ c.replay-o.ensures

pub returns : goal.returns
returns c =
    replay_left _ _ _ _ _ _ _ _ _ _ _ _ c.too_long.ensures c.if-too_long.false c.passed-gate.ensures c.in_default.is
    c.state_of-s.ensures c.replay-o.ensures c.put_state.ensures c.ending_number-2.ensures
