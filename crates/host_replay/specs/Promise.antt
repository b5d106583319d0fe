-- What is promised of a replay over lent words beyond the definition of `replay_on`, as one statement, which the contract of `promises` holds.
use Rattle.std.specs.Prelude.{ℕ, ◌/◌, ◌%◌, ◌≤◌, List, ◌≡◌, length}
use Rattle.memory.specs.Bytes.{Mem}
use Rattle.state.specs.declared.State.{State}
use Rattle.player.specs.Replay.{Ending, replayed}
use Rattle.host_replay.specs.Replays.{ending_number, last_of, refusal_in, left_replay, replay_on}

-- The number can be taken apart: no count and no place reaches 65,536.
abbrev pub TakenApart : Ending → Type 0
TakenApart e = (ending_number e / 65536 ≡ refusal_in e) × (ending_number e % 65536 ≡ last_of e)

pub record ReplayPromised : Type 0 where
  pub apart : (s : State) (trace : List ℕ) (m : Mem) (log : List ℕ) → TakenApart (replayed s trace m log).out.ending
  -- A replay that stopped at place 0, for 11, 4, 5 or by its first record, left every word, byte and log entry as it was.
  pub unchanged : (w : List ℕ) (trace : List ℕ) (m : Mem) (log : List ℕ) → length w ≡ 144 → 65536 ≤ (replay_on w trace m log).number → (replay_on w trace m log).number % 65536 ≡ 0
      → replay_on w trace m log ≡ left_replay (replay_on w trace m log).number w m log
