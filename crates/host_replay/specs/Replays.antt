-- Replay over lent words: what `player` plays on the state that the words stand for, and the words that stand for the state after it. 01: "replay
-- checks 11, then 4 and 5, at place 0 before any record, in an empty trace too". Where it does not begin, every word stays.
use Rattle.std.specs.Prelude.{ℕ, ◌+◌, ◌*◌, Ok, Err, List, length}
use Rattle.memory.specs.Bytes.{Mem}
use Rattle.memory.specs.Tests.{pick}
use Rattle.answers.specs.declared.Refusal.{Refusal}
use Rattle.answers.specs.declared.Refusal.TheVariants.{Length}
use Rattle.answers.specs.Numbers.{number_of}
use Rattle.state.specs.Gate.{gate_mem}
use Rattle.board.specs.Outcomes.{behind}
use Rattle.trace.specs.Records.{too_long}
use Rattle.player.specs.Replay.{Ending, Stopped, Left, replayed}
use Rattle.host_state.specs.Words.{state_of, words_of}

-- "answers with that record's place, or with the record count": the count, or 65,536 times the refusal's number and the place.
abbrev pub ending_number : Ending → ℕ
ending_number (Ok count) = count
ending_number (Err stopped) = 65536 * number_of stopped.refusal + stopped.place

-- What a replay leaves: its number, the words, the five buffers and the log.
pub record LeftReplay : Type 0 where
  pub number : ℕ
  pub words : List ℕ
  pub mem : Mem
  pub log : List ℕ

abbrev pub left_replay : ℕ → List ℕ → Mem → List ℕ → LeftReplay
left_replay n w m log = record { number = n; words = w; mem = m; log = log }

abbrev pub leaving_replay : Left → LeftReplay
leaving_replay x = left_replay (ending_number x.out.ending) (words_of x.out.state) x.mem x.log

unfoldable pub replay_on : List ℕ → List ℕ → Mem → List ℕ → LeftReplay
replay_on w trace m log =
    pick (too_long (length trace)) (left_replay (ending_number (Stopped 0 Length)) w m log)
    (behind (gate_mem (state_of w) m) (λ (r : Refusal). left_replay (ending_number (Stopped 0 r)) w m log)
    (leaving_replay (replayed (state_of w) trace m log)))

-- The count, or the place.
abbrev pub last_of : Ending → ℕ
last_of (Ok count) = count
last_of (Err stopped) = stopped.place

-- The refusal's number, or 0.
abbrev pub refusal_in : Ending → ℕ
refusal_in (Ok count) = 0
refusal_in (Err stopped) = number_of stopped.refusal
