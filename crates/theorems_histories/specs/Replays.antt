-- Replay of a trace is a history. 01, "Refusal numbers": "in replay, records before the refused one are accepted calls of the history"; "Trace
-- refusals also tell the record's place, the offset of its kind byte". What a replay leaves is `replayed` of crate `player`, which the contract
-- of `player::replay` names. The promise is `Replays`, at the end; above it, in order, what it speaks of.
-- Assumes nothing.
use Rattle.std.specs.Prelude.{ℕ, zero, suc, ◌+◌, ◌*◌, ◌<◌, ◌≤◌, Ok, Err, List, [], ◌∷◌, ◌++◌, map, ◌⊎◌, ◌≡◌, ltb, length, get_or}
use Rattle.memory.specs.Tests.{pick}
use Rattle.answers.specs.declared.Answer.{Answer}
use Rattle.answers.specs.declared.Answer.TheVariants.{Refused}
use Rattle.answers.specs.declared.Refusal.{Refusal}
use Rattle.answers.specs.declared.Refusal.TheVariants.{Length}
use Rattle.answers.specs.Letters.{value_of}
use Rattle.answers.specs.Numbers.{number_of}
use Rattle.scanline.specs.Steps.{interrupt_up}
use Rattle.state.specs.Gate.{Open, Shut, gate_mem}
use Rattle.trace.specs.declared.Call.{Call}
use Rattle.trace.specs.Records.{Record, Refused as Unreadable, record_at}
use Rattle.calls.specs.Called.{called}
use Rattle.logs.specs.Logs.{log_letter, logged}
use Rattle.player.specs.Replay.{Ending, Done, Stopped, Left, ended, found, replayed}
use Rattle.theorems_histories.specs.Boards.{Board, Made, says, leaves, board_after}
use Rattle.theorems_histories.specs.Boards.Made.{call}
use Rattle.theorems_histories.specs.Boards.Said.{answers}
use Rattle.theorems_histories.specs.Histories.{Load, Leads, Reached}

-- Which calls a replay makes, by the trace and the ending alone ---------------------------------------------------------------------------

-- The calls of the records that begin before a place, the newest first: from `at` on, at most n of them, after the calls cs.
unfoldable pub records_to : ℕ → List ℕ → ℕ → ℕ → List Call → List Call
records_to zero trace place at cs = cs
records_to (suc n) trace place at cs =
    pick (ltb at place) (found (record_at trace at) cs (λ (why : Refusal). cs) (λ (c : Call) (next : ℕ). records_to n trace place next (c ∷ cs))) cs

-- Where a replay ends: behind the last record, or at the one that it stopped at.
abbrev pub end_of : List ℕ → Ending → ℕ
end_of trace (Ok count) = length trace
end_of trace (Err stopped) = stopped.place

-- "records before the refused one"; all records, if none is refused. A trace has no more records than bytes.
abbrev pub played_calls : List ℕ → Ending → List Call
played_calls trace e = records_to (length trace + 1) trace (end_of trace e) 0 []

-- The calls cs, the newest first, are a trace's first records, one behind the other from its first byte on; the next begins at the place.
pub data Records (trace : List ℕ) : List Call → ℕ → Type 0 where
  none : Records trace [] 0
  one_more : {cs : List Call} {at : ℕ} (c : Call) (next : ℕ) → Records trace cs at → record_at trace at ≡ Record c next → Records trace (c ∷ cs) next

-- How it ends -----------------------------------------------------------------------------------------------------------------------------

-- After the calls cs, which left b: "answers with that record's place, or with the record count". The record at the place is the next one; it
-- cannot be read (9 or 10), or its call is refused at b (6 or 7), and changes nothing.
pub data Ends (trace : List ℕ) (b : Board) (cs : List Call) : Ending → Type 0 where
  counted : Ends trace b cs (Done (length cs))
  unreadable : (place : ℕ) (why : Refusal) → record_at trace place ≡ Unreadable why → (number_of why ≡ 9) ⊎ (number_of why ≡ 10) → Ends trace b cs (Stopped place why)
  refused : (place : ℕ) (why : Refusal) (c : Call) (next : ℕ) → record_at trace place ≡ Record c next → says b (call c) ≡ answers (Refused why)
      → (number_of why ≡ 6) ⊎ (number_of why ≡ 7) → leaves b (call c) ≡ b → Ends trace b cs (Stopped place why)

-- What it logs ----------------------------------------------------------------------------------------------------------------------------

-- What a call answers at b, and its letter in the log, which also tells whether the interrupt is up after it.
abbrev pub answer_at : Board → Call → Answer
answer_at b c = (called c b.state b.mem).out.answer

abbrev pub letter_at : Board → Call → ℕ
letter_at b c = log_letter (answer_at b c) (interrupt_up (leaves b (call c)).state.irq)

-- The log after calls from b on.
unfoldable pub log_along : Board → List ℕ → List Call → List ℕ
log_along b log [] = log
log_along b log (c ∷ cs) =
    let b' = board_after b (map call cs) in
    logged (log_along b log cs) (length cs) (answer_at b' c) (interrupt_up (leaves b' (call c)).state.irq)

-- The promise -----------------------------------------------------------------------------------------------------------------------------

-- The board in what a replay leaves.
abbrev pub board_in : Left → Board
board_in x = record { state = x.out.state; mem = x.mem }

-- A replay from b leaves x.
pub record Plays (b : Board) (trace log : List ℕ) (x : Left) : Type 0 where
  -- its calls are the trace's records, none left out, up to where it ends
  pub records : Records trace (played_calls trace x.out.ending) (end_of trace x.out.ending)
  -- they are accepted calls, "each takes the state and the memories as the call before it left them", and leave what the replay leaves
  pub calls : Leads b (map call (played_calls trace x.out.ending)) (board_in x)
  pub ends : Ends trace (board_in x) (played_calls trace x.out.ending) x.out.ending
  pub logs : x.log ≡ log_along b log (played_calls trace x.out.ending)

abbrev pub replay_of : Board → List ℕ → List ℕ → Left
replay_of b trace log = replayed b.state trace b.mem log

pub record Replays : Type 0 where
  -- demand 1, "in replay that is said of the refused record": from every board with an open gate on, reached or not; 4 and 5 are then never given (`Ends`)
  pub from_open : (b : Board) → gate_mem b.state b.mem ≡ Open → (trace log : List ℕ) → length trace ≤ 8192 → Plays b trace log (replay_of b trace log)
  -- from load, and from every history on (its gate is open: `gate` of specs/Accepted.antt), the history goes on with the calls that are played, so
  -- that traces may be played one after the other
  pub from_history : (l : Load) (hs : List Made) (b : Board) → Reached l hs b → (trace log : List ℕ) → length trace ≤ 8192
      → Reached l (map call (played_calls trace (replay_of b trace log).out.ending) ++ hs) (board_in (replay_of b trace log))
  -- 11: "trace longer than 8,192 bytes", at place 0, and nothing changes; given for no other trace (`Ends`, `shut`)
  pub too_long : (s : Board) (trace log : List ℕ) → 8192 < length trace → replay_of s trace log ≡ ended (Stopped 0 Length) s.state s.mem log
  -- 4 and 5, "at place 0 before any record, in an empty trace too": where the gate is shut, its refusal (crate `state`, specs/Gate.antt), and nothing changes
  pub shut : (s : Board) (trace log : List ℕ) (why : Refusal) → length trace ≤ 8192 → gate_mem s.state s.mem ≡ Shut why
      → replay_of s trace log ≡ ended (Stopped 0 why) s.state s.mem log
  -- bytes 2 i and 2 i + 1 of the log tell of record i, where the log has them: after the earlier calls came c, and then the later ones
  pub letter_logged : (b : Board) (log : List ℕ) (later : List Call) (c : Call) (earlier : List Call) → 2 * length earlier < length log
      → get_or (log_along b log (later ++ (c ∷ earlier))) (2 * length earlier) 0 ≡ letter_at (board_after b (map call earlier)) c
  pub value_logged : (b : Board) (log : List ℕ) (later : List Call) (c : Call) (earlier : List Call) → 2 * length earlier + 1 < length log
      → get_or (log_along b log (later ++ (c ∷ earlier))) (2 * length earlier + 1) 0 ≡ value_of (answer_at (board_after b (map call earlier)) c)
  -- and the log's other bytes stay
  pub others_kept : (b : Board) (log : List ℕ) (cs : List Call) (i : ℕ) → 2 * length cs ≤ i → get_or (log_along b log cs) i 0 ≡ get_or log i 0
