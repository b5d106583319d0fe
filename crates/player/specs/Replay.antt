-- Replay: the board's calls, folded over the records of a trace. 01: "Replay stops at the first refused record and answers with that record's
-- place, or with the record count." Assumes nothing.
use Rattle.std.specs.Prelude.{ℕ, zero, suc, ◌+◌, None, Some, Result, Ok, Err, List, length}
use Rattle.memory.specs.Bytes.{Mem}
use Rattle.memory.specs.Tests.{pick}
use Rattle.answers.specs.declared.Refusal.{Refusal}
use Rattle.answers.specs.declared.Refusal.TheVariants.{Length}
use Rattle.answers.specs.Refused.{if_refused}
use Rattle.scanline.specs.Steps.{interrupt_up}
use Rattle.state.specs.declared.State.{State}
use Rattle.state.specs.Gate.{gate_mem}
use Rattle.board.specs.Outcomes.{behind}
use Rattle.trace.specs.declared.Call.{Call}
use Rattle.trace.specs.Records.{Found, record_at, too_long}
use Rattle.calls.specs.Called.{called}
use Rattle.player.specs.declared.Replayed.{Replayed}
use Rattle.player.specs.declared.Stopped.{Stopped as PlaceAndRefusal}
use Rattle.logs.specs.Logs.{logged}

-- How a replay ends: with the record count, or with a refused record's place and why it is refused.
abbrev pub Ending : Type 0
Ending = Result ℕ PlaceAndRefusal

abbrev pub Done : ℕ → Ending
Done count = Ok count

abbrev pub Stopped : ℕ → Refusal → Ending
Stopped place why = Err (record { place = place; refusal = why })

-- Everything that a replay leaves: its answer, the state, the five buffers and the log.
pub record Left : Type 0 where
  pub out : Replayed
  pub mem : Mem
  pub log : List ℕ

abbrev pub left_of : Replayed → Mem → List ℕ → Left
left_of r m log = record { out = r; mem = m; log = log }

abbrev pub ended : Ending → State → Mem → List ℕ → Left
ended e s m log = left_of (record { ending = e; state = s }) m log

-- What stands at a place: the end, an unreadable record, or a record.
abbrev pub found : {A : Type 0} → Found → A → (Refusal → A) → (Call → ℕ → A) → A
found (Ok None) done stop play = done
found (Err why) done stop play = stop why
found (Ok (Some (call, next))) done stop play = play call next

-- The records from a place on, at most n of them; `count` records came before. "in replay, records before the refused one are accepted calls of the
-- history": each call takes the state and the buffers as the call before it left them. The refused record changes nothing, and nothing after it is
-- played. "Trace refusals also tell the record's place, the offset of its kind byte."
unfoldable pub played_from : ℕ → List ℕ → ℕ → ℕ → State → Mem → List ℕ → Left
played_from zero trace at count s m log = ended (Done count) s m log
played_from (suc n) trace at count s m log =
    found (record_at trace at)
    (ended (Done count) s m log)
    (λ (why : Refusal). ended (Stopped at why) s m log)
    (λ (call : Call) (next : ℕ). let after = called call s m in
    if_refused after.out.answer
    (λ (why : Refusal). ended (Stopped at why) s m log)
    (played_from n trace next (count + 1) after.out.state after.mem (logged log count after.out.answer (interrupt_up after.out.state.irq))))

-- All records of a trace. A record has at least one byte, so a trace has no more records than bytes (specs/Promise.antt, `Enough`).
abbrev pub played : State → List ℕ → Mem → List ℕ → Left
played s trace m log = played_from (length trace + 1) trace 0 0 s m log

-- "replay checks 11, then 4 and 5, at place 0 before any record, in an empty trace too".
unfoldable pub replayed : State → List ℕ → Mem → List ℕ → Left
replayed s trace m log =
    pick (too_long (length trace)) (ended (Stopped 0 Length) s m log)
    (behind (gate_mem s m) (λ (why : Refusal). ended (Stopped 0 why) s m log) (played s trace m log))
