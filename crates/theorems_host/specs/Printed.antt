-- The transcript that the programs print, by histories. 01, "Trace": "One line per record: record number, kind, answer, interrupt 0 or 1." The answer
-- is what the call says at the board that the records before it left, the interrupt what the history of the records up to it tells.
-- Assumes nothing.
use Rattle.std.specs.Prelude.{ℕ, zero, suc, ◌≤◌, false, ◌↔◌, List, [], ◌∷◌, ◌++◌, map, ◌≡◌, length, drop}
use Rattle.memory.specs.Bits.{as_bit}
use Rattle.answers.specs.declared.Answer.TheVariants.{Nothing}
use Rattle.answers.specs.declared.Refusal.{Refusal}
use Rattle.answers.specs.Refused.{if_refused}
use Rattle.registers.specs.declared.Mirroring.TheVariants.{Horizontal}
use Rattle.board.specs.Loads.{load_call}
use Rattle.trace.specs.declared.Call.{Call}
use Rattle.trace.specs.Cartridge.{cartridge}
use Rattle.trace.specs.Records.{kind_of, record_at}
use Rattle.text.specs.Digits.{digits}
use Rattle.text.specs.Lines.{accepted_line, refused_line, unreadable_line, end_line}
use Rattle.theorems_scanlines.specs.Told.{up, Up}
use Rattle.theorems_scanlines.specs.Calls.{history_of}
use Rattle.logs.specs.Logs.{log_letter}
use Rattle.player.specs.Replay.{found}
use Rattle.transcript.specs.Cartridge.{transcript}
use Rattle.theorems_settles.specs.OwnEntries.{transcript_transcribe as transcribe}
use Rattle.theorems_histories.specs.Boards.{Board, Made, says, leaves, number}
use Rattle.theorems_histories.specs.Boards.Made.{call}
use Rattle.theorems_histories.specs.Histories.{Load, first, Reached}
use Rattle.theorems_histories.specs.Watching.{event}
use Rattle.theorems_histories.specs.Replays.{answer_at, letter_at}

-- The lines of the records from a place on, at most so many, after the calls cs, which left b.
unfoldable pub lines_after : ℕ → List ℕ → ℕ → List Call → Board → List ℕ
lines_after zero trace at cs b = []
lines_after (suc k) trace at cs b =
    found (record_at trace at)
    (end_line (length cs))
    (λ (why : Refusal). unreadable_line (length cs) why)
    (λ (c : Call) (next : ℕ).
    if_refused (answer_at b c)
    (λ (why : Refusal). refused_line (length cs) (kind_of c) why)
    (accepted_line (length cs) (kind_of c) (answer_at b c) (up (history_of event (map call (c ∷ cs)))) ++ lines_after k trace next (c ∷ cs) (leaves b (call c))))

-- 01's cartridge as the programs load it: "CHR-ROM .. Horizontal".
abbrev pub inserted : (load_call cartridge false Horizontal).answer ≡ Nothing → Load
inserted q = record { mem = cartridge; as_ram = false; mirroring = Horizontal; accepted = q }

pub record TranscriptIsHistory : Type 0 where
  pub loads : (load_call cartridge false Horizontal).answer ≡ Nothing
  -- every trace that is not too long prints these lines, from the load on; a trace has no more records than bytes
  pub lines : (trace : List ℕ) → length trace ≤ 8192 → transcript trace ≡ lines_after (suc (length trace)) trace 0 [] (first (inserted loads))
  -- the digit at the end of a line is `1` exactly when the interrupt is up by the history: 00, demand 3: "The interrupt is up exactly when .."
  pub digit : (cs : List Call) → (digits (as_bit (up (history_of event (map call cs)))) ≡ 0x31 ∷ []) ↔ Up (history_of event (map call cs))
  -- and so is the mark in the log of a replay, from every history on (crate `theorems_histories`, specs/Replays.antt, says where it stands)
  pub letter : (l : Load) (cs : List Made) (b : Board) (c : Call) → Reached l cs b → number (says b (call c)) ≡ 0
      → letter_at b c ≡ log_letter (answer_at b c) (up (history_of event (call c ∷ cs)))
  -- what the contract of `transcribe` allows: lent the 131,072 bytes of the programs, or more, it leaves the transcript whole from their start on, leaves
  -- the bytes behind it, and tells its length
  pub whole : (κ : _) (a : _) (r : _) (e : _) → transcribe.Learnt κ a r e → 131072 ≤ length a.0.now
      → (r ≡ length (transcript a.1.0.now)) × (e.0.now ≡ transcript a.1.0.now ++ drop (length (transcript a.1.0.now)) a.0.now)
