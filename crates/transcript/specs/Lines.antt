-- The lines of a replay by the board's definitions alone: no log is looked at. What is printed is these lines, wherever the log has room; and so is
-- all that the program prints, from the load of 01's cartridge on (`TranscriptIsLines`).
-- Assumes nothing.
use Rattle.std.specs.Prelude.{ℕ, zero, suc, ◌+◌, ◌*◌, ◌<◌, ◌≤◌, false, List, [], ◌++◌, ◌≡◌, length}
use Rattle.memory.specs.Bytes.{Mem}
use Rattle.answers.specs.declared.Answer.TheVariants.{Nothing}
use Rattle.answers.specs.declared.Refusal.{Refusal}
use Rattle.answers.specs.Refused.{if_refused}
use Rattle.registers.specs.declared.Mirroring.TheVariants.{Horizontal}
use Rattle.scanline.specs.Steps.{interrupt_up}
use Rattle.state.specs.declared.State.{State}
use Rattle.board.specs.Loads.{load_call}
use Rattle.trace.specs.declared.Call.{Call}
use Rattle.trace.specs.Cartridge.{cartridge}
use Rattle.trace.specs.Examples.{worked}
use Rattle.trace.specs.Records.{kind_of, record_at}
use Rattle.text.specs.Examples.{worked_lines}
use Rattle.text.specs.Lines.{accepted_line, refused_line, unreadable_line, too_long_line, end_line}
use Rattle.calls.specs.Called.{called}
use Rattle.player.specs.Replay.{found, played_from}
use Rattle.transcript.specs.Cartridge.{transcript}
use Rattle.transcript.specs.Printed.{printed_from}

-- The lines from record n on, which begins at a place; at most so many. "One line per record: record number, kind, answer, interrupt 0 or 1." "A
-- refused call prints number, kind, `!`, refusal; an unreadable record prints number, `?`, refusal; either ends it." "Else `end` and the count."
unfoldable pub lines_from : ℕ → List ℕ → ℕ → ℕ → State → Mem → List ℕ
lines_from zero trace at n s m = []
lines_from (suc k) trace at n s m =
    found (record_at trace at)
    (end_line n)
    (λ (why : Refusal). unreadable_line n why)
    (λ (call : Call) (next : ℕ). let after = called call s m in
    if_refused after.out.answer
    (λ (why : Refusal). refused_line n (kind_of call) why)
    (accepted_line n (kind_of call) after.out.answer (interrupt_up after.out.state.irq) ++ lines_from k trace next (n + 1) after.out.state after.mem))

abbrev pub PrintedIsLines : Type 0
PrintedIsLines =
    (k : ℕ) (trace : List ℕ) (at n : ℕ) (s : State) (m : Mem) (log : List ℕ) → n ≤ at → 2 * length trace ≤ length log
    → printed_from k trace at n (played_from k trace at n s m log).log (played_from k trace at n s m log).out.ending ≡ lines_from k trace at n s m

-- Of `transcript`, which the contract of `transcribe` names.
pub record TranscriptIsLines : Type 0 where
  -- the cartridge is accepted, so that records are played
  pub loads : (load_call cartridge false Horizontal).answer ≡ Nothing
  -- "Too long prints `? 11` only."
  pub too_long : (trace : List ℕ) → 8192 < length trace → transcript trace ≡ too_long_line
  -- every other trace prints a line for each record, from the load on, and the line that ends it; a trace has no more records than bytes
  pub lines : (trace : List ℕ) → length trace ≤ 8192
      → transcript trace ≡ lines_from (suc (length trace)) trace 0 0 (load_call cartridge false Horizontal).state cartridge
  -- so many lines are enough, from every place on: allowed more, it prints the same
  pub enough : (k : ℕ) (trace : List ℕ) (at n : ℕ) (s : State) (m : Mem) → length trace < k → lines_from k trace at n s m ≡ lines_from (suc (length trace)) trace at n s m
  -- the program lends 131,072 bytes for the text (crate `replay`): every transcript finds room, so that no byte of it is dropped
  pub room : (trace : List ℕ) → length (transcript trace) ≤ 131072
  -- 01's worked input prints 01's lines
  pub worked_example : transcript worked ≡ worked_lines
