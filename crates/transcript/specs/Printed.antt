-- What is printed of a replay: its lines, told by the trace, the log and how the replay ended. Assumes nothing.
use Rattle.std.specs.Prelude.{ℕ, zero, suc, ◌+◌, ◌*◌, Option, None, Some, Ok, Err, List, [], ◌++◌, eqb, length, get_or}
use Rattle.memory.specs.Tests.{pick}
use Rattle.answers.specs.declared.Refusal.{Refusal}
use Rattle.trace.specs.declared.Call.{Call}
use Rattle.trace.specs.Records.{Found, kind_of, record_at, too_long}
use Rattle.text.specs.Lines.{logged_line, refused_line, unreadable_line, too_long_line, end_line}
use Rattle.player.specs.Replay.{Ending, found}

-- Why the replay stopped at a place, if it did.
abbrev pub refusal_at : Ending → ℕ → Option Refusal
refusal_at (Ok count) at = None
refusal_at (Err stopped) at = pick (eqb at stopped.place) (Some stopped.refusal) None

-- What is told of a record: a refused call, or an accepted one.
abbrev pub if_stopped : {A : Type 0} → Option Refusal → (Refusal → A) → A → A
if_stopped (Some why) stop go = stop why
if_stopped None stop go = go

-- The line of what stands at a place, as record n; and where the record that follows it begins, if one does.
unfoldable pub line_of : Found → ℕ → ℕ → List ℕ → Ending → List ℕ
line_of f at n log e =
    found f
    (end_line n)
    (λ (why : Refusal). unreadable_line n why)
    (λ (call : Call) (next : ℕ).
    if_stopped (refusal_at e at) (λ (why : Refusal). refused_line n (kind_of call) why) (logged_line n (kind_of call) (get_or log (2 * n) 0) (get_or log (2 * n + 1) 0)))

unfoldable pub next_of : Found → ℕ → Ending → Option ℕ
next_of f at e =
    found f None (λ (why : Refusal). None) (λ (call : Call) (next : ℕ). if_stopped (refusal_at e at) (λ (why : Refusal). None) (Some next))

-- The lines from record n on, which begins at a place; at most so many. 01: "One line per record"; "A refused call prints number, kind, `!`, refusal;
-- an unreadable record prints number, `?`, refusal; either ends it." "Else `end` and the count."
unfoldable pub printed_from : ℕ → List ℕ → ℕ → ℕ → List ℕ → Ending → List ℕ
printed_from zero trace at n log e = []
printed_from (suc k) trace at n log e =
    found (record_at trace at)
    (end_line n)
    (λ (why : Refusal). unreadable_line n why)
    (λ (call : Call) (next : ℕ).
    if_stopped (refusal_at e at) (λ (why : Refusal). refused_line n (kind_of call) why)
    (logged_line n (kind_of call) (get_or log (2 * n) 0) (get_or log (2 * n + 1) 0) ++ printed_from k trace next (n + 1) log e))

-- "Too long prints `? 11` only."
unfoldable pub printed : List ℕ → List ℕ → Ending → List ℕ
printed trace log e = pick (too_long (length trace)) too_long_line (printed_from (suc (length trace)) trace 0 0 log e)
