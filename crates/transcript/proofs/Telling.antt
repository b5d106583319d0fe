-- What is printed by the log is what the definitions tell.
use Prim.Native.Nat.{ℕ, zero, suc, ◌+◌, ◌*◌, ◌<◌, ◌≤◌}
use mathlib.Core.Bool.{Bool, true, false, false≢true}
use mathlib.Core.List.{List, ◌++◌}
use mathlib.Core.Path.{◌≡◌, refl, sym, ◌∙◌, ap}
use native.Mathlib.Omega.{arith}
use borrow.Author.Tests.{eq-eqb, ne_eqb}
use lib.Dec.{eqb}
use lib.ListN.{length, get_or, set, length-set}
use lib.Seq.{get_or-set_same, get_or-set_other}
use Rattle.memory.specs.Bytes.{Mem}
use Rattle.memory.specs.Bits.{as_bit}
use Rattle.memory.specs.Tests.{pick}
use Rattle.answers.specs.declared.Answer.{Answer}
use Rattle.answers.specs.declared.Answer.TheVariants.{Refused}
use Rattle.answers.specs.declared.Refusal.{Refusal}
use Rattle.answers.specs.Letters.{letter_of, value_of}
use Rattle.answers.proofs.Cases.{if_refused_lem, refused_or_not, accepted_goes_on}
use Rattle.scanline.specs.Steps.{interrupt_up}
use Rattle.state.specs.declared.State.{State}
use Rattle.board.specs.Outcomes.{After}
use Rattle.trace.specs.declared.Call.{Call}
use Rattle.std.specs.Prelude.{None, Some, Ok, Err}
use Rattle.trace.specs.Records.{Found, End, Record, Refused as Unreadable, kind_of, record_at}
use Rattle.trace.proofs.RecordLaws.{record_advances}
use Rattle.text.specs.Lines.{logged_line, accepted_line}
use Rattle.text.proofs.LineLaws.{logged as logged-line}
use Rattle.calls.specs.Called.{called}
use Rattle.theorems_promises.proofs.Refusals.{Given}
use Rattle.logs.specs.Logs.{log_letter, logged}
use Rattle.player.specs.Replay.{Left, played_from}
use Rattle.player.proofs.Steps.{logged_length}
use Rattle.player.proofs.Ways.{by_found}
use Rattle.transcript.specs.Printed.{refusal_at, printed_from}
use Rattle.transcript.specs.Lines.{lines_from, PrintedIsLines}

-- A replay stops no sooner than where it begins.
abbrev NotBefore : ℕ → Left → Type 0
NotBefore at l = (b : ℕ) → b < at → refusal_at l.out.ending b ≡ None

stop_apart : (at b : ℕ) (why : Refusal) → b < at → pick (eqb b at) (Some why) None ≡ None
stop_apart at b why h = rw (ne_eqb b at (λ e. absurd (omega (arith, h, e))))

stops_later : (k : ℕ) (trace : List ℕ) (at n : ℕ) (s : State) (m : Mem) (log : List ℕ) → NotBefore at (played_from k trace at n s m log)
unfolding played_from
stops_later zero trace at n s m log = λ b h. refl
stops_later (suc k) trace at n s m log =
    by_found (NotBefore at) (record_at trace at) _ _ _ (λ e b h. refl) (λ why e b h. stop_apart at b why h)
    (λ call next r. if_refused_lem (NotBefore at) (called call s m).out.answer _ _ (λ why e b h. stop_apart at b why h)
    (λ e b h. stops_later k trace next (n + 1) _ _ _ b (omega (arith, h, (record_advances trace at call next r).0))))

-- What is logged stays: later records are logged behind it.
abbrev Keeps : ℕ → List ℕ → Left → Type 0
Keeps n log l = (i : ℕ) → i < 2 * n → get_or l.log i 0 ≡ get_or log i 0

logged_below : (log : List ℕ) (n : ℕ) (a : Answer) (up : Bool) (i : ℕ) → i < 2 * n → get_or (logged log n a up) i 0 ≡ get_or log i 0
unfolding logged
logged_below log n a up i h =
    get_or-set_other (set log (2 * n) (log_letter a up)) (2 * n + 1) i (value_of a) 0 (λ e. absurd (omega (arith, h, e)))
    ∙ get_or-set_other log (2 * n) i (log_letter a up) 0 (λ e. absurd (omega (arith, h, e)))

keeps_log : (k : ℕ) (trace : List ℕ) (at n : ℕ) (s : State) (m : Mem) (log : List ℕ) → Keeps n log (played_from k trace at n s m log)
unfolding played_from
keeps_log zero trace at n s m log = λ i h. refl
keeps_log (suc k) trace at n s m log =
    by_found (Keeps n log) (record_at trace at) _ _ _ (λ e i h. refl) (λ why e i h. refl)
    (λ call next r. if_refused_lem (Keeps n log) (called call s m).out.answer _ _ (λ why e i h. refl)
    (λ e i h. keeps_log k trace next (n + 1) _ _ _ i (omega (arith, h)) ∙ logged_below log n _ _ i h))

-- The two bytes of a record in a log that has room for them.
first_byte : (log : List ℕ) (n : ℕ) (a : Answer) (up : Bool) → 2 * n + 1 < length log → get_or (logged log n a up) (2 * n) 0 ≡ log_letter a up
unfolding logged
first_byte log n a up h =
    get_or-set_other (set log (2 * n) (log_letter a up)) (2 * n + 1) (2 * n) (value_of a) 0 (λ e. absurd (omega (arith, e)))
    ∙ get_or-set_same log (2 * n) (log_letter a up) 0 (omega (arith, h))

second_byte : (log : List ℕ) (n : ℕ) (a : Answer) (up : Bool) → 2 * n + 1 < length log → get_or (logged log n a up) (2 * n + 1) 0 ≡ value_of a
unfolding logged
second_byte log n a up h = get_or-set_same (set log (2 * n) (log_letter a up)) (2 * n + 1) (value_of a) 0 (rw (length-set log (2 * n) (log_letter a up)) h)

letter_with : (a : Answer) (up : Bool) → log_letter a up ≡ letter_of a + 128 * as_bit up
letter_with a true = refl
letter_with a false = omega arith

line_is : (log : List ℕ) (n kind : ℕ) (a : Answer) (up : Bool) → Given a → 2 * n + 1 < length log
    → logged_line n kind (get_or (logged log n a up) (2 * n) 0) (get_or (logged log n a up) (2 * n + 1) 0) ≡ accepted_line n kind a up
line_is log n kind a up g h =
    rw (first_byte log n a up h, second_byte log n a up h, letter_with a up) (logged-line n kind a up (λ why e. false≢true (sym (rw e at g))))

module _ (k : ℕ) (trace : List ℕ) (at n : ℕ) (s : State) (m : Mem) (log : List ℕ) (call : Call) (next : ℕ) (r : record_at trace at ≡ Record call next) where
  abbrev after : After
  after = called call s m

  abbrev now_logged : List ℕ
  now_logged = logged log n after.out.answer (interrupt_up after.out.state.irq)

  abbrev on : Left
  on = played_from k trace next (n + 1) after.out.state after.mem now_logged

  goes_on : Given after.out.answer → played_from (suc k) trace at n s m log ≡ on
  unfolding played_from
  goes_on g = rw r (accepted_goes_on after.out.answer _ _ g)

  printed_on : printed_from (suc k) trace at n on.log on.out.ending
      ≡ logged_line n (kind_of call) (get_or on.log (2 * n) 0) (get_or on.log (2 * n + 1) 0) ++ printed_from k trace next (n + 1) on.log on.out.ending
  unfolding printed_from
  printed_on = rw (r, stops_later k trace next (n + 1) after.out.state after.mem now_logged at (record_advances trace at call next r).0)

  lines_on : Given after.out.answer
      → lines_from (suc k) trace at n s m
      ≡ accepted_line n (kind_of call) after.out.answer (interrupt_up after.out.state.irq) ++ lines_from k trace next (n + 1) after.out.state after.mem
  unfolding lines_from
  lines_on g = rw r (accepted_goes_on after.out.answer _ _ g)

  line_on : Given after.out.answer → 2 * n + 1 < length log
      → logged_line n (kind_of call) (get_or on.log (2 * n) 0) (get_or on.log (2 * n + 1) 0) ≡ accepted_line n (kind_of call) after.out.answer (interrupt_up after.out.state.irq)
  line_on g h =
      let kept = keeps_log k trace next (n + 1) after.out.state after.mem now_logged in
      rw (kept (2 * n) (omega arith), kept (2 * n + 1) (omega arith)) (line_is log n (kind_of call) after.out.answer (interrupt_up after.out.state.irq) g h)

  refused_here : (why : Refusal) → after.out.answer ≡ Refused why
      → printed_from (suc k) trace at n (played_from (suc k) trace at n s m log).log (played_from (suc k) trace at n s m log).out.ending ≡ lines_from (suc k) trace at n s m
  unfolding played_from printed_from lines_from
  refused_here why e = rw (r, e, eq-eqb at at refl)

ended_here : (k : ℕ) (trace : List ℕ) (at n : ℕ) (s : State) (m : Mem) (log : List ℕ) → record_at trace at ≡ End
    → printed_from (suc k) trace at n (played_from (suc k) trace at n s m log).log (played_from (suc k) trace at n s m log).out.ending ≡ lines_from (suc k) trace at n s m
unfolding played_from printed_from lines_from
ended_here k trace at n s m log r = rw r

unreadable_here : (k : ℕ) (trace : List ℕ) (at n : ℕ) (s : State) (m : Mem) (log : List ℕ) (why : Refusal) → record_at trace at ≡ Unreadable why
    → printed_from (suc k) trace at n (played_from (suc k) trace at n s m log).log (played_from (suc k) trace at n s m log).out.ending ≡ lines_from (suc k) trace at n s m
unfolding played_from printed_from lines_from
unreadable_here k trace at n s m log why r = rw r

none_left : (trace : List ℕ) (at n : ℕ) (s : State) (m : Mem) (log : List ℕ)
    → printed_from 0 trace at n (played_from 0 trace at n s m log).log (played_from 0 trace at n s m log).out.ending ≡ lines_from 0 trace at n s m
unfolding played_from printed_from lines_from
none_left trace at n s m log = refl

-- From the same of what comes after it.
abbrev Lined : ℕ → Type 0
Lined k =
    (trace : List ℕ) (at n : ℕ) (s : State) (m : Mem) (log : List ℕ) → n ≤ at → 2 * length trace ≤ length log
    → printed_from k trace at n (played_from k trace at n s m log).log (played_from k trace at n s m log).out.ending ≡ lines_from k trace at n s m

on_record : (k : ℕ) → Lined k → (trace : List ℕ) (at n : ℕ) (s : State) (m : Mem) (log : List ℕ) → n ≤ at → 2 * length trace ≤ length log → (r : Found) → record_at trace at ≡ r
    → printed_from (suc k) trace at n (played_from (suc k) trace at n s m log).log (played_from (suc k) trace at n s m log).out.ending ≡ lines_from (suc k) trace at n s m
on_record k ih trace at n s m log i h (Ok None) r = ended_here k trace at n s m log r
on_record k ih trace at n s m log i h (Err why) r = unreadable_here k trace at n s m log why r
on_record k ih trace at n s m log i h (Ok (Some (call, next))) r =
    let o = record_advances trace at call next r in
    let c = called call s m in
    refused_or_not c.out.answer (refused_here k trace at n s m log call next r)
    (λ g.
    ap (λ (l : Left). printed_from (suc k) trace at n l.log l.out.ending) (goes_on k trace at n s m log call next r g)
    ∙ printed_on k trace at n s m log call next r
    ∙ ap (λ (l : List ℕ). l ++ printed_from k trace next (n + 1) (on k trace at n s m log call next r).log (on k trace at n s m log call next r).out.ending)
    (line_on k trace at n s m log call next r g (omega (arith, o.0, o.1, i, h)))
    ∙ ap (λ (l : List ℕ). accepted_line n (kind_of call) c.out.answer (interrupt_up c.out.state.irq) ++ l)
    (ih trace next (n + 1) c.out.state c.mem (now_logged k trace at n s m log call next r) (omega (arith, o.0, i)) (rw (logged_length log n c.out.answer (interrupt_up c.out.state.irq)) h))
    ∙ sym (lines_on k trace at n s m log call next r g))

pub printed_is_lines : PrintedIsLines
printed_is_lines zero trace at n s m log i h = none_left trace at n s m log
printed_is_lines (suc k) trace at n s m log i h = on_record k (printed_is_lines k) trace at n s m log i h (record_at trace at) refl
