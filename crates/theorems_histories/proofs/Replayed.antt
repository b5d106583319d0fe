-- Replay of a trace is a history: by induction over its records.
use Prim.Native.Nat.{ℕ, zero, suc, ◌+◌, ◌-◌, ◌<◌, ◌≤◌}
use mathlib.Core.Bool.{Bool, true, false}
use mathlib.Core.List.{List, [], ◌∷◌, ◌++◌, map}
use mathlib.Core.Logic.{◌⊎◌, inl, inr}
use mathlib.Core.Path.{◌≡◌, refl, sym, ◌∙◌, ap, subst}
use native.Mathlib.Omega.{arith}
use borrow.Author.Tests.{lt-ltb, le-ltb}
use lib.Dec.{ltb}
use lib.ListN.{length}
use Rattle.memory.specs.Tests.{pick}
use Rattle.answers.specs.declared.Answer.TheVariants.{Refused}
use Rattle.answers.specs.declared.Refusal.{Refusal}
use Rattle.answers.specs.declared.Refusal.TheVariants.{Kind, Number, Length}
use Rattle.answers.specs.Numbers.{number_of}
use Rattle.answers.proofs.Cases.{if_refused_lem}
use Rattle.scanline.specs.Ranges.{counter_refused}
use Rattle.scanline.specs.Steps.{interrupt_up}
use Rattle.state.specs.Gate.{Shut, gate_mem}
use Rattle.cpu.specs.Reads.{audio_read}
use Rattle.cpu.specs.Writes.{audio_write}
use Rattle.trace.specs.declared.Call.{Call}
use Rattle.trace.specs.declared.Call.TheVariants.{Clock, CpuRead, CpuWrite, PpuRegister, PpuFetch, Reset, PpuWrite}
use Rattle.trace.specs.Records.{End, Record, Refused as Unreadable, record_at}
use Rattle.trace.proofs.RecordLaws.{none_read, record_advances, record_refused}
use Rattle.theorems_scanlines.specs.Calls.Played.{at_load, taken}
use Rattle.logs.specs.Logs.{logged}
use Rattle.player.specs.Replay.{Stopped, Left, ended, played_from, played, replayed}
use Rattle.player.proofs.Ways.{by_found}
use Rattle.theorems_histories.specs.Boards.{Board, Made, says, leaves, board_after, number, number_in}
use Rattle.theorems_histories.specs.Boards.Made.{call}
use Rattle.theorems_histories.specs.Boards.Said.{answers}
use Rattle.theorems_histories.specs.Histories.{Load, Leads, Reached}
use Rattle.theorems_histories.specs.Watching.{view}
use Rattle.theorems_histories.specs.Accepted.{refusal}
use Rattle.theorems_histories.specs.Replays.{records_to, end_of, played_calls, Records, Ends, answer_at, log_along, board_in, Plays, replay_of}
use Rattle.theorems_histories.specs.Replays.Records.{none, one_more}
use Rattle.theorems_histories.specs.Replays.Ends.{counted, unreadable, refused}
use Rattle.theorems_histories.proofs.Along.{Opened, open_on, open_along}
use Rattle.theorems_histories.proofs.Behind.{exactly, no_zero, given}
use Rattle.theorems_histories.proofs.GivenBack.{refusals}

-- The calls before a place ------------------------------------------------------------------------------------------------------------------

-- A place inside a trace where reading ends is its end.
at_end : (trace : List ℕ) (at : ℕ) → at ≤ length trace → record_at trace at ≡ End → at ≡ length trace
at_end trace at i e = omega (arith, i, none_read trace at e)

inside : (trace : List ℕ) {cs : List Call} {at : ℕ} → Records trace cs at → (at ≤ length trace) × (length cs ≤ at)
inside trace none = (omega arith, omega arith)
inside trace (one_more {cs = cs} {at = at} c next r e) =
    let o = record_advances trace at c next e in
    let i = inside trace r in
    (o.1, omega (arith, o.0, i.1))

reads_to : (trace : List ℕ) (place : ℕ) {cs : List Call} {at : ℕ} → Records trace cs at → at ≤ place → (k j : ℕ) → k ≡ j + length cs → records_to k trace place 0 [] ≡ records_to j trace place at cs
unfolding records_to
reads_to trace place none h k j q = let p : k ≡ j = omega (arith, q) in ap (λ (i : ℕ). records_to i trace place 0 []) p
reads_to trace place (one_more {cs = cs} {at = at} c next r e) h k j q =
    let o = record_advances trace at c next e in
    let t : ltb at place ≡ true = lt-ltb at place (omega (arith, o.0, h)) in
    let i : records_to k trace place 0 [] ≡ records_to (suc j) trace place at cs = reads_to trace place r (omega (arith, o.0, h)) k (suc j) (omega (arith, q)) in
    i ∙ rw (t, e)

stops_there : (trace : List ℕ) (place j : ℕ) (cs : List Call) → records_to j trace place place cs ≡ cs
unfolding records_to
stops_there trace place zero cs = refl
stops_there trace place (suc j) cs = rw (le-ltb place place (omega arith))

are_before : (trace : List ℕ) (place : ℕ) (cs : List Call) → Records trace cs place → cs ≡ records_to (length trace + 1) trace place 0 []
are_before trace place cs r =
    let i = inside trace r in
    sym (reads_to trace place r (omega arith) (length trace + 1) (length trace + 1 - length cs) (omega (arith, i.0, i.1)) ∙ stops_there trace place _ cs)

-- The refusals of a record --------------------------------------------------------------------------------------------------------------------

only : (t : Bool) (n : ℕ) (why : Refusal) → number_of why ≡ pick t n 0 → number_of why ≡ n
only true n why e = e
only false n why e = no_zero why e

six_or_seven : (b : Board) (c : Call) (why : Refusal) → number_of why ≡ refusal (view b) (call c) → (number_of why ≡ 6) ⊎ (number_of why ≡ 7)
unfolding refusal
six_or_seven b Clock why e = no_zero why e
six_or_seven b (CpuRead a) why e = inl (only (audio_read a.0) 6 why e)
six_or_seven b (CpuWrite a v) why e = inl (only (audio_write a.0) 6 why e)
six_or_seven b (PpuRegister a v) why e = no_zero why e
six_or_seven b (PpuFetch a) why e = inr (only (counter_refused b.state.irq a.0) 7 why e)
six_or_seven b Reset why e = no_zero why e
six_or_seven b (PpuWrite a v) why e = no_zero why e

said_so : (b : Board) (c : Call) (why : Refusal) → answer_at b c ≡ Refused why → number (says b (call c)) ≡ number_of why
unfolding says number
said_so b c why e = ap number_in e

says_so : (b : Board) (c : Call) (why : Refusal) → answer_at b c ≡ Refused why → says b (call c) ≡ answers (Refused why)
unfolding says
says_so b c why e = ap answers e

by_cause : (why : Refusal) {P Q : Type 0} → ((why ≡ Kind) × P) ⊎ ((why ≡ Number) × Q) → (number_of why ≡ 9) ⊎ (number_of why ≡ 10)
by_cause why (inl p) = inl (ap number_of p.0)
by_cause why (inr p) = inr (ap number_of p.0)

nine_or_ten : (trace : List ℕ) (at : ℕ) (why : Refusal) → record_at trace at ≡ Unreadable why → (number_of why ≡ 9) ⊎ (number_of why ≡ 10)
nine_or_ten trace at why e = by_cause why (record_refused trace at why e).cause

-- The walk over the records -------------------------------------------------------------------------------------------------------------------

-- The accepted calls of a replay that leaves x.
record Walked (b₀ : Board) (trace log₀ : List ℕ) (x : Left) : Type 0 where
  calls : List Call
  records : Records trace calls (end_of trace x.out.ending)
  leads : Leads b₀ (map call calls) (board_in x)
  ends : Ends trace (board_in x) calls x.out.ending
  logs : x.log ≡ log_along b₀ log₀ calls

takes : (b : Board) (c : Call) → number_in (answer_at b c) ≡ 0 → number (says b (call c)) ≡ 0
unfolding says number
takes b c e = e

logs_on : (b₀ : Board) (log₀ : List ℕ) (b : Board) (c : Call) (count : ℕ) (log : List ℕ) (cs : List Call) → count ≡ length cs → b ≡ board_after b₀ (map call cs) → log ≡ log_along b₀ log₀ cs
    → logged log count (answer_at b c) (interrupt_up (leaves b (call c)).state.irq) ≡ log_along b₀ log₀ (c ∷ cs)
unfolding log_along
logs_on b₀ log₀ b c count log cs q k g = rw (q, k, g)

module _ (b₀ : Board) (o₀ : Opened b₀) (trace log₀ : List ℕ) where
  stopped_at_lem : (b : Board) (at : ℕ) (log : List ℕ) (cs : List Call) (c : Call) (next : ℕ) (why : Refusal) → Records trace cs at → Leads b₀ (map call cs) b → log ≡ log_along b₀ log₀ cs
      → record_at trace at ≡ Record c next → answer_at b c ≡ Refused why → Walked b₀ trace log₀ (ended (Stopped at why) b.state b.mem log)
  stopped_at_lem b at log cs c next why r h g e a =
      let n = said_so b c why a in
      record {
        calls = cs;
        records = r;
        leads = h;
        ends = refused at why c next e (says_so b c why a) (six_or_seven b c why (sym n ∙ exactly b (call c) (open_on o₀ h))) (refusals.gives_back b (call c) (λ z. no_zero why (sym n ∙ z)));
        logs = g;
      }

  walk : (n at count : ℕ) (log : List ℕ) (cs : List Call) (b : Board) → length trace < n + at → count ≡ length cs → Records trace cs at → Leads b₀ (map call cs) b
      → b ≡ board_after b₀ (map call cs) → log ≡ log_along b₀ log₀ cs → Walked b₀ trace log₀ (played_from n trace at count b.state b.mem log)
  unfolding played_from board_after leaves
  walk zero at count log cs b f q r h k g = absurd (omega (arith, f, (inside trace r).0))
  walk (suc n) at count log cs b f q r h k g =
      by_found (Walked b₀ trace log₀) (record_at trace at) _ _ _
      (λ e. record { calls = cs; records = rw (← at_end trace at (inside trace r).0 e) r; leads = h; ends = rw q counted; logs = g })
      (λ why e. record { calls = cs; records = r; leads = h; ends = unreadable at why e (nine_or_ten trace at why e); logs = g })
      (λ c next e. let o = record_advances trace at c next e in
      if_refused_lem (Walked b₀ trace log₀) (answer_at b c) _ _
      (λ why a. stopped_at_lem b at log cs c next why r h g e a)
      (λ z. walk n next (count + 1) _ (c ∷ cs) (leaves b (call c)) (omega (arith, f, o.0)) (omega (arith, q)) (one_more c next r e)
      (taken (call c) h (record { accepted = takes b c (given (answer_at b c) z); left = refl }))
      (ap (λ (x : Board). leaves x (call c)) k)
      (logs_on b₀ log₀ b c count log cs q k g)))

  fits : (x : Left) → Walked b₀ trace log₀ x → Plays b₀ trace log₀ x
  fits x w =
      let p : w.calls ≡ played_calls trace x.out.ending = are_before trace (end_of trace x.out.ending) w.calls w.records in
      record {
        records = subst (λ (cs : List Call). Records trace cs (end_of trace x.out.ending)) p w.records;
        calls = subst (λ (cs : List Call). Leads b₀ (map call cs) (board_in x)) p w.leads;
        ends = subst (λ (cs : List Call). Ends trace (board_in x) cs x.out.ending) p w.ends;
        logs = subst (λ (cs : List Call). x.log ≡ log_along b₀ log₀ cs) p w.logs;
      }

  starts : Plays b₀ trace log₀ (played b₀.state trace b₀.mem log₀)
  unfolding board_after log_along
  starts = fits _ (walk (length trace + 1) 0 0 log₀ [] b₀ (omega arith) refl none at_load refl refl)

  pub from_there : length trace ≤ 8192 → Plays b₀ trace log₀ (replay_of b₀ trace log₀)
  unfolding replayed
  from_there s = rw (le-ltb 8192 (length trace) s, o₀) starts

-- Calls that go on with a history.
goes_on : (l : Load) {hs : List Made} {a : Board} {cs : List Made} {b : Board} → Reached l hs a → Leads a cs b → Reached l (cs ++ hs) b
goes_on l r at_load = r
goes_on l r (taken c p t) = taken c (goes_on l r p) t

pub from_history : (l : Load) (hs : List Made) (b : Board) → Reached l hs b → (trace log : List ℕ) → length trace ≤ 8192
    → Reached l (map call (played_calls trace (replay_of b trace log).out.ending) ++ hs) (board_in (replay_of b trace log))
from_history l hs b r trace log s = goes_on l r (from_there b (open_along l r) trace log s).calls

pub too_long : (b : Board) (trace log : List ℕ) → 8192 < length trace → replay_of b trace log ≡ ended (Stopped 0 Length) b.state b.mem log
unfolding replayed
too_long b trace log h = rw (lt-ltb 8192 (length trace) h)

pub shut : (b : Board) (trace log : List ℕ) (why : Refusal) → length trace ≤ 8192 → gate_mem b.state b.mem ≡ Shut why
    → replay_of b trace log ≡ ended (Stopped 0 why) b.state b.mem log
unfolding replayed
shut b trace log why s h = rw (le-ltb 8192 (length trace) s, h)
