-- The loop over records: what holds at its head, and what one record does to that.
use Prim.Native.Nat.{ℕ, zero, suc, ◌+◌, ◌*◌, ◌-◌, ◌<◌, ◌≤◌}
use mathlib.Core.Bool.{Bool}
use mathlib.Core.List.{List}
use mathlib.Core.Path.{◌≡◌, refl, sym, ap, ◌∙◌}
use native.Mathlib.Omega.{arith}
use mir.Syntax.{w64}
use mir.Val.{Fits}
use lib.ListN.{length, set, length-set}
use Rattle.memory.specs.Bytes.{Mem}
use Rattle.memory.proofs.Tests.{split}
use Rattle.answers.specs.declared.Answer.{Answer}
use Rattle.answers.specs.declared.Answer.TheVariants.{Refused}
use Rattle.answers.specs.declared.Refusal.{Refusal}
use Rattle.answers.specs.Letters.{value_of}
use Rattle.answers.proofs.Cases.{accepted_goes_on}
use Rattle.scanline.specs.Steps.{interrupt_up}
use Rattle.state.specs.declared.State.{State}
use Rattle.state.specs.Gate.{Open, gate_mem}
use Rattle.cpu.specs.Writes.{audio_write}
use Rattle.board.specs.CpuSide.{cpu_write}
use Rattle.board.specs.Outcomes.{outcome, after_of}
use Rattle.board_ppu.specs.Peeks.{ppu_write}
use Rattle.trace.specs.declared.Call.{Call}
use Rattle.trace.specs.declared.Call.TheVariants.{Clock, CpuRead, CpuWrite, PpuRegister, PpuFetch, Reset, PpuWrite}
use Rattle.std.specs.Prelude.{Option, Ok}
use Rattle.trace.specs.Records.{Found, End, Record, Refused as Unreadable, record_at}
use Rattle.trace.proofs.RecordLaws.{record_sound}
use Rattle.calls.specs.Called.{called}
use Rattle.theorems_promises.proofs.Gates.{SameSizes, same, page_stored_sizes, cpu_stored_sizes}
use Rattle.theorems_promises.proofs.Promised.{gate_stays_open}
use Rattle.theorems_promises.proofs.Refusals.{Given}
use Rattle.logs.specs.Logs.{log_letter, logged}
use Rattle.player.specs.Replay.{Done, Stopped, Left, ended, played_from, played}

-- Every call keeps the gate open.
pub call_open : (call : Call) (s : State) (m : Mem) → gate_mem s m ≡ Open → gate_mem (called call s m).out.state (called call s m).mem ≡ Open
call_open Clock s m h = rw h (gate_stays_open.clock s m h)
call_open (CpuRead a) s m h = gate_stays_open.read s m a.0 h
call_open (CpuWrite a v) s m h = gate_stays_open.write s m a.0 v h
call_open (PpuRegister a v) s m h = rw h (gate_stays_open.register s m a.0 v h)
call_open (PpuFetch a) s m h = gate_stays_open.fetch s m a.0 h
call_open Reset s m h = rw h (gate_stays_open.reset s m h)
call_open (PpuWrite a v) s m h = gate_stays_open.ppu_write_call s m a.0 v h

-- No call changes a buffer's length, nor does the log.
call_sizes : (call : Call) (s : State) (m : Mem) → gate_mem s m ≡ Open → SameSizes m (called call s m).mem
unfolding cpu_write ppu_write
call_sizes Clock s m h = same m
call_sizes (CpuRead a) s m h = same m
call_sizes (CpuWrite a v) s m h = split (audio_write a.0) (λ t. rw (h, t) (same m)) (λ f. rw (h, f) (cpu_stored_sizes s m a.0 v))
call_sizes (PpuRegister a v) s m h = same m
call_sizes (PpuFetch a) s m h = same m
call_sizes Reset s m h = same m
call_sizes (PpuWrite a v) s m h = rw h (page_stored_sizes m _ a.0 v)

same_on : {l m n : Mem} → SameSizes l m → SameSizes m n → SameSizes l n
same_on p q =
    record { prg = q.prg ∙ p.prg; chr = q.chr ∙ p.chr; ram = q.ram ∙ p.ram; ciram = q.ciram ∙ p.ciram; exram = q.exram ∙ p.exram }

pub logged_length : (log : List ℕ) (n : ℕ) (a : Answer) (up : Bool) → length (logged log n a up) ≡ length log
unfolding logged
logged_length log n a up = length-set (set log (2 * n) (log_letter a up)) (2 * n + 1) (value_of a) ∙ length-set log (2 * n) (log_letter a up)

-- At the loop's head: what is left to play, from here with so much fuel, is what the whole replay comes to.
pub record Going (trace : List ℕ) (all : Left) (m₀ : Mem) (log₀ : List ℕ) (at count : ℕ) (s : State) (m : Mem) (log : List ℕ) : Type 0 where
  pub fuel : ℕ
  pub enough : length trace < fuel + at
  pub inside : at ≤ length trace
  pub counted : count ≤ at
  pub short : length trace ≤ 8192
  pub gate : gate_mem s m ≡ Open
  pub sizes : SameSizes m₀ m
  pub log_size : length log ≡ length log₀
  pub rest : played_from fuel trace at count s m log ≡ all

-- At the head no more records were counted than a trace has bytes, and one more is a number; the record that is found there brings the end nearer.
module _ {trace : List ℕ} {all : Left} {m₀ : Mem} {log₀ : List ℕ} {at count : ℕ} {s : State} {m : Mem} {log : List ℕ} (g : Going trace all m₀ log₀ at count s m log) where
  pub few : count ≤ 8192
  few = omega (arith, g.counted, g.inside, g.short)

  pub one_more : Fits w64 (count + 1)
  one_more = omega (arith, few)

-- What stands at a place, by the parts of the pattern that it was matched with.
pub read : {r here : Found} {o parts : Option (Call × ℕ)} → r ≡ here → r ≡ Ok o → o ≡ parts → here ≡ Ok parts
read e i j = sym e ∙ i ∙ ap (λ (x : Option (Call × ℕ)). Ok x) j

pub nearer : (trace : List ℕ) (at : ℕ) (call : Call) (next : ℕ) → record_at trace at ≡ Record call next → length trace - next < length trace - at
nearer trace at call next found = let sound = record_sound trace at call next found in omega (arith, sound.onward, sound.inside)

pub begins : (trace : List ℕ) (s : State) (m : Mem) (log : List ℕ) → length trace ≤ 8192 → gate_mem s m ≡ Open → Going trace (played s trace m log) m log 0 0 s m log
begins trace s m log short h =
    record {
      fuel = length trace + 1;
      enough = omega arith;
      inside = omega arith;
      counted = omega arith;
      short = short;
      gate = h;
      sizes = same m;
      log_size = refl;
      rest = refl;
    }

module _ (trace : List ℕ) (all : Left) (m₀ : Mem) (log₀ : List ℕ) (at count : ℕ) (s : State) (m : Mem) (log : List ℕ) where
  ends_by : (fuel : ℕ) → length trace < fuel + at → at ≤ length trace → played_from fuel trace at count s m log ≡ all → record_at trace at ≡ End → ended (Done count) s m log ≡ all
  unfolding played_from
  ends_by zero e i r p = absurd (omega (arith, e, i))
  ends_by (suc n) e i r p = rw p at r

  pub ends : Going trace all m₀ log₀ at count s m log → record_at trace at ≡ End → ended (Done count) s m log ≡ all
  ends g = ends_by g.fuel g.enough g.inside g.rest

  unreadable_by : (why : Refusal) (fuel : ℕ) → length trace < fuel + at → at ≤ length trace → played_from fuel trace at count s m log ≡ all → record_at trace at ≡ Unreadable why
      → ended (Stopped at why) s m log ≡ all
  unfolding played_from
  unreadable_by why zero e i r p = absurd (omega (arith, e, i))
  unreadable_by why (suc n) e i r p = rw p at r

  pub unreadable : (why : Refusal) → Going trace all m₀ log₀ at count s m log → record_at trace at ≡ Unreadable why → ended (Stopped at why) s m log ≡ all
  unreadable why g = unreadable_by why g.fuel g.enough g.inside g.rest

  module _ (call : Call) (next : ℕ) (found : record_at trace at ≡ Record call next) where
    stops_by : (why : Refusal) (t : State) (n : Mem) (fuel : ℕ) → length trace < fuel + at → at ≤ length trace → played_from fuel trace at count s m log ≡ all
        → called call s m ≡ after_of (outcome (Refused why) t) n → ended (Stopped at why) s m log ≡ all
    unfolding played_from
    stops_by why t n zero e i r p = absurd (omega (arith, e, i))
    stops_by why t n (suc k) e i r p = rw (found, p) at r

    pub stops : (why : Refusal) (t : State) (n : Mem) → Going trace all m₀ log₀ at count s m log → called call s m ≡ after_of (outcome (Refused why) t) n → ended (Stopped at why) s m log ≡ all
    stops why t n g = stops_by why t n g.fuel g.enough g.inside g.rest

    goes_by : (a : Answer) (t : State) (n : Mem) (fuel : ℕ) → length trace < fuel + at → Going trace all m₀ log₀ at count s m log → played_from fuel trace at count s m log ≡ all
        → called call s m ≡ after_of (outcome a t) n → Given a → Going trace all m₀ log₀ next (count + 1) t n (logged log count a (interrupt_up t.irq))
    unfolding played_from
    goes_by a t n zero e g r p y = absurd (omega (arith, e, g.inside))
    goes_by a t n (suc k) e g r p y =
        let sound = record_sound trace at call next found in
        record {
          fuel = k;
          enough = omega (arith, e, sound.onward);
          inside = sound.inside;
          counted = omega (arith, g.counted, sound.onward);
          short = g.short;
          gate = rw p at (call_open call s m g.gate);
          sizes = same_on g.sizes (rw p at (call_sizes call s m g.gate));
          log_size = logged_length log count a (interrupt_up t.irq) ∙ g.log_size;
          rest = sym (accepted_goes_on a _ _ y) ∙ (rw (found, p) at r);
        }

    -- An accepted call goes on from what it leaves, with its answer in the log.
    pub goes : (a : Answer) (t : State) (n : Mem) → Going trace all m₀ log₀ at count s m log → called call s m ≡ after_of (outcome a t) n → Given a
        → (log' : List ℕ) → log' ≡ logged log count a (interrupt_up t.irq) → Going trace all m₀ log₀ next (count + 1) t n log'
    goes a t n g p y log' e = rw e (goes_by a t n g.fuel g.enough g g.rest p y)
