-- The loop over records that prints: what holds at its head, and what one line does to that.
use Prim.Native.Nat.{ℕ, zero, suc, ◌+◌, ◌-◌, ◌<◌, ◌≤◌}
use mathlib.Core.List.{List}
use mathlib.Core.Path.{◌≡◌, refl, sym, ◌∙◌, ap}
use native.Mathlib.Omega.{arith}
use lib.ListN.{length}
use Rattle.std.specs.Prelude.{Option, None, Some, Ok, Err}
use Rattle.answers.specs.declared.Refusal.{Refusal}
use Rattle.trace.specs.Records.{Found, record_at}
use Rattle.trace.proofs.RecordLaws.{record_advances}
use Rattle.text.specs.declared.pen.Pen.{Pen}
use Rattle.text.specs.Sheet.{written}
use Rattle.text.proofs.SheetLaws.{then}
use Rattle.player.specs.Replay.{Ending}
use Rattle.transcript.specs.Printed.{refusal_at, if_stopped, line_of, next_of, printed_from}

-- What is left to print, from here with so much fuel, comes to all that is printed.
pub record Printing (trace log : List ℕ) (e : Ending) (all pen : Pen) (at n : ℕ) : Type 0 where
  pub fuel : ℕ
  pub enough : length trace < fuel + at
  pub inside : at ≤ length trace
  pub counted : n ≤ at
  pub short : length trace ≤ 8192
  pub rest : written pen (printed_from fuel trace at n log e) ≡ all

pub begins : (trace log : List ℕ) (e : Ending) (pen : Pen) → length trace ≤ 8192 → Printing trace log e (written pen (printed_from (suc (length trace)) trace 0 0 log e)) pen 0 0
begins trace log e pen short =
    record { fuel = suc (length trace); enough = omega arith; inside = omega arith; counted = omega arith; short = short; rest = refl }

-- Where no record follows a call, it was refused, and where one does, it was not.
refused : {A : Type 0} (r : Option Refusal) (next : ℕ) (f : Refusal → A) (x y : A) → if_stopped r (λ (why : Refusal). None) (Some next) ≡ None → if_stopped r f x ≡ if_stopped r f y
refused (Some why) next f x y o = refl
refused None next f x y o = absurd (cc)

accepted : (r : Option Refusal) (next k : ℕ) → if_stopped r (λ (why : Refusal). None) (Some next) ≡ Some k → (r ≡ None) × (next ≡ k)
accepted (Some why) next k o = absurd (cc)
accepted None next k o = (refl, cc)

module _ (trace log : List ℕ) (e : Ending) (all pen : Pen) (at n : ℕ) where
  -- a line that ends the text
  ends_by : (k : ℕ) (f : Found) → record_at trace at ≡ f → next_of f at e ≡ None → length trace < k + at → at ≤ length trace → printed_from k trace at n log e ≡ line_of f at n log e
  unfolding printed_from line_of next_of
  ends_by zero f r o h i = absurd (omega (arith, h, i))
  ends_by (suc k) (Ok None) r o h i = rw r
  ends_by (suc k) (Err why) r o h i = rw r
  ends_by (suc k) (Ok (Some (call, next))) r o h i = rw r (refused (refusal_at e at) next _ _ _ o)

  pub ends : (s : Pen) → Printing trace log e all pen at n → next_of (record_at trace at) at e ≡ None → s ≡ written pen (line_of (record_at trace at) at n log e) → s ≡ all
  ends s p o w = w ∙ ap (written pen) (sym (ends_by p.fuel (record_at trace at) refl o p.enough p.inside)) ∙ p.rest

  -- a line that a record follows, further on
  goes_by : (next' : ℕ) (pen' : Pen) (k : ℕ) (f : Found) → record_at trace at ≡ f → next_of f at e ≡ Some next' → length trace < k + at → Printing trace log e all pen at n
      → written pen (printed_from k trace at n log e) ≡ all → pen' ≡ written pen (line_of f at n log e)
      → (at < next') × Printing trace log e all pen' next' (n + 1)
  unfolding printed_from line_of next_of
  goes_by next' pen' zero f found o h p r w = absurd (omega (arith, h, p.inside))
  goes_by next' pen' (suc k) (Ok None) found o h p r w = absurd (cc)
  goes_by next' pen' (suc k) (Err why) found o h p r w = absurd (cc)
  goes_by next' pen' (suc k) (Ok (Some (call, next))) found o h p r w =
      let on = record_advances trace at call next found in
      let f = accepted (refusal_at e at) next next' o in (
        omega (arith, on.0, f.1),
        record {
          fuel = k;
          enough = omega (arith, h, on.0, f.1);
          inside = omega (arith, on.1, f.1);
          counted = omega (arith, p.counted, on.0, f.1);
          short = p.short;
          rest = rw (← f.1) (ap (λ (s : Pen). written s (printed_from k trace next (n + 1) log e)) (rw f.0 at w) ∙ then pen _ (printed_from k trace next (n + 1) log e) ∙ (rw (found, f.0) at r));
        },
      )

  pub goes : (next' : ℕ) (pen' : Pen) → Printing trace log e all pen at n → next_of (record_at trace at) at e ≡ Some next'
      → pen' ≡ written pen (line_of (record_at trace at) at n log e)
      → (at < next') × Printing trace log e all pen' next' (n + 1)
  goes next' pen' p o w = goes_by next' pen' p.fuel (record_at trace at) refl o p.enough p p.rest w

-- One turn of the loop, by what `print_record` ensures of its result r and of the pen after it; its reader is over the same trace.
module _ {trace log : List ℕ} {e : Ending} {all pen : Pen} {at n : ℕ} (p : Printing trace log e all pen at n)
    (over : List ℕ) (same : over ≡ trace) (r : Option ℕ) (pen' : Pen)
    (lined : (pen' ≡ written pen (line_of (record_at over at) at n log e)) × (r ≡ next_of (record_at over at) at e)) where
  here : (pen' ≡ written pen (line_of (record_at trace at) at n log e)) × (r ≡ next_of (record_at trace at) at e)
  here = rw same at lined

  -- the last line
  pub last_line : r ≡ None → pen' ≡ all
  last_line over = ends trace log e all pen at n pen' p (sym here.1 ∙ over) here.0

  -- a line that a record follows
  pub onward : (next : ℕ) → r ≡ Some next → (at < next) × Printing trace log e all pen' next (n + 1)
  onward next on = goes trace log e all pen at n next pen' p (sym here.1 ∙ on) here.0

  pub nearer : (next : ℕ) → r ≡ Some next → length trace - next < length trace - at
  nearer next on = let o = onward next on in omega (arith, o.0, o.1.inside)
