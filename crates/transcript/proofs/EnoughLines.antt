-- How many lines are allowed does not matter, once there are more than the bytes that are left.
use Prim.Native.Nat.{ℕ, zero, suc, ◌+◌, ◌<◌}
use mathlib.Core.List.{List, ◌++◌}
use mathlib.Core.Path.{◌≡◌, ap}
use native.Mathlib.Omega.{arith}
use lib.ListN.{length}
use Rattle.memory.specs.Bytes.{Mem}
use Rattle.answers.specs.declared.Refusal.{Refusal}
use Rattle.answers.specs.Refused.{if_refused}
use Rattle.state.specs.declared.State.{State}
use Rattle.scanline.specs.Steps.{interrupt_up}
use Rattle.trace.specs.Records.{kind_of, record_at}
use Rattle.trace.proofs.RecordLaws.{record_advances}
use Rattle.text.specs.Lines.{accepted_line, refused_line}
use Rattle.calls.specs.Called.{called}
use Rattle.player.proofs.Ways.{found_same}
use Rattle.transcript.specs.Lines.{lines_from}

pub same_rest : (k j : ℕ) (trace : List ℕ) (at n : ℕ) (s : State) (m : Mem) → 0 < k → 0 < j → length trace < k + at → length trace < j + at
    → lines_from k trace at n s m ≡ lines_from j trace at n s m
unfolding lines_from
same_rest zero j trace at n s m p q e h = absurd (omega (arith, p))
same_rest (suc k) zero trace at n s m p q e h = absurd (omega (arith, q))
same_rest (suc k) (suc j) trace at n s m p q e h =
    found_same (record_at trace at) _ _ _ _
    (λ call next r. let o = record_advances trace at call next r in
    ap (λ (rest : List ℕ). if_refused (called call s m).out.answer (λ (why : Refusal). refused_line n (kind_of call) why) (accepted_line n (kind_of call) (called call s m).out.answer (interrupt_up (called call s m).out.state.irq) ++ rest))
    (same_rest k j trace next (n + 1) (called call s m).out.state (called call s m).mem (omega (arith, e, o.0, o.1)) (omega (arith, h, o.0, o.1)) (omega (arith, e, o.0)) (omega (arith, h, o.0))))
