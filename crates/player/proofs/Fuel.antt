-- How many records are allowed does not matter, once there are more than the bytes that are left.
use Prim.Native.Nat.{ℕ, zero, suc, ◌+◌, ◌<◌, ◌≤◌}
use mathlib.Core.List.{List}
use mathlib.Core.Path.{◌≡◌, ap}
use native.Mathlib.Omega.{arith}
use lib.ListN.{length}
use Rattle.memory.specs.Bytes.{Mem}
use Rattle.answers.specs.Refused.{if_refused}
use Rattle.state.specs.declared.State.{State}
use Rattle.trace.specs.Records.{record_at}
use Rattle.trace.proofs.RecordLaws.{record_advances}
use Rattle.calls.specs.Called.{called}
use Rattle.player.specs.Promise.{Enough}
use Rattle.player.specs.Replay.{played_from}
use Rattle.player.proofs.Ways.{found_same}

pub same_rest : (n k : ℕ) (trace : List ℕ) (at count : ℕ) (s : State) (m : Mem) (log : List ℕ) → at ≤ length trace → length trace < n + at → length trace < k + at
    → played_from n trace at count s m log ≡ played_from k trace at count s m log
unfolding played_from
same_rest zero k trace at count s m log i e h = absurd (omega (arith, i, e))
same_rest (suc n) zero trace at count s m log i e h = absurd (omega (arith, i, h))
same_rest (suc n) (suc k) trace at count s m log i e h =
    found_same (record_at trace at) _ _ _ _
    (λ call next r. let o = record_advances trace at call next r in
    ap (if_refused (called call s m).out.answer _)
    (same_rest n k trace next (count + 1) _ _ _ o.1 (omega (arith, e, o.0)) (omega (arith, h, o.0))))

pub enough : Enough
enough n trace s m log h = same_rest n (length trace + 1) trace 0 0 s m log (omega arith) (omega (arith, h)) (omega arith)
