-- What holds of each way on from a place of a trace, by what stands there, holds of them all.
use Prim.Native.Nat.{ℕ}
use mathlib.Core.Path.{◌≡◌, refl}
use Rattle.answers.specs.declared.Refusal.{Refusal}
use Rattle.trace.specs.declared.Call.{Call}
use Rattle.std.specs.Prelude.{None, Some, Ok, Err}
use Rattle.trace.specs.Records.{Found, End, Record, Refused as Unreadable}
use Rattle.player.specs.Replay.{found}

pub by_found : {A : Type 0} (P : A → Type 0) (r : Found) (done : A) (stop : Refusal → A) (play : Call → ℕ → A)
    → (r ≡ End → P done) → ((why : Refusal) → r ≡ Unreadable why → P (stop why)) → ((call : Call) (next : ℕ) → r ≡ Record call next → P (play call next)) → P (found r done stop play)
by_found P (Ok None) done stop play d s p = d refl
by_found P (Err why) done stop play d s p = s why refl
by_found P (Ok (Some (call, next))) done stop play d s p = p call next refl

pub found_same : {A : Type 0} (r : Found) (done : A) (stop : Refusal → A) (p q : Call → ℕ → A) → ((call : Call) (next : ℕ) → r ≡ Record call next → p call next ≡ q call next)
    → found r done stop p ≡ found r done stop q
found_same (Ok None) done stop p q e = refl
found_same (Err why) done stop p q e = refl
found_same (Ok (Some (call, next))) done stop p q e = e call next refl
