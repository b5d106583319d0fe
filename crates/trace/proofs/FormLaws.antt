-- Laws of the form that numbers have: what stands over a group, and that a number is read from its shortest form only. Assumes nothing.
use Prim.Native.Nat.{ℕ, zero, suc, ◌+◌, ◌*◌, ◌-◌, ◌/◌, ◌%◌, ◌<◌, ◌≤◌}
use mathlib.Core.List.{List, [], ◌∷◌}
use mathlib.Core.Path.{◌≡◌, ap}
use native.Mathlib.Omega.{arith}
use borrow.Author.Tests.{le-ltb, ne_eqb, ltb-false}
use lib.Dec.{ltb}
use lib.ListN.{take, drop}
use lib.Seq.{get_or-drop}
use Rattle.memory.proofs.Tests.{split}
use Rattle.std.specs.Prelude.{Ok, Err}
use Rattle.trace.specs.declared.BadNumber.{BadNumber}
use Rattle.trace.specs.declared.BadNumber.TheVariants.{Padded}
use Rattle.trace.specs.Numbers.{Numeral, grouped, numeral, number_at}
use Rattle.trace.specs.Promise.{Bytes, shortest}
use Rattle.trace.proofs.NumberLaws.{clash, same_number, Further, over_sound, within_limit, numeral_advances}

-- What stands over a group: nothing, no number, or more.
pub over_none : (low weight : ℕ) (m : Numeral) (next : ℕ) → m ≡ Ok (0, next) → grouped low weight m ≡ Err Padded
unfolding grouped
over_none low weight m next e = rw e

pub over_bad : (low weight : ℕ) (m : Numeral) (bad : BadNumber) → m ≡ Err bad → grouped low weight m ≡ Err bad
unfolding grouped
over_bad low weight m bad e = rw e

pub over_more : (low weight : ℕ) (m : Numeral) (high next : ℕ) → m ≡ Ok (high, next) → (high ≡ 0 → ⊥) → grouped low weight m ≡ Ok (low + weight * high, next)
unfolding grouped
over_more low weight m high next e n = rw (e, ne_eqb high 0 n)

-- A number is read from its shortest form only.
tail_bytes : (b : ℕ) (bytes : List ℕ) → Bytes (b ∷ bytes) → Bytes bytes
tail_bytes b bytes h i = h (suc i)

pub numeral_form : (groups at : ℕ) (bytes : List ℕ) (n next : ℕ) → Bytes bytes → numeral groups at bytes ≡ Ok (n, next) → take (next - at) bytes ≡ shortest groups n
unfolding numeral shortest
numeral_form zero at bytes n next h e = clash (cc)
numeral_form (suc groups) at [] n next h e = clash (cc)
numeral_form (suc groups) at (b ∷ bytes) n next h e =
    split (ltb b 128)
    (λ t.
    let s : Ok (b, at + 1) ≡ Ok (n, next) = rw t at e in
    let i = same_number s in
    let d : next - at ≡ 1 = omega arith in
    rw (d, ← i.0, t))
    (λ t.
    let f : Further (b % 128) 128 (numeral groups (at + 1) bytes) n next = over_sound (b % 128) 128 (numeral groups (at + 1) bytes) n next (rw t at e) in
    let a : at + 1 < next = (numeral_advances groups (at + 1) bytes f.high next f.sound).0 in
    let d : next - at ≡ suc (next - (at + 1)) = omega arith in
    let w : 128 ≤ n = omega (arith, f.sum, f.more) in
    let l : 128 + n % 128 ≡ b = omega (arith, f.sum, h 0, ltb-false b 128 t) in
    let u : n / 128 ≡ f.high = omega (arith, f.sum) in
    rw (d, le-ltb n 128 w, l, u) (ap (λ (l : List ℕ). b ∷ l) (numeral_form groups (at + 1) bytes f.high next (tail_bytes b bytes h) f.sound)))

pub number_form : (groups limit : ℕ) (t : List ℕ) (at n next : ℕ) → Bytes t → number_at groups limit t at ≡ Ok (n, next) → take (next - at) (drop at t) ≡ shortest groups n
number_form groups limit t at n next h e =
    numeral_form groups at (drop at t) n next (λ i. rw (get_or-drop at t i 0) (h (at + i))) (within_limit limit (numeral groups at (drop at t)) n next e).0
