-- What is promised of reading beyond the definition of `record_at`, as one statement, which the contract of `promises` holds. Assumes nothing.
use Rattle.std.specs.Prelude.{ℕ, zero, suc, ◌+◌, ◌/◌, ◌%◌, ◌<◌, ◌≤◌, Ok, Err, List, [], ◌∷◌, ◌++◌, ◌↔◌, ◌≡◌, ltb, length, get_or, drop}
use Rattle.memory.specs.Tests.{pick}
use Rattle.answers.specs.Numbers.{number_of}
use Rattle.trace.specs.declared.Call.{Call}
use Rattle.trace.specs.declared.Call.TheVariants.{Clock, CpuRead, CpuWrite, PpuRegister, PpuFetch, Reset, PpuWrite}
use Rattle.trace.specs.Records.{Found, End, Record, kind_of, record_at}
use Rattle.trace.specs.Refusals.{refusal_at}

-- "Addresses to 65,535, values to 255."
unfoldable pub InRange : Call → Type 0
InRange Clock = Unit {0}
InRange (CpuRead a) = a.0 ≤ 65535
InRange (CpuWrite a v) = (a.0 ≤ 65535) × (v ≤ 255)
InRange (PpuRegister a v) = (a.0 ≤ 65535) × (v ≤ 255)
InRange (PpuFetch a) = a.0 ≤ 65535
InRange Reset = Unit {0}
InRange (PpuWrite a v) = (a.0 ≤ 65535) × (v ≤ 255)

-- What holds of every record that is read: the next place lies past its kind byte and within the trace, its numbers are in range, and its
-- kind byte is the call's kind.
pub record SoundRecord (trace : List ℕ) (at : ℕ) (call : Call) (next : ℕ) : Type 0 where
  pub onward : at < next
  pub inside : next ≤ length trace
  pub in_range : InRange call
  pub kind : get_or trace at 0 ≡ kind_of call

-- The number of the refusal in what stands at a place, 0 where there is none.
abbrev pub number_found : Found → ℕ
number_found (Ok found) = 0
number_found (Err why) = number_of why

-- A list that a slice of bytes can hold.
abbrev pub Bytes : List ℕ → Type 0
Bytes bytes = (i : ℕ) → get_or bytes i 0 < 256

-- The shortest form of a number that has at most so many groups.
unfoldable pub shortest : ℕ → ℕ → List ℕ
shortest zero n = []
shortest (suc groups) n = pick (ltb n 128) (n ∷ []) ((128 + n % 128) ∷ shortest groups (n / 128))

-- "A record is one kind byte, then numbers": the bytes of a call's record, and its numbers alone.
abbrev pub numbers_of : Call → List ℕ
numbers_of Clock = []
numbers_of (CpuRead a) = shortest 3 a.0
numbers_of (CpuWrite a v) = shortest 3 a.0 ++ shortest 2 v
numbers_of (PpuRegister a v) = shortest 3 a.0 ++ shortest 2 v
numbers_of (PpuFetch a) = shortest 3 a.0
numbers_of Reset = []
numbers_of (PpuWrite a v) = shortest 3 a.0 ++ shortest 2 v

abbrev pub record_of : Call → List ℕ
record_of call = kind_of call ∷ numbers_of call

-- The record of a call stands at a place, and the next place is the one behind it.
pub record Stands (trace : List ℕ) (at : ℕ) (call : Call) (next : ℕ) : Type 0 where
  pub in_range : InRange call
  pub bytes : drop at trace ≡ record_of call ++ drop next trace
  pub behind : next ≡ at + length (record_of call)

pub record Reading : Type 0 where
  pub sound : (trace : List ℕ) (at : ℕ) (call : Call) (next : ℕ) → record_at trace at ≡ Record call next → SoundRecord trace at call next
  -- Reading ends where the trace does, and nowhere else.
  pub ends : (trace : List ℕ) (at : ℕ) → (record_at trace at ≡ End) ↔ (length trace ≤ at)
  -- 9 and 10 are given exactly where 01 says (specs/Refusals.antt), and no other refusal is.
  pub refused : (trace : List ℕ) (at : ℕ) → number_found (record_at trace at) ≡ refusal_at trace at
  -- A call's record that stands at a place is read as that call, and no other bytes are: "shortest form only".
  pub read : (trace : List ℕ) (at : ℕ) (call : Call) (next : ℕ) → Stands trace at call next → record_at trace at ≡ Record call next
  pub written : (trace : List ℕ) (at : ℕ) (call : Call) (next : ℕ) → Bytes trace → record_at trace at ≡ Record call next → Stands trace at call next
  -- What is read at a place depends on the bytes from there on alone.
  pub ahead : (trace other : List ℕ) (at : ℕ) → drop at trace ≡ drop at other → record_at trace at ≡ record_at other at
