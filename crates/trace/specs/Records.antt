-- Records in a trace: the kinds, and what stands at a place of a list of bytes. Assumes nothing of the bytes.
use Rattle.std.specs.Prelude.{ℕ, ◌+◌, Bool, Option, None, Some, Result, Ok, Err, List, [], ◌∷◌, ltb, length, get_or}
use Rattle.memory.specs.Tests.{pick}
use Rattle.memory.specs.declared.CpuAddr.{CpuAddr}
use Rattle.memory.specs.declared.PpuAddr.{PpuAddr}
use Rattle.answers.specs.declared.Refusal.{Refusal}
use Rattle.answers.specs.declared.Refusal.TheVariants.{Kind, Number}
use Rattle.trace.specs.declared.Call.{Call}
use Rattle.trace.specs.declared.Call.TheVariants.{Clock, CpuRead, CpuWrite, PpuRegister, PpuFetch, Reset, PpuWrite}
use Rattle.trace.specs.Numbers.{Numeral, address_at, value_at}

abbrev pub cpu : ℕ → CpuAddr
cpu n = record { 0 = n }

abbrev pub ppu : ℕ → PpuAddr
ppu n = record { 0 = n }

-- What a record has after its kind: nothing more, so that the call is whole; an address and what follows; a value and what follows. A
-- byte that is no kind has no form.
pub data Form : Type 0 where
  whole : Call → Form
  address : (ℕ → Form) → Form
  value : (ℕ → Form) → Form
  unknown : Form

-- "Kinds: 0 clock; 1 CPU read, address; 2 CPU write, address, value; 3 PPU register write, address, value; 4 PPU fetch, address; 5 reset;
-- 6 PPU memory write, address, value."
abbrev pub forms : List Form
forms =
    whole Clock
    ∷ address (λ a. whole (CpuRead (cpu a)))
    ∷ address (λ a. value (λ v. whole (CpuWrite (cpu a) v)))
    ∷ address (λ a. value (λ v. whole (PpuRegister (cpu a) v)))
    ∷ address (λ a. whole (PpuFetch (ppu a)))
    ∷ whole Reset
    ∷ address (λ a. value (λ v. whole (PpuWrite (ppu a) v)))
    ∷ []

abbrev pub form_of : ℕ → Form
form_of kind = get_or forms kind unknown

-- The kind of a call's record.
abbrev pub kind_of : Call → ℕ
kind_of Clock = 0
kind_of (CpuRead a) = 1
kind_of (CpuWrite a v) = 2
kind_of (PpuRegister a v) = 3
kind_of (PpuFetch a) = 4
kind_of Reset = 5
kind_of (PpuWrite a v) = 6

-- What stands at a place of a trace: a record and the place after it, nothing more, or what cannot be read.
abbrev pub Found : Type 0
Found = Result (Option (Call × ℕ)) Refusal

abbrev pub End : Found
End = Ok None

abbrev pub Record : Call → ℕ → Found
Record call next = Ok (Some (call, next))

abbrev pub Refused : Refusal → Found
Refused why = Err why

-- What is read on where a number is sound. Refusal 10: "a number is cut, not in shortest form, or above its limit".
unfoldable pub numbered : {A : Type 0} → Numeral → (ℕ → ℕ → Result A Refusal) → Result A Refusal
numbered (Ok (n, next)) f = f n next
numbered (Err bad) f = Err Number

-- A form filled from a place of a trace on, its numbers in their order. Refusal 9: "unknown record kind".
unfoldable pub filled : List ℕ → ℕ → Form → Found
filled trace at (whole call) = Record call at
filled trace at (address rest) = numbered (address_at trace at) (λ n next. filled trace next (rest n))
filled trace at (value rest) = numbered (value_at trace at) (λ n next. filled trace next (rest n))
filled trace at unknown = Refused Kind

-- "A record is one kind byte, then numbers": what stands at a place of a trace.
unfoldable pub record_at : List ℕ → ℕ → Found
record_at trace at = pick (ltb at (length trace)) (filled trace (at + 1) (form_of (get_or trace at 0))) End

-- Refusal 11: "trace longer than 8,192 bytes".
abbrev pub too_long : ℕ → Bool
too_long len = ltb 8192 len
