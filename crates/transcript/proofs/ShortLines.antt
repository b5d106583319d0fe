-- All that the program prints finds room in 131,072 bytes: each record takes at least one of 8,192 bytes and prints a line of at most 15.
use Prim.Native.Nat.{ℕ, zero, suc, ◌+◌, ◌-◌, ◌*◌, ◌<◌, ◌≤◌}
use mathlib.Core.Bool.{Bool, true, false}
use mathlib.Core.List.{List, [], ◌∷◌}
use mathlib.Core.Path.{◌≡◌}
use native.Mathlib.Omega.{arith}
use lib.ListN.{length, length-append}
use Rattle.memory.specs.Bytes.{Mem}
use Rattle.memory.specs.Bits.{as_bit}
use Rattle.answers.specs.declared.Answer.{Answer}
use Rattle.answers.specs.declared.Refusal.{Refusal}
use Rattle.answers.specs.declared.Refusal.TheVariants.{Length}
use Rattle.answers.specs.Letters.{letter_of, has_value, value_of}
use Rattle.answers.specs.Numbers.{number_of}
use Rattle.answers.proofs.Cases.{if_refused_lem}
use Rattle.answers.proofs.NumberLaws.{numbered}
use Rattle.scanline.specs.Steps.{interrupt_up}
use Rattle.state.specs.declared.State.{State}
use Rattle.trace.specs.declared.Call.{Call}
use Rattle.trace.specs.declared.Call.TheVariants.{Clock, CpuRead, CpuWrite, PpuRegister, PpuFetch, Reset, PpuWrite}
use Rattle.trace.specs.Records.{kind_of, record_at}
use Rattle.trace.proofs.RecordLaws.{record_sound}
use Rattle.text.specs.Digits.{digits}
use Rattle.text.specs.Lines.{line, answer_pieces, accepted_line, refused_line, unreadable_line, too_long_line, end_line}
use Rattle.text.proofs.DigitLaws.{few_digits}
use Rattle.calls.specs.Called.{called}
use Rattle.player.proofs.Ways.{by_found}
use Rattle.transcript.specs.Lines.{lines_from}
use Rattle.transcript.specs.Bytes.{SmallMem}
use Rattle.transcript.proofs.Small.{SmallState}
use Rattle.transcript.proofs.SmallKept.{called_small}

-- Lines ------------------------------------------------------------------------------------------------------------------------------

word_length : (w : List ℕ) (words : List (List ℕ)) (last : List ℕ) → length (line (w ∷ words) last) ≡ length w + suc (length (line words last))
unfolding line
word_length w words last = length-append w (32 ∷ line words last)

last_length : (last : List ℕ) → length (line [] last) ≡ length last + 1
unfolding line
last_length last = length-append last (10 ∷ [])

answer_short : (letter : ℕ) (has : Bool) (v : ℕ) (last : List ℕ) → v < 1000 → length (line (answer_pieces letter has v) last) ≤ 7 + length last
answer_short letter true v last h =
    omega (arith, word_length (letter ∷ []) (digits v ∷ []) last, word_length (digits v) [] last, last_length last, few_digits 2 v h)
answer_short letter false v last h = omega (arith, word_length (letter ∷ []) [] last, last_length last)

two_digits : (why : Refusal) → length (digits (number_of why)) ≤ 2
two_digits why = few_digits 1 (number_of why) (omega (arith, numbered.most why))

bit_short : (b : Bool) → length (digits (as_bit b)) ≤ 1
bit_short true = few_digits 0 1 (omega arith)
bit_short false = few_digits 0 0 (omega arith)

kind_small : (call : Call) → kind_of call < 10
kind_small Clock = omega arith
kind_small (CpuRead a) = omega arith
kind_small (CpuWrite a v) = omega arith
kind_small (PpuRegister a v) = omega arith
kind_small (PpuFetch a) = omega arith
kind_small Reset = omega arith
kind_small (PpuWrite a v) = omega arith

accepted_short : (n kind : ℕ) (a : Answer) (up : Bool) → n < 10000 → kind < 10 → value_of a < 256 → length (accepted_line n kind a up) ≤ 15
accepted_short n kind a up h k v =
    let rest = answer_pieces (letter_of a) (has_value a) (value_of a) in
    let last = digits (as_bit up) in
    omega (arith, word_length (digits n) (digits kind ∷ rest) last, word_length (digits kind) rest last, answer_short (letter_of a) (has_value a) (value_of a) last (omega (arith, v)), few_digits 3 n h, few_digits 0 kind k, bit_short up)

refused_short : (n kind : ℕ) (why : Refusal) → n < 10000 → kind < 10 → length (refused_line n kind why) ≤ 15
refused_short n kind why h k =
    let last = digits (number_of why) in
    omega (arith, word_length (digits n) (digits kind ∷ (0x21 ∷ []) ∷ []) last, word_length (digits kind) ((0x21 ∷ []) ∷ []) last, word_length (0x21 ∷ []) [] last, last_length last, few_digits 3 n h, few_digits 0 kind k, two_digits why)

unreadable_short : (n : ℕ) (why : Refusal) → n < 10000 → length (unreadable_line n why) ≤ 15
unreadable_short n why h =
    let last = digits (number_of why) in
    omega (arith, word_length (digits n) ((0x3F ∷ []) ∷ []) last, word_length (0x3F ∷ []) [] last, last_length last, few_digits 3 n h, two_digits why)

end_short : (n : ℕ) → n < 10000 → length (end_line n) ≤ 15
end_short n h = omega (arith, word_length (0x65 ∷ 0x6E ∷ 0x64 ∷ []) [] (digits n), last_length (digits n), few_digits 3 n h)

pub too_long_short : length too_long_line ≤ 15
too_long_short =
    let last = digits (number_of Length) in
    omega (arith, word_length (0x3F ∷ []) [] last, last_length last, two_digits Length)

-- The lines from a place on ------------------------------------------------------------------------------------------------------------

-- What is left of a trace leaves room for that many lines and the one that ends it.
abbrev Short : List ℕ → ℕ → List ℕ → Type 0
Short trace at text = length text ≤ 15 * (length trace - at) + 15

pub lines_short : (k : ℕ) (trace : List ℕ) (at n : ℕ) (s : State) (m : Mem) → length trace ≤ 8192 → n ≤ at → at ≤ length trace → SmallState s → SmallMem m → Short trace at (lines_from k trace at n s m)
unfolding lines_from
lines_short zero trace at n s m t c i h b = omega arith
lines_short (suc k) trace at n s m t c i h b =
    let few : n < 10000 = omega (arith, t, c, i) in
    by_found (Short trace at) (record_at trace at) _ _ _ (λ e. omega (arith, end_short n few)) (λ why e. omega (arith, unreadable_short n why few))
    (λ call next r.
    let o = record_sound trace at call next r in
    let after = called call s m in
    let small = called_small call s m o.in_range h b in
    let rest : Short trace next (lines_from k trace next (n + 1) after.out.state after.mem) =
    lines_short k trace next (n + 1) (called call s m).out.state (called call s m).mem t (omega (arith, c, o.onward)) o.inside small.state small.mem in
    let first = accepted_line n (kind_of call) after.out.answer (interrupt_up after.out.state.irq) in
    if_refused_lem (Short trace at) after.out.answer _ _ (λ why e. omega (arith, refused_short n (kind_of call) why few (kind_small call)))
    (λ e. omega (arith, length-append first (lines_from k trace next (n + 1) after.out.state after.mem), rest, accepted_short n (kind_of call) after.out.answer (interrupt_up after.out.state.irq) few (kind_small call) small.answer, o.onward, o.inside)))
