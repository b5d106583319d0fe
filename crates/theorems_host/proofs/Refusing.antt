-- A number tells a refusal just where what is said is one.
use Prim.Native.Nat.{ℕ, ◌+◌, ◌*◌, ◌<◌, ◌≤◌}
use mathlib.Core.Bool.{Bool, true, false, false≢true}
use mathlib.Core.List.{List}
use mathlib.Core.Path.{◌≡◌, refl, sym, ◌∙◌, ap, subst}
use native.Mathlib.Omega.{arith}
use Rattle.std.specs.Prelude.{Result, Ok, Err}
use Rattle.memory.specs.Tests.{pick}
use Rattle.answers.specs.declared.Answer.{Answer}
use Rattle.answers.specs.declared.Answer.TheVariants.{Refused}
use Rattle.answers.specs.declared.Refusal.{Refusal}
use Rattle.answers.specs.Letters.{letter_of, value_of}
use Rattle.answers.specs.Numbers.{number_of}
use Rattle.answers.specs.Refused.{is_refused}
use Rattle.answers.proofs.Cases.{refused_or_not, letter_range}
use Rattle.answers.proofs.NumberLaws.{numbered}
use Rattle.registers.specs.declared.Mirroring.{Mirroring}
use Rattle.registers.specs.declared.Mirroring.TheVariants.{Horizontal, Vertical, SingleScreenA, SingleScreenB, FourScreen}
use Rattle.scanline.specs.declared.Detector.{Detector}
use Rattle.scanline.specs.Steps.{interrupt_up}
use Rattle.board.specs.CpuSide.{cpu_peek}
use Rattle.board.specs.StateCalls.{mirroring_call, interrupt_call}
use Rattle.board_ppu.specs.Peeks.{ppu_peek, sprite_peek}
use Rattle.calls.specs.Called.{called}
use Rattle.host_state.specs.Words.{number_of_mirroring}
use Rattle.host_answers.specs.Answers.{answer_plain, answer_with_interrupt, answer_mirroring, answer_interrupt}
use Rattle.theorems_histories.specs.Boards.{Board, Made, says, leaves, number, number_in}
use Rattle.theorems_histories.specs.Boards.Made.{call, peek, ppu_peek_lem, sprite_peek_lem, mirroring_asked, interrupt_asked, cpu_page, ppu_page}
use Rattle.theorems_histories.specs.Boards.Said.{mirrors, interrupts}
use Rattle.theorems_histories.specs.Watching.{view}
use Rattle.theorems_histories.proofs.Behind.{no_zero, given}
use Rattle.theorems_host.specs.Held.{Hearing}
use Rattle.theorems_host.specs.Held.Hearing.{number as hear, bytes}
use Rattle.theorems_host.specs.Served.{plainly, with_interrupt, hears, Refusing}

-- What is heard where nothing is refused.
abbrev Taken : Hearing → Type 0
Taken n = Refusing n → ⊥

abbrev pub as_number : Hearing → ℕ
as_number (hear n) = n
as_number (bytes l) = 0

five : (m : Mirroring) → number_of_mirroring m ≤ 4
five Horizontal = omega arith
five Vertical = omega arith
five SingleScreenA = omega arith
five SingleScreenB = omega arith
five FourScreen = omega arith

-- Another letter, with the interrupt or without; and a number without a letter.
other_letter : (up : Bool) (l v : ℕ) → 0x21 < l → Taken (hear (pick up (l * 256 + v + 32768) (l * 256 + v)))
other_letter true l v h (r, e) = let q : l * 256 + v + 32768 ≡ 0x21 * 256 + number_of r = ap as_number e in omega (arith, h, q, numbered.most r)
other_letter false l v h (r, e) = let q : l * 256 + v ≡ 0x21 * 256 + number_of r = ap as_number e in omega (arith, h, q, numbered.most r)

no_letter : (n : ℕ) → n ≤ 255 → Taken (hear n)
no_letter n h (r, e) = let q : n ≡ 0x21 * 256 + number_of r = ap as_number e in omega (arith, h, q)

unfoldable is_number : Hearing → Bool
is_number (hear n) = true
is_number (bytes l) = false

-- A refusal is heard just where the number of one is said.
abbrev pub Just : ℕ → Hearing → Type 0
Just k n = (Taken n → k ≡ 0) × (k ≡ 0 → Taken n)

taken_just : (n : Hearing) → Taken n → Just 0 n
taken_just n t = (λ u. refl, λ u. t)

refused_just : (r : Refusal) → Just (number_of r) (hear (answer_plain (Refused r)))
refused_just r = (λ t. absurd (t (r, refl)), λ z. no_zero r z)

-- An answer, by what is heard of those that are no refusal.
answer_just : (f : Answer → ℕ) → ((r : Refusal) → f (Refused r) ≡ answer_plain (Refused r)) → ((a : Answer) → is_refused a ≡ false → Taken (hear (f a))) → (a : Answer) → Just (number_in a) (hear (f a))
answer_just f e t a =
    refused_or_not a
    (λ r q. subst (λ (x : Answer). Just (number_in x) (hear (f x))) (sym q) (subst (λ (n : ℕ). Just (number_of r) (hear n)) (sym (e r)) (refused_just r)))
    (λ n. subst (λ (k : ℕ). Just k (hear (f a))) (sym (given a n)) (taken_just (hear (f a)) (t a n)))

pub answer_with : (a : Answer) (d : Detector) → Just (number_in a) (hear (answer_with_interrupt a d))
answer_with a d = answer_just (λ (x : Answer). answer_with_interrupt x d) (λ r. refl) (λ x n. rw n (other_letter (interrupt_up d) (letter_of x) (value_of x) ((letter_range x).1 n))) a

pub answer_plain_lem : (a : Answer) → Just (number_in a) (hear (answer_plain a))
answer_plain_lem a = answer_just answer_plain (λ r. refl) (λ x n. other_letter false (letter_of x) (value_of x) ((letter_range x).1 n)) a

pub not_refused : (a : Answer) → number_in a ≡ 0 → is_refused a ≡ false
not_refused a n = refused_or_not a (λ r q. no_zero r (ap number_in (sym q) ∙ n)) (λ f. f)

mirroring_just : (t : Result Mirroring Refusal) → Just (number (mirrors t)) (hear (answer_mirroring t))
unfolding number
mirroring_just (Ok m) = taken_just _ (no_letter (number_of_mirroring m) (omega (arith, five m)))
mirroring_just (Err r) = refused_just r

interrupt_just : (i : Result Bool Refusal) → Just (number (interrupts i)) (hear (answer_interrupt i))
unfolding number
interrupt_just (Ok true) = taken_just _ (no_letter 1 (omega arith))
interrupt_just (Ok false) = taken_just _ (no_letter 0 (omega arith))
interrupt_just (Err r) = refused_just r

page_just : (l : List ℕ) → Just 0 (bytes l)
unfolding is_number
page_just l = taken_just _ (λ (x : Refusing (bytes l)). false≢true (ap is_number x.1))

pub just : (b : Board) (c : Made) → Just (number (says b c)) (hears b c)
unfolding number says hears plainly with_interrupt
just b (call c) = answer_with (called c b.state b.mem).out.answer (view (leaves b (call c)))
just b (peek a) = answer_plain_lem (cpu_peek b.state b.mem a.0)
just b (ppu_peek_lem a) = answer_plain_lem (ppu_peek b.state b.mem a.0)
just b (sprite_peek_lem a) = answer_plain_lem (sprite_peek b.state b.mem a.0)
just b mirroring_asked = mirroring_just (mirroring_call b.state)
just b interrupt_asked = interrupt_just (interrupt_call b.state)
just b (cpu_page a) = page_just _
just b (ppu_page a) = page_just _
