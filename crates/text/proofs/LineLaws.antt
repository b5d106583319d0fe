-- The two bytes of an answer print as the answer does.
use Prim.Native.Nat.{ℕ, ◌+◌, ◌*◌}
use mathlib.Core.Bool.{Bool}
use mathlib.Core.Path.{◌≡◌, refl}
use Rattle.memory.specs.Bits.{as_bit}
use Rattle.memory.proofs.Tests.{split}
use Rattle.answers.specs.declared.Answer.{Answer}
use Rattle.answers.specs.declared.Answer.TheVariants.{Nothing, Register, Served, Page, Blank, Refused}
use Rattle.answers.specs.declared.Refusal.{Refusal}
use Rattle.answers.specs.Letters.{letter_of, value_of}
use Rattle.text.specs.Lines.{accepted_line, logged_line}

pub logged : (number kind : ℕ) (a : Answer) (up : Bool) → ((why : Refusal) → a ≡ Refused why → ⊥)
    → logged_line number kind (letter_of a + 128 * as_bit up) (value_of a) ≡ accepted_line number kind a up
logged number kind Nothing up h = split up (λ t. rw t) (λ t. rw t)
logged number kind (Register v) up h = split up (λ t. rw t) (λ t. rw t)
logged number kind (Served v) up h = split up (λ t. rw t) (λ t. rw t)
logged number kind (Page v) up h = split up (λ t. rw t) (λ t. rw t)
logged number kind Blank up h = split up (λ t. rw t) (λ t. rw t)
logged number kind (Refused why) up h = absurd (h why refl)
