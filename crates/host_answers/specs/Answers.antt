-- The one number that a host gets for an answer.
use Rattle.std.specs.Prelude.{ℕ, ◌+◌, ◌*◌, Bool, ◌&&◌, not, Result, Ok, Err}
use Rattle.memory.specs.Bits.{as_bit}
use Rattle.memory.specs.Tests.{pick}
use Rattle.answers.specs.declared.Answer.{Answer}
use Rattle.answers.specs.declared.Answer.TheVariants.{Refused}
use Rattle.answers.specs.declared.Refusal.{Refusal}
use Rattle.answers.specs.Letters.{letter_of, value_of}
use Rattle.answers.specs.Refused.{is_refused}
use Rattle.registers.specs.declared.Mirroring.{Mirroring}
use Rattle.scanline.specs.declared.Detector.{Detector}
use Rattle.scanline.specs.Steps.{interrupt_up}
use Rattle.host_state.specs.Words.{number_of_mirroring}

-- The letter that 01 prints for the answer, times 256, and the answer's value; a refusal is `!` and its number.
abbrev pub answer_plain : Answer → ℕ
answer_plain a = letter_of a * 256 + value_of a

-- A call that was taken, not refused.
abbrev pub taken : Answer → Bool
taken a = not (is_refused a)

-- After a call that was taken, 32,768 more where the interrupt is up.
abbrev pub answer_with_interrupt : Answer → Detector → ℕ
answer_with_interrupt a d = pick (taken a && interrupt_up d) (answer_plain a + 32768) (answer_plain a)

-- The mirroring, or a refusal.
abbrev pub answer_mirroring : Result Mirroring Refusal → ℕ
answer_mirroring (Ok m) = number_of_mirroring m
answer_mirroring (Err r) = answer_plain (Refused r)

-- 1 where the interrupt is up, 0 where it is down, or a refusal.
abbrev pub answer_interrupt : Result Bool Refusal → ℕ
answer_interrupt (Ok up) = as_bit up
answer_interrupt (Err r) = answer_plain (Refused r)
