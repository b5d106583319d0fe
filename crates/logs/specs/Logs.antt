-- The log of a replay: two bytes for each accepted record, in a lent buffer. Assumes nothing: a byte past the buffer's end is not stored.
use Rattle.std.specs.Prelude.{ℕ, ◌+◌, ◌*◌, Bool, List, set}
use Rattle.memory.specs.Tests.{pick}
use Rattle.answers.specs.declared.Answer.{Answer}
use Rattle.answers.specs.Letters.{letter_of, value_of}

-- The letter that 01 prints for the answer, with 128 added where the interrupt is up after the call.
abbrev pub log_letter : Answer → Bool → ℕ
log_letter a up = pick up (letter_of a + 128) (letter_of a)

-- The log with the bytes of record n: that letter, then the answer's value.
unfoldable pub logged : List ℕ → ℕ → Answer → Bool → List ℕ
logged log n a up = set (set log (2 * n) (log_letter a up)) (2 * n + 1) (value_of a)
