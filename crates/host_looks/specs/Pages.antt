-- What the page tables hold, for the host: an entry as one number, and a page's bytes copied out.
use Rattle.std.specs.Prelude.{ℕ, ◌+◌, ◌*◌, ◌%◌, Bool, ◌&&◌, List, eqb, length}
use Rattle.memory.specs.declared.Page.{Page}
use Rattle.memory.specs.declared.Src.{Src}
use Rattle.memory.specs.declared.Src.TheVariants.{Blank, PrgRom, PrgRam, Chr, CiRam, ExRam}
use Rattle.memory.specs.Tests.{pick}
use Rattle.answers.specs.declared.Answer.TheVariants.{Refused}
use Rattle.answers.specs.declared.Refusal.TheVariants.{State as StateBroken}
use Rattle.answers.specs.Letters.{letter_of, value_of}
use Rattle.state.specs.declared.State.{State}
use Rattle.state.specs.Ranges.{in_range}
use Rattle.host_state.specs.Words.{state_of}

-- Blank, or a buffer.
abbrev pub source_number : Src → ℕ
source_number Blank = 0
source_number PrgRom = 1
source_number PrgRam = 2
source_number Chr = 3
source_number CiRam = 4
source_number ExRam = 5

-- The page's number in its buffer, which has at most 1,024 pages, with 32,768 more where it takes writes.
abbrev pub within_buffer : ℕ → Bool → ℕ
within_buffer i w = pick w (i % 1024 + 32768) (i % 1024)

-- The buffer's number before it.
abbrev pub entry_number : Page → ℕ
entry_number p = source_number p.src * 65536 + within_buffer p.index p.writable

-- No buffer has this number: `!`, and refusal 5.
abbrev pub no_entry : ℕ
no_entry = letter_of (Refused StateBroken) * 65536 + value_of (Refused StateBroken)

-- The entry's number, of words that stand for a state in range.
unfoldable pub entry_on : List ℕ → (State → Page) → ℕ
entry_on w f = pick (in_range (state_of w)) (entry_number (f (state_of w))) no_entry

-- A copy: how many bytes, and what they are copied to.
pub record Copied : Type 0 where
  pub count : ℕ
  pub bytes : List ℕ

abbrev pub copied_of : ℕ → List ℕ → Copied
copied_of n l = record { count = n; bytes = l }

-- 1,024 bytes are copied, from a whole page to a buffer of just so many; else none, and the buffer stays.
unfoldable pub copied : List ℕ → List ℕ → Copied
copied part out = pick (eqb (length part) 1024 && eqb (length out) 1024) (copied_of 1024 part) (copied_of 0 out)

unfoldable pub copy_on : List ℕ → (State → List ℕ) → List ℕ → Copied
copy_on w f out = copied (f (state_of w)) out
