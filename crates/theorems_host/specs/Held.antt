-- What a host holds between calls, what that stands for, and how a call of the library looks to it. No place of a word is named here or in what is
-- built on it: of words only `state_of` and `words_of` are known (crate `host_state`).
-- Assumes nothing.
use Rattle.std.specs.Prelude.{ℕ, List}
use Rattle.memory.specs.Bytes.{Mem}
use Rattle.calls.specs.Lent.{BufferThen, ChangedThen, MemoryThen, FourThen, mem_lent, mem_to_change, behind_memory}
use Rattle.host_state.specs.Words.{state_of, words_of}
use Rattle.theorems_histories.specs.Boards.{Board}
use Rattle.theorems_settles.specs.Hosts.{words_left, behind_words}

-- The array of words with which a function's parameters begin, lent to be changed, as crate `theorems_settles` looks at it; and lent to be read.
abbrev pub WordsThen : Type 0 → Type 0
WordsThen X = ChangedThen X

abbrev pub words_lent : {X : Type 0} → BufferThen X → List ℕ
words_lent a = a.0.now

-- The words and the five buffers.
pub record Held : Type 0 where
  pub words : List ℕ
  pub mem : Mem

abbrev pub held : List ℕ → Mem → Held
held w m = record { words = w; mem = m }

-- The board that they stand for, and what stands for a board.
abbrev pub board_of : Held → Board
board_of h = record { state = state_of h.words; mem = h.mem }

abbrev pub held_of : Board → Held
held_of b = held (words_of b.state) b.mem

-- What a host hears: a number; of a page view the bytes that were copied.
pub data Hearing : Type 0 where
  number : ℕ → Hearing
  bytes : List ℕ → Hearing

-- A call of the library as a host sees it: its own numbers (address and value), what is lent, what is heard, and what the host holds then.
pub record Exchange : Type 0 where
  pub own : List ℕ
  pub before : Held
  pub heard : Hearing
  pub after : Held

abbrev pub exchange : List ℕ → Held → Hearing → Held → Exchange
exchange l h n h' = record { own = l; before = h; heard = n; after = h' }

-- A call that leaves all that it is lent.
abbrev pub looking : List ℕ → Held → Hearing → Exchange
looking l h n = exchange l h n h

-- Behind the words come the five buffers; a look at all that is lent: the words to be changed and the buffers to be read, four of the buffers to be
-- changed too, and all to be read.
abbrev pub Lent : Type 0 → Type 0
Lent X = WordsThen (MemoryThen X)

abbrev pub LentToChange : Type 0 → Type 0
LentToChange X = WordsThen (BufferThen (FourThen X))

abbrev pub LentToLook : Type 0 → Type 0
LentToLook X = BufferThen (MemoryThen X)

abbrev pub lent_in : {X : Type 0} → Lent X → Held
lent_in a = held (words_left a) (mem_lent (behind_words a))

abbrev pub lent_to_change : {X : Type 0} → LentToChange X → Held
lent_to_change a = held (words_left a) (mem_to_change (behind_words a))

abbrev pub lent_to_look : {X : Type 0} → LentToLook X → Held
lent_to_look a = held (words_lent a) (mem_lent (behind_words a))

abbrev pub behind_lent : {W A B C D E X : Type 0} → W × (A × (B × (C × (D × (E × X))))) → X
behind_lent a = behind_memory (behind_words a)
