-- A call over lent words: the board's call on the state that they stand for. A refusal is answered, and every word and byte stays; else the words are those of
-- the state after the call.
use Rattle.std.specs.Prelude.{ℕ, List}
use Rattle.memory.specs.Bytes.{Mem}
use Rattle.answers.specs.declared.Answer.TheVariants.{Refused}
use Rattle.answers.specs.declared.Refusal.{Refusal}
use Rattle.answers.specs.Refused.{if_refused}
use Rattle.state.specs.declared.State.{State}
use Rattle.board.specs.declared.Outcome.{Outcome}
use Rattle.board.specs.Outcomes.{After}
use Rattle.host_state.specs.Words.{state_of, words_of}
use Rattle.host_answers.specs.Answers.{answer_plain, answer_with_interrupt}

-- What a call leaves: its number and the words.
pub record LeftWords : Type 0 where
  pub number : ℕ
  pub words : List ℕ

abbrev pub left_words : ℕ → List ℕ → LeftWords
left_words n w = record { number = n; words = w }

abbrev pub leaving_words : Outcome → LeftWords
leaving_words o = left_words (answer_with_interrupt o.answer o.state.irq) (words_of o.state)

unfoldable pub on_words : List ℕ → (State → Outcome) → LeftWords
on_words w f = if_refused (f (state_of w)).answer (λ (r : Refusal). left_words (answer_plain (Refused r)) w) (leaving_words (f (state_of w)))

-- Of a call that writes memory, the buffers too.
pub record LeftMemory : Type 0 where
  pub number : ℕ
  pub words : List ℕ
  pub mem : Mem

abbrev pub left_memory : ℕ → List ℕ → Mem → LeftMemory
left_memory n w m = record { number = n; words = w; mem = m }

abbrev pub leaving_memory : After → LeftMemory
leaving_memory x = left_memory (answer_with_interrupt x.out.answer x.out.state.irq) (words_of x.out.state) x.mem

unfoldable pub on_memory : List ℕ → Mem → (State → After) → LeftMemory
on_memory w m f = if_refused (f (state_of w)).out.answer (λ (r : Refusal). left_memory (answer_plain (Refused r)) w m) (leaving_memory (f (state_of w)))
