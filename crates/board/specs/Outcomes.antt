-- What a call gives back, and what a refusal gives back. 01: "Any other refusal returns the state given and writes nothing".
use Rattle.std.specs.Prelude.{Ok, Err}
use Rattle.memory.specs.Bytes.{Mem}
use Rattle.answers.specs.declared.Answer.{Answer}
use Rattle.answers.specs.declared.Answer.TheVariants.{Refused}
use Rattle.answers.specs.declared.Refusal.{Refusal}
use Rattle.state.specs.Gate.{Gate}
use Rattle.state.specs.declared.State.{State}
use Rattle.board.specs.declared.Outcome.{Outcome}

abbrev pub outcome : Answer → State → Outcome
outcome a s = record { answer = a; state = s }

abbrev pub refused : State → Refusal → Outcome
refused s r = outcome (Refused r) s

-- Everything that a call leaves: its outcome and the five buffers.
pub record After : Type 0 where
  pub out : Outcome
  pub mem : Mem

abbrev pub after_of : Outcome → Mem → After
after_of o m = record { out = o; mem = m }

-- What stands behind the gate where it is open, or what its refusal gives where it is shut.
abbrev pub behind : {A : Type 0} → Gate → (Refusal → A) → A → A
behind (Ok u) f x = x
behind (Err r) f x = f r
