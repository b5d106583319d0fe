-- Refused or not: what is made of an answer, by the cause if it is a refusal.
use Rattle.std.specs.Prelude.{Bool, true, false}
use Rattle.answers.specs.declared.Answer.{Answer}
use Rattle.answers.specs.declared.Answer.TheVariants.{Nothing, Register, Served, Page, Blank, Refused}
use Rattle.answers.specs.declared.Refusal.{Refusal}

-- `stop` of a refusal's cause; `go` for any other answer.
abbrev pub if_refused : {A : Type 0} → Answer → (Refusal → A) → A → A
if_refused (Refused why) stop go = stop why
if_refused Nothing stop go = go
if_refused (Register v) stop go = go
if_refused (Served v) stop go = go
if_refused (Page v) stop go = go
if_refused Blank stop go = go

abbrev pub is_refused : Answer → Bool
is_refused a = if_refused a (λ (why : Refusal). true) false
