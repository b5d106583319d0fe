-- CPU read, peek and write: the gate, then refusal 6, then the call.
use Rattle.std.specs.Prelude.{ℕ}
use Rattle.memory.specs.Bytes.{Mem}
use Rattle.memory.specs.Tests.{pick}
use Rattle.answers.specs.declared.Answer.{Answer}
use Rattle.answers.specs.declared.Answer.TheVariants.{Nothing, Refused}
use Rattle.answers.specs.declared.Refusal.{Refusal}
use Rattle.answers.specs.declared.Refusal.TheVariants.{Audio}
use Rattle.cpu.specs.Reads.{cpu_answer, irq_read, audio_read}
use Rattle.cpu.specs.Writes.{register_written, cpu_stored, audio_write}
use Rattle.state.specs.declared.State.{State}
use Rattle.state.specs.Gate.{gate_mem}
use Rattle.state.specs.With.{with_irq}
use Rattle.board.specs.declared.Outcome.{Outcome}
use Rattle.board.specs.Outcomes.{outcome, refused, After, after_of, behind}

unfoldable pub cpu_read : State → Mem → ℕ → Outcome
cpu_read s m a =
    behind (gate_mem s m) (refused s)
    (pick (audio_read a) (refused s Audio)
    (outcome (cpu_answer s m a) (with_irq s (irq_read s.irq a))))

-- A peek answers as a read does, and changes nothing.
unfoldable pub cpu_peek : State → Mem → ℕ → Answer
cpu_peek s m a = behind (gate_mem s m) Refused (pick (audio_read a) (Refused Audio) (cpu_answer s m a))

-- "writes nothing": a refusal leaves the buffers as lent.
unfoldable pub cpu_write : State → Mem → ℕ → ℕ → After
cpu_write s m a v =
    behind (gate_mem s m) (λ (r : Refusal). after_of (refused s r) m)
    (pick (audio_write a) (after_of (refused s Audio) m)
    (after_of (outcome Nothing (register_written s a v)) (cpu_stored s m a v)))
