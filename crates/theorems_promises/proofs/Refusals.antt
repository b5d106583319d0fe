-- Who is refused: behind an open gate only audio registers are.
use Prim.Native.Nat.{ℕ}
use mathlib.Core.Bool.{Bool, true, false}
use mathlib.Core.Path.{◌≡◌, refl}
use Rattle.std.specs.Prelude.{Ok, Err}
use Rattle.memory.specs.declared.Src.{Src}
use Rattle.memory.specs.declared.Src.TheVariants.{Blank, PrgRom, PrgRam, Chr, CiRam, ExRam}
use Rattle.memory.specs.Bytes.{Mem, page_byte}
use Rattle.memory.specs.Tests.{pick}
use Rattle.memory.specs.PageWords.{page_of}
use Rattle.answers.specs.declared.Answer.{Answer}
use Rattle.answers.specs.declared.Answer.TheVariants.{Refused}
use Rattle.answers.specs.declared.Refusal.TheVariants.{Audio}
use Rattle.answers.specs.Refused.{is_refused}
use Rattle.state.specs.Gate.{Gate}
use Rattle.state.specs.declared.State.{State}
use Rattle.cpu.specs.Reads.{answered_as, page_answer, register_at, register_read, cpu_answer}
use Rattle.cpu.specs.Writes.{prg_word_at}
use Rattle.cpu.proofs.ReadLaws.{or_keeps}
use Rattle.board.specs.Outcomes.{outcome, refused, behind}

abbrev pub Given : Answer → Type 0
Given a = is_refused a ≡ false

pub shown_is_given : (s : Src) (v : ℕ) → Given (answered_as s v)
shown_is_given Blank v = refl
shown_is_given PrgRom v = refl
shown_is_given PrgRam v = refl
shown_is_given Chr v = refl
shown_is_given CiRam v = refl
shown_is_given ExRam v = refl

-- A register, or the page: never a refusal.
pub answer_is_given : (s : State) (m : Mem) (a : ℕ) → Given (cpu_answer s m a)
unfolding cpu_answer register_read page_answer
answer_is_given s m a =
    or_keeps Given (register_at s.regs s.vsplit s.irq s.prg_banks s.chr_banks a) _ (λ v. refl)
    (shown_is_given (page_of (prg_word_at s.prg_pages a)).src (page_byte m (page_of (prg_word_at s.prg_pages a)) a))

-- A peek answers as the read does, at an open gate and at a shut one.
pub same_behind : (g : Gate) (s : State) (b : Bool) (x : Answer) (t : State)
    → behind g Refused (pick b (Refused Audio) x) ≡ (behind g (refused s) (pick b (refused s Audio) (outcome x t))).answer
same_behind (Ok u) s true x t = refl
same_behind (Ok u) s false x t = refl
same_behind (Err r) s b x t = refl
