-- What the theorems of this crate share: an entry of a table of which a run was written anew, addresses past a register, the lent lengths, and a CPU
-- write and a read behind an open gate.
use Prim.Native.Nat.{ℕ, zero, suc, ◌+◌, ◌<◌, ◌≤◌}
use mathlib.Core.Bool.{true, false}
use mathlib.Core.List.{List, [], ◌∷◌}
use mathlib.Core.Path.{◌≡◌, ◌∙◌}
use native.Mathlib.Omega.{arith}
use borrow.Author.Tests.{eqb-true, eqb-false, ne_eqb, le-leb, lt-leb}
use lib.Dec.{eqb}
use lib.ListN.{length, get_or}
use lib.Seq.{get_or-set_same, get_or-set_other}
use Rattle.memory.specs.Bytes.{Mem}
use Rattle.memory.specs.PageWords.{page_of}
use Rattle.memory.proofs.Tests.{split, conj_at}
use Rattle.answers.specs.declared.Answer.TheVariants.{Nothing}
use Rattle.banks.specs.Placed.{placed}
use Rattle.banks.proofs.PlacedLaws.{length_placed}
use Rattle.state.specs.declared.Lengths.{Lengths}
use Rattle.state.specs.declared.State.{State}
use Rattle.state.specs.Gate.{Open, same_lengths, gate_mem}
use Rattle.cpu.specs.Groups.{within}
use Rattle.cpu.specs.Reads.{cpu_answer, page_answer}
use Rattle.cpu.specs.Writes.{audio_write, register_written, cpu_stored, prg_word_at}
use Rattle.steps.proofs.Idle.{read_idle}
use Rattle.board.specs.CpuSide.{cpu_read, cpu_write}
use Rattle.board.specs.Outcomes.{outcome, after_of}

-- Tables -----------------------------------------------------------------------------------------------------------------------------

-- An entry of the run that is written anew, and one before it.
pub entry_inside : {A : Type 0} (l : List A) (at : ℕ) (f : ℕ → A) (n k : ℕ) (d : A) → k < n → at + n ≤ length l → get_or (placed l at f n) (at + k) d ≡ f k
unfolding placed
entry_inside l at f zero k d h e = absurd (omega (arith, h))
entry_inside l at f (suc n) k d h e =
    split (eqb k n)
    (λ t. rw (eqb-true k n t) (get_or-set_same (placed l at f n) (at + n) (f n) d (rw (length_placed l at f n) (omega (arith, e)))))
    (λ t.
    get_or-set_other (placed l at f n) (at + n) (at + k) (f n) d (λ (i : at + k ≡ at + n). eqb-false k n t (omega arith))
    ∙ entry_inside l at f n k d (omega (arith, h, eqb-false k n t)) (omega (arith, e)))

-- Addresses --------------------------------------------------------------------------------------------------------------------------

-- An address past a register, and past a run of them.
pub past : (k a : ℕ) → k < a → eqb a k ≡ false
past k a h = ne_eqb a k (λ (e : a ≡ k). omega arith)

pub past_all : (lo hi a : ℕ) → lo ≤ a → hi < a → within lo hi a ≡ false
past_all lo hi a h k = rw (le-leb lo a h, lt-leb a hi k)

no_audio : (a : ℕ) → 0x5100 ≤ a → audio_write a ≡ false
no_audio a h =
    rw (
      past 0x5000 a (omega arith),
      past_all 0x5002 0x5004 a (omega arith) (omega arith),
      past_all 0x5006 0x5007 a (omega arith) (omega arith),
      past_all 0x5010 0x5011 a (omega arith) (omega arith),
      past 0x5015 a (omega arith),
    )

-- Behind an open gate ----------------------------------------------------------------------------------------------------------------

-- The lengths are as they were recorded.
pub record Recorded (z : Lengths) (p c r : ℕ) : Type 0 where
  pub prg : z.prg ≡ p
  pub chr : z.chr ≡ c
  pub ram : z.ram ≡ r

pub recorded : (z : Lengths) (p c r i e : ℕ) → same_lengths z p c r i e ≡ true → Recorded z p c r
unfolding same_lengths
recorded z p c r i e h =
    let at = conj_at (eqb z.prg p ∷ eqb z.chr c ∷ eqb z.ram r ∷ eqb z.ciram i ∷ eqb z.exram e ∷ []) in
    record { prg = eqb-true z.prg p (at 0 h); chr = eqb-true z.chr c (at 1 h); ram = eqb-true z.ram r (at 2 h) }

-- A write from the first register on is none of audio's.
pub write_is : (s : State) (m : Mem) (a n : ℕ) → gate_mem s m ≡ Open → 0x5100 ≤ a → cpu_write s m a n ≡ after_of (outcome Nothing (register_written s a n)) (cpu_stored s m a n)
unfolding cpu_write
write_is s m a n g h = rw (g, no_audio a h)

-- A read past the last register asks the page alone.
pub read_is : (s : State) (m : Mem) (a : ℕ) → gate_mem s m ≡ Open → 0x5207 ≤ a → (cpu_read s m a).answer ≡ page_answer m (page_of (prg_word_at s.prg_pages a)) a
unfolding cpu_read cpu_answer
read_is s m a g h =
    rw (g, past 0x5010 a (omega arith), past 0x5015 a (omega arith))
    (read_idle a (past_all 0x5100 0x5206 a (omega arith) (omega arith)) s.regs s.vsplit s.irq s.prg_banks s.chr_banks _)
