-- Each accepted call moves the detector by its event.
use Prim.Native.Nat.{ℕ}
use mathlib.Core.Path.{◌≡◌, refl, ◌∙◌, ap}
use borrow.Author.Tests.{eqb-true}
use lib.Dec.{eqb, ltb}
use Rattle.memory.specs.Bytes.{Mem}
use Rattle.memory.proofs.Tests.{split}
use Rattle.scanline.specs.declared.Detector.{Detector}
use Rattle.scanline.specs.Fetches.{counted_at}
use Rattle.state.specs.declared.State.{State}
use Rattle.cpu.specs.Groups.{irq_after}
use Rattle.cpu.specs.Reads.{irq_read}
use Rattle.cpu.specs.Writes.{register_written}
use Rattle.cpu.specs.PpuRegisters.{detector_after}
use Rattle.board.specs.Outcomes.{After}
use Rattle.board_ppu.specs.Fetch.{counted_call, pattern_call}
use Rattle.trace.specs.declared.Call.{Call}
use Rattle.trace.specs.declared.Call.TheVariants.{Clock, CpuRead, CpuWrite, PpuRegister, PpuFetch, Reset, PpuWrite}
use Rattle.theorems_scanlines.specs.Calls.Event.{cpu_read, cpu_write}
use Rattle.theorems_scanlines.specs.Run.{step}
use Rattle.theorems_histories.specs.Boards.{Board, Made, says, leaves, number}
use Rattle.theorems_histories.specs.Boards.Made.{call, peek, ppu_peek_lem, sprite_peek_lem, mirroring_asked, interrupt_asked, cpu_page, ppu_page}
use Rattle.theorems_histories.specs.Histories.{Takes}
use Rattle.theorems_histories.specs.Watching.{view, event}
use Rattle.theorems_histories.proofs.Behind.{done, accepted_passes}

-- a read: the vectors are not $5204
read_steps : (d : Detector) (a : ℕ) → irq_read d a ≡ step d (cpu_read a)
unfolding irq_read step
read_steps d a =
    split (eqb a 0x5204)
    (λ t. let q : a ≡ 0x5204 = eqb-true a 0x5204 t in rw q)
    (λ t. rw t)

write_steps : (d : Detector) (a v : ℕ) → irq_after d a v ≡ step d (cpu_write a v)
unfolding irq_after step
write_steps d a v = refl

steps : (c : Call) (s : State) (m : Mem) → (done c s m).out.state.irq ≡ step s.irq (event (call c))
unfolding step detector_after register_written counted_call pattern_call
steps Clock s m = refl
steps (CpuRead a) s m = read_steps s.irq a.0
steps (CpuWrite a v) s m = write_steps s.irq a.0 v
steps (PpuRegister a v) s m = refl
steps (PpuFetch a) s m = split (counted_at a.0) (λ t. rw t) (λ t. rw t (split (ltb a.0 0x2000) (λ u. rw u) (λ u. rw u)))
steps Reset s m = refl
steps (PpuWrite a v) s m = refl

-- looking changes nothing
followed : (b : Board) (c : Made) → number (says b c) ≡ 0 → view (leaves b c) ≡ step (view b) (event c)
unfolding leaves step
followed b (call c) n = ap (λ (x : After). x.out.state.irq) (accepted_passes b c n).0 ∙ steps c b.state b.mem
followed b (peek a) n = refl
followed b (ppu_peek_lem a) n = refl
followed b (sprite_peek_lem a) n = refl
followed b mirroring_asked n = refl
followed b interrupt_asked n = refl
followed b (cpu_page a) n = refl
followed b (ppu_page a) n = refl

-- what crate `theorems_scanlines` asks of a machine
pub follows : (b b' : Board) (c : Made) → Takes b c b' → view b' ≡ step (view b) (event c)
follows b b' c t = rw t.left (followed b c t.accepted)
