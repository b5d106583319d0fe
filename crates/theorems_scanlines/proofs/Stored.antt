-- The Rust's stored `regs.irq_pending` is the flag and the enable, after every history.
-- Assumes nothing.
use mathlib.Core.Path.{◌≡◌, refl, ◌∙◌}
use mathlib.Core.Bool.{Bool, ◌&&◌, ◌||◌}
use mathlib.Core.List.{[], ◌∷◌}
use borrow.Author.Tests.{eqb-true}
use lib.Dec.{eqb}
use Rattle.memory.specs.Bits.{bit_set}
use Rattle.memory.proofs.Tests.{split}
use Rattle.scanline.specs.declared.Detector.{Detector}
use Rattle.scanline.specs.Fetches.{counted_at}
use Rattle.scanline.specs.Clock.{tick}
use Rattle.scanline.specs.Steps.{dark, meets, seen_at, interrupt_up}
use Rattle.theorems_scanlines.specs.Calls.{Event}
use Rattle.theorems_scanlines.specs.Calls.Event.{clock, fetch, cpu_read, cpu_write, ppu_register, other}
use Rattle.theorems_scanlines.specs.Calls.{History}
use Rattle.theorems_scanlines.specs.Machine.{irq_pending_by, irq_pending}
use Rattle.theorems_scanlines.specs.Run.{step, run}

onward : (d : Detector) (p : Bool) (e : Event) → p ≡ interrupt_up d → irq_pending_by d p e ≡ interrupt_up (step d e)
unfolding irq_pending_by step tick seen_at
onward d p clock q = q
onward d p (fetch a) q =
    rw q
    (split (counted_at a)
    (λ t. rw t (split (meets d a) (λ u. rw u (split d.irq_enabled (λ v. rw v) (λ v. rw v (split d.pending (λ w. rw w) (λ w. rw w))))) (λ u. rw u)))
    (λ t. rw t))
onward d p (cpu_read a) q =
    rw q
    (split (eqb a 0xFFFA || eqb a 0xFFFB)
    (λ t. rw t)
    (λ t. rw t (split (eqb a 0x5204) (λ u. rw u) (λ u. rw u))))
onward d p (cpu_write a v) q =
    rw q
    (split (eqb a 0x5203)
    (λ t. let k : a ≡ 0x5203 = eqb-true a 0x5203 t in rw k)
    (λ t. rw t
    (split (eqb a 0x5204)
    (λ u. rw u (split d.pending (λ w. rw w (split (bit_set v 7) (λ x. rw x) (λ x. rw x))) (λ w. rw w (split (bit_set v 7) (λ x. rw x) (λ x. rw x)))))
    (λ u. rw u))))
onward d p (ppu_register a v) q = q ∙ split (eqb a 0x2001 && dark v) (λ t. rw t) (λ t. rw t)
onward d p other q = q

pub stored : (h : History) → irq_pending h ≡ interrupt_up (run h)
unfolding irq_pending run
stored [] = refl
stored (e ∷ h) = onward (run h) (irq_pending h) e (stored h)
