-- The contracts that are more than one equation, or an equation for every PRG-ROM, each by the one law.
use mathlib.Core.List.{[]}
use Rattle.calls.specs.Lent.{mem_left}
use Rattle.theorems_settles.specs.Settled.{Result, Settles, beside}
use Rattle.theorems_settles.specs.OwnLeaves.{memory_store, memory_prg_place}
use Rattle.theorems_settles.specs.OwnEntries.{steps_store, steps_count_fetch}
use Rattle.theorems_settles.specs.ByHand.{clock_lent, new, advanced}
use Rattle.theorems_settles.proofs.Law.{settled, both}

pub stored : Settles memory_store.Learnt (λ κ a r e. mem_left [] e)
stored κ a r r' e e' p q = settled (p []) (q [])

pub placed : Result memory_prg_place.Learnt
placed κ a r r' e e' p q = settled p.0 q.0

pub step_stored : Settles steps_store.Learnt (λ κ a r e. mem_left [] e)
step_stored κ a r r' e e' p q = settled (p []) (q [])

pub counted : Result steps_count_fetch.Learnt
counted κ a r r' e e' p q = λ i. record { irq = settled p.0 q.0 i; ppu = settled p.1.0 q.1.0 i; vsplit = settled p.1.1 q.1.1 i }

pub clocked : Settles clock_lent.Learnt (λ κ a r e. beside r e.0.now)
clocked κ a r r' e e' p q = both (settled p.0 q.0) (settled p.1 q.1)

pub made : Result new.Learnt
made κ a r r' e e' p q = λ i. record { trace = settled p.0 q.0 i; at = settled p.1 q.1 i }

pub moved : Result advanced.Learnt
moved κ a r r' e e' p q = λ i. record { trace = settled p.0 q.0 i; at = settled p.1 q.1 i }
