-- What a CPU write leaves in the split, the detector and the bank registers, each register with its address. 01, modules 4, 5, 7, 8.
use Rattle.std.specs.Prelude.{ℕ, ◌+◌, ◌-◌, Bool, ◌&&◌, List, eqb, leb, set}
use Rattle.memory.specs.Tests.{pick}
use Rattle.scanline.specs.declared.Detector.{Detector}
use Rattle.scanline.specs.Steps.{targeted, enabled_by}
use Rattle.split.specs.declared.VSplit.{VSplit}
use Rattle.split.specs.Control.{with_control, with_scroll, with_bank}

-- An address from one to another.
abbrev pub within : ℕ → ℕ → ℕ → Bool
within lo hi a = leb lo a && leb a hi

unfoldable pub split_after : VSplit → ℕ → ℕ → VSplit
split_after s a v =
    pick (eqb a 0x5200) (with_control s v)
    (pick (eqb a 0x5201) (with_scroll s v)
    (pick (eqb a 0x5202) (with_bank s v)
    s))

unfoldable pub irq_after : Detector → ℕ → ℕ → Detector
irq_after d a v =
    pick (eqb a 0x5203) (targeted d v)
    (pick (eqb a 0x5204) (enabled_by d v)
    d)

-- $5113-$5117
unfoldable pub prg_banks_after : List ℕ → ℕ → ℕ → List ℕ
prg_banks_after b a v = pick (within 0x5113 0x5117 a) (set b (a - 0x5113) v) b

-- $5120-$512B. 01, module 5: "$5128-$512B store at index + 4 too."
unfoldable pub chr_banks_after : List ℕ → ℕ → ℕ → List ℕ
chr_banks_after b a v =
    pick (within 0x5120 0x5127 a) (set b (a - 0x5120) v)
    (pick (within 0x5128 0x512B a) (set (set b (a - 0x5120) v) (a - 0x5120 + 4) v)
    b)
