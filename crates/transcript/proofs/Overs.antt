-- The lines of a replay from a load on, by what the replay left.
use Prim.Native.Nat.{ℕ, ◌+◌, ◌/◌}
use mathlib.Core.Bool.{false}
use mathlib.Core.List.{List}
use mathlib.Core.Path.{◌≡◌}
use lib.ListN.{replicate}
use Rattle.memory.specs.Bytes.{Mem, mem_of}
use Rattle.registers.specs.declared.Mirroring.TheVariants.{Horizontal}
use Rattle.banks.specs.Placed.{placed}
use Rattle.board.specs.declared.Outcome.{Outcome}
use Rattle.board.specs.Loads.{load_call}
use Rattle.trace.specs.Cartridge.{cartridge}
use Rattle.player.specs.Replay.{Left, replayed}
use Rattle.transcript.specs.Cartridge.{from_load, printed_over, transcript}
use Rattle.transcript.specs.Printed.{printed}
use Rattle.transcript.proofs.Pages.{filled_is_counted}

pub over : (trace : List ℕ) (m : Mem) (log : List ℕ) (o : Outcome) (l : Left) → o ≡ load_call m false Horizontal → l ≡ replayed o.state trace m log
    → printed trace l.log l.out.ending ≡ printed_over trace m log
unfolding printed_over from_load
over trace m log o l eo el = rw (el, eo)

-- A ROM of some length whose bytes count its pages, as the code leaves it.
abbrev pub pages_from : ℕ → ℕ → List ℕ
pages_from first n = placed (replicate n 0) 0 (λ (i : ℕ). first + i / 1024) n

-- The trace over two counted ROMs is what the program prints.
pub counted : (trace p q : List ℕ) → p ≡ pages_from 0 32768 → q ≡ pages_from 128 8192
    → printed_over trace (mem_of p q (replicate 8192 0) (replicate 2048 0) (replicate 1024 0)) (replicate 16384 0) ≡ transcript trace
unfolding transcript cartridge
counted trace p q ep eq = rw (ep, eq, filled_is_counted 0 32, filled_is_counted 128 8)
