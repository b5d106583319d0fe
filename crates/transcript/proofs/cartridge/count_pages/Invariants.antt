-- Byte after byte.
use Rattle.std.proofs.Common.{◌≡◌, ◌+◌, ◌/◌}
use Rattle.banks.specs.Placed.{placed}
use Rattle.transcript.proofs.cartridge.count_pages.Given as goal

abbrev pub invariant-loop-i : goal.invariant-loop-i
invariant-loop-i l = l.bytes ≡ placed l.initial.bytes 0 (λ i. l.first + i / 1024) l.i
