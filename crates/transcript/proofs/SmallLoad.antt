-- After a load the numbers that answers give are bytes, and so are those of 01's cartridge.
use Prim.Native.Nat.{ℕ, zero, suc, ◌+◌, ◌*◌, ◌<◌, ◌≤◌}
use mathlib.Core.Bool.{Bool, not}
use native.Mathlib.Omega.{arith}
use borrow.Author.Tests.{ltb-true, ltb-false}
use lib.Dec.{ltb}
use lib.ListN.{length, get_or, replicate, get_or-eq_default}
use Rattle.memory.specs.Bytes.{Mem}
use Rattle.memory.proofs.Tests.{split, pick_keeps}
use Rattle.registers.specs.declared.Mirroring.{Mirroring}
use Rattle.registers.specs.Registers.{regs_at_load}
use Rattle.split.specs.Control.{split_at_load}
use Rattle.state.specs.declared.Lengths.{Lengths}
use Rattle.state.specs.Lengths.{prg_taken, chr_taken, ram_taken}
use Rattle.board.specs.declared.Outcome.{Outcome}
use Rattle.board.specs.Loads.{first_banks, zero_state, loaded_state, load_call}
use Rattle.trace.specs.Cartridge.{counted_pages, cartridge}
use Rattle.trace.proofs.CartridgeLaws.{length_pages, byte_of_pages}
use Rattle.transcript.proofs.Small.{SmallRegs, SmallSplit, SmallState}
use Rattle.transcript.specs.Bytes.{Bytes, SmallMem}

zeros_small : (n i : ℕ) → get_or (replicate n 0) i 0 < 256
zeros_small zero i = omega arith
zeros_small (suc n) zero = omega arith
zeros_small (suc n) (suc i) = zeros_small n i

pages_small : (b n : ℕ) → b + n ≤ 256 → Bytes (counted_pages b n)
pages_small b n h i =
    split (ltb i (1024 * n))
    (λ t. let l : i < 1024 * n = ltb-true i (1024 * n) t in omega (arith, byte_of_pages b n i l, l, h))
    (λ t. let l : length (counted_pages b n) ≤ i = omega (arith, ltb-false i (1024 * n) t, length_pages b n) in
    omega (arith, get_or-eq_default (counted_pages b n) 0 {n = i} l))

pub cartridge_small : SmallMem cartridge
unfolding cartridge
cartridge_small =
    record { prg = pages_small 0 32 (omega arith); chr = pages_small 128 8 (omega arith); ram = zeros_small 8192; ciram = zeros_small 2048; exram = zeros_small 1024 }

banks_small : (l i : ℕ) → get_or (first_banks l) i 0 < 256
banks_small l zero = omega arith
banks_small l (suc zero) = omega arith
banks_small l (suc (suc zero)) = omega arith
banks_small l (suc (suc (suc zero))) = omega arith
banks_small l (suc (suc (suc (suc zero)))) = omega arith
banks_small l (suc (suc (suc (suc (suc i))))) = omega arith

regs_small : SmallRegs regs_at_load
regs_small =
    record { prg_mode = omega arith; chr_mode = omega arith; exram_mode = omega arith; nametables = omega arith; fill_tile = omega arith; fill_attr = omega arith; multiplicand = omega arith; multiplier = omega arith }

split_at_load_lem : SmallSplit split_at_load
split_at_load_lem = record { mode = omega arith; scroll = omega arith; bank = omega arith }

zero_small : SmallState zero_state
zero_small =
    record {
      regs = record { prg_mode = omega arith; chr_mode = omega arith; exram_mode = omega arith; nametables = omega arith; fill_tile = omega arith; fill_attr = omega arith; multiplicand = omega arith; multiplier = omega arith };
      split = split_at_load_lem;
      line = omega arith;
      prg_banks = zeros_small 5;
      chr_banks = zeros_small 16;
    }

loaded_small : (z : Lengths) (k : Mirroring) → SmallState (loaded_state z k)
unfolding loaded_state
loaded_small z k = record { regs = regs_small; split = split_at_load_lem; line = omega arith; prg_banks = banks_small z.prg; chr_banks = zeros_small 16 }

abbrev SmallLoad : Outcome → Type 0
SmallLoad o = SmallState o.state

pub load_small : (m : Mem) (ram : Bool) (k : Mirroring) → SmallState (load_call m ram k).state
unfolding load_call
load_small m ram k =
    pick_keeps SmallLoad (not (prg_taken (length m.prg))) zero_small
    (pick_keeps SmallLoad (not (chr_taken (length m.chr))) zero_small
    (pick_keeps SmallLoad (not (ram_taken (length m.ram) (length m.ciram) (length m.exram))) zero_small (loaded_small _ k)))
