-- What the program prints, from the load of 01's cartridge on, is what the definitions tell.
use Prim.Native.Nat.{ℕ, suc, ◌*◌, ◌<◌, ◌≤◌}
use mathlib.Core.Bool.{true, false}
use mathlib.Core.List.{List}
use mathlib.Core.Path.{◌≡◌, refl, ap, ◌∙◌}
use native.Mathlib.Numerals.{add-one}
use native.Mathlib.Omega.{arith}
use borrow.Author.Tests.{lt-ltb, le-ltb, ltb-true, ltb-false}
use lib.Dec.{ltb}
use lib.ListN.{length, replicate, length-replicate}
use Rattle.memory.proofs.Tests.{split}
use Rattle.answers.specs.declared.Answer.TheVariants.{Nothing}
use Rattle.registers.specs.declared.Mirroring.TheVariants.{Horizontal}
use Rattle.state.specs.Gate.{Open, gate_mem}
use Rattle.board.specs.Loads.{load_call}
use Rattle.theorems_promises.specs.Loading.{good_prg, good_chr, good_ram}
use Rattle.theorems_promises.proofs.Loadings.{load_refusals}
use Rattle.theorems_promises.proofs.Promised.{gate_stays_open}
use Rattle.trace.specs.Cartridge.{cartridge}
use Rattle.trace.specs.Examples.{worked}
use Rattle.trace.proofs.CartridgeLaws.{cartridge_bytes}
use Rattle.text.specs.Lines.{too_long_line}
use Rattle.player.specs.Replay.{Left, played_from, replayed}
use Rattle.transcript.specs.Cartridge.{from_load, printed_over, transcript}
use Rattle.transcript.specs.Printed.{printed_from, printed}
use Rattle.transcript.specs.Lines.{lines_from, TranscriptIsLines}
use Rattle.transcript.proofs.SmallLoad.{cartridge_small, load_small}
use Rattle.transcript.proofs.Telling.{printed_is_lines}
use Rattle.transcript.proofs.EnoughLines.{same_rest}
use Rattle.transcript.proofs.ShortLines.{too_long_short, lines_short}
use Rattle.transcript.proofs.WorkedLines.{worked_lines_lem}

-- The load -----------------------------------------------------------------------------------------------------------------------------------

good_prg_lem : good_prg cartridge ≡ true
good_prg_lem = rw cartridge_bytes.prg_length

good_chr_lem : good_chr cartridge ≡ true
good_chr_lem = rw cartridge_bytes.chr_length

good_ram_lem : good_ram cartridge ≡ true
unfolding cartridge
good_ram_lem = refl

loads : (load_call cartridge false Horizontal).answer ≡ Nothing
loads = load_refusals.accepted cartridge false Horizontal good_prg_lem good_chr_lem good_ram_lem

gate_open : gate_mem (load_call cartridge false Horizontal).state cartridge ≡ Open
gate_open = gate_stays_open.load cartridge false Horizontal loads

-- The lines ------------------------------------------------------------------------------------------------------------------------------------

too_long : (trace : List ℕ) → 8192 < length trace → transcript trace ≡ too_long_line
unfolding transcript printed_over printed
too_long trace h = rw (lt-ltb 8192 (length trace) h)

plays : (trace log : List ℕ) → length trace ≤ 8192
    → from_load trace cartridge log ≡ played_from (suc (length trace)) trace 0 0 (load_call cartridge false Horizontal).state cartridge log
unfolding from_load replayed
plays trace log h = rw (le-ltb 8192 (length trace) h, gate_open, add-one (length trace))

lines : (trace : List ℕ) → length trace ≤ 8192 → transcript trace ≡ lines_from (suc (length trace)) trace 0 0 (load_call cartridge false Horizontal).state cartridge
unfolding transcript printed_over printed
lines trace h =
    rw (le-ltb 8192 (length trace) h)
    (ap (λ (l : Left). printed_from (suc (length trace)) trace 0 0 l.log l.out.ending) (plays trace (replicate 16384 0) h)
    ∙ printed_is_lines (suc (length trace)) trace 0 0 (load_call cartridge false Horizontal).state cartridge (replicate 16384 0) (omega arith) (omega (arith, h, length-replicate {A = ℕ} 16384 0)))

-- The text finds room wherever that many lines do.
room : (most : ℕ) → 15 * 8193 ≤ most → (trace : List ℕ) → length (transcript trace) ≤ most
room most r trace =
    split (ltb 8192 (length trace))
    (λ t. omega (arith, r, ap (λ (l : List ℕ). length l) (too_long trace (ltb-true 8192 (length trace) t)), too_long_short))
    (λ t.
    let h : length trace ≤ 8192 = ltb-false 8192 (length trace) t in
    omega (
      arith,
      r,
      h,
      ap (λ (l : List ℕ). length l) (lines trace h),
      lines_short (suc (length trace)) trace 0 0 (load_call cartridge false Horizontal).state cartridge h (omega arith) (omega arith) (load_small cartridge false Horizontal) cartridge_small,
    ))

pub transcript_is_lines : TranscriptIsLines
transcript_is_lines =
    record {
      loads = loads;
      too_long = too_long;
      lines = lines;
      enough = λ k trace at n s m h. same_rest k (suc (length trace)) trace at n s m (omega (arith, h)) (omega arith) (omega (arith, h)) (omega arith);
      room = room _ (omega arith);
      worked_example = lines worked (omega arith) ∙ worked_lines_lem;
    }
