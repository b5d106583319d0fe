-- The state fits along every history whose calls are in range, and the records of a trace are.
use Prim.Native.Nat.{ℕ, zero, suc, ◌+◌}
use mathlib.Core.Bool.{Bool, false, not}
use mathlib.Core.List.{List, [], ◌∷◌, ◌++◌, map}
use mathlib.Core.Path.{refl, sym, ◌∙◌, subst}
use native.Mathlib.Omega.{arith}
use lib.Dec.{ltb}
use lib.ListN.{length, replicate}
use Rattle.memory.specs.Bytes.{Mem}
use Rattle.memory.specs.PageWords.{word}
use Rattle.memory.proofs.Tests.{pick_keeps}
use Rattle.registers.specs.declared.Mirroring.{Mirroring}
use Rattle.registers.specs.Registers.{regs_at_load}
use Rattle.banks.proofs.PlacedLaws.{length_placed}
use Rattle.state.specs.declared.Lengths.{Lengths}
use Rattle.state.specs.declared.State.{State}
use Rattle.state.specs.Lengths.{prg_taken, chr_taken, ram_taken}
use Rattle.board.specs.declared.Outcome.{Outcome}
use Rattle.board.specs.Loads.{zero_state, loaded_state, load_call}
use Rattle.trace.specs.declared.Call.{Call}
use Rattle.trace.specs.Promise.{InRange}
use Rattle.trace.specs.Records.{record_at}
use Rattle.trace.proofs.RecordLaws.{record_sound}
use Rattle.theorems_scanlines.specs.Calls.Played.{at_load, taken}
use Rattle.player.proofs.Ways.{by_found}
use Rattle.transcript.proofs.SmallLoad.{load_small}
use Rattle.theorems_histories.specs.Boards.{Board, Made, leaves}
use Rattle.theorems_histories.specs.Boards.Made.{call, peek, ppu_peek_lem, sprite_peek_lem, mirroring_asked, interrupt_asked, cpu_page, ppu_page}
use Rattle.theorems_histories.specs.Histories.{Load, Reached, first}
use Rattle.theorems_histories.specs.Replays.{records_to}
use Rattle.host_state.specs.Fits.{Fits}
use Rattle.theorems_host.specs.Numbers.{AllInRange}
use Rattle.theorems_host.specs.Served.{place_of_number, calls_of_number}
use Rattle.theorems_host.proofs.FitKept.{FitIrq, Long, fits, groups, called_fits, length_chr, length_names}

-- Load -----------------------------------------------------------------------------------------------------------------------------------

-- What `load_small` does not say.
record Begun (s : State) : Type 0 where
  irq : FitIrq s.irq
  prg_banks : Long 5 s.prg_banks
  chr_banks : Long 16 s.chr_banks
  prg_pages : Long 64 s.prg_pages
  chr_pages : Long 16 s.chr_pages

zero_begun : Begun zero_state
zero_begun = record { irq = record { match_count = omega arith; irq_scanline = omega arith; prev_addr = omega arith }; prg_banks = refl; chr_banks = refl; prg_pages = refl; chr_pages = refl }

loaded_begun : (z : Lengths) (k : Mirroring) → Begun (loaded_state z k)
unfolding loaded_state
loaded_begun z k =
    record {
      irq = record { match_count = omega arith; irq_scanline = omega arith; prev_addr = omega arith };
      prg_banks = refl;
      chr_banks = refl;
      prg_pages = length_placed (replicate 64 (word 0)) 24 _ 40;
      chr_pages = length_names 0 false _ ∙ length_chr z.chr z.chr_writable regs_at_load (replicate 16 0) false (replicate 16 (word 0));
    }

abbrev LoadBegun : Outcome → Type 0
LoadBegun o = Begun o.state

load_begun : (m : Mem) (ram : Bool) (k : Mirroring) → LoadBegun (load_call m ram k)
unfolding load_call
load_begun m ram k =
    pick_keeps LoadBegun (not (prg_taken (length m.prg))) zero_begun
    (pick_keeps LoadBegun (not (chr_taken (length m.chr))) zero_begun
    (pick_keeps LoadBegun (not (ram_taken (length m.ram) (length m.ciram) (length m.exram))) zero_begun (loaded_begun _ k)))

pub first_fits : (l : Load) → Fits (first l).state
first_fits l =
    let s = load_small l.mem l.as_ram l.mirroring in
    let b = load_begun l.mem l.as_ram l.mirroring in
    fits (first l).state
    (record {
      regs = record { nametables = omega (arith, s.regs.nametables); fill_tile = omega (arith, s.regs.fill_tile); multiplicand = omega (arith, s.regs.multiplicand); multiplier = omega (arith, s.regs.multiplier) };
      split = s.split;
      irq = b.irq;
      prg_banks = (b.prg_banks, s.prg_banks);
      chr_banks = (b.chr_banks, s.chr_banks);
      prg_pages = b.prg_pages;
      chr_pages = b.chr_pages;
    })

-- Calls ----------------------------------------------------------------------------------------------------------------------------------

pub call_fits : (b : Board) (c : Call) → InRange c → Fits b.state → Fits (leaves b (call c)).state
unfolding leaves
call_fits b c r h = fits _ (called_fits c b.state b.mem r (groups b.state h))

fits_after : (b : Board) (c : Made) (cs : List Made) → AllInRange (c ∷ cs) → (AllInRange cs → Fits b.state) → Fits (leaves b c).state
unfolding AllInRange leaves
fits_after b (call c) cs g s = call_fits b c g.0 (s g.1)
fits_after b (peek a) cs g s = s g
fits_after b (ppu_peek_lem a) cs g s = s g
fits_after b (sprite_peek_lem a) cs g s = s g
fits_after b mirroring_asked cs g s = s g
fits_after b interrupt_asked cs g s = s g
fits_after b (cpu_page a) cs g s = s g
fits_after b (ppu_page a) cs g s = s g

pub reached_fits : (l : Load) {cs : List Made} {b : Board} → Reached l cs b → AllInRange cs → Fits b.state
reached_fits l at_load g = first_fits l
reached_fits l (taken {cs = cs} {s = b} c r t) g = subst (λ (x : Board). Fits x.state) (sym t.left) (fits_after b c cs g (λ k. reached_fits l r k))

-- Calls in range -------------------------------------------------------------------------------------------------------------------------

pub both_in_range : (xs cs : List Made) → AllInRange xs → AllInRange cs → AllInRange (xs ++ cs)
unfolding AllInRange
both_in_range [] cs g k = k
both_in_range (call c ∷ xs) cs g k = (g.0, both_in_range xs cs g.1 k)
both_in_range (peek a ∷ xs) cs g k = both_in_range xs cs g k
both_in_range (ppu_peek_lem a ∷ xs) cs g k = both_in_range xs cs g k
both_in_range (sprite_peek_lem a ∷ xs) cs g k = both_in_range xs cs g k
both_in_range (mirroring_asked ∷ xs) cs g k = both_in_range xs cs g k
both_in_range (interrupt_asked ∷ xs) cs g k = both_in_range xs cs g k
both_in_range (cpu_page a ∷ xs) cs g k = both_in_range xs cs g k
both_in_range (ppu_page a ∷ xs) cs g k = both_in_range xs cs g k

abbrev pub CallsInRange : List Call → Type 0
CallsInRange cs = AllInRange (map call cs)

pub records_in_range : (k : ℕ) (trace : List ℕ) (place at : ℕ) (cs : List Call) → CallsInRange cs → CallsInRange (records_to k trace place at cs)
unfolding AllInRange records_to
records_in_range zero trace place at cs h = h
records_in_range (suc k) trace place at cs h =
    pick_keeps CallsInRange (ltb at place)
    (by_found CallsInRange (record_at trace at) cs _ _ (λ e. h) (λ why e. h) (λ c next e. records_in_range k trace place next (c ∷ cs) ((record_sound trace at c next e).in_range, h)))
    h

pub heard_in_range : (trace : List ℕ) (n : ℕ) → AllInRange (map call (calls_of_number trace n))
unfolding AllInRange
heard_in_range trace n = records_in_range (length trace + 1) trace (place_of_number trace n) 0 [] tt
