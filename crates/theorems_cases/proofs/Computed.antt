-- The cases hold, by computation, and each is a history.
use Prim.Native.Nat.{ℕ}
use mathlib.Core.List.{List, [], ◌∷◌, map}
use mathlib.Core.Option.{Option, none, some}
use mathlib.Core.Bool.{Bool, true, false, ◌&&◌}
use mathlib.Core.Path.{◌≡◌, refl, ◌∙◌}
use native.Mathlib.Omega.{arith}
use borrow.Author.Tests.{eqb-true}
use lib.Dec.{eqb}
use Rattle.memory.specs.Bytes.{Mem, byte_at, stored_at, page_stored}
use Rattle.memory.specs.Tests.{all}
use Rattle.memory.specs.Tables.{prg_may_hold_as, chr_may_hold_as}
use Rattle.memory.specs.PageWords.{word_number, page_of}
use Rattle.memory.specs.Windows.{page_start, window_page}
use Rattle.memory.proofs.Tests.{split, and_left, and_right}
use Rattle.answers.specs.declared.Answer.TheVariants.{Nothing}
use Rattle.answers.specs.declared.Refusal.TheVariants.{Prg, Chr, Ram}
use Rattle.registers.specs.declared.Mirroring.{Mirroring}
use Rattle.registers.specs.declared.Mirroring.TheVariants.{Horizontal}
use Rattle.registers.specs.Registers.{written, regs_ok}
use Rattle.banks.specs.Placed.{placed}
use Rattle.banks.specs.Prg.{prg_values, prg_value_pages, exram_page}
use Rattle.banks.specs.Chr.{window_pages, chr_number, chr_mapped}
use Rattle.banks.specs.Names.{selector, name_page, names_mapped}
use Rattle.scanline.specs.Tiles.{next_tile, tiles_ok, sprite_fetch, is_first, is_prefetched, column_of}
use Rattle.scanline.specs.Ranges.{line_refused, counter_refused, detector_ok}
use Rattle.scanline.specs.Clock.{tick}
use Rattle.scanline.specs.Steps.{again, matches_after, is_line, meets, seen_at}
use Rattle.split.specs.Region.{side_at, region_at, split_address, after_name}
use Rattle.state.specs.Gate.{same_lengths, gate_of}
use Rattle.state.specs.Lengths.{lengths_ok}
use Rattle.state.specs.Ranges.{in_range}
use Rattle.cpu.specs.Chosen.{chosen, ppu_after}
use Rattle.cpu.specs.Groups.{split_after, irq_after, prg_banks_after, chr_banks_after}
use Rattle.cpu.specs.Reads.{page_answer, register_at, register_read, irq_read, cpu_answer}
use Rattle.cpu.specs.Writes.{prg_pages_after, chr_pages_after, register_written, latched, cpu_stored}
use Rattle.cpu.specs.PpuRegisters.{status_after, detector_after}
use Rattle.ppu.specs.Cache.{cache_after}
use Rattle.ppu.specs.Served.{counted_served}
use Rattle.board.specs.Loads.{loaded_state, load_call}
use Rattle.board.specs.CpuSide.{cpu_read, cpu_write}
use Rattle.board.specs.StateCalls.{clock_call, ppu_register_call}
use Rattle.board_ppu.specs.Fetch.{counted_call, ppu_fetch}
use Rattle.board_ppu.specs.Peeks.{chr_answer}
use Rattle.theorems_scanlines.specs.Calls.Played.{at_load, taken}
use Rattle.theorems_promises.specs.Loading.{good_prg, good_chr, good_ram}
use Rattle.theorems_promises.proofs.Loadings.{load_refusals}
use Rattle.theorems_histories.specs.Boards.{Made, says, leaves, board_after, number, number_in}
use Rattle.theorems_histories.specs.Histories.{Load, first, Reached}
use Rattle.theorems_histories.specs.Shorthand.{in_turn}
use Rattle.theorems_cases.specs.Edges.{lent, start, load_accepted, accepted, seen, comes, edges, shut_out_cases, Edges, ShutOut, onto, CasesAreHistories}
use Rattle.theorems_histories.proofs.Behind.{no_zero}

-- What the cases come to.
abbrev all_some : List ℕ → List (Option ℕ)
all_some l = map some l

come : (map comes edges ≡ all_some (159 ∷ 1 ∷ 254 ∷ 1 ∷ 64 ∷ 64 ∷ 64 ∷ 192 ∷ 64 ∷ 64 ∷ 0 ∷ 0 ∷ 9 ∷ 6 ∷ 6 ∷ 959 ∷ 928 ∷ [])) × (map comes shut_out_cases ≡ all_some (1 ∷ 254 ∷ 7 ∷ 7 ∷ 63 ∷ 5 ∷ 192 ∷ 64 ∷ 192 ∷ []))
unfolding next_tile tiles_ok sprite_fetch is_first is_prefetched column_of line_refused counter_refused detector_ok tick again matches_after is_line meets seen_at byte_at stored_at page_stored all prg_may_hold_as chr_may_hold_as word_number page_of page_start window_page written regs_ok placed prg_values prg_value_pages exram_page window_pages chr_number chr_mapped selector name_page names_mapped same_lengths gate_of lengths_ok in_range side_at region_at split_address after_name chosen ppu_after split_after irq_after prg_banks_after chr_banks_after page_answer register_at register_read irq_read cpu_answer prg_pages_after chr_pages_after register_written latched cpu_stored cache_after counted_served loaded_state load_call cpu_read cpu_write clock_call status_after detector_after ppu_register_call counted_call ppu_fetch chr_answer says leaves number comes board_after load_accepted accepted onto seen in_turn
come = (refl, refl)

-- These are the values that are asked for.
pub edges_hold : Edges
edges_hold = come.0 ∙ refl

pub shut_out : ShutOut
shut_out = come.1 ∙ refl

-- A load with no refusal is accepted.
load_accepted_lem : (m : Mem) (as_ram : Bool) (mirroring : Mirroring) → number_in (load_call m as_ram mirroring).answer ≡ 0 → (load_call m as_ram mirroring).answer ≡ Nothing
unfolding load_call
load_accepted_lem m as_ram mirroring n =
    split (good_prg m)
    (λ p. split (good_chr m)
    (λ c. split (good_ram m) (λ r. load_refusals.accepted m as_ram mirroring p c r) (λ r. no_zero Ram (rw (p, c, r) at n)))
    (λ c. no_zero Chr (rw (p, c) at n)))
    (λ p. no_zero Prg (rw p at n))

-- Calls on top of a history, each accepted.
goes_on : (l : Load) (hs cs : List Made) → let b = board_after (first l) hs in Reached l hs b → accepted b cs ≡ true → Reached l (onto cs hs) (board_after (first l) (onto cs hs))
unfolding accepted board_after onto
goes_on l hs [] r e = r
goes_on l hs (c ∷ cs) r e =
    let b = board_after (first l) hs in
    goes_on l (c ∷ hs) cs
    (taken c r (record { accepted = eqb-true _ 0 (and_left _ (accepted (leaves b c) cs) e); left = refl }))
    (and_right (eqb (number (says b c)) 0) (accepted (leaves b c) cs) e)

none_is_not : {v : ℕ} {A : Type 0} → ◌≡◌ {A = Option ℕ} none (some v) → A
none_is_not e = let z : ◌≡◌ {A = ℕ} 0 1 = cc in absurd (omega arith)

pub cases_are_histories : CasesAreHistories
unfolding comes load_accepted board_after
cases_are_histories c v e =
    split (load_accepted c && accepted (start c) c.calls)
    (λ t.
    let l : Load = record { mem = lent c; as_ram = false; mirroring = Horizontal; accepted = load_accepted_lem (lent c) false Horizontal (eqb-true _ 0 (and_left (load_accepted c) _ t)) } in
    record { load = l; lends = refl; calls = goes_on l [] c.calls at_load (and_right (load_accepted c) (accepted (start c) c.calls) t) })
    (λ t. none_is_not (rw t at e))
