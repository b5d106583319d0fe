-- `AlongFull`: along a history the board is what is kept of the full one, call by call by `same_board`; the full count is the one that the calls tell. And how
-- far the Rust's 32 bits reach.
use Prim.Native.Nat.{ℕ, ◌+◌, ◌%◌, ◌<◌}
use mathlib.Core.Bool.{Bool}
use mathlib.Core.List.{List}
use mathlib.Core.Path.{◌≡◌, refl, sym, ◌∙◌, ap}
use native.Mathlib.Omega.{arith}
use lib.Dec.{eqb, ltb}
use Rattle.memory.specs.Bytes.{Mem}
use Rattle.memory.proofs.Tests.{split, pick_keeps}
use Rattle.scanline.specs.declared.Detector.{Detector}
use Rattle.scanline.specs.Fetches.{counted_at}
use Rattle.scanline.specs.Steps.{seen_at}
use Rattle.scanline.specs.Tiles.{fold, column_of}
use Rattle.state.specs.declared.PpuStatus.{PpuStatus}
use Rattle.state.specs.declared.State.{State}
use Rattle.state.specs.Gate.{Open, gate_mem}
use Rattle.cpu.specs.Chosen.{chosen, ppu_after}
use Rattle.cpu.specs.Groups.{within}
use Rattle.cpu.specs.Writes.{register_written}
use Rattle.cpu.specs.PpuRegisters.{status_after}
use Rattle.board.specs.Loads.{loaded_state}
use Rattle.board_ppu.specs.Fetch.{pattern_call}
use Rattle.trace.specs.declared.Call.{Call}
use Rattle.trace.specs.declared.Call.TheVariants.{Clock, CpuRead, CpuWrite, PpuRegister, PpuFetch, Reset, PpuWrite}
use Rattle.theorems_scanlines.specs.Machine.{Watched, watched, tiles_by}
use Rattle.theorems_scanlines.specs.Calls.{history_of}
use Rattle.theorems_scanlines.specs.Calls.Played.{at_load, taken}
use Rattle.theorems_scanlines.proofs.Transfer.{run_is}
use Rattle.theorems_histories.specs.Accepted.{refusal}
use Rattle.theorems_histories.specs.Boards.{Board, Made, says, leaves, number}
use Rattle.theorems_histories.specs.Boards.Made.{call, peek, ppu_peek_lem, sprite_peek_lem, mirroring_asked, interrupt_asked, cpu_page, ppu_page}
use Rattle.theorems_histories.specs.Histories.{Load, first, Reached}
use Rattle.theorems_histories.specs.Watching.{view, event}
use Rattle.theorems_histories.proofs.Along.{open_along, at_first, told_along}
use Rattle.theorems_histories.proofs.Behind.{exactly}
use Rattle.theorems_folds.specs.Full.{kept_state, kept_board, full_seen, full_counted, full_called, full_says, full_leaves, full_after}
use Rattle.theorems_folds.specs.Along.{AlongFull, RustReaches}
use Rattle.theorems_folds.proofs.SameLaws.{same_board}

-- What is kept ------------------------------------------------------------------------------------------------------------------------------

-- an accepted call after a history, on a board that is what is kept of a full one
module _ (l : Load) {cs : List Made} {b : Board} (r : Reached l cs b) (full : Board) (e : b ≡ kept_board full) (c : Made) (n : number (says b c) ≡ 0) where
  gate : gate_mem (kept_state full.state) full.mem ≡ Open
  gate = sym (ap (λ (x : Board). gate_mem x.state x.mem) e) ∙ open_along l r

  free : refusal (view full) c ≡ 0
  free = sym (ap (λ (x : Board). refusal (view x) c) e) ∙ sym (exactly b c (open_along l r)) ∙ n

  left_on : leaves b c ≡ kept_board (full_leaves full c)
  left_on = ap (λ (x : Board). leaves x c) e ∙ same_board.left full c gate free

  said_on : says b c ≡ full_says full c
  said_on = ap (λ (x : Board). says x c) e ∙ same_board.said full c gate free

load_kept : (l : Load) → first l ≡ kept_board (first l)
unfolding loaded_state fold
load_kept l = ap (λ (s : State). record { state = s; mem = l.mem }) (at_first l (λ (s : State). s ≡ kept_state s) refl (λ z m. refl))

kept_along : (l : Load) {cs : List Made} {b : Board} → Reached l cs b → b ≡ kept_board (full_after (first l) cs)
unfolding full_after
kept_along l at_load = load_kept l
kept_along l (taken {cs = cs} {s = b} c r t) = t.left ∙ left_on l r (full_after (first l) cs) (kept_along l r) c t.accepted

-- The full count, told by the calls alone ----------------------------------------------------------------------------------------------------

detector : (l : Load) {cs : List Made} {b : Board} → Reached l cs b → view b ≡ (watched (history_of event cs)).detector
detector l {cs} r = told_along l r ∙ run_is (history_of event cs)

-- the choice of a CHR set and a PPU register write leave it
choice_tiles : (p : PpuStatus) (f : Bool) (a : ℕ) → (ppu_after p f a).tile_number ≡ p.tile_number
unfolding ppu_after chosen
choice_tiles p f a =
    let P : PpuStatus → Type 0 = λ (q : PpuStatus). q.tile_number ≡ p.tile_number in
    pick_keeps P (eqb a 0x5101) refl (pick_keeps P (within 0x5120 0x5127 a) refl (pick_keeps P (within 0x5128 0x512B a) refl refl))

register_tiles : (p : PpuStatus) (a v : ℕ) → (status_after p a v).tile_number ≡ p.tile_number
unfolding status_after
register_tiles p a v =
    let P : PpuStatus → Type 0 = λ (q : PpuStatus). q.tile_number ≡ p.tile_number in
    pick_keeps P (eqb a 0x2000) refl (pick_keeps P (eqb a 0x2001) refl refl)

abbrev seen : State → Watched
seen s = record { detector = s.irq; tiles = s.ppu.tile_number }

made_counts : (c : Call) (s : State) (m : Mem) → (full_called c s m).out.state.ppu.tile_number ≡ tiles_by (seen s) (event (call c))
unfolding tiles_by register_written full_counted full_seen seen_at pattern_call chosen
made_counts Clock s m = refl
made_counts (CpuRead a) s m = refl
made_counts (CpuWrite a v) s m = choice_tiles s.ppu s.irq.in_frame a.0
made_counts (PpuRegister a v) s m = register_tiles s.ppu a.0 v
made_counts (PpuFetch a) s m = split (counted_at a.0) (λ t. rw t) (λ t. rw t (split (ltb a.0 0x2000) (λ u. rw u) (λ u. rw u)))
made_counts Reset s m = refl
made_counts (PpuWrite a v) s m = refl

counts_on : (b : Board) (c : Made) → (full_leaves b c).state.ppu.tile_number ≡ tiles_by (seen b.state) (event c)
unfolding full_leaves tiles_by
counts_on b (call c) = made_counts c b.state b.mem
counts_on b (peek a) = refl
counts_on b (ppu_peek_lem a) = refl
counts_on b (sprite_peek_lem a) = refl
counts_on b mirroring_asked = refl
counts_on b interrupt_asked = refl
counts_on b (cpu_page a) = refl
counts_on b (ppu_page a) = refl

load_counts : (l : Load) → (first l).state.ppu.tile_number ≡ 0
unfolding loaded_state
load_counts l = at_first l (λ (s : State). s.ppu.tile_number ≡ 0) refl (λ z m. refl)

-- a detector and a count that are those of w
is_watched : (w : Watched) (d : Detector) (n : ℕ) → d ≡ w.detector → n ≡ w.tiles → record { detector = d; tiles = n } ≡ w
is_watched w d n p q = rw (p, q)

count_along : (l : Load) {cs : List Made} {b : Board} → Reached l cs b → (full_after (first l) cs).state.ppu.tile_number ≡ (watched (history_of event cs)).tiles
unfolding full_after history_of watched
count_along l at_load = load_counts l
count_along l (taken {cs = cs} {s = b} c r t) =
    let full = full_after (first l) cs in
    -- the full board's detector is the board's own
    let d : full.state.irq ≡ (watched (history_of event cs)).detector = sym (ap (λ (x : Board). x.state.irq) (kept_along l r)) ∙ detector l r in
    counts_on full c ∙ ap (λ (w : Watched). tiles_by w (event c)) (is_watched (watched (history_of event cs)) _ _ d (count_along l r))

pub along_full : AlongFull
along_full = record {
  detector = λ l cs b r. detector l r;
  tiles = λ l cs b r. ap (λ (x : Board). x.state.ppu.tile_number) (kept_along l r) ∙ ap fold (count_along l r);
  board = λ l cs b r. kept_along l r;
  counts_on = λ l cs b r. count_along l r;
  said = λ l cs b c r n. said_on l r (full_after (first l) cs) (kept_along l r) c n;
}

-- The Rust's 32 bits ------------------------------------------------------------------------------------------------------------------------

fits : (k : ℕ) → k < 4294967296 → k % 4294967296 ≡ k
fits k p = omega (arith, p)

pub rust_reaches : RustReaches
unfolding column_of
rust_reaches = record { column = λ n p. ap (λ (k : ℕ). k % 42) (fits (n + 2) (omega (arith, p))); raised = λ n p. fits (n + 1) (omega (arith, p)); no_further = (refl, refl) }
