-- `SameBoard`: each look by `four_looks`, the count that is raised by `turns`, and the calls by what they do behind an open gate.
use Prim.Native.Nat.{ℕ}
use mathlib.Core.Bool.{Bool}
use mathlib.Core.List.{List}
use mathlib.Core.Path.{◌≡◌, refl, sym, ◌∙◌, ap}
use native.Mathlib.Omega.{arith}
use lib.Dec.{eqb, leb, ltb}
use Rattle.memory.specs.Bytes.{Mem}
use Rattle.memory.proofs.Tests.{split}
use Rattle.answers.specs.declared.Answer.{Answer}
use Rattle.registers.specs.declared.Regs.{Regs}
use Rattle.scanline.specs.declared.Detector.{Detector}
use Rattle.scanline.specs.Fetches.{counted_at, name_at}
use Rattle.scanline.specs.Tiles.{fold, raised_by, left_after}
use Rattle.scanline.proofs.FoldLaws.{turns, four_looks}
use Rattle.split.specs.declared.VSplit.{VSplit}
use Rattle.state.specs.declared.PpuStatus.{PpuStatus}
use Rattle.state.specs.declared.State.{State}
use Rattle.state.specs.Gate.{Open, gate_mem}
use Rattle.cpu.specs.Chosen.{chosen, ppu_after}
use Rattle.cpu.specs.Groups.{within}
use Rattle.cpu.specs.Reads.{cpu_answer, audio_read}
use Rattle.cpu.specs.Writes.{register_written, cpu_stored}
use Rattle.cpu.specs.PpuRegisters.{status_after}
use Rattle.ppu.specs.Cache.{cache_after}
use Rattle.ppu.specs.Fetches.{ppu_seen, split_seen}
use Rattle.ppu.specs.Served.{counted_served, pattern_served}
use Rattle.board.specs.declared.Outcome.{Outcome}
use Rattle.board.specs.CpuSide.{cpu_peek}
use Rattle.board.specs.Outcomes.{outcome, After, after_of}
use Rattle.board.specs.StateCalls.{mirroring_call, interrupt_call}
use Rattle.board_ppu.specs.Fetch.{counted_call, pattern_pages, pattern_call}
use Rattle.board_ppu.specs.Peeks.{ppu_peek, sprite_peek}
use Rattle.board_ppu.proofs.Made.{counted_by_groups}
use Rattle.views.specs.Views.{cpu_view, ppu_view}
use Rattle.trace.specs.declared.Call.{Call}
use Rattle.trace.specs.declared.Call.TheVariants.{Clock, CpuRead, CpuWrite, PpuRegister, PpuFetch, Reset, PpuWrite}
use Rattle.calls.specs.Called.{called}
use Rattle.theorems_scanlines.specs.Machine.{raised_full}
use Rattle.theorems_promises.proofs.Gates.{in_range_of}
use Rattle.theorems_histories.specs.Accepted.{refusal}
use Rattle.theorems_histories.specs.Boards.{Board, Made, says, leaves}
use Rattle.theorems_histories.specs.Boards.Made.{call, peek, ppu_peek_lem, sprite_peek_lem, mirroring_asked, interrupt_asked, cpu_page, ppu_page}
use Rattle.theorems_histories.specs.Boards.Said.{answers}
use Rattle.theorems_histories.specs.Watching.{view}
use Rattle.theorems_histories.proofs.Behind.{fetched, done, unmet, is_done}
use Rattle.theorems_folds.specs.Full.{kept_status, kept_state, kept_board, full_seen, full_counted, full_fetch, full_called, full_peek, full_says, full_leaves}
use Rattle.theorems_folds.specs.Same.{SameBoard}

-- The count -------------------------------------------------------------------------------------------------------------------------------

-- the fold of a count that a name fetch raised, and of one that the run zeroed
raised : (n a : ℕ) → raised_by (fold n) a ≡ fold (raised_full n a)
raised n a = split (name_at a) (λ t. rw t (sym (turns.next n))) (λ t. rw t)

left : (m n : ℕ) → left_after m (fold n) ≡ fold (left_after m n)
left m n = split (leb 2 m) (λ t. rw t (sym (turns.exact 0 (omega arith)))) (λ t. rw t)

-- What looks at it --------------------------------------------------------------------------------------------------------------------------

cache : (g : Regs) (cached n a : ℕ) → cache_after g cached (fold n) a ≡ cache_after g cached n a
unfolding cache_after
cache g cached n a = rw (four_looks.sprite_fetch_call n)

split_same : (g : Regs) (v : VSplit) (d : Detector) (n a : ℕ) → split_seen g v d (fold n) a ≡ split_seen g v d n a
unfolding split_seen
split_same g v d n a = rw (four_looks.column n, four_looks.forty n, four_looks.forty_two n)

counted : (g : Regs) (v : VSplit) (framed : Bool) (p : PpuStatus) (exram : List ℕ) (a : ℕ) (page : Answer)
    → counted_served g v framed (kept_status p) exram a page ≡ counted_served g v framed p exram a page
unfolding counted_served
counted g v framed p exram a page = rw (four_looks.sprite_fetch_call p.tile_number)

pattern : (g : Regs) (v : VSplit) (d : Detector) (p : PpuStatus) (exram chr : List ℕ) (a : ℕ) (page : Answer)
    → pattern_served g v d (kept_status p) exram chr a page ≡ pattern_served g v d p exram chr a page
unfolding pattern_served
pattern g v d p exram chr a page = rw (four_looks.forty p.tile_number, four_looks.sprite_fetch_call p.tile_number)

-- What leaves a status --------------------------------------------------------------------------------------------------------------------

choice : (p : PpuStatus) (framed : Bool) → chosen (kept_status p) framed ≡ kept_status (chosen p framed)
unfolding chosen
choice p framed = rw (four_looks.sprite_fetch_call p.tile_number)

write : (p : PpuStatus) (framed : Bool) (a : ℕ) → ppu_after (kept_status p) framed a ≡ kept_status (ppu_after p framed a)
unfolding ppu_after chosen
write p framed a = rw (four_looks.sprite_fetch_call p.tile_number)
    (split (eqb a 0x5101) (λ t. rw t)
    (λ t. rw t (split (within 0x5120 0x5127 a) (λ u. rw u)
    (λ u. rw u (split (within 0x5128 0x512B a) (λ w. rw w) (λ w. rw w))))))

register : (p : PpuStatus) (a v : ℕ) → status_after (kept_status p) a v ≡ kept_status (status_after p a v)
unfolding status_after
register p a v = split (eqb a 0x2000) (λ t. rw t) (λ t. rw t (split (eqb a 0x2001) (λ u. rw u) (λ u. rw u)))

seen : (g : Regs) (m : ℕ) (p : PpuStatus) (a : ℕ) → ppu_seen g m (kept_status p) a ≡ kept_status (full_seen g m p a)
unfolding ppu_seen full_seen
seen g m p a = let n = p.tile_number in rw (raised n a, left m (raised_full n a), cache g p.tile_cache (raised_full n a) a)

-- The calls ---------------------------------------------------------------------------------------------------------------------------------

abbrev kept_outcome : Outcome → Outcome
kept_outcome o = outcome o.answer (kept_state o.state)

counted_fetch : (s : State) (m : Mem) (a : ℕ) → counted_call (kept_state s) m a ≡ kept_outcome (full_counted s m a)
unfolding full_counted
counted_fetch s m a = rw (counted_by_groups (kept_state s) m a, seen s.regs _ s.ppu a, split_same s.regs s.vsplit _ _ a, counted s.regs _ _ _ m.exram a _)

pattern_fetch : (s : State) (m : Mem) (a : ℕ) → pattern_call (kept_state s) m a ≡ kept_outcome (pattern_call s m a)
unfolding pattern_call pattern_pages
pattern_fetch s m a = rw (choice s.ppu s.irq.in_frame, pattern s.regs s.vsplit s.irq _ m.exram m.chr a _)

fetch : (s : State) (m : Mem) (a : ℕ) → fetched (kept_state s) m a ≡ kept_outcome (full_fetch s m a)
fetch s m a =
    split (counted_at a) (λ t. rw t (counted_fetch s m a))
    (λ t. rw t (split (ltb a 0x2000) (λ u. rw u (pattern_fetch s m a)) (λ u. rw u)))

abbrev kept_after : After → After
kept_after x = after_of (kept_outcome x.out) x.mem

same_done : (c : Call) (s : State) (m : Mem) → done c (kept_state s) m ≡ kept_after (full_called c s m)
unfolding cpu_answer register_written cpu_stored
same_done Clock s m = refl
same_done (CpuRead a) s m = refl
same_done (CpuWrite a v) s m = rw (write s.ppu s.irq.in_frame a.0)
same_done (PpuRegister a v) s m = rw (register s.ppu a.0 v)
same_done (PpuFetch a) s m = ap (λ (o : Outcome). after_of o m) (fetch s m a.0)
same_done Reset s m = refl
same_done (PpuWrite a v) s m = refl

peeked : (s : State) (m : Mem) (a : ℕ) → gate_mem (kept_state s) m ≡ Open → ppu_peek (kept_state s) m a ≡ full_peek s m a
unfolding ppu_peek
peeked s m a h = rw (h, counted s.regs s.vsplit s.irq.in_frame s.ppu m.exram a _, pattern s.regs s.vsplit s.irq s.ppu m.exram m.chr a _)

module _ (b : Board) (h : gate_mem (kept_state b.state) b.mem ≡ Open) where
  made : (c : Call) → refusal (view b) (call c) ≡ 0 → called c (kept_state b.state) b.mem ≡ kept_after (full_called c b.state b.mem)
  made c e = is_done (kept_board b) c h e ∙ same_done c b.state b.mem

  said : (c : Made) → refusal (view b) c ≡ 0 → says (kept_board b) c ≡ full_says b c
  unfolding says full_says refusal cpu_answer cpu_peek sprite_peek mirroring_call interrupt_call cpu_view ppu_view
  said (call c) e = ap (λ (x : After). answers x.out.answer) (made c e)
  said (peek a) e = rw (h, unmet (audio_read a.0) 5 e)
  said (ppu_peek_lem a) e = ap answers (peeked b.state b.mem a.0 h)
  said (sprite_peek_lem a) e = rw h
  said mirroring_asked e = rw (in_range_of (kept_state b.state) b.mem h)
  said interrupt_asked e = rw (in_range_of (kept_state b.state) b.mem h)
  said (cpu_page a) e = rw h
  said (ppu_page a) e = rw h

  left_kept : (c : Made) → refusal (view b) c ≡ 0 → leaves (kept_board b) c ≡ kept_board (full_leaves b c)
  unfolding leaves full_leaves
  left_kept (call c) e = ap (λ (x : After). record { state = x.out.state; mem = x.mem }) (made c e)
  left_kept (peek a) e = refl
  left_kept (ppu_peek_lem a) e = refl
  left_kept (sprite_peek_lem a) e = refl
  left_kept mirroring_asked e = refl
  left_kept interrupt_asked e = refl
  left_kept (cpu_page a) e = refl
  left_kept (ppu_page a) e = refl

pub same_board : SameBoard
same_board = record {
  cache = cache;
  split = split_same;
  counted = counted;
  pattern = pattern;
  choice = choice;
  write = write;
  register = register;
  seen = seen;
  said = λ b c h e. said b h c e;
  left = λ b c h e. left_kept b h c e;
}
