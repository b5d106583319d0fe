-- Every call of a history is one that the library's contracts allow: lent the words of a state, it tells what `hears` says and leaves the words of
-- what `leaves` says.
use Prim.Native.Nat.{ℕ, zero, suc}
use mathlib.Core.Bool.{Bool, true, false, not}
use mathlib.Core.List.{List, [], ◌∷◌}
use mathlib.Core.Path.{◌≡◌, refl, sym, ◌∙◌, ap, subst}
use contract.Lifetimes.{Lfts}
use lib.Dec.{eqb}
use lib.ListN.{length, replicate, length-replicate}
use Rattle.std.specs.Borrow.{Bor, MutBor}
use Rattle.memory.specs.Bytes.{Mem}
use Rattle.memory.specs.Bits.{as_bit}
use Rattle.registers.specs.declared.Mirroring.{Mirroring}
use Rattle.registers.specs.declared.Mirroring.TheVariants.{Horizontal, Vertical, SingleScreenA, SingleScreenB, FourScreen}
use Rattle.state.specs.declared.State.{State}
use Rattle.state.specs.Gate.{Open, gate_mem}
use Rattle.board.specs.declared.Outcome.{Outcome}
use Rattle.board.specs.Outcomes.{After}
use Rattle.board.specs.CpuSide.{cpu_read, cpu_peek, cpu_write}
use Rattle.board.specs.Loads.{load_call}
use Rattle.board.specs.StateCalls.{reset_call, clock_call, ppu_register_call, mirroring_call, interrupt_call}
use Rattle.board_ppu.specs.Fetch.{ppu_fetch}
use Rattle.board_ppu.specs.Peeks.{ppu_write, ppu_peek, sprite_peek}
use Rattle.views.specs.Views.{cpu_view, ppu_view}
use Rattle.trace.specs.declared.Call.TheVariants.{Clock, CpuRead, CpuWrite, PpuRegister, PpuFetch, Reset, PpuWrite}
use Rattle.calls.specs.Called.{over_lent}
use Rattle.calls.specs.Lent.{MemoryThen}
use Rattle.host_answers.specs.Answers.{answer_plain, answer_with_interrupt, answer_mirroring, answer_interrupt}
use Rattle.host_state.specs.Words.{mirroring_numbered, number_of_mirroring, words_of}
use Rattle.host.specs.Hosted.{left_memory}
use Rattle.host_looks.specs.Pages.{copied}
use Rattle.theorems_histories.specs.Boards.{Board, Made, says, leaves}
use Rattle.theorems_histories.specs.Boards.Made.{call, peek, ppu_peek_lem, sprite_peek_lem, mirroring_asked, interrupt_asked, cpu_page, ppu_page}
use Rattle.theorems_host.specs.Held.{Held, held, held_of, exchange, looking, WordsThen, Lent, LentToChange, LentToLook}
use Rattle.theorems_host.specs.Held.Hearing.{number, bytes}
use Rattle.theorems_host.specs.Calls.{loading, Loads, Calls}
use Rattle.theorems_host.specs.Served.{plainly, with_interrupt, hears}
use Rattle.theorems_host.proofs.Pages.{copied_whole, cpu_page_whole, ppu_page_whole}
use Rattle.theorems_host.proofs.Roms.{write_rom, store_rom}
use Rattle.theorems_host.proofs.Backs.{clock_back, reset_back, register_back, read_back, fetch_back, write_back, store_back}
use Rattle.theorems_host.proofs.Stands.{Sound, on_words_lem, on_memory_lem, look_on_lem, copy_on_lem}
use Rattle.theorems_host.proofs.Steps.{over_lent_lem}

-- Something lent to be read or to be changed, for some lifetimes.
abbrev lend : {X : Type 0} → X → Bor X
lend x = record { ref_ptr = (0, 0); now = x }

abbrev lend_to_change : {X : Type 0} → X → MutBor X
lend_to_change x = record { ref_ptr = (0, 0); ghost_name = 0; now = x }

abbrev lifetimes : (n : ℕ) → Lfts n
lifetimes zero = tt
lifetimes (suc n) = ([], lifetimes n)

abbrev lend_words : {X : Type 0} → List ℕ → X → WordsThen X
lend_words w x = (lend_to_change w, x)

abbrev lend_memory : {X : Type 0} → Mem → X → MemoryThen X
lend_memory m x = (lend m.prg, (lend m.chr, (lend m.ram, (lend m.ciram, (lend m.exram, x)))))

abbrev lend_all : {X : Type 0} → Held → X → Lent X
lend_all h x = lend_words h.words (lend_memory h.mem x)

abbrev lend_all_to_change : {X : Type 0} → Held → X → LentToChange X
lend_all_to_change h x = lend_words h.words (lend h.mem.prg, (lend_to_change h.mem.chr, (lend_to_change h.mem.ram, (lend_to_change h.mem.ciram, (lend_to_change h.mem.exram, x)))))

abbrev lend_all_to_look : {X : Type 0} → Held → X → LentToLook X
lend_all_to_look h x = (lend h.words, lend_memory h.mem x)

-- Room for a page.
room : List ℕ
room = replicate 1024 0

room_for : length room ≡ 1024
unfolding room
room_for = length-replicate {A = ℕ} 1024 0

-- A call on the state alone is the board's where the buffers are as recorded.
alone : (c : Made) (b : Board) (o : Outcome) → gate_mem b.state b.mem ≡ Open → Calls c (held_of b) (number (answer_with_interrupt o.answer o.state.irq)) (held (words_of o.state) b.mem)
    → let x = over_lent b.state b.mem o in Calls c (held_of b) (number (answer_with_interrupt x.out.answer x.out.state.irq)) (held (words_of x.out.state) x.mem)
alone c b o g p =
    subst (λ (x : After). Calls c (held_of b) (number (answer_with_interrupt x.out.answer x.out.state.irq)) (held (words_of x.out.state) x.mem)) (over_lent_lem b.state b.mem o g) p

-- Behind an open gate.
pub lends : (b : Board) → Sound b.state → gate_mem b.state b.mem ≡ Open → (c : Made) → Calls c (held_of b) (hears b c) (held_of (leaves b c))
unfolding Calls hears with_interrupt plainly says leaves
lends b u g (call Clock) =
    alone (call Clock) b (clock_call b.state) g
    (lifetimes 1, lend_words (words_of b.state) tt, _, lend_words (words_of (clock_call b.state).state) tt, sym (on_words_lem b.state clock_call u (clock_back b.state)), refl)
lends b u g (call Reset) =
    alone (call Reset) b (reset_call b.state) g
    (lifetimes 1, lend_words (words_of b.state) tt, _, lend_words (words_of (reset_call b.state).state) tt, sym (on_words_lem b.state reset_call u (reset_back b.state)), refl)
lends b u g (call (PpuRegister a v)) =
    alone (call (PpuRegister a v)) b (ppu_register_call b.state a.0 v) g (
      lifetimes 1,
      lend_words (words_of b.state) (a.0, (v, tt)),
      _,
      lend_words (words_of (ppu_register_call b.state a.0 v).state) (a.0, (v, tt)),
      sym (on_words_lem b.state (λ (s : State). ppu_register_call s a.0 v) u (register_back b.state a.0 v)),
      refl,
    )
lends b u g (call (CpuRead a)) =
    (lifetimes 6, lend_all (held_of b) (a.0, tt), _, lend_all (held_of (leaves b (call (CpuRead a)))) (a.0, tt), sym (on_words_lem b.state (λ (s : State). cpu_read s b.mem a.0) u (read_back b.state b.mem a.0)), refl)
lends b u g (call (PpuFetch a)) =
    (lifetimes 6, lend_all (held_of b) (a.0, tt), _, lend_all (held_of (leaves b (call (PpuFetch a)))) (a.0, tt), sym (on_words_lem b.state (λ (s : State). ppu_fetch s b.mem a.0) u (fetch_back b.state b.mem a.0)), refl)
lends b u g (call (CpuWrite a v)) = (
  lifetimes 6,
  lend_all_to_change (held_of b) (a.0, (v, tt)),
  _,
  lend_all_to_change (held_of (leaves b (call (CpuWrite a v)))) (a.0, (v, tt)),
  ap (left_memory _ _) (write_rom b.state b.mem a.0 v) ∙ sym (on_memory_lem b.state b.mem (λ (s : State). cpu_write s b.mem a.0 v) u (write_back b.state b.mem a.0 v)),
  ap (λ (m : Mem). exchange (a.0 ∷ v ∷ []) (held_of b) (hears b (call (CpuWrite a v))) (held (words_of (leaves b (call (CpuWrite a v))).state) m)) (write_rom b.state b.mem a.0 v),
)
lends b u g (call (PpuWrite a v)) = (
  lifetimes 6,
  lend_all_to_change (held_of b) (a.0, (v, tt)),
  _,
  lend_all_to_change (held_of (leaves b (call (PpuWrite a v)))) (a.0, (v, tt)),
  ap (left_memory _ _) (store_rom b.state b.mem a.0 v) ∙ sym (on_memory_lem b.state b.mem (λ (s : State). ppu_write s b.mem a.0 v) u (store_back b.state b.mem a.0 v)),
  ap (λ (m : Mem). exchange (a.0 ∷ v ∷ []) (held_of b) (hears b (call (PpuWrite a v))) (held (words_of (leaves b (call (PpuWrite a v))).state) m)) (store_rom b.state b.mem a.0 v),
)
lends b u g (peek a) = (lifetimes 6, lend_all_to_look (held_of b) (a.0, tt), _, lend_all_to_look (held_of b) (a.0, tt), sym (look_on_lem b.state answer_plain (λ (s : State). cpu_peek s b.mem a.0) u), refl)
lends b u g (ppu_peek_lem a) = (lifetimes 6, lend_all_to_look (held_of b) (a.0, tt), _, lend_all_to_look (held_of b) (a.0, tt), sym (look_on_lem b.state answer_plain (λ (s : State). ppu_peek s b.mem a.0) u), refl)
lends b u g (sprite_peek_lem a) = (lifetimes 6, lend_all_to_look (held_of b) (a.0, tt), _, lend_all_to_look (held_of b) (a.0, tt), sym (look_on_lem b.state answer_plain (λ (s : State). sprite_peek s b.mem a.0) u), refl)
lends b u g mirroring_asked = (lifetimes 1, (lend (words_of b.state), tt), _, (lend (words_of b.state), tt), sym (look_on_lem b.state answer_mirroring mirroring_call u), refl)
lends b u g interrupt_asked = (lifetimes 1, (lend (words_of b.state), tt), _, (lend (words_of b.state), tt), sym (look_on_lem b.state answer_interrupt interrupt_call u), refl)
lends b u g (cpu_page a) =
    let c = copied (cpu_view b.state b.mem a.0) room in (
      lifetimes 6,
      lend_all_to_look (held_of b) (a.0, (lend_to_change room, tt)),
      c.count,
      lend_all_to_look (held_of b) (a.0, (lend_to_change c.bytes, tt)),
      (sym (copy_on_lem b.state (λ (s : State). cpu_view s b.mem a.0) room u), room_for),
      ap (λ (l : List ℕ). looking (a.0 ∷ []) (held_of b) (bytes l)) (copied_whole (cpu_page_whole b.state b.mem a.0) room room_for),
    )
lends b u g (ppu_page a) =
    let c = copied (ppu_view b.state b.mem a.0) room in (
      lifetimes 7,
      lend_all_to_look (held_of b) (a.0, (lend_to_change room, tt)),
      c.count,
      lend_all_to_look (held_of b) (a.0, (lend_to_change c.bytes, tt)),
      (sym (copy_on_lem b.state (λ (s : State). ppu_view s b.mem a.0) room u), room_for),
      ap (λ (l : List ℕ). looking (a.0 ∷ []) (held_of b) (bytes l)) (copied_whole (ppu_page_whole b.state b.mem a.0) room room_for),
    )

-- A load, by the numbers for its two settings.
writable_back : (b : Bool) → not (eqb (as_bit b) 0) ≡ b
writable_back true = refl
writable_back false = refl

mirroring_back : (m : Mirroring) → mirroring_numbered (number_of_mirroring m) ≡ m
mirroring_back Horizontal = refl
mirroring_back Vertical = refl
mirroring_back SingleScreenA = refl
mirroring_back SingleScreenB = refl
mirroring_back FourScreen = refl

pub lends_load : (m : Mem) (ram : Bool) (k : Mirroring) → let o = load_call m ram k in Loads (loading m ram k (answer_with_interrupt o.answer o.state.irq) (words_of o.state))
unfolding Loads
lends_load m ram k =
    let o = load_call m ram k in (
      lifetimes 6,
      lend_all (held (words_of o.state) m) (as_bit ram, (number_of_mirroring k, tt)),
      answer_with_interrupt o.answer o.state.irq,
      lend_all (held (words_of o.state) m) (as_bit ram, (number_of_mirroring k, tt)),
      rw (writable_back ram, mirroring_back k),
      rw (writable_back ram, mirroring_back k),
    )
