-- The code is the definitions' board: each entry point by its contract's equation.
use Prim.Native.Nat.{ℕ}
use mathlib.Core.Bool.{true, false}
use mathlib.Core.List.{List, []}
use mathlib.Core.Path.{◌≡◌, refl, sym, ◌∙◌, ap, subst}
use Rattle.std.specs.Prelude.{Ok, Err}
use Rattle.std.specs.Borrow.{Bor, MutBor}
use Rattle.memory.specs.declared.Page.{Page}
use Rattle.memory.specs.declared.Src.{Src}
use Rattle.memory.specs.declared.Src.TheVariants.{Blank, PrgRom, PrgRam, Chr, CiRam, ExRam}
use Rattle.memory.specs.Bytes.{Mem, mem_of, stored_at, page_stored}
use Rattle.memory.proofs.Tests.{split, pick_keeps}
use Rattle.answers.specs.declared.Refusal.{Refusal}
use Rattle.answers.specs.declared.Refusal.TheVariants.{State as StateBroken}
use Rattle.state.specs.declared.State.{State}
use Rattle.state.specs.Gate.{Gate, Shut, gate_of, gate_mem}
use Rattle.state.specs.Ranges.{in_range}
use Rattle.state.proofs.GateLaws.{passes}
use Rattle.cpu.specs.Writes.{audio_write, cpu_stored}
use Rattle.board.specs.declared.Outcome.{Outcome}
use Rattle.board.specs.Outcomes.{refused, After, after_of, behind}
use Rattle.board.specs.CpuSide.{cpu_peek, cpu_write}
use Rattle.board.specs.StateCalls.{reset_call, clock_call, ppu_register_call, mirroring_call, interrupt_call}
use Rattle.board_ppu.specs.Peeks.{ppu_peek, sprite_peek, ppu_write}
use Rattle.views.specs.Views.{cpu_view, ppu_view}
use Rattle.trace.specs.declared.Call.{Call}
use Rattle.trace.specs.declared.Call.TheVariants.{Clock, CpuRead, CpuWrite, PpuRegister, PpuFetch, Reset, PpuWrite}
use Rattle.calls.specs.Called.{called}
use Rattle.calls.specs.Lent.{BufferThen, MemoryThen, FourThen}
use Rattle.theorems_histories.specs.Boards.{Board, Made, says, leaves, lent_as_recorded}
use Rattle.theorems_histories.specs.Boards.Made.{call, peek, ppu_peek_lem, sprite_peek_lem, mirroring_asked, interrupt_asked, cpu_page, ppu_page}
use Rattle.theorems_histories.specs.Code.{Step, board, gives, Allowed, Happens, meant, CodeIsTheBoard, EveryCallTakesAll}
use Rattle.theorems_histories.specs.Code.Happens.{any, clocks, reads, writes, registers, fetches, resets, stores, peeks, ppu_peeks, sprite_peeks, mirrorings, interrupts_up, cpu_pages, ppu_pages}

-- What holds of all that a contract allows holds of a step that it allows.
seen_is : {K : Type 0} {A R E : K → Type 0} {allows : (κ : K) → A κ → R κ → E κ → Type 0} {seen : (κ : K) → A κ → R κ → E κ → Step} {t : Step} (P : Step → Type 0)
    → ((κ : K) (a : A κ) (r : R κ) (e : E κ) → allows κ a r e → P (seen κ a r e)) → Allowed allows seen t → P t
seen_is P f x = subst P x.5 (f x.0 x.1 x.2 x.3 x.4)

abbrev Meant : Step → Type 0
Meant t = t ≡ meant t.before t.made

-- A call that leaves memory.
by_after : (b : Board) (c : Call) (o : Outcome) (m' : Mem) → after_of o m' ≡ called c b.state b.mem → Meant (gives b (call c) o m')
unfolding says leaves
by_after b c o m' p = ap (λ (y : After). gives b (call c) y.out y.mem) p

-- A call on the state alone, where the lent lengths are the recorded ones: the gate adds nothing to it.
broken : (b : Board) → lent_as_recorded b ≡ true → in_range b.state ≡ false → gate_mem b.state b.mem ≡ Shut StateBroken
unfolding gate_of
broken b h t = split b.state.lengths.loaded (λ u. rw (t, h, u)) (λ u. rw u)

alone : (b : Board) (o : Outcome) → (in_range b.state ≡ false → o ≡ refused b.state StateBroken) → lent_as_recorded b ≡ true → o ≡ behind (gate_mem b.state b.mem) (refused b.state) o
alone b o f h = split (in_range b.state) (λ t. rw (passes b.state _ _ _ _ _ t h)) (λ t. rw (broken b h t) (f t))

abbrev MeantIfLent : Step → Type 0
MeantIfLent t = lent_as_recorded t.before ≡ true → Meant t

pub only : (t : Step) → Happens t → Meant t
unfolding says leaves clock_call reset_call ppu_register_call
only t (any x) = seen_is Meant (λ κ a r e p. by_after _ _ _ _ p) x
only t (clocks m x h) = seen_is MeantIfLent (λ κ a r e p l. ap (λ (o : Outcome). gives (board a.0 m) (call Clock) o m) (p ∙ alone (board a.0 m) (clock_call a.0) (λ t. rw t) l)) x h
only t (reads x) = seen_is Meant (λ κ a r e p. rw p) x
only t (writes x) = seen_is Meant (λ κ a r e p. by_after _ _ _ _ p) x
only t (registers m x h) = seen_is MeantIfLent (λ κ a r e p l. ap (λ (o : Outcome). gives (board a.0 m) (call (PpuRegister a.1.0 a.1.1.0)) o m) (p ∙ alone (board a.0 m) (ppu_register_call a.0 a.1.0.0 a.1.1.0) (λ t. rw t) l)) x h
only t (fetches x) = seen_is Meant (λ κ a r e p. rw p) x
only t (resets m x h) = seen_is MeantIfLent (λ κ a r e p l. ap (λ (o : Outcome). gives (board a.0 m) (call Reset) o m) (p ∙ alone (board a.0 m) (reset_call a.0) (λ t. rw t) l)) x h
only t (stores x) = seen_is Meant (λ κ a r e p. by_after _ _ _ _ p) x
only t (peeks x) = seen_is Meant (λ κ a r e p. rw p) x
only t (ppu_peeks x) = seen_is Meant (λ κ a r e p. rw p) x
only t (sprite_peeks x) = seen_is Meant (λ κ a r e p. rw p) x
only t (mirrorings m x) = seen_is Meant (λ κ a r e p. rw p) x
only t (interrupts_up m x) = seen_is Meant (λ κ a r e p. rw p) x
only t (cpu_pages x) = seen_is Meant (λ κ a r e p. rw p) x
only t (ppu_pages x) = seen_is Meant (λ κ a r e p. rw p) x

-- No call changes PRG-ROM.
stored_rom : (m : Mem) (from : Src) (i v : ℕ) → (stored_at m from i v).prg ≡ m.prg
unfolding stored_at
stored_rom m Blank i v = refl
stored_rom m PrgRom i v = refl
stored_rom m PrgRam i v = refl
stored_rom m Chr i v = refl
stored_rom m CiRam i v = refl
stored_rom m ExRam i v = refl

page_rom : (m : Mem) (p : Page) (a v : ℕ) → (page_stored m p a v).prg ≡ m.prg
unfolding page_stored
page_rom m p a v = pick_keeps (λ (x : Mem). x.prg ≡ m.prg) p.writable (stored_rom m p.src _ v) refl

behind_keeps : {A : Type 0} (P : A → Type 0) (g : Gate) {f : Refusal → A} {x : A} → ((r : Refusal) → P (f r)) → P x → P (behind g f x)
behind_keeps P (Ok u) k h = h
behind_keeps P (Err r) k h = k r

rom : (c : Call) (s : State) (m : Mem) → (called c s m).mem.prg ≡ m.prg
unfolding cpu_write ppu_write cpu_stored
rom Clock s m = refl
rom (CpuRead a) s m = refl
rom (CpuWrite a v) s m =
    behind_keeps (λ (x : After). x.mem.prg ≡ m.prg) (gate_mem s m) (λ r. refl) (pick_keeps (λ (x : After). x.mem.prg ≡ m.prg) (audio_write a.0) refl (page_rom _ _ a.0 v))
rom (PpuRegister a v) s m = refl
rom (PpuFetch a) s m = refl
rom Reset s m = refl
rom (PpuWrite a v) s m = behind_keeps (λ (x : After). x.mem.prg ≡ m.prg) (gate_mem s m) (λ r. refl) (page_rom m _ a.0 v)

-- What a call leaves, with PRG-ROM as it was lent.
as_left : (c : Call) (s : State) (m : Mem) → after_of (called c s m).out (mem_of m.prg (called c s m).mem.chr (called c s m).mem.ram (called c s m).mem.ciram (called c s m).mem.exram) ≡ called c s m
as_left c s m =
    let x = called c s m in
    ap (λ (l : List ℕ). after_of x.out (mem_of l x.mem.chr x.mem.ram x.mem.ciram x.mem.exram)) (sym (rom c s m))

-- Bytes, lent to be read or to be changed; five buffers, and what comes behind them.
abbrev lends : List ℕ → Bor (List ℕ)
lends l = record { ref_ptr = (0, 0); now = l }

abbrev lends_to_change : List ℕ → MutBor (List ℕ)
lends_to_change l = record { ref_ptr = (0, 0); ghost_name = 0; now = l }

abbrev lends_all : {X : Type 0} → Mem → X → MemoryThen X
lends_all m x = (lends m.prg, (lends m.chr, (lends m.ram, (lends m.ciram, (lends m.exram, x)))))

abbrev lends_all_to_change : {X : Type 0} → Mem → X → BufferThen (FourThen X)
lends_all_to_change m x = (lends m.prg, (lends_to_change m.chr, (lends_to_change m.ram, (lends_to_change m.ciram, (lends_to_change m.exram, x)))))

pub each : (b : Board) (c : Made) → Happens (meant b c)
unfolding says leaves
each b (call c) =
    let x = called c b.state b.mem in
    any (([], ([], ([], ([], ([], tt))))), (b.state, lends_all_to_change b.mem (c, tt)), x.out, (b.state, lends_all_to_change x.mem (c, tt)), as_left c b.state b.mem, by_after b c _ _ (as_left c b.state b.mem))
each b (peek a) =
    peeks (([], ([], ([], ([], ([], tt))))), (b.state, lends_all b.mem (a, tt)), cpu_peek b.state b.mem a.0, (b.state, lends_all b.mem (a, tt)), refl, refl)
each b (ppu_peek_lem a) =
    ppu_peeks (([], ([], ([], ([], ([], tt))))), (b.state, lends_all b.mem (a, tt)), ppu_peek b.state b.mem a.0, (b.state, lends_all b.mem (a, tt)), refl, refl)
each b (sprite_peek_lem a) =
    sprite_peeks (([], ([], ([], ([], ([], tt))))), (b.state, lends_all b.mem (a, tt)), sprite_peek b.state b.mem a.0, (b.state, lends_all b.mem (a, tt)), refl, refl)
each b mirroring_asked = mirrorings b.mem (tt, (b.state, tt), mirroring_call b.state, (b.state, tt), refl, refl)
each b interrupt_asked = interrupts_up b.mem (tt, (b.state, tt), interrupt_call b.state, (b.state, tt), refl, refl)
each b (cpu_page a) =
    cpu_pages (([], ([], ([], ([], tt)))), (b.state, lends_all b.mem (a, tt)), lends (cpu_view b.state b.mem a.0), (b.state, lends_all b.mem (a, tt)), refl, refl)
each b (ppu_page a) =
    ppu_pages (([], ([], ([], ([], ([], tt))))), (b.state, lends_all b.mem (a, tt)), lends (ppu_view b.state b.mem a.0), (b.state, lends_all b.mem (a, tt)), refl, refl)

pub code_is_the_board : CodeIsTheBoard
code_is_the_board = record { loads = λ κ a r e p. p; only = only; each = each }

pub every_call_takes_all : EveryCallTakesAll
every_call_takes_all = record {
  load = λ κ a. tt;
  any = λ κ a. tt;
  clock = λ κ a. tt;
  read = λ κ a. tt;
  write = λ κ a. tt;
  register = λ κ a. tt;
  fetch = λ κ a. tt;
  reset = λ κ a. tt;
  store = λ κ a. tt;
  peek = λ κ a. tt;
  ppu_peek_call = λ κ a. tt;
  sprite_peek_call = λ κ a. tt;
  mirroring = λ κ a. tt;
  interrupt_up = λ κ a. tt;
  cpu_view = λ κ a. tt;
  ppu_view = λ κ a. tt;
  record_at = λ κ a. tt;
  replay = λ κ a. tt;
}
