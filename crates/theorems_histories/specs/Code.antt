-- The code is the definitions' board. Demand 2: "answers, page tables and memory .. are proved equal to definitions"; demand 1: "Every call takes all
-- inputs". What is spoken of is each entry point's own contract (specs/EntryPoints.antt): `Learnt` is what it allows, for the lifetimes κ, the arguments a, the
-- result r and the parameters e as they are at the exit; `Asked` is what it asks of a caller.
-- Assumes nothing.
use Rattle.std.specs.Prelude.{true, ◌≡◌}
use Rattle.memory.specs.Bytes.{Mem}
use Rattle.state.specs.declared.State.{State}
use Rattle.board.specs.declared.Outcome.{Outcome}
use Rattle.board.specs.Loads.{load_call}
use Rattle.theorems_histories.specs.EntryPoints.{board_load, board_clock, board_cpu_read, board_cpu_peek, board_cpu_write, board_ppu_register, board_reset, board_mirroring, board_interrupt_up, board_ppu_fetch, board_ppu_peek, board_sprite_peek, board_ppu_write, views_cpu_view, views_ppu_view, trace_record_at, calls_call_on, player_replay}
use Rattle.trace.specs.declared.Call.TheVariants.{Clock, CpuRead, CpuWrite, PpuRegister, PpuFetch, Reset, PpuWrite}
use Rattle.calls.specs.Lent.{mem_lent, mem_to_change, behind_memory, mem_left}
use Rattle.theorems_histories.specs.Boards.{Board, Made, Said, says, leaves, lent_as_recorded}
use Rattle.theorems_histories.specs.Boards.Made.{call, peek, ppu_peek_lem, sprite_peek_lem, mirroring_asked, interrupt_asked, cpu_page, ppu_page}
use Rattle.theorems_histories.specs.Boards.Said.{answers, mirrors, interrupts, shows}

-- A call that was made: on which board, which call, what it said, and the board that it left.
pub record Step : Type 0 where
  pub before : Board
  pub made : Made
  pub said : Said
  pub after : Board

abbrev pub board : State → Mem → Board
board s m = record { state = s; mem = m }

-- A call that gives an outcome, over memory that it leaves as m'; and one that looks only.
abbrev pub gives : Board → Made → Outcome → Mem → Step
gives b c o m' = record { before = b; made = c; said = answers o.answer; after = board o.state m' }

abbrev pub looks : Board → Made → Said → Step
looks b c x = record { before = b; made = c; said = x; after = b }

-- A contract allows something that is seen as x: there are arguments and a result that it allows, and x is how they are seen.
abbrev pub Allowed : {K : Type 0} {A R E : K → Type 0} {X : Type 0} → ((κ : K) → A κ → R κ → E κ → Type 0) → ((κ : K) → A κ → R κ → E κ → X) → X → Type 0
Allowed {K} {A} {R} {E} allows seen x = (κ : K) × (a : A κ) × (r : R κ) × (e : E κ) × allows κ a r e × (seen κ a r e ≡ x)

-- A call of the code. Clock, reset and PPU register write are not lent the buffers: they stand for a call over any that have the recorded lengths.
pub data Happens (t : Step) : Type 0 where
  any : Allowed calls_call_on.Learnt (λ κ a r e. gives (board a.0 (mem_to_change a.1)) (call (behind_memory a.1).0) r (mem_left a.1.0.now e.1.1)) t → Happens t
  clocks : (m : Mem) → Allowed board_clock.Learnt (λ κ a r e. gives (board a.0 m) (call Clock) r m) t → lent_as_recorded t.before ≡ true → Happens t
  reads : Allowed board_cpu_read.Learnt (λ κ a r e. gives (board a.0 (mem_lent a.1)) (call (CpuRead (behind_memory a.1).0)) r (mem_lent a.1)) t → Happens t
  writes : Allowed board_cpu_write.Learnt (λ κ a r e. gives (board a.0 (mem_to_change a.1)) (call (CpuWrite (behind_memory a.1).0 (behind_memory a.1).1.0)) r (mem_left a.1.0.now e.1.1)) t → Happens t
  registers : (m : Mem) → Allowed board_ppu_register.Learnt (λ κ a r e. gives (board a.0 m) (call (PpuRegister a.1.0 a.1.1.0)) r m) t → lent_as_recorded t.before ≡ true → Happens t
  fetches : Allowed board_ppu_fetch.Learnt (λ κ a r e. gives (board a.0 (mem_lent a.1)) (call (PpuFetch (behind_memory a.1).0)) r (mem_lent a.1)) t → Happens t
  resets : (m : Mem) → Allowed board_reset.Learnt (λ κ a r e. gives (board a.0 m) (call Reset) r m) t → lent_as_recorded t.before ≡ true → Happens t
  stores : Allowed board_ppu_write.Learnt (λ κ a r e. gives (board a.0 (mem_to_change a.1)) (call (PpuWrite (behind_memory a.1).0 (behind_memory a.1).1.0)) r (mem_left a.1.0.now e.1.1)) t → Happens t
  peeks : Allowed board_cpu_peek.Learnt (λ κ a r e. looks (board a.0 (mem_lent a.1)) (peek (behind_memory a.1).0) (answers r)) t → Happens t
  ppu_peeks : Allowed board_ppu_peek.Learnt (λ κ a r e. looks (board a.0 (mem_lent a.1)) (ppu_peek_lem (behind_memory a.1).0) (answers r)) t → Happens t
  sprite_peeks : Allowed board_sprite_peek.Learnt (λ κ a r e. looks (board a.0 (mem_lent a.1)) (sprite_peek_lem (behind_memory a.1).0) (answers r)) t → Happens t
  mirrorings : (m : Mem) → Allowed board_mirroring.Learnt (λ κ a r e. looks (board a.0 m) mirroring_asked (mirrors r)) t → Happens t
  interrupts_up : (m : Mem) → Allowed board_interrupt_up.Learnt (λ κ a r e. looks (board a.0 m) interrupt_asked (interrupts r)) t → Happens t
  cpu_pages : Allowed views_cpu_view.Learnt (λ κ a r e. looks (board a.0 (mem_lent a.1)) (cpu_page (behind_memory a.1).0) (shows r.now)) t → Happens t
  ppu_pages : Allowed views_ppu_view.Learnt (λ κ a r e. looks (board a.0 (mem_lent a.1)) (ppu_page (behind_memory a.1).0) (shows r.now)) t → Happens t

-- The step that the definitions have.
abbrev pub meant : Board → Made → Step
meant b c = record { before = b; made = c; said = says b c; after = leaves b c }

-- What a contract allows is, for its arguments, what is meant.
abbrev pub Is : {K : Type 0} {A R E : K → Type 0} → ((κ : K) → A κ → R κ → E κ → Type 0) → ((κ : K) → A κ → R κ) → Type 0
Is {K} {A} {R} {E} allows means = (κ : K) (a : A κ) (r : R κ) (e : E κ) → allows κ a r e → r ≡ means κ a

pub record CodeIsTheBoard : Type 0 where
  pub loads : Is board_load.Learnt (λ κ a. load_call (mem_lent a) (behind_memory a).0.chr_writable (behind_memory a).0.mirroring)
  -- what happens is what the definitions say, and each call that they speak of can happen
  pub only : (t : Step) → Happens t → t ≡ meant t.before t.made
  pub each : (b : Board) (c : Made) → Happens (meant b c)

-- "Every call takes all inputs": nothing is asked of a caller.
abbrev pub TakesAll : {K : Type 0} {A : K → Type 0} → ((κ : K) → A κ → Type 0) → Type 0
TakesAll {K} {A} asked = (κ : K) (a : A κ) → asked κ a

pub record EveryCallTakesAll : Type 0 where
  pub load : TakesAll board_load.Asked
  pub any : TakesAll calls_call_on.Asked
  pub clock : TakesAll board_clock.Asked
  pub read : TakesAll board_cpu_read.Asked
  pub write : TakesAll board_cpu_write.Asked
  pub register : TakesAll board_ppu_register.Asked
  pub fetch : TakesAll board_ppu_fetch.Asked
  pub reset : TakesAll board_reset.Asked
  pub store : TakesAll board_ppu_write.Asked
  pub peek : TakesAll board_cpu_peek.Asked
  pub ppu_peek_call : TakesAll board_ppu_peek.Asked
  pub sprite_peek_call : TakesAll board_sprite_peek.Asked
  pub mirroring : TakesAll board_mirroring.Asked
  pub interrupt_up : TakesAll board_interrupt_up.Asked
  pub cpu_view : TakesAll views_cpu_view.Asked
  pub ppu_view : TakesAll views_ppu_view.Asked
  pub record_at : TakesAll trace_record_at.Asked
  pub replay : TakesAll player_replay.Asked
