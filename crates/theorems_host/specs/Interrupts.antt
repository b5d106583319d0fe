-- The interrupt that a host hears of is that of its history. 00, demand 3: "The history alone tells the scanline interrupt"; "The interrupt is up
-- exactly when the flag is set and the last write to $5204 had bit 7 set" (`Up`, crate `theorems_scanlines`, specs/Told.antt).
-- Assumes nothing but in `bit`: there that the call's numbers are as its types say (`InRange`; `Hosted` has it of those before it), and that the buffers hold bytes.
use Rattle.std.specs.Prelude.{ℕ, ◌+◌, ◌/◌, ◌%◌, List, ◌∷◌, ◌↔◌, ◌≡◌}
use Rattle.trace.specs.declared.Call.{Call}
use Rattle.trace.specs.Promise.{InRange}
use Rattle.theorems_scanlines.specs.Told.{Up}
use Rattle.theorems_scanlines.specs.Calls.{history_of}
use Rattle.transcript.specs.Bytes.{SmallMem}
use Rattle.host_answers.specs.Answers.{answer_plain}
use Rattle.theorems_histories.specs.Boards.{Made}
use Rattle.theorems_histories.specs.Boards.Made.{call, interrupt_asked}
use Rattle.theorems_histories.specs.Watching.{event}
use Rattle.theorems_histories.specs.Replays.{answer_at}
use Rattle.theorems_host.specs.Held.{Held, board_of}
use Rattle.theorems_host.specs.Held.Hearing.{number}
use Rattle.theorems_host.specs.Calls.{Loading, Calls}
use Rattle.theorems_host.specs.Served.{Refusing, Hosted}

-- The call c, made after the calls cs by a host that then held h, tells n and is not refused.
pub record Tells (x : Loading) (cs : List Made) (h : Held) (c : Call) (n : ℕ) : Type 0 where
  pub hosted : Hosted x cs h
  pub left : Held
  pub called : Calls (call c) h (number n) left
  pub taken : Refusing (number n) → ⊥

-- The history with it.
abbrev pub UpAfter : List Made → Call → Type 0
UpAfter cs c = Up (history_of event (call c ∷ cs))

pub record InterruptIsHeard : Type 0 where
  -- docs/HOST.md: "32,768 more where the call was taken, is no peek, and the interrupt is up after it"
  pub more : (x : Loading) (cs : List Made) (h : Held) (c : Call) (n : ℕ) → Tells x cs h c n → UpAfter cs c → n ≡ answer_plain (answer_at (board_of h) c) + 32768
  pub no_more : (x : Loading) (cs : List Made) (h : Held) (c : Call) (n : ℕ) → Tells x cs h c n → (UpAfter cs c → ⊥) → n ≡ answer_plain (answer_at (board_of h) c)
  -- so bit 15 is the interrupt, where the buffers hold bytes
  pub bit : (x : Loading) (cs : List Made) (h : Held) (c : Call) (n : ℕ) → Tells x cs h c n → SmallMem x.mem → InRange c → (n / 32768 % 2 ≡ 1) ↔ UpAfter cs c
  -- `mmc5_interrupt` tells 1 for it
  pub asked : (x : Loading) (cs : List Made) (h h' : Held) (n : ℕ) → Hosted x cs h → Calls interrupt_asked h (number n) h' → (n ≡ 1) ↔ Up (history_of event cs)
