-- Demand 1 of every call on every board, reached or not: "A refusal has one number from 01, is given exactly when 01 says, returns the state as handed
-- in and writes no byte". Load's own refusals, 1 to 3, are `LoadRefusals` of crate `theorems_promises`.
-- Assumes nothing.
use Rattle.std.specs.Prelude.{ℕ, ◌≡◌, not}
use Rattle.memory.specs.Tests.{pick}
use Rattle.state.specs.Ranges.{in_range}
use Rattle.theorems_histories.specs.Boards.{lent_as_recorded, Board, Made, says, leaves, number}
use Rattle.theorems_histories.specs.Boards.Made.{call, peek, ppu_peek_lem, sprite_peek_lem, mirroring_asked, interrupt_asked, cpu_page, ppu_page}
use Rattle.theorems_histories.specs.Watching.{view}
use Rattle.theorems_histories.specs.Accepted.{refusal}

-- A call over the buffers: 4 and 5, "but a state not loaded gives 5 before 4", and then its own refusal.
abbrev pub over_buffers : Board → ℕ → ℕ
over_buffers b own = pick (not b.state.lengths.loaded) 5 (pick (not (lent_as_recorded b)) 4 (pick (not (in_range b.state)) 5 own))

-- A question to the state alone: 5, "the state handed in breaks a range below".
abbrev pub alone : Board → ℕ
alone b = pick (not (in_range b.state)) 5 0

unfoldable pub given : Board → Made → ℕ
given b (call c) = over_buffers b (refusal (view b) (call c))
given b (peek a) = over_buffers b (refusal (view b) (peek a))
given b (ppu_peek_lem a) = over_buffers b 0
given b (sprite_peek_lem a) = over_buffers b 0
given b mirroring_asked = alone b
given b interrupt_asked = alone b
-- "causes 4 and 5, give the empty part without a number"
given b (cpu_page a) = 0
given b (ppu_page a) = 0

pub record Refusals : Type 0 where
  pub exactly : (b : Board) (c : Made) → number (says b c) ≡ given b c
  pub gives_back : (b : Board) (c : Made) → (number (says b c) ≡ 0 → ⊥) → leaves b c ≡ b
