-- CR 7: "Show that sprite fetch, column, the test for 40 and the test for 42 answer as the full count did." Wherever a definition of the board is handed the
-- count, it comes to the same with the full count and with what is kept of it; so each call does. One step of the simulation that `AlongFull` makes.
-- Assumes nothing.
use Rattle.std.specs.Prelude.{ℕ, Bool, List, ◌≡◌}
use Rattle.answers.specs.declared.Answer.{Answer}
use Rattle.registers.specs.declared.Regs.{Regs}
use Rattle.scanline.specs.declared.Detector.{Detector}
use Rattle.scanline.specs.Tiles.{fold}
use Rattle.split.specs.declared.VSplit.{VSplit}
use Rattle.state.specs.declared.PpuStatus.{PpuStatus}
use Rattle.state.specs.Gate.{Open, gate_mem}
use Rattle.cpu.specs.Chosen.{chosen, ppu_after}
use Rattle.cpu.specs.PpuRegisters.{status_after}
use Rattle.ppu.specs.Cache.{cache_after}
use Rattle.ppu.specs.Fetches.{ppu_seen, split_seen}
use Rattle.ppu.specs.Served.{counted_served, pattern_served}
use Rattle.theorems_histories.specs.Accepted.{refusal}
use Rattle.theorems_histories.specs.Boards.{Board, Made, says, leaves}
use Rattle.theorems_histories.specs.Watching.{view}
use Rattle.theorems_folds.specs.Full.{kept_status, kept_state, kept_board, full_seen, full_says, full_leaves}

pub record SameBoard : Type 0 where
  -- what looks at the count
  pub cache : (g : Regs) (cached n a : ℕ) → cache_after g cached (fold n) a ≡ cache_after g cached n a
  pub split : (g : Regs) (v : VSplit) (d : Detector) (n a : ℕ) → split_seen g v d (fold n) a ≡ split_seen g v d n a
  pub counted : (g : Regs) (v : VSplit) (framed : Bool) (p : PpuStatus) (exram : List ℕ) (a : ℕ) (page : Answer)
      → counted_served g v framed (kept_status p) exram a page ≡ counted_served g v framed p exram a page
  pub pattern : (g : Regs) (v : VSplit) (d : Detector) (p : PpuStatus) (exram chr : List ℕ) (a : ℕ) (page : Answer)
      → pattern_served g v d (kept_status p) exram chr a page ≡ pattern_served g v d p exram chr a page
  -- what leaves a status: the same one, but for the count in it
  pub choice : (p : PpuStatus) (framed : Bool) → chosen (kept_status p) framed ≡ kept_status (chosen p framed)
  pub write : (p : PpuStatus) (framed : Bool) (a : ℕ) → ppu_after (kept_status p) framed a ≡ kept_status (ppu_after p framed a)
  pub register : (p : PpuStatus) (a v : ℕ) → status_after (kept_status p) a v ≡ kept_status (status_after p a v)
  pub seen : (g : Regs) (m : ℕ) (p : PpuStatus) (a : ℕ) → ppu_seen g m (kept_status p) a ≡ kept_status (full_seen g m p a)
  -- and so each call: on what is kept of a full board, where it is accepted, the board says what the full board says, and leaves what is kept of what that
  -- leaves
  pub said : (b : Board) (c : Made) → gate_mem (kept_state b.state) b.mem ≡ Open → refusal (view b) c ≡ 0 → says (kept_board b) c ≡ full_says b c
  pub left : (b : Board) (c : Made) → gate_mem (kept_state b.state) b.mem ≡ Open → refusal (view b) c ≡ 0 → leaves (kept_board b) c ≡ kept_board (full_leaves b c)
