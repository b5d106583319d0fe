-- 01, "Trace": the worked input, replayed over the cartridge that 01 gives the program `replay` (crate `trace`,
-- specs/Cartridge.antt), and traces that are refused. Its printed lines: crate `transcript`, specs/Lines.antt.
-- Assumes nothing.
use Rattle.std.specs.Prelude.{ℕ, false, List, [], ◌∷◌, ◌≡◌, replicate}
use Rattle.answers.specs.declared.Answer.TheVariants.{Nothing}
use Rattle.answers.specs.declared.Refusal.TheVariants.{Audio, Number}
use Rattle.registers.specs.declared.Mirroring.TheVariants.{Horizontal}
use Rattle.board.specs.Loads.{load_call}
use Rattle.trace.specs.Cartridge.{cartridge}
use Rattle.trace.specs.Examples.{worked}
use Rattle.player.specs.Replay.{Done, Stopped, Left, replayed}

-- A trace replayed from load on, with a log of 14 bytes.
abbrev pub replay_over : List ℕ → Left
replay_over trace = replayed (load_call cartridge false Horizontal).state trace cartridge (replicate 14 0)

pub record WorkedReplay : Type 0 where
  pub loads : (load_call cartridge false Horizontal).answer ≡ Nothing
  -- `end 6`
  pub ending : (replay_over worked).out.ending ≡ Done 6
  -- `M 24`, `-`, `R 249`, `R 6`, `-`, `M 0`, each a letter and a value; the interrupt is down
  pub log : (replay_over worked).log ≡ 0x4D ∷ 24 ∷ 0x2D ∷ 0 ∷ 0x52 ∷ 249 ∷ 0x52 ∷ 6 ∷ 0x2D ∷ 0 ∷ 0x4D ∷ 0 ∷ 0 ∷ 0 ∷ []
  -- a read of $0000, a record of two bytes, then one of $5010: refused by its number at its place, 2, which is not its record's number, 1;
  -- the clock after it is not played
  pub refused : (replay_over (1 ∷ 0 ∷ 1 ∷ 144 ∷ 160 ∷ 1 ∷ 0 ∷ [])).out.ending ≡ Stopped 2 Audio
  pub not_played : (replay_over (1 ∷ 0 ∷ 1 ∷ 144 ∷ 160 ∷ 1 ∷ 0 ∷ [])).log ≡ 0x42 ∷ 0 ∷ 0 ∷ 0 ∷ 0 ∷ 0 ∷ 0 ∷ 0 ∷ 0 ∷ 0 ∷ 0 ∷ 0 ∷ 0 ∷ 0 ∷ []
  -- the same read, then a read whose address is cut
  pub unreadable : (replay_over (1 ∷ 0 ∷ 1 ∷ 144 ∷ [])).out.ending ≡ Stopped 2 Number
