-- Every public function of the libraries, crate by crate. `tools/settled` says which function has no line here. What has no code (`promises` and
-- the like) has nothing to settle. The programs' own functions print, and have no contract: docs/DECISIONS.md, "Forms".
-- Assumes nothing.
use Rattle.theorems_settles.specs.Leaves.{Memory, Answers, Registers, Banks, Scanline, Split, State, Cpu, Ppu}
use Rattle.theorems_settles.specs.Entries.{Board, BoardPpu, Views, Trace, Calls, Text, Logs, Steps, Player, Transcript}
use Rattle.theorems_settles.specs.Hosts.{HostState, HostAnswers, Host, HostLooks, HostReplay}
use Rattle.theorems_settles.specs.ByHand.{ByHand}

pub record EveryContract : Type 0 where
  pub of_memory : Memory
  pub of_answers : Answers
  pub of_registers : Registers
  pub of_banks : Banks
  pub of_scanline : Scanline
  pub of_split : Split
  pub of_state : State
  pub of_cpu : Cpu
  pub of_ppu : Ppu
  pub of_board : Board
  pub of_board_ppu : BoardPpu
  pub of_views : Views
  pub of_trace : Trace
  pub of_calls : Calls
  pub of_text : Text
  pub of_logs : Logs
  pub of_steps : Steps
  pub of_player : Player
  pub of_transcript : Transcript
  pub of_host_state : HostState
  pub of_host_answers : HostAnswers
  pub of_host : Host
  pub of_host_looks : HostLooks
  pub of_host_replay : HostReplay
  pub by_hand : ByHand
