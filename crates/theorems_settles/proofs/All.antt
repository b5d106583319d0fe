-- Every contract: those that are one equation by the one law, found for each function of a crate at once, the others each by its own. Two crates
-- are written out, so that a must-fail edit is refused with what differs: write another out so where a refused search does not name the function.
use Rattle.theorems_settles.specs.Every.{EveryContract}
use Rattle.theorems_settles.proofs.Law.{settled}
use Rattle.theorems_settles.proofs.Several.{stored, placed, step_stored, counted, clocked, made, moved}

pub every_contract : EveryContract
every_contract = record {
  of_memory = search (settled, stored, placed);
  of_answers = search settled;
  of_registers = search settled;
  of_banks = search settled;
  of_scanline = search settled;
  of_split = search settled;
  of_state = search settled;
  of_cpu = search settled;
  of_ppu = search settled;
  of_board = search settled;
  of_board_ppu = search settled;
  of_views = record { cpu_view = λ κ a r r' e e'. settled; ppu_view = λ κ a r r' e e'. settled };
  of_trace = search settled;
  of_calls = search settled;
  of_text = search settled;
  of_logs = search settled;
  of_steps = search (settled, step_stored, counted);
  of_player = search settled;
  of_transcript = search settled;
  of_host_state = search settled;
  of_host_answers = search settled;
  of_host = search settled;
  of_host_looks = search settled;
  of_host_replay = record { replay = λ κ a r r' e e'. settled };
  by_hand = search (settled, clocked, made, moved);
}
