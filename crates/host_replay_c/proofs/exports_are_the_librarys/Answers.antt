-- The clauses are the same, and ask nothing.
use Rattle.host_state.proofs.Exporting.{exported}
use Rattle.host_replay_c.proofs.exports_are_the_librarys.Goals as goal

pub returns : goal.returns
returns c = record { mmc5_replay = exported (λ κ a. tt) }
