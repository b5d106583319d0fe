-- The clauses are the same, and ask nothing.
use Rattle.host_state.proofs.Exporting.{exported}
use Rattle.host_c.proofs.exports_are_the_librarys.Goals as goal

pub returns : goal.returns
returns c = record { mmc5_load = exported (λ κ a. tt); mmc5_reset = exported (λ κ a. tt); mmc5_clock = exported (λ κ a. tt); mmc5_cpu_read = exported (λ κ a. tt); mmc5_cpu_write = exported (λ κ a. tt); mmc5_ppu_register = exported (λ κ a. tt); mmc5_ppu_fetch = exported (λ κ a. tt); mmc5_ppu_write = exported (λ κ a. tt) }
