-- The clauses are the same, and ask nothing.
use Rattle.host_state.proofs.Exporting.{exported}
use Rattle.host_looks_c.proofs.exports_are_the_librarys.Goals as goal

pub returns : goal.returns
returns c = record { mmc5_cpu_peek = exported (λ κ a. tt); mmc5_ppu_peek = exported (λ κ a. tt); mmc5_sprite_peek = exported (λ κ a. tt); mmc5_mirroring = exported (λ κ a. tt); mmc5_interrupt = exported (λ κ a. tt); mmc5_cpu_entry = exported (λ κ a. tt); mmc5_ppu_entry = exported (λ κ a. tt); mmc5_cpu_page = exported (λ κ a. tt); mmc5_ppu_page = exported (λ κ a. tt) }
