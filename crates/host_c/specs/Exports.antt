-- What C calls is what is proved of the library: each export asks nothing of its caller, and its contract allows what that of the library's function allows. One
-- line for each export. A contract is read off its clauses (crate `calls`, specs/Own.antt).
-- Assumes nothing.
use Rattle.calls.specs.Own.{Own, own}
use Rattle.calls.specs.Own.Says.{nothing, fact_of}
use Rattle.host_state.specs.Exported.{Exported}
use Rattle.host.specs.contracts as host
use Rattle.host_c.specs.contracts.exports as exports

abbrev pub load : Own exports.mmc5_load.ended (λ w. exports.mmc5_load.clauses w.𝓛 w.𝓜.mem w.𝓡.returns)
load = own (λ w κ a g. nothing) (λ w κ a g r e. fact_of)

abbrev pub host_load : Own host.loads.mmc5_load.ended (λ w. host.loads.mmc5_load.clauses w.𝓛 w.𝓜.mem w.𝓡.returns)
host_load = own (λ w κ a g. nothing) (λ w κ a g r e. fact_of)

abbrev pub reset : Own exports.mmc5_reset.ended (λ w. exports.mmc5_reset.clauses w.𝓛 w.𝓜.mem w.𝓡.returns)
reset = own (λ w κ a g. nothing) (λ w κ a g r e. fact_of)

abbrev pub host_reset : Own host.resets.mmc5_reset.ended (λ w. host.resets.mmc5_reset.clauses w.𝓛 w.𝓜.mem w.𝓡.returns)
host_reset = own (λ w κ a g. nothing) (λ w κ a g r e. fact_of)

abbrev pub clock : Own exports.mmc5_clock.ended (λ w. exports.mmc5_clock.clauses w.𝓛 w.𝓜.mem w.𝓡.returns)
clock = own (λ w κ a g. nothing) (λ w κ a g r e. fact_of)

abbrev pub host_clock : Own host.clocks.mmc5_clock.ended (λ w. host.clocks.mmc5_clock.clauses w.𝓛 w.𝓜.mem w.𝓡.returns)
host_clock = own (λ w κ a g. nothing) (λ w κ a g r e. fact_of)

abbrev pub cpu_read : Own exports.mmc5_cpu_read.ended (λ w. exports.mmc5_cpu_read.clauses w.𝓛 w.𝓜.mem w.𝓡.returns)
cpu_read = own (λ w κ a g. nothing) (λ w κ a g r e. fact_of)

abbrev pub host_cpu_read : Own host.reads.mmc5_cpu_read.ended (λ w. host.reads.mmc5_cpu_read.clauses w.𝓛 w.𝓜.mem w.𝓡.returns)
host_cpu_read = own (λ w κ a g. nothing) (λ w κ a g r e. fact_of)

abbrev pub cpu_write : Own exports.mmc5_cpu_write.ended (λ w. exports.mmc5_cpu_write.clauses w.𝓛 w.𝓜.mem w.𝓡.returns)
cpu_write = own (λ w κ a g. nothing) (λ w κ a g r e. fact_of)

abbrev pub host_cpu_write : Own host.writes.mmc5_cpu_write.ended (λ w. host.writes.mmc5_cpu_write.clauses w.𝓛 w.𝓜.mem w.𝓡.returns)
host_cpu_write = own (λ w κ a g. nothing) (λ w κ a g r e. fact_of)

abbrev pub ppu_register : Own exports.mmc5_ppu_register.ended (λ w. exports.mmc5_ppu_register.clauses w.𝓛 w.𝓜.mem w.𝓡.returns)
ppu_register = own (λ w κ a g. nothing) (λ w κ a g r e. fact_of)

abbrev pub host_ppu_register : Own host.ppu_registers.mmc5_ppu_register.ended (λ w. host.ppu_registers.mmc5_ppu_register.clauses w.𝓛 w.𝓜.mem w.𝓡.returns)
host_ppu_register = own (λ w κ a g. nothing) (λ w κ a g r e. fact_of)

abbrev pub ppu_fetch : Own exports.mmc5_ppu_fetch.ended (λ w. exports.mmc5_ppu_fetch.clauses w.𝓛 w.𝓜.mem w.𝓡.returns)
ppu_fetch = own (λ w κ a g. nothing) (λ w κ a g r e. fact_of)

abbrev pub host_ppu_fetch : Own host.fetches.mmc5_ppu_fetch.ended (λ w. host.fetches.mmc5_ppu_fetch.clauses w.𝓛 w.𝓜.mem w.𝓡.returns)
host_ppu_fetch = own (λ w κ a g. nothing) (λ w κ a g r e. fact_of)

abbrev pub ppu_write : Own exports.mmc5_ppu_write.ended (λ w. exports.mmc5_ppu_write.clauses w.𝓛 w.𝓜.mem w.𝓡.returns)
ppu_write = own (λ w κ a g. nothing) (λ w κ a g r e. fact_of)

abbrev pub host_ppu_write : Own host.ppu_writes.mmc5_ppu_write.ended (λ w. host.ppu_writes.mmc5_ppu_write.clauses w.𝓛 w.𝓜.mem w.𝓡.returns)
host_ppu_write = own (λ w κ a g. nothing) (λ w κ a g r e. fact_of)

pub record ExportsAreTheLibrarys : Type 0 where
  pub mmc5_load : Exported load.Asked load.Learnt host_load.Learnt
  pub mmc5_reset : Exported reset.Asked reset.Learnt host_reset.Learnt
  pub mmc5_clock : Exported clock.Asked clock.Learnt host_clock.Learnt
  pub mmc5_cpu_read : Exported cpu_read.Asked cpu_read.Learnt host_cpu_read.Learnt
  pub mmc5_cpu_write : Exported cpu_write.Asked cpu_write.Learnt host_cpu_write.Learnt
  pub mmc5_ppu_register : Exported ppu_register.Asked ppu_register.Learnt host_ppu_register.Learnt
  pub mmc5_ppu_fetch : Exported ppu_fetch.Asked ppu_fetch.Learnt host_ppu_fetch.Learnt
  pub mmc5_ppu_write : Exported ppu_write.Asked ppu_write.Learnt host_ppu_write.Learnt
