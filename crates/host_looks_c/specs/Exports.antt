-- What C calls is what is proved of the library: each export asks nothing of its caller, and its contract allows what that of the library's function allows. One
-- line for each export. A contract is read off its clauses (crate `calls`, specs/Own.antt).
-- Assumes nothing.
use Rattle.calls.specs.Own.{Own, own}
use Rattle.calls.specs.Own.Says.{nothing, fact_of}
use Rattle.host_state.specs.Exported.{Exported}
use Rattle.host_looks.specs.contracts as host_looks
use Rattle.host_looks_c.specs.contracts.exports as exports

abbrev pub cpu_peek : Own exports.mmc5_cpu_peek.ended (λ w. exports.mmc5_cpu_peek.clauses w.𝓛 w.𝓜.mem w.𝓡.returns)
cpu_peek = own (λ w κ a g. nothing) (λ w κ a g r e. fact_of)

abbrev pub host_looks_cpu_peek : Own host_looks.peeks.mmc5_cpu_peek.ended (λ w. host_looks.peeks.mmc5_cpu_peek.clauses w.𝓛 w.𝓜.mem w.𝓡.returns)
host_looks_cpu_peek = own (λ w κ a g. nothing) (λ w κ a g r e. fact_of)

abbrev pub ppu_peek : Own exports.mmc5_ppu_peek.ended (λ w. exports.mmc5_ppu_peek.clauses w.𝓛 w.𝓜.mem w.𝓡.returns)
ppu_peek = own (λ w κ a g. nothing) (λ w κ a g r e. fact_of)

abbrev pub host_looks_ppu_peek : Own host_looks.peeks.mmc5_ppu_peek.ended (λ w. host_looks.peeks.mmc5_ppu_peek.clauses w.𝓛 w.𝓜.mem w.𝓡.returns)
host_looks_ppu_peek = own (λ w κ a g. nothing) (λ w κ a g r e. fact_of)

abbrev pub sprite_peek : Own exports.mmc5_sprite_peek.ended (λ w. exports.mmc5_sprite_peek.clauses w.𝓛 w.𝓜.mem w.𝓡.returns)
sprite_peek = own (λ w κ a g. nothing) (λ w κ a g r e. fact_of)

abbrev pub host_looks_sprite_peek : Own host_looks.peeks.mmc5_sprite_peek.ended (λ w. host_looks.peeks.mmc5_sprite_peek.clauses w.𝓛 w.𝓜.mem w.𝓡.returns)
host_looks_sprite_peek = own (λ w κ a g. nothing) (λ w κ a g r e. fact_of)

abbrev pub mirroring : Own exports.mmc5_mirroring.ended (λ w. exports.mmc5_mirroring.clauses w.𝓛 w.𝓜.mem w.𝓡.returns)
mirroring = own (λ w κ a g. nothing) (λ w κ a g r e. fact_of)

abbrev pub host_looks_mirroring : Own host_looks.questions.mmc5_mirroring.ended (λ w. host_looks.questions.mmc5_mirroring.clauses w.𝓛 w.𝓜.mem w.𝓡.returns)
host_looks_mirroring = own (λ w κ a g. nothing) (λ w κ a g r e. fact_of)

abbrev pub interrupt : Own exports.mmc5_interrupt.ended (λ w. exports.mmc5_interrupt.clauses w.𝓛 w.𝓜.mem w.𝓡.returns)
interrupt = own (λ w κ a g. nothing) (λ w κ a g r e. fact_of)

abbrev pub host_looks_interrupt : Own host_looks.questions.mmc5_interrupt.ended (λ w. host_looks.questions.mmc5_interrupt.clauses w.𝓛 w.𝓜.mem w.𝓡.returns)
host_looks_interrupt = own (λ w κ a g. nothing) (λ w κ a g r e. fact_of)

abbrev pub cpu_entry : Own exports.mmc5_cpu_entry.ended (λ w. exports.mmc5_cpu_entry.clauses w.𝓛 w.𝓜.mem w.𝓡.returns)
cpu_entry = own (λ w κ a g. nothing) (λ w κ a g r e. fact_of)

abbrev pub host_looks_cpu_entry : Own host_looks.pages.mmc5_cpu_entry.ended (λ w. host_looks.pages.mmc5_cpu_entry.clauses w.𝓛 w.𝓜.mem w.𝓡.returns)
host_looks_cpu_entry = own (λ w κ a g. nothing) (λ w κ a g r e. fact_of)

abbrev pub ppu_entry : Own exports.mmc5_ppu_entry.ended (λ w. exports.mmc5_ppu_entry.clauses w.𝓛 w.𝓜.mem w.𝓡.returns)
ppu_entry = own (λ w κ a g. nothing) (λ w κ a g r e. fact_of)

abbrev pub host_looks_ppu_entry : Own host_looks.pages.mmc5_ppu_entry.ended (λ w. host_looks.pages.mmc5_ppu_entry.clauses w.𝓛 w.𝓜.mem w.𝓡.returns)
host_looks_ppu_entry = own (λ w κ a g. nothing) (λ w κ a g r e. fact_of)

abbrev pub cpu_page : Own exports.mmc5_cpu_page.ended (λ w. exports.mmc5_cpu_page.clauses w.𝓛 w.𝓜.mem w.𝓡.returns)
cpu_page = own (λ w κ a g. nothing) (λ w κ a g r e. fact_of)

abbrev pub host_looks_cpu_page : Own host_looks.pages.mmc5_cpu_page.ended (λ w. host_looks.pages.mmc5_cpu_page.clauses w.𝓛 w.𝓜.mem w.𝓡.returns)
host_looks_cpu_page = own (λ w κ a g. nothing) (λ w κ a g r e. fact_of)

abbrev pub ppu_page : Own exports.mmc5_ppu_page.ended (λ w. exports.mmc5_ppu_page.clauses w.𝓛 w.𝓜.mem w.𝓡.returns)
ppu_page = own (λ w κ a g. nothing) (λ w κ a g r e. fact_of)

abbrev pub host_looks_ppu_page : Own host_looks.pages.mmc5_ppu_page.ended (λ w. host_looks.pages.mmc5_ppu_page.clauses w.𝓛 w.𝓜.mem w.𝓡.returns)
host_looks_ppu_page = own (λ w κ a g. nothing) (λ w κ a g r e. fact_of)

pub record ExportsAreTheLibrarys : Type 0 where
  pub mmc5_cpu_peek : Exported cpu_peek.Asked cpu_peek.Learnt host_looks_cpu_peek.Learnt
  pub mmc5_ppu_peek : Exported ppu_peek.Asked ppu_peek.Learnt host_looks_ppu_peek.Learnt
  pub mmc5_sprite_peek : Exported sprite_peek.Asked sprite_peek.Learnt host_looks_sprite_peek.Learnt
  pub mmc5_mirroring : Exported mirroring.Asked mirroring.Learnt host_looks_mirroring.Learnt
  pub mmc5_interrupt : Exported interrupt.Asked interrupt.Learnt host_looks_interrupt.Learnt
  pub mmc5_cpu_entry : Exported cpu_entry.Asked cpu_entry.Learnt host_looks_cpu_entry.Learnt
  pub mmc5_ppu_entry : Exported ppu_entry.Asked ppu_entry.Learnt host_looks_ppu_entry.Learnt
  pub mmc5_cpu_page : Exported cpu_page.Asked cpu_page.Learnt host_looks_cpu_page.Learnt
  pub mmc5_ppu_page : Exported ppu_page.Asked ppu_page.Learnt host_looks_ppu_page.Learnt
