-- What C calls is what is proved of the library: each export asks nothing of its caller, and its contract allows what that of the library's function allows. One
-- line for each export. A contract is read off its clauses (crate `calls`, specs/Own.antt).
-- Assumes nothing.
use Rattle.calls.specs.Own.{Own, own}
use Rattle.calls.specs.Own.Says.{nothing, fact_of}
use Rattle.host_state.specs.Exported.{Exported}
use Rattle.host_replay.specs.contracts as host_replay
use Rattle.host_replay_c.specs.contracts.exports as exports

abbrev pub replay : Own exports.mmc5_replay.ended (λ w. exports.mmc5_replay.clauses w.𝓛 w.𝓜.mem w.𝓡.returns)
replay = own (λ w κ a g. nothing) (λ w κ a g r e. fact_of)

abbrev pub host_replay_replay : Own host_replay.mmc5_replay.ended (λ w. host_replay.mmc5_replay.clauses w.𝓛 w.𝓜.mem w.𝓡.returns)
host_replay_replay = own (λ w κ a g. nothing) (λ w κ a g r e. fact_of)

pub record ExportsAreTheLibrarys : Type 0 where
  pub mmc5_replay : Exported replay.Asked replay.Learnt host_replay_replay.Learnt
