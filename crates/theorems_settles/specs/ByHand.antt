-- Four functions that stand apart, each contract two facts or a fact of a struct that holds a lent slice: the lent clock and the trace reader.
-- Assumes nothing.
use Rattle.calls.specs.Own.{Own, own}
use Rattle.calls.specs.Own.Says.{nothing, fact_of}
use Rattle.scanline.specs.contracts as scanline
use Rattle.trace.specs.contracts as trace
use Rattle.theorems_settles.specs.Settled.{Result, Settles, beside}

-- `scanline::record::clock_lent`.
abbrev pub clock_lent : Own scanline.record.clock_lent.ended (λ w. scanline.record.clock_lent.clauses w.𝓛 w.𝓜.mem w.𝓡.returns)
clock_lent = own (λ w κ a g. nothing) (λ w κ a g r e. fact_of)

-- `trace::reader::new`, `advanced` and `next_record`.
abbrev pub new : Own trace.reader.new.ended (λ w. trace.reader.new.clauses w.𝓛 w.𝓜.mem w.𝓡.returns)
new = own (λ w κ a g. nothing) (λ w κ a g r e. fact_of)

abbrev pub advanced : Own trace.reader.advanced.ended (λ w. trace.reader.advanced.clauses w.𝓛 w.𝓜.mem w.𝓡.returns)
advanced = own (λ w κ a g. nothing) (λ w κ a g r e. fact_of)

abbrev pub next_record : Own trace.reader.next_record.ended (λ w. trace.reader.next_record.clauses w.𝓛 w.𝓜.mem w.𝓡.returns)
next_record = own (λ w κ a g. nothing) (λ w κ a g r e. fact_of)

pub record ByHand : Type 0 where
  pub lent_clock : Settles clock_lent.Learnt (λ κ a r e. beside r e.0.now)
  pub reader_new : Result new.Learnt
  pub reader_advanced : Result advanced.Learnt
  pub reader_next_record : Result next_record.Learnt
