-- The tables are tested only where no word is above its limit.
use Rattle.host_state.proofs.GateLaws.{no_range, all_ranges, small_lengths}
use Rattle.host_state.proofs.gate.in_range.Goals as goal

pub returns-then-not-within_limits : goal.returns-then-not-within_limits
returns-then-not-within_limits c = no_range _ _ c.within_limits.ensures c.if-not-within_limits.true

pub prg_ok-prg-requires : goal.prg_ok-prg-requires
prg_ok-prg-requires c = let z = small_lengths _ _ _ c.within_limits.ensures c.if-not-within_limits.false c.lengths_of-z.ensures in (z.prg, z.ram)

pub chr_ok-chr-requires : goal.chr_ok-chr-requires
chr_ok-chr-requires c = (small_lengths _ _ _ c.within_limits.ensures c.if-not-within_limits.false c.lengths_of-z.ensures).chr

pub returns : goal.returns
returns c =
    all_ranges _ _ _ _ _ c.within_limits.ensures c.if-not-within_limits.false c.lengths_of-z.ensures
    c.prg_ok-prg.ensures c.chr_ok-chr.ensures
