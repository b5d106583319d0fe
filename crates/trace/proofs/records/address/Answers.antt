-- `trace::records::address` meets its contract, by what `address_at` found. An address fits 16 bits by `within_limit`.
use mathlib.Core.Path.{sym, ◌∙◌}
use native.Mathlib.Omega.{arith}
use Rattle.std.proofs.lemmas.Result.{err_from_is_err_and}
use Rattle.trace.specs.Records.{numbered}
use Rattle.trace.proofs.NumberLaws.{within_limit}
use Rattle.trace.proofs.records.address.Goals as goal

pub returns-in_err-address : goal.returns-in_err-address
unfolding numbered
returns-in_err-address c = let p = err_from_is_err_and c.from_residual.result c.from_residual.ensures.1 in rw (p.1, p.2, sym c.address_at.ensures ∙ c.in_err-address.was)

pub overflow_cast-result : goal.overflow_cast-result
overflow_cast-result c = omega (arith, (within_limit 65535 _ _ _ (sym c.address_at.ensures ∙ c.in_ok-address.was)).1)

pub returns : goal.returns
unfolding numbered
returns c = rw (sym c.address_at.ensures ∙ c.in_ok-address.was)
