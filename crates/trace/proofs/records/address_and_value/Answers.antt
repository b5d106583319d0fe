-- `trace::records::address_and_value` meets its contract, by what `address` and `value_at` found. A value fits a byte by `within_limit`.
use mathlib.Core.Path.{sym, ◌∙◌}
use native.Mathlib.Omega.{arith}
use Rattle.std.proofs.lemmas.Result.{err_from_is_err_and}
use Rattle.trace.specs.Records.{numbered}
use Rattle.trace.proofs.NumberLaws.{within_limit}
use Rattle.trace.proofs.RecordLaws.{read_on}
use Rattle.trace.proofs.records.address_and_value.Goals as goal

pub returns-in_err-address : goal.returns-in_err-address
returns-in_err-address c =
    let p = err_from_is_err_and c.from_residual.result c.from_residual.ensures.1 in
    rw (p.1, p.2) (sym (read_on _ _ (sym c.address.ensures ∙ c.in_err-address.was)))

pub returns-in_err-value : goal.returns-in_err-value
unfolding numbered
returns-in_err-value c =
    let p = err_from_is_err_and c.from_residual-in_err-value.result c.from_residual-in_err-value.ensures.1 in
    rw (p.1, p.2, read_on _ _ (sym c.address.ensures ∙ c.in_ok-address.was), sym c.value_at.ensures ∙ c.in_err-value.was)

pub overflow_cast-result : goal.overflow_cast-result
overflow_cast-result c = omega (arith, (within_limit 255 _ _ _ (sym c.value_at.ensures ∙ c.in_ok-value.was)).1)

pub returns : goal.returns
unfolding numbered
returns c = rw (read_on _ _ (sym c.address.ensures ∙ c.in_ok-address.was), sym c.value_at.ensures ∙ c.in_ok-value.was)
