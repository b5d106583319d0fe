-- `trace::records::record_at` meets its contract where a kind stands: `kind_stands` and the form of that kind. Past the end, and that an address
-- fits 16 bits, the check finds by the laws that the function names.
use mathlib.Core.Path.{◌≡◌, refl, sym, ◌∙◌}
use native.Mathlib.Omega.{arith}
use Rattle.trace.specs.Records.{cpu, ppu, numbered, filled}
use Rattle.trace.specs.declared.Call.TheVariants.{CpuRead, CpuWrite, PpuRegister, PpuFetch, PpuWrite}
use Rattle.trace.proofs.RecordLaws.{kind_stands, has_none, handed_on, with_address, with_both}
use Rattle.trace.proofs.records.record_at.Goals as goal

pub returns-in_err-address : goal.returns-in_err-address
unfolding numbered
returns-in_err-address c =
    handed_on _ c.from_residual.ensures.1 ∙ with_address _ _ _ _ c.in-Some.ensures.lookup.3 c.if-kind-eq4.true (λ a. PpuFetch (ppu a)) refl (sym c.address_at.ensures ∙ c.in_err-address.was)

pub returns-then-kind-eq4 : goal.returns-then-kind-eq4
unfolding numbered
returns-then-kind-eq4 c = with_address _ _ _ _ c.in-Some.ensures.lookup.3 c.if-kind-eq4.true (λ a. PpuFetch (ppu a)) refl (sym c.address_at.ensures ∙ c.in_ok-address.was)

pub returns-then-kind-eq0 : goal.returns-then-kind-eq0
unfolding filled
returns-then-kind-eq0 c = rw (kind_stands _ _ _ c.in-Some.ensures.lookup.3, c.if-kind-eq0.true)

pub returns-in_err-address-2 : goal.returns-in_err-address-2
unfolding numbered
returns-in_err-address-2 c =
    handed_on _ c.from_residual-in_err-address-2.ensures.1 ∙ with_address _ _ _ _ c.in-Some.ensures.lookup.3 c.if-kind-eq1.true (λ a. CpuRead (cpu a)) refl (sym c.address_at-then-kind-eq1.ensures ∙ c.in_err-address-2.was)

pub returns-then-kind-eq1 : goal.returns-then-kind-eq1
unfolding numbered
returns-then-kind-eq1 c = with_address _ _ _ _ c.in-Some.ensures.lookup.3 c.if-kind-eq1.true (λ a. CpuRead (cpu a)) refl (sym c.address_at-then-kind-eq1.ensures ∙ c.in_ok-address-2.was)

pub returns-then-kind-eq5 : goal.returns-then-kind-eq5
unfolding filled
returns-then-kind-eq5 c = let five : c.in-Some.field-0.now ≡ 5 = omega arith in rw (kind_stands _ _ _ c.in-Some.ensures.lookup.3, five)

pub returns-in_err-address-in-2 : goal.returns-in_err-address-in-2
returns-in_err-address-in-2 c =
    handed_on _ c.from_residual-in_err-address-in-2.ensures.1 ∙ with_both _ _ _ _ c.in-Some.ensures.lookup.3 c.in-2.is (λ a v. CpuWrite (cpu a) v) refl (sym c.address_and_value.ensures ∙ c.in_err-address-in-2.was)

pub returns-in_ok-address-in-2 : goal.returns-in_ok-address-in-2
returns-in_ok-address-in-2 c = with_both _ _ _ _ c.in-Some.ensures.lookup.3 c.in-2.is (λ a v. CpuWrite (cpu a) v) refl (sym c.address_and_value.ensures ∙ c.in_ok-address-in-2.was)

pub returns-in_err-address-in-3 : goal.returns-in_err-address-in-3
returns-in_err-address-in-3 c =
    handed_on _ c.from_residual-in_err-address-in-3.ensures.1 ∙ with_both _ _ _ _ c.in-Some.ensures.lookup.3 c.in-3.is (λ a v. PpuRegister (cpu a) v) refl (sym c.address_and_value-in-3.ensures ∙ c.in_err-address-in-3.was)

pub returns-in_ok-address-in-3 : goal.returns-in_ok-address-in-3
returns-in_ok-address-in-3 c = with_both _ _ _ _ c.in-Some.ensures.lookup.3 c.in-3.is (λ a v. PpuRegister (cpu a) v) refl (sym c.address_and_value-in-3.ensures ∙ c.in_ok-address-in-3.was)

pub returns-in_err-address-in-6 : goal.returns-in_err-address-in-6
returns-in_err-address-in-6 c =
    handed_on _ c.from_residual-in_err-address-in-6.ensures.1 ∙ with_both _ _ _ _ c.in-Some.ensures.lookup.3 c.in-6.is (λ a v. PpuWrite (ppu a) v) refl (sym c.address_and_value-in-6.ensures ∙ c.in_err-address-in-6.was)

pub returns-in_ok-address-in-6 : goal.returns-in_ok-address-in-6
returns-in_ok-address-in-6 c = with_both _ _ _ _ c.in-Some.ensures.lookup.3 c.in-6.is (λ a v. PpuWrite (ppu a) v) refl (sym c.address_and_value-in-6.ensures ∙ c.in_ok-address-in-6.was)

pub returns-in_default-kind : goal.returns-in_default-kind
unfolding filled
returns-in_default-kind c = rw (kind_stands _ _ _ c.in-Some.ensures.lookup.3, has_none c.in-Some.field-0.now (omega arith))
