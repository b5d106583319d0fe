-- The gate over lent words, step by step.
use Prim.Native.Nat.{ℕ, ◌≤◌}
use mathlib.Core.Bool.{Bool, true, false, not, ◌&&◌}
use mathlib.Core.List.{List}
use mathlib.Core.Path.{◌≡◌, sym, ap, ◌∙◌}
use Rattle.memory.specs.Tests.{pick}
use Rattle.memory.specs.Tables.{prg_table_ok, chr_table_ok}
use Rattle.memory.proofs.Tests.{and_left, and_right, and_true}
use Rattle.answers.specs.declared.Refusal.TheVariants.{Buffers, State as StateBroken}
use Rattle.state.specs.declared.Lengths.{Lengths}
use Rattle.state.specs.Gate.{Open, Shut, gate_of, same_lengths}
use Rattle.state.specs.Ranges.{in_range}
use Rattle.state.proofs.GateLaws.{passes, shut_load, shut_lengths, shut_ranges}
use Rattle.host_state.specs.Words.{within_limits, lengths_of, pages_of, prg_numbers, chr_numbers, state_of}
use Rattle.host_state.proofs.Within.{ranges_of, above_limit, prg_small, chr_small, ram_small}

-- The ranges.
pub no_range : (w : List ℕ) (b : Bool) → b ≡ within_limits w → b ≡ false → false ≡ in_range (state_of w)
no_range w b e t = sym (above_limit w (sym e ∙ t))

pub all_ranges : (w : List ℕ) (b p c : Bool) (z : Lengths) → b ≡ within_limits w → b ≡ true → z ≡ lengths_of w
    → p ≡ prg_table_ok z.prg z.ram (pages_of (prg_numbers w)) → c ≡ chr_table_ok z.chr z.chr_writable (pages_of (chr_numbers w))
    → z.loaded && (p && c) ≡ in_range (state_of w)
all_ranges w b p c z eb tb ez ep ec = rw (ep, ec, ez) (sym (ranges_of w ∙ rw (← eb, tb)))

-- What the tests of the tables ask of the lengths.
pub record Small (z : Lengths) : Type 0 where
  pub prg : z.prg ≤ 1048576
  pub chr : z.chr ≤ 1048576
  pub ram : z.ram ≤ 65536

pub small_lengths : (w : List ℕ) (b : Bool) (z : Lengths) → b ≡ within_limits w → b ≡ true → z ≡ lengths_of w → Small z
small_lengths w b z e t ez = let h : within_limits w ≡ true = sym e ∙ t in rw ez (record { prg = prg_small w h; chr = chr_small w h; ram = ram_small w h })

-- The gate: which refusal is asked only where it is shut.
module _ (w : List ℕ) (z : Lengths) (o b : Bool) (p c r i e : ℕ) (ez : z ≡ lengths_of w) (eb : b ≡ same_lengths z p c r i e) (eo : o ≡ in_range (state_of w)) where
  same : {x : Bool} → b ≡ x → same_lengths (lengths_of w) p c r i e ≡ x
  same t = ap (λ (y : Lengths). same_lengths y p c r i e) (sym ez) ∙ (sym eb ∙ t)

  marked : {x : Bool} → not z.loaded ≡ x → not (lengths_of w).loaded ≡ x
  marked t = ap (λ (y : Lengths). not y.loaded) (sym ez) ∙ t

  pub opens : o && b ≡ true → Open ≡ gate_of (state_of w) p c r i e
  opens t = sym (passes (state_of w) p c r i e (sym eo ∙ and_left o b t) (same (and_right o b t)))

  pub not_loaded_lem : not z.loaded ≡ true → Shut StateBroken ≡ gate_of (state_of w) p c r i e
  not_loaded_lem t = sym (shut_load (state_of w) p c r i e (marked t))

  pub other_lengths : not z.loaded ≡ false → b ≡ false → Shut Buffers ≡ gate_of (state_of w) p c r i e
  other_lengths l t = sym (shut_lengths (state_of w) p c r i e (marked l) (ap not (same t)))

  pub out_of_range : o && b ≡ false → not z.loaded ≡ false → b ≡ true → Shut StateBroken ≡ gate_of (state_of w) p c r i e
  out_of_range f l t =
      let off : o ≡ false = rw (t, and_true) at f in
      sym (shut_ranges (state_of w) p c r i e (marked l) (ap not (same t)) (sym eo ∙ off))

-- The status of words within their limits, and of others.
pub status_within : {A : Type 0} (b c : Bool) (p q x : A) → b ≡ c → b ≡ true → p ≡ q → p ≡ pick c q x
status_within b c p q x e t ep = ep ∙ rw (← e, t)

pub status_above : {A : Type 0} (b c : Bool) (p q x : A) → b ≡ c → b ≡ false → p ≡ x → p ≡ pick c q x
status_above b c p q x e t ep = ep ∙ rw (← e, t)
