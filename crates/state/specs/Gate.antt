-- Refusals 4 and 5. 01: 4, BUFFERS, "a lent length differs from the one recorded at load"; 5, STATE, "the state handed in breaks a range below";
-- "Checks run in that order, but a state not loaded gives 5 before 4".
use Rattle.std.specs.Prelude.{ℕ, Bool, not, [], ◌∷◌, eqb, length, Result, Ok, Err}
use Rattle.memory.specs.Bytes.{Mem}
use Rattle.memory.specs.Tests.{conj, pick}
use Rattle.answers.specs.declared.Refusal.{Refusal}
use Rattle.answers.specs.declared.Refusal.TheVariants.{Buffers, State as StateBroken}
use Rattle.state.specs.declared.Lengths.{Lengths}
use Rattle.state.specs.declared.State.{State}
use Rattle.state.specs.Ranges.{in_range}

-- What the gate says of a call: open, or shut with the refusal.
abbrev pub Gate : Type 0
Gate = Result (Unit {0}) Refusal

abbrev pub Open : Gate
Open = Ok tt

abbrev pub Shut : Refusal → Gate
Shut r = Err r

unfoldable pub same_lengths : Lengths → ℕ → ℕ → ℕ → ℕ → ℕ → Bool
same_lengths z p c r i e =
    conj (eqb z.prg p ∷ eqb z.chr c ∷ eqb z.ram r ∷ eqb z.ciram i ∷ eqb z.exram e ∷ [])

unfoldable pub gate_of : State → ℕ → ℕ → ℕ → ℕ → ℕ → Gate
gate_of s p c r i e =
    pick (not s.lengths.loaded) (Shut StateBroken)
    (pick (not (same_lengths s.lengths p c r i e)) (Shut Buffers)
    (pick (not (in_range s)) (Shut StateBroken)
    Open))

-- The gate of a call over lent buffers.
abbrev pub gate_mem : State → Mem → Gate
gate_mem s m = gate_of s (length m.prg) (length m.chr) (length m.ram) (length m.ciram) (length m.exram)
