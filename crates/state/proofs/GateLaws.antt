-- What an open gate says: the lengths are those recorded, and the state is in range; and that such a state passes.
use Prim.Native.Nat.{ℕ}
use mathlib.Core.Bool.{true, false, not}
use mathlib.Core.Path.{◌≡◌}
use native.Mathlib.Omega.{arith}
use Rattle.memory.proofs.Tests.{conj_at}
use Rattle.answers.specs.declared.Refusal.TheVariants.{Buffers, State as StateBroken}
use Rattle.state.specs.declared.State.{State}
use Rattle.state.specs.Gate.{Open, Shut, same_lengths, gate_of}
use Rattle.state.specs.Lengths.{lengths_ok}
use Rattle.state.specs.Ranges.{ranges, in_range}
use Rattle.state.proofs.SizeLaws.{lengths_say}

pub open_in_range : (s : State) (p c r i e : ℕ) → gate_of s p c r i e ≡ Open → in_range s ≡ true
unfolding gate_of
open_in_range s p c r i e h = grind arith

pub open_same_lengths : (s : State) (p c r i e : ℕ) → gate_of s p c r i e ≡ Open → same_lengths s.lengths p c r i e ≡ true
unfolding gate_of
open_same_lengths s p c r i e h = grind arith

pub range_lengths : (s : State) → in_range s ≡ true → lengths_ok s.lengths ≡ true
unfolding in_range
range_lengths s h = conj_at (ranges s) 0 h

-- A state in range with buffers of the recorded lengths passes.
pub passes : (s : State) (p c r i e : ℕ) → in_range s ≡ true → same_lengths s.lengths p c r i e ≡ true → gate_of s p c r i e ≡ Open
unfolding gate_of
passes s p c r i e h k = rw (k, h, (lengths_say s.lengths (range_lengths s h)).is_loaded)

-- A state that does not pass, by the first test that fails.
pub shut_load : (s : State) (p c r i e : ℕ) → not s.lengths.loaded ≡ true → gate_of s p c r i e ≡ Shut StateBroken
unfolding gate_of
shut_load s p c r i e t = rw t

pub shut_lengths : (s : State) (p c r i e : ℕ) → not s.lengths.loaded ≡ false → not (same_lengths s.lengths p c r i e) ≡ true → gate_of s p c r i e ≡ Shut Buffers
unfolding gate_of
shut_lengths s p c r i e l t = rw (l, t)

pub shut_ranges : (s : State) (p c r i e : ℕ) → not s.lengths.loaded ≡ false → not (same_lengths s.lengths p c r i e) ≡ false → in_range s ≡ false → gate_of s p c r i e ≡ Shut StateBroken
unfolding gate_of
shut_ranges s p c r i e l t f = rw (l, t, f)
