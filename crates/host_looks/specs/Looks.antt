-- A look over lent words: the board's answer on the state that they stand for, as one number.
use Rattle.std.specs.Prelude.{ℕ, List}
use Rattle.state.specs.declared.State.{State}
use Rattle.host_state.specs.Words.{state_of}

unfoldable pub look_on : {A : Type 0} → List ℕ → (A → ℕ) → (State → A) → ℕ
look_on w number f = number (f (state_of w))
