-- An export that states the library's clauses again.
use Rattle.host_state.specs.Exported.{Exported}

pub exported : {K : Type 0} {A R E : K → Type 0} {asked : (κ : K) → A κ → Type 0} {allows : (κ : K) → A κ → R κ → E κ → Type 0}
    → ((κ : K) (a : A κ) → asked κ a) → Exported asked allows allows
exported h = record { asks_nothing = h; no_more = λ κ a r e p. p; no_less = λ κ a r e p. p }
