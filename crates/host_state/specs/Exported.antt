-- An export to C beside the library's function that it calls, each by its own contract: what it asks of the lifetimes κ and the arguments a, and what it allows
-- of these, of the result r, and of the parameters e as they are at the exit.
-- Assumes nothing.

-- The export asks nothing of its caller, and allows what the library's function allows, no more and no less.
pub record Exported {K : Type 0} {A R E : K → Type 0} (asked : (κ : K) → A κ → Type 0) (allows librarys : (κ : K) → A κ → R κ → E κ → Type 0) : Type 0 where
  pub asks_nothing : (κ : K) (a : A κ) → asked κ a
  pub no_more : (κ : K) (a : A κ) (r : R κ) (e : E κ) → allows κ a r e → librarys κ a r e
  pub no_less : (κ : K) (a : A κ) (r : R κ) (e : E κ) → librarys κ a r e → allows κ a r e
