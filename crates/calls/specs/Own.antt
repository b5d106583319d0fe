-- What a function's own contract asks and allows, as its clauses say it: for a module `c` of a crate's `specs.contracts`, `c.clauses` are the clauses
-- that the function c is proved to meet. Nothing of them is written again: which facts they are is found from them.
-- Assumes nothing.
use base.Logic.{emp}
use contract.Lifetimes.{Lfts}
use contract.Monad.{fact}
use denote.Triple.Clauses.{Ended, Clauses, AtExit}
use borrow.Fn.World.{World, Pr, ArgsD, ResD}

-- At a model of the logic a clause says a plain fact; where there is no clause, nothing is said.
pub data Says (w : World) : Type 0 → Pr w → Type 2 where
  nothing : Says w (Unit {0}) (emp w.𝓤)
  fact_of : {φ : Type 0} → Says w φ (fact w.𝓤 φ)

-- Asked: what the `requires` says of the lifetimes κ and the arguments a. Learnt: what the `ensures` says of these, of the result r, and of the
-- parameters e as they are at the exit. That the clauses say just this is shown at every model.
pub record Own (T : Ended) (written : (w : World) → Clauses w.𝓤 T) : Type 2 where
  pub Asked : (κ : Lfts T.signature.lifetimes) → ArgsD T.signature κ → Type 0
  pub Learnt : (κ : Lfts T.signature.lifetimes) → ArgsD T.signature κ → ResD T.signature κ → AtExit T κ → Type 0
  pub asks : (w : World) (κ : Lfts T.signature.lifetimes) (a : ArgsD T.signature κ) (g : (written w κ a).ghost) → Says w (Asked κ a) ((written w κ a).requires g)
  pub allows : (w : World) (κ : Lfts T.signature.lifetimes) (a : ArgsD T.signature κ) (g : (written w κ a).ghost) (r : ResD T.signature κ) (e : AtExit T κ) → Says w (Learnt κ a r e) ((written w κ a).ensures g r e)

abbrev pub own : {T : Ended} {written : (w : World) → Clauses w.𝓤 T} {Asked : (κ : Lfts T.signature.lifetimes) → ArgsD T.signature κ → Type 0}
    {Learnt : (κ : Lfts T.signature.lifetimes) → ArgsD T.signature κ → ResD T.signature κ → AtExit T κ → Type 0}
    → ((w : World) (κ : Lfts T.signature.lifetimes) (a : ArgsD T.signature κ) (g : (written w κ a).ghost) → Says w (Asked κ a) ((written w κ a).requires g))
    → ((w : World) (κ : Lfts T.signature.lifetimes) (a : ArgsD T.signature κ) (g : (written w κ a).ghost) (r : ResD T.signature κ) (e : AtExit T κ) → Says w (Learnt κ a r e) ((written w κ a).ensures g r e))
    → Own T written
own {Asked = Asked} {Learnt = Learnt} asks allows = record { Asked = Asked; Learnt = Learnt; asks = asks; allows = allows }
