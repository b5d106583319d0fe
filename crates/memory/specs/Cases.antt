-- Worked cases of any crate: what a definition gives, and what 01 or the Rust says. A list of them is right where each gives what it must.
use Rattle.std.specs.Prelude.{ℕ, Bool, List, nat_eq}
use Rattle.memory.specs.Tests.{all}
use Rattle.memory.specs.Bits.{as_bit}

pub record Case : Type 0 where
  pub gives : ℕ
  pub says : ℕ

-- a number, a test that holds, and one that does not
abbrev pub is : ℕ → ℕ → Case
is n k = record { gives = n; says = k }

abbrev pub holds : Bool → Case
holds b = is (as_bit b) 1

abbrev pub fails : Bool → Case
fails b = is (as_bit b) 0

abbrev pub right : List Case → Bool
right cs = all (λ (c : Case). nat_eq c.gives c.says) cs
