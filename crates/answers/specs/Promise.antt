-- What is promised of refusals. 01, "Refusal numbers"; demand 1: "A refusal has one number from 01".
use Rattle.std.specs.Prelude.{◌≤◌, ◌≡◌}
use Rattle.answers.specs.declared.Refusal.{Refusal}
use Rattle.answers.specs.Numbers.{number_of}

-- CR 9: "delete the test and the number". No refusal has the number 8, so no call and no replay tells it.
abbrev pub NoEight : Type 0
NoEight = (r : Refusal) → number_of r ≡ 8 → ⊥

-- Every refusal has a number from 1 to 31 that is not 8, and no two have the same.
pub record Numbered : Type 0 where
  pub least : (r : Refusal) → 1 ≤ number_of r
  pub most : (r : Refusal) → number_of r ≤ 31
  pub no_eight : NoEight
  pub own : (q r : Refusal) → number_of q ≡ number_of r → q ≡ r
