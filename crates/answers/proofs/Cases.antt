-- An answer is a refusal or is none; and its letter. What is above cites these laws, and goes through no cases of its own.
use Prim.Native.Nat.{◌<◌}
use mathlib.Core.Bool.{false}
use mathlib.Core.Path.{◌≡◌}
use Rattle.std.proofs.Common.{arith}
use Rattle.std.proofs.lemmas.Grind.{common_steps}
use Rattle.answers.specs.declared.Answer.{Answer}
use Rattle.answers.specs.declared.Answer.TheVariants.{Refused}
use Rattle.answers.specs.declared.Refusal.{Refusal}
use Rattle.answers.specs.Letters.{letter_of}
use Rattle.answers.specs.Refused.{is_refused, if_refused}

-- What holds of both ways on from an answer holds of the one taken.
pub if_refused_lem : {A : Type 0} (P : A → Type 0) (a : Answer) (stop : Refusal → A) (go : A) → ((why : Refusal) → a ≡ Refused why → P (stop why)) → (is_refused a ≡ false → P go) → P (if_refused a stop go)
if_refused_lem P a stop go s g = grind (arith, common_steps)

pub refused_or_not : {P : Type 0} (a : Answer) → ((why : Refusal) → a ≡ Refused why → P) → (is_refused a ≡ false → P) → P
refused_or_not {P} a s g = grind (arith, common_steps)

pub accepted_goes_on : {A : Type 0} (a : Answer) (stop : Refusal → A) (go : A) → is_refused a ≡ false → if_refused a stop go ≡ go
accepted_goes_on {A} a stop go h = grind (arith, common_steps)

-- The letters leave the top bit free, and `!` is the least of them.
pub letter_range : (a : Answer) → (letter_of a < 128) × (is_refused a ≡ false → 0x21 < letter_of a)
letter_range a = (grind (arith, common_steps), λ h. grind (arith, common_steps))
