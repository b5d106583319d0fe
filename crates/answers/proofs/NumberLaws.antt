-- Every refusal has a number of its own, from 1 to 31 and not 8. What is above cites `numbered`.
use Rattle.std.proofs.Common.{arith}
use Rattle.std.proofs.lemmas.Grind.{common_steps}
use Rattle.answers.specs.Promise.{Numbered}

pub numbered : Numbered
numbered = grind (arith, common_steps)
