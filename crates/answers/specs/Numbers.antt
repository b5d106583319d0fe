-- 01, "Refusal numbers": the number of each refusal. CR 9: "8 leaves the table; the rest keep their order".
use Rattle.std.specs.Prelude.{ℕ}
use Rattle.answers.specs.declared.Refusal.{Refusal}
use Rattle.answers.specs.declared.Refusal.TheVariants.{Prg, Chr, Ram, Buffers, State, Audio, Counter, Kind, Number, Length}

abbrev pub number_of : Refusal → ℕ
number_of Prg = 1
number_of Chr = 2
number_of Ram = 3
number_of Buffers = 4
number_of State = 5
number_of Audio = 6
number_of Counter = 7
number_of Kind = 9
number_of Number = 10
number_of Length = 11
