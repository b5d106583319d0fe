-- `promises` holds: demand 3 of the detector, its ranges, the sentence on a line, and the worked histories, each by its theorem.
use Rattle.theorems_scanlines.proofs.Transfer.{detector_demand_3}
use Rattle.theorems_scanlines.proofs.InRange.{stays_in_range}
use Rattle.theorems_scanlines.proofs.SentenceIs.{line_is_the_sentence}
use Rattle.theorems_scanlines.proofs.Worked.{tests_are_sentences, worked, cases}
use Rattle.theorems_scanlines.proofs.promises.Goals as goal

pub returns : goal.returns
returns c = (detector_demand_3, stays_in_range, line_is_the_sentence, tests_are_sentences, worked, cases)
