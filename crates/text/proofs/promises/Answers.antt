-- `text::promises` meets its contract, by the laws of SheetLaws.antt, DigitLaws.antt and LineLaws.antt.
use Rattle.text.proofs.SheetLaws.{joined, fits, full}
use Rattle.text.proofs.DigitLaws.{all_digits, read_back, first_digit, only_digits, few_digits}
use Rattle.text.proofs.LineLaws.{logged}
use Rattle.text.proofs.promises.Goals as goal

pub returns : goal.returns
returns c = record { joined = joined; fits = fits; full = full; decimal = all_digits; value = read_back; no_zero = first_digit; only = only_digits; few = few_digits; logged = logged }
