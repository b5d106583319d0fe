-- `decimal` calls itself with a tenth of its number, so the measure is the number.
use Rattle.text.proofs.pen.Pen.+decimal.Given as goal

abbrev pub decreases-decimal : goal.decreases-decimal
decreases-decimal l = l.n
