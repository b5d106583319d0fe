-- What the load and the replay leave.
use Rattle.transcript.proofs.Overs.{over}
use Rattle.text.specs.Sheet.{text_written}
use mathlib.Core.Path.{◌∙◌, ap}
use Rattle.transcript.proofs.cartridge.print_over.Goals as goal

pub returns : goal.returns
returns c = c.print.ensures ∙ ap (text_written _) (over _ _ _ _ _ c.load-loaded.ensures c.replay-played.ensures)
