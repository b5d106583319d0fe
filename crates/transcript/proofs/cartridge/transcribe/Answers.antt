-- The two ROMs counted, then the trace over them.
use Rattle.transcript.proofs.Overs.{counted}
use Rattle.text.specs.Sheet.{text_written}
use mathlib.Core.Path.{◌∙◌, ap}
use Rattle.transcript.proofs.cartridge.transcribe.Goals as goal

pub returns : goal.returns
returns c = c.print_over.ensures ∙ ap (text_written _) (counted _ _ _ c.count_pages.ensures c.count_pages-2.ensures)
