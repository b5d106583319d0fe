-- What is printed by the log, and all that the program prints, is what the definitions tell.
use Rattle.transcript.proofs.Telling.{printed_is_lines}
use Rattle.transcript.proofs.Transcribed.{transcript_is_lines}
use Rattle.transcript.proofs.promises.Goals as goal

pub returns : goal.returns
returns c = (printed_is_lines, transcript_is_lines)
