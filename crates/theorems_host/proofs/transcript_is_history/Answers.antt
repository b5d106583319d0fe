-- The promise is `transcript_is_history` of `Lines.antt`.
use Rattle.theorems_host.proofs.Lines.{transcript_is_history}
use Rattle.theorems_host.proofs.transcript_is_history.Goals as goal

pub returns : goal.returns
returns c = transcript_is_history
