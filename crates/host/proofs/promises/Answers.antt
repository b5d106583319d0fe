-- A refusal leaves the words and the bytes.
use Rattle.host.proofs.Promised.{promised}
use Rattle.host.proofs.promises.Goals as goal

pub returns : goal.returns
returns c = promised
