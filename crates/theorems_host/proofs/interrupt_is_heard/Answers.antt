-- The promise is `interrupt_is_heard` of `Interrupting.antt`.
use Rattle.theorems_host.proofs.Interrupting.{interrupt_is_heard}
use Rattle.theorems_host.proofs.interrupt_is_heard.Goals as goal

pub returns : goal.returns
returns c = interrupt_is_heard
