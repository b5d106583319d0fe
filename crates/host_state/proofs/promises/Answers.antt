-- Words and states stand for each other.
use Rattle.host_state.proofs.Within.{ranges_of}
use Rattle.host_state.proofs.Backs.{words_back}
use Rattle.host_state.proofs.Forths.{words_forth}
use Rattle.host_state.proofs.promises.Goals as goal

pub returns : goal.returns
returns c = record { ranges = ranges_of; back = words_back; forth = words_forth }
