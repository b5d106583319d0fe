-- `trace::promises` meets its contract, by the laws of the files that it uses.
use Rattle.trace.proofs.CartridgeLaws.{cartridge_bytes}
use Rattle.trace.proofs.RecordLaws.{none_left, none_read, record_sound, record_ahead}
use Rattle.trace.proofs.WrongLaws.{refused_exactly}
use Rattle.trace.proofs.WrittenLaws.{record_read, record_written}
use Rattle.trace.proofs.promises.Goals as goal

pub returns : goal.returns
returns c = (record { sound = record_sound; ends = λ t at. (none_read t at, none_left t at); refused = refused_exactly; read = record_read; written = record_written; ahead = record_ahead }, cartridge_bytes)
