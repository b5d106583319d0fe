-- Nothing is asked, of any function that is exported.
use Rattle.theorems_host.specs.Exports.{ExportsTakeAll}

pub exports_take_all : ExportsTakeAll
exports_take_all = record {
  load = λ κ a. tt;
  clock = λ κ a. tt;
  reset = λ κ a. tt;
  ppu_register = λ κ a. tt;
  cpu_read = λ κ a. tt;
  cpu_write = λ κ a. tt;
  ppu_fetch = λ κ a. tt;
  ppu_write_call = λ κ a. tt;
  cpu_peek = λ κ a. tt;
  ppu_peek_call = λ κ a. tt;
  sprite_peek_call = λ κ a. tt;
  mirroring = λ κ a. tt;
  interrupt = λ κ a. tt;
  cpu_entry = λ κ a. tt;
  ppu_entry = λ κ a. tt;
  cpu_page = λ κ a. tt;
  ppu_page = λ κ a. tt;
  replay = λ κ a. tt;
}
