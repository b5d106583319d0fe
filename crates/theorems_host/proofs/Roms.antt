-- No call changes PRG-ROM, which is lent to read.
use Prim.Native.Nat.{ℕ}
use mathlib.Core.List.{List}
use mathlib.Core.Path.{◌≡◌, refl, sym, ap}
use Rattle.std.specs.Prelude.{Ok, Err}
use Rattle.memory.specs.declared.Page.{Page}
use Rattle.memory.specs.declared.Src.{Src}
use Rattle.memory.specs.declared.Src.TheVariants.{Blank, PrgRom, PrgRam, Chr, CiRam, ExRam}
use Rattle.memory.specs.Bytes.{Mem, mem_of, stored_at, page_stored}
use Rattle.memory.proofs.Tests.{pick_keeps}
use Rattle.state.specs.declared.State.{State}
use Rattle.state.specs.Gate.{Gate, gate_mem}
use Rattle.answers.specs.declared.Refusal.{Refusal}
use Rattle.cpu.specs.Writes.{cpu_stored, audio_write}
use Rattle.board.specs.CpuSide.{cpu_write}
use Rattle.board.specs.Outcomes.{After, after_of, refused, behind}
use Rattle.board_ppu.specs.Peeks.{ppu_write}

-- The buffers with PRG-ROM as it was lent.
abbrev pub lent_rom : Mem → Mem → Mem
lent_rom m m' = mem_of m.prg m'.chr m'.ram m'.ciram m'.exram

stored_rom : (m : Mem) (s : Src) (i v : ℕ) → (stored_at m s i v).prg ≡ m.prg
unfolding stored_at
stored_rom m Blank i v = refl
stored_rom m PrgRom i v = refl
stored_rom m PrgRam i v = refl
stored_rom m Chr i v = refl
stored_rom m CiRam i v = refl
stored_rom m ExRam i v = refl

page_rom : (m : Mem) (p : Page) (a v : ℕ) → (page_stored m p a v).prg ≡ m.prg
unfolding page_stored
page_rom m p a v = pick_keeps (λ (x : Mem). x.prg ≡ m.prg) p.writable (stored_rom m p.src _ v) refl

behind_rom : (g : Gate) (s : State) (m : Mem) (x : After) → x.mem.prg ≡ m.prg → (behind g (λ (r : Refusal). after_of (refused s r) m) x).mem.prg ≡ m.prg
behind_rom (Ok u) s m x e = e
behind_rom (Err r) s m x e = refl

rom_kept : (m m' : Mem) → m'.prg ≡ m.prg → lent_rom m m' ≡ m'
rom_kept m m' e = ap (λ (p : List ℕ). mem_of p m'.chr m'.ram m'.ciram m'.exram) (sym e)

pub write_rom : (s : State) (m : Mem) (a v : ℕ) → lent_rom m (cpu_write s m a v).mem ≡ (cpu_write s m a v).mem
unfolding cpu_write cpu_stored
write_rom s m a v = rom_kept m _ (behind_rom (gate_mem s m) s m _ (pick_keeps (λ (x : After). x.mem.prg ≡ m.prg) (audio_write a) refl (page_rom _ _ a v)))

pub store_rom : (s : State) (m : Mem) (a v : ℕ) → lent_rom m (ppu_write s m a v).mem ≡ (ppu_write s m a v).mem
unfolding ppu_write
store_rom s m a v = rom_kept m _ (behind_rom (gate_mem s m) s m _ (page_rom m _ a v))
