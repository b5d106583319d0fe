-- A page view is a page's bytes or none, and copied to 1,024 bytes it is known by how many were copied.
use Prim.Native.Nat.{ℕ, ◌+◌, ◌*◌}
use mathlib.Core.List.{List, []}
use mathlib.Core.Logic.{◌⊎◌, inl, inr}
use mathlib.Core.Path.{◌≡◌, refl}
use native.Mathlib.Omega.{arith}
use borrow.Author.Tests.{eq-eqb, leb-true}
use lib.Dec.{leb}
use lib.ListN.{length, take, drop, length-drop}
use lib.Seq.{length-take-le, take_all}
use Rattle.std.specs.Prelude.{Ok, Err}
use Rattle.memory.specs.declared.Src.{Src}
use Rattle.memory.specs.declared.Src.TheVariants.{Blank, PrgRom, PrgRam, Chr, CiRam, ExRam}
use Rattle.memory.specs.Bytes.{Mem}
use Rattle.memory.specs.PageWords.{page_of}
use Rattle.memory.proofs.Tests.{split}
use Rattle.state.specs.declared.State.{State}
use Rattle.state.specs.Gate.{Gate, gate_mem}
use Rattle.cpu.specs.Writes.{prg_word_at}
use Rattle.board.specs.Outcomes.{behind}
use Rattle.board_ppu.specs.Peeks.{chr_word_at}
use Rattle.views.specs.Views.{part_from, cpu_shows, ppu_shows, cpu_view, ppu_view}
use Rattle.host_looks.specs.Pages.{copied}

abbrev pub IsPage : List ℕ → Type 0
IsPage l = (length l ≡ 1024) ⊎ (l ≡ [])

pub copied_whole : {part : List ℕ} → IsPage part → (out : List ℕ) → length out ≡ 1024 → take (copied part out).count (copied part out).bytes ≡ part
unfolding copied
copied_whole {part} (inl e) out z = rw (eq-eqb (length part) 1024 e, eq-eqb (length out) 1024 z) (take_all 1024 part (omega (arith, e)))
copied_whole {part} (inr e) out z = rw e

part_whole : (l : List ℕ) (at : ℕ) → IsPage (part_from l at)
unfolding part_from
part_whole l at =
    split (leb (at + 1024) (length l))
    (λ t. rw t (inl (length-take-le 1024 (drop at l) (omega (arith, length-drop at l, leb-true (at + 1024) (length l) t)))))
    (λ f. rw f (inr refl))

cpu_shown : (m : Mem) (s : Src) (i : ℕ) → IsPage (cpu_shows m s i)
cpu_shown m PrgRom i = part_whole m.prg (i * 1024)
cpu_shown m PrgRam i = part_whole m.ram (i * 1024)
cpu_shown m Blank i = inr refl
cpu_shown m Chr i = inr refl
cpu_shown m CiRam i = inr refl
cpu_shown m ExRam i = inr refl

ppu_shown : (m : Mem) (s : Src) (i : ℕ) → IsPage (ppu_shows m s i)
ppu_shown m Chr i = part_whole m.chr (i * 1024)
ppu_shown m PrgRom i = inr refl
ppu_shown m PrgRam i = inr refl
ppu_shown m Blank i = inr refl
ppu_shown m CiRam i = inr refl
ppu_shown m ExRam i = inr refl

behind_gate : (g : Gate) (l : List ℕ) → IsPage l → IsPage (behind g (λ r. []) l)
behind_gate (Ok u) l p = p
behind_gate (Err r) l p = inr refl

pub cpu_page_whole : (s : State) (m : Mem) (a : ℕ) → IsPage (cpu_view s m a)
unfolding cpu_view
cpu_page_whole s m a = let page = page_of (prg_word_at s.prg_pages a) in behind_gate (gate_mem s m) _ (cpu_shown m page.src page.index)

pub ppu_page_whole : (s : State) (m : Mem) (a : ℕ) → IsPage (ppu_view s m a)
unfolding ppu_view
ppu_page_whole s m a = let page = page_of (chr_word_at s.chr_pages a) in behind_gate (gate_mem s m) _ (ppu_shown m page.src page.index)
