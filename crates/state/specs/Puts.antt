-- What is promised of the definitions of With.antt, so that nobody need read them: each puts one field anew and touches no other.
use Rattle.std.specs.Prelude.{◌≡◌}
use Rattle.state.specs.declared.PpuStatus.{PpuStatus}
use Rattle.state.specs.declared.State.{State}
use Rattle.state.specs.With.{with_regs, with_vsplit, with_irq, with_ppu, with_chr_pages, with_tile_number, with_tile_cache, with_sprite8x16, with_rendering, with_bg_set, with_bg_written}

-- The field is the new one; and with the old one put back all is as it was.
pub record Puts {A B : Type 0} (field : A → B) (with : A → B → A) : Type 0 where
  pub is_new : (s : A) (v : B) → field (with s v) ≡ v
  pub else_kept : (s : A) (v : B) → with (with s v) (field s) ≡ s

pub record OneField : Type 0 where
  pub regs : Puts (λ (s : State). s.regs) with_regs
  pub vsplit : Puts (λ (s : State). s.vsplit) with_vsplit
  pub irq : Puts (λ (s : State). s.irq) with_irq
  pub ppu : Puts (λ (s : State). s.ppu) with_ppu
  pub chr_pages : Puts (λ (s : State). s.chr_pages) with_chr_pages
  pub tile_number : Puts (λ (p : PpuStatus). p.tile_number) with_tile_number
  pub tile_cache : Puts (λ (p : PpuStatus). p.tile_cache) with_tile_cache
  pub sprite8x16 : Puts (λ (p : PpuStatus). p.sprite8x16) with_sprite8x16
  pub rendering : Puts (λ (p : PpuStatus). p.rendering) with_rendering
  pub bg_set : Puts (λ (p : PpuStatus). p.bg_set) with_bg_set
  pub bg_written : Puts (λ (p : PpuStatus). p.bg_written) with_bg_written
