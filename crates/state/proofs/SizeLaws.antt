-- What the recorded lengths are, where they pass load: facts with names.
use Prim.Native.Nat.{ℕ, ◌%◌, ◌≤◌}
use mathlib.Core.Bool.{Bool, true}
use mathlib.Core.List.{[], ◌∷◌}
use mathlib.Core.Path.{◌≡◌}
use borrow.Author.Tests.{leb-true, eqb-true}
use lib.Dec.{eqb, leb}
use Rattle.memory.proofs.Tests.{conj_at}
use Rattle.state.specs.declared.Lengths.{Lengths}
use Rattle.state.specs.Lengths.{prg_taken, chr_taken, ram_taken, lengths_ok}

pub record Taken (z : Lengths) : Type 0 where
  pub is_loaded : z.loaded ≡ true
  pub prg_whole : z.prg % 8192 ≡ 0
  pub prg_least : 8192 ≤ z.prg
  pub prg_most : z.prg ≤ 1048576
  pub chr_whole : z.chr % 1024 ≡ 0
  pub chr_most : z.chr ≤ 1048576
  pub ram_whole : z.ram % 1024 ≡ 0
  pub ram_most : z.ram ≤ 65536
  pub ciram_is : z.ciram ≡ 2048
  pub exram_is : z.exram ≡ 1024

pub lengths_say : (z : Lengths) → lengths_ok z ≡ true → Taken z
unfolding lengths_ok
lengths_say z e =
    let all = z.loaded ∷ prg_taken z.prg ∷ chr_taken z.chr ∷ ram_taken z.ram z.ciram z.exram ∷ [] in
    let prg = conj_at (eqb (z.prg % 8192) 0 ∷ leb 8192 z.prg ∷ leb z.prg 1048576 ∷ []) in
    let chr = conj_at (eqb (z.chr % 1024) 0 ∷ leb z.chr 1048576 ∷ []) in
    let ram = conj_at (eqb (z.ram % 1024) 0 ∷ leb z.ram 65536 ∷ eqb z.ciram 2048 ∷ eqb z.exram 1024 ∷ []) in
    record {
      is_loaded = conj_at all 0 e;
      prg_whole = eqb-true (z.prg % 8192) 0 (prg 0 (conj_at all 1 e));
      prg_least = leb-true 8192 z.prg (prg 1 (conj_at all 1 e));
      prg_most = leb-true z.prg 1048576 (prg 2 (conj_at all 1 e));
      chr_whole = eqb-true (z.chr % 1024) 0 (chr 0 (conj_at all 2 e));
      chr_most = leb-true z.chr 1048576 (chr 1 (conj_at all 2 e));
      ram_whole = eqb-true (z.ram % 1024) 0 (ram 0 (conj_at all 3 e));
      ram_most = leb-true z.ram 65536 (ram 1 (conj_at all 3 e));
      ciram_is = eqb-true z.ciram 2048 (ram 2 (conj_at all 3 e));
      exram_is = eqb-true z.exram 1024 (ram 3 (conj_at all 3 e));
    }

-- Lengths that load takes, once recorded, pass.
pub lengths_hold : (p c r i e : ℕ) (w : Bool) → prg_taken p ≡ true → chr_taken c ≡ true → ram_taken r i e ≡ true
    → lengths_ok (record { loaded = true; prg = p; chr = c; ram = r; ciram = i; exram = e; chr_writable = w }) ≡ true
unfolding lengths_ok
lengths_hold p c r i e w hp hc hr = rw (hp, hc, hr)
