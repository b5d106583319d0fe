-- The wait for a line, told by the history alone: no flag before the (n - l)th line, and the interrupt up at it.
-- Assumes nothing.
use Prim.Native.Nat.{ℕ, ◌+◌, ◌-◌, ◌<◌}
use mathlib.Core.Path.{◌≡◌, refl, sym, ◌∙◌, ap}
use mathlib.Core.Bool.{Bool, true, false, not, ◌||◌, false≢true}
use mathlib.Core.List.{[], ◌∷◌, ◌++◌}
use mathlib.Core.Option.{some}
use native.Mathlib.Omega.{arith}
use Rattle.memory.specs.Tests.{pick}
use Rattle.memory.proofs.Tests.{split, and_left, and_right}
use Rattle.theorems_scanlines.specs.Events.{fetches, writes, clears}
use Rattle.theorems_scanlines.specs.Calls.{Event}
use Rattle.theorems_scanlines.specs.Calls.Event.{clock, fetch, cpu_read, cpu_write, ppu_register, other}
use Rattle.theorems_scanlines.specs.Told.{breaks, line_at, lines, last_write, none_of, Waiting, new_lines, calm, hits, flag_told, up}
use Rattle.theorems_scanlines.specs.Calls.{History}
use Rattle.theorems_scanlines.proofs.Flag.{hits_hit, flag_flagged, flag_since}

none_true : (a b c : Bool) → not (a || b || c) ≡ true → (a ≡ false) × (b ≡ false) × (c ≡ false)
none_true a b c p =
    split a
    (λ t. absurd (false≢true (rw t at p)))
    (λ t. split b (λ u. absurd (false≢true (rw (t, u) at p))) (λ u. split c (λ v. absurd (false≢true (rw (t, u, v) at p))) (λ v. (t, u, v))))

-- what calm calls leave: the line number moves with the lines, and the two registers stand
record Calm (g h : History) : Type 0 where
  at_line : lines (g ++ h) ≡ new_lines g h + lines h
  target : last_write 0x5203 (g ++ h) ≡ last_write 0x5203 h
  enabled : last_write 0x5204 (g ++ h) ≡ last_write 0x5204 h

calmly : (g h : History) → calm g h ≡ true → Calm g h
unfolding calm lines new_lines last_write
calmly [] h c = record { at_line = omega arith; target = refl; enabled = refl }
calmly (e ∷ g) h c =
    let n = none_true (breaks e (g ++ h)) (writes 0x5203 e) (writes 0x5204 e) (and_left _ (calm g h) c) in
    let i = calmly g h (and_right (not (breaks e (g ++ h) || writes 0x5203 e || writes 0x5204 e)) (calm g h) c) in
    record {
      at_line = rw (n.0, i.at_line) (split (line_at e (g ++ h)) (λ t. rw t (omega arith)) (λ t. rw t));
      target = rw n.1 i.target;
      enabled = rw n.2 i.enabled;
    }

-- a line is a fetch, and writes nothing
line_writes : (h : History) (e : Event) (p : ℕ) → line_at e h ≡ true → writes p e ≡ false
unfolding writes line_at fetches
line_writes h (fetch a) p l = refl
line_writes h clock p l = refl
line_writes h (cpu_read a) p l = refl
line_writes h (cpu_write a v) p l = cc
line_writes h (ppu_register a v) p l = refl
line_writes h other p l = refl

fewer : (b : Bool) (m k : ℕ) → pick b (m + 1) m < k → m < k
fewer true m k p = omega arith
fewer false m k p = p

module _ (h : History) (l n : ℕ) (w : Waiting h l n) where
  -- a line before the (n - l)th is not the target
  early : (g : History) → calm g h ≡ true → new_lines g h + 1 < n - l → last_write 0x5203 (g ++ h) ≡ some (lines (g ++ h)) → ⊥
  early g c k q =
      let i = calmly g h c in
      let a : n ≡ lines (g ++ h) = cc (i.target, w.target) in
      omega (arith, i.at_line, w.at_line)

  pub no_flag : (g : History) → calm g h ≡ true → new_lines g h < n - l → flag_told (g ++ h) ≡ false
  unfolding calm new_lines flag_told
  no_flag [] c k = split (flag_told h) (λ t. absurd (w.clear (flag_flagged h t))) (λ t. t)
  no_flag (e ∷ g) c k =
      let r = and_right (not (breaks e (g ++ h) || writes 0x5203 e || writes 0x5204 e)) (calm g h) c in
      split (hits e (g ++ h))
      (λ m. let t = hits_hit e (g ++ h) m in absurd (early g r (rw t.line at k) t.equal))
      (λ m. rw (m, no_flag g r (fewer (line_at e (g ++ h)) (new_lines g h) (n - l) k)) (split (clears e) (λ t. rw t) (λ t. rw t)))

  pub no_sooner : (g : History) → calm g h ≡ true → new_lines g h < n - l → up (g ++ h) ≡ false
  unfolding up
  no_sooner g c k = rw (no_flag g c k)

  -- the (n - l)th line is the target
  due : (g : History) → calm g h ≡ true → new_lines g h + 1 ≡ n - l → last_write 0x5203 (g ++ h) ≡ some (lines (g ++ h))
  due g c k =
      let i = calmly g h c in
      let a : lines (g ++ h) ≡ n = omega (arith, i.at_line, w.at_line, w.ahead) in
      i.target ∙ w.target ∙ ap some (sym a)

  pub served : (g : History) (e : Event) → calm g h ≡ true → line_at e (g ++ h) ≡ true → new_lines (e ∷ g) h ≡ n - l → up (e ∷ (g ++ h)) ≡ true
  unfolding up new_lines last_write none_of
  served g e c t k =
      let q : new_lines g h + 1 ≡ n - l = rw t at k in
      let i = calmly g h c in
      rw (flag_since [] e (g ++ h) (record { line = t; later = omega (arith, i.at_line, w.at_line); equal = due g c q }) refl, line_writes (g ++ h) e 0x5204 t, i.enabled) w.enabled
