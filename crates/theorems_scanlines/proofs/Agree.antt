-- The detector after any history holds what the history alone tells: the invariant `Agrees`, and that each call keeps it.
-- `match_count` and `scanline` keep their old values over a break, so what is said of them is guarded.
-- Assumes nothing.
use Prim.Native.Nat.{ℕ, ◌+◌, ◌%◌, ◌≤◌, min}
use mathlib.Core.Path.{◌≡◌, refl, sym, ◌∙◌, subst}
use mathlib.Core.Bool.{true, false, not}
use mathlib.Core.List.{List, [], ◌∷◌}
use mathlib.Core.Option.{get_or}
use native.Mathlib.Omega.{arith}
use borrow.Author.Tests.{leb-true, leb-false, eqb-true, eqb-false, le-leb, eq-eqb, ne_eqb}
use lib.Dec.{leb, eqb}
use Rattle.memory.proofs.Tests.{split}
use Rattle.scanline.specs.declared.Detector.{Detector}
use Rattle.scanline.specs.Steps.{again, matches_after, is_line}
use Rattle.theorems_scanlines.specs.Events.{is_clock, fetches, writes, address, counts}
use Rattle.theorems_scanlines.specs.Calls.{Event}
use Rattle.theorems_scanlines.specs.Calls.Event.{clock, fetch, cpu_read, cpu_write, ppu_register, other}
use Rattle.theorems_scanlines.specs.Told.{idle, row, breaks, recent, alike, line_at, lines, is_in_frame, last_write, had_bit7}
use Rattle.theorems_scanlines.specs.Calls.{History}
use Rattle.theorems_scanlines.specs.Run.{run}
use Rattle.theorems_scanlines.proofs.Fields.{resets, strikes, stepped, by_fields}

-- two tests on numbers that come to the same
same_eq : (a b c d : ℕ) → (a ≡ b → c ≡ d) → (c ≡ d → a ≡ b) → eqb a b ≡ eqb c d
same_eq a b c d f g = split (eqb a b) (λ t. t ∙ sym (eq-eqb c d (f (eqb-true a b t)))) (λ t. t ∙ sym (ne_eqb c d (λ q. eqb-false a b t (g q))))

-- the previous address and the match count, against the fetches since the last break
abbrev pub Linked : List ℕ → Detector → Type 0
Linked [] d = d.prev_some ≡ false
Linked (x ∷ xs) d = (d.prev_some ≡ true) × (d.prev_addr.0 ≡ x) × (x ≤ 0x2FFF → d.match_count ≡ min (alike x xs) 255)

pub record Agrees (h : History) (d : Detector) : Type 0 where
  pub linked : Linked (recent h) d
  pub reading : d.reading ≡ not (idle h)
  pub idle_count : d.idle_count ≡ row h % 3
  pub in_frame : d.in_frame ≡ is_in_frame h
  pub number : 1 ≤ lines h → d.scanline + 1 ≡ lines h
  pub target : d.irq_scanline ≡ get_or (last_write 0x5203 h) 0
  pub enabled : d.irq_enabled ≡ had_bit7 (last_write 0x5204 h)

-- the match count that a fetch leaves: how many alike stand before it, held at 255
run_length : (xs : List ℕ) (d : Detector) (a : ℕ) → Linked xs d → a ≤ 0x2FFF → matches_after d a ≡ min (alike a xs) 255
unfolding matches_after again alike
run_length [] d a l h = rw (le-leb _ _ h, l)
run_length (x ∷ xs) d a l h =
    rw (le-leb _ _ h, l.0, l.1)
    (split (eqb a x)
    (λ t. let q : a ≡ x = eqb-true a x t in
    let m : d.match_count ≡ min (alike a xs) 255 = subst (λ y. d.match_count ≡ min (alike y xs) 255) (sym q) (l.2 (omega arith)) in rw t (omega arith))
    (λ t. rw t))

keeps : (xs : List ℕ) (d d' : Detector) → d'.prev_some ≡ d.prev_some → d'.prev_addr.0 ≡ d.prev_addr.0 → d'.match_count ≡ d.match_count → Linked xs d → Linked xs d'
keeps [] d d' p q r l = p ∙ l
keeps (x ∷ xs) d d' p q r l = (p ∙ l.0, q ∙ l.1, λ s. r ∙ l.2 s)

above : (d : Detector) (a : ℕ) → leb a 0x2FFF ≡ false → matches_after d a ≡ 0
unfolding matches_after again
above d a u = rw u

-- the detector's line is the history's
pub strikes_line : (h : History) (d : Detector) (e : Event) → Linked (recent h) d → strikes d e ≡ line_at e h
unfolding strikes line_at is_line counts fetches address
strikes_line h d (fetch a) l =
    split (leb 0x2000 a)
    (λ t. rw t
    (split (leb a 0x2FFF)
    (λ u. rw (u, le-leb a 0x3EFF (omega (arith, leb-true))) (rw (run_length (recent h) d a l (leb-true _ _ u)) (same_eq (min (alike a (recent h)) 255) 2 (alike a (recent h)) 2 (λ q. omega arith) (λ q. omega arith))))
    (λ u. rw (u, above d a u) (split (leb a 0x3EFF) (λ v. rw v) (λ v. rw v)))))
    (λ t. rw t)
strikes_line h d clock l = refl
strikes_line h d (cpu_read a) l = refl
strikes_line h d (cpu_write a v) l = refl
strikes_line h d (ppu_register a v) l = refl
strikes_line h d other l = refl

module _ (h : History) (d : Detector) (e : Event) (g : Agrees h d) where
  resets_breaks : resets d e ≡ breaks e h
  unfolding resets breaks
  resets_breaks =
      rw (g.reading, g.idle_count, same_eq (row h % 3 + 1) 3 ((row h + 1) % 3) 0 (λ q. omega arith) (λ q. omega arith))
      (split (idle h) (λ t. rw t) (λ t. rw t))

  linked : Linked (recent (e ∷ h)) (stepped d e)
  unfolding recent stepped
  linked =
      split (breaks e h)
      (λ t. rw (t, resets_breaks, t))
      (λ t. split (counts e)
      (λ u. rw (t, u) (rw (resets_breaks, t), refl, run_length (recent h) d (address e) g.linked))
      (λ u. rw (t, u) (keeps (recent h) d _ (rw (resets_breaks, t)) refl refl g.linked)))

  reading : (stepped d e).reading ≡ not (idle (e ∷ h))
  unfolding idle stepped
  reading = rw g.reading (split (is_clock e) (λ t. rw t) (λ t. rw t (split (counts e) (λ u. rw u) (λ u. rw u))))

  idle_count : (stepped d e).idle_count ≡ row (e ∷ h) % 3
  unfolding row stepped
  idle_count =
      split (is_clock e)
      (λ t. rw (t, g.reading) (split (idle h) (λ u. rw (u, g.idle_count) (omega arith)) (λ u. rw u)))
      (λ t. rw t g.idle_count)

  in_frame : (stepped d e).in_frame ≡ is_in_frame (e ∷ h)
  unfolding lines is_in_frame stepped
  in_frame =
      rw (resets_breaks, strikes_line h d e g.linked, g.in_frame)
      (split (breaks e h)
      (λ t. rw t)
      (λ t. rw t (split (line_at e h) (λ u. rw u (sym (le-leb 1 (lines h + 1) (omega arith)))) (λ u. rw u))))

  number : 1 ≤ lines (e ∷ h) → (stepped d e).scanline + 1 ≡ lines (e ∷ h)
  unfolding lines stepped is_in_frame
  number =
      rw (strikes_line h d e g.linked, g.in_frame)
      (split (breaks e h)
      (λ t. rw t (λ p. omega arith))
      (λ t. rw t
      (split (line_at e h)
      (λ u. rw u (λ p. split (is_in_frame h) (λ w. rw w (omega (arith, g.number (leb-true 1 (lines h) w)))) (λ w. rw w (omega (arith, leb-false 1 (lines h) w)))))
      (λ u. rw u g.number))))

  target : (stepped d e).irq_scanline ≡ get_or (last_write 0x5203 (e ∷ h)) 0
  unfolding last_write stepped
  target = split (writes 0x5203 e) (λ t. rw t) (λ t. rw t g.target)

  enabled : (stepped d e).irq_enabled ≡ had_bit7 (last_write 0x5204 (e ∷ h))
  unfolding last_write stepped had_bit7
  enabled = split (writes 0x5204 e) (λ t. rw t) (λ t. rw t g.enabled)

  onward : Agrees (e ∷ h) (stepped d e)
  onward = record { linked = linked; reading = reading; idle_count = idle_count; in_frame = in_frame; number = number; target = target; enabled = enabled }

pub agrees : (h : History) → Agrees h (run h)
unfolding run recent idle row lines is_in_frame last_write had_bit7
agrees [] = record { linked = refl; reading = refl; idle_count = refl; in_frame = refl; number = λ p. omega arith; target = refl; enabled = refl }
agrees (e ∷ h) = rw (by_fields (run h) e) (onward h (run h) e (agrees h))
