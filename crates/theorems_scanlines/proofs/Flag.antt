-- The flag and the interrupt: after any history the detector's are those that the history tells, as sentences and as tests.
-- Assumes nothing.
use Prim.Native.Nat.{ℕ, ◌≤◌}
use mathlib.Core.Path.{◌≡◌, refl, sym, ◌∙◌, ap}
use mathlib.Core.Logic.{◌↔◌}
use mathlib.Core.Bool.{Bool, true, false, not, ◌&&◌, ◌||◌, false≢true}
use mathlib.Core.List.{[], ◌∷◌, ◌++◌}
use mathlib.Core.Option.{Option, none, some, get_or}
use native.Mathlib.Omega.{arith}
use borrow.Author.Tests.{leb-true, eqb-true, le-leb, eq-eqb, ne_eqb}
use lib.Dec.{leb, eqb}
use Rattle.memory.proofs.Tests.{split, and_left, and_right}
use Rattle.scanline.specs.declared.Detector.{Detector}
use Rattle.scanline.specs.Steps.{is_line, line_number, meets, interrupt_up}
use Rattle.scanline.proofs.StepLaws.{numbered}
use Rattle.theorems_scanlines.specs.Events.{fetches, reads, address, counts, vectors, clears}
use Rattle.theorems_scanlines.specs.Calls.{Event}
use Rattle.theorems_scanlines.specs.Calls.Event.{clock, fetch, cpu_read, cpu_write, ppu_register, other}
use Rattle.theorems_scanlines.specs.Told.{line_at, lines, is_in_frame, last_write, none_of, Hit, Flagged, had_bit7, Up, is_value, hits, flag_told, up}
use Rattle.theorems_scanlines.specs.Calls.{History}
use Rattle.theorems_scanlines.specs.Run.{run}
use Rattle.theorems_scanlines.proofs.Fields.{strikes, strikes_target, stepped, by_fields}
use Rattle.theorems_scanlines.proofs.Agree.{Agrees, agrees, strikes_line}

-- a line is a fetch, and clears nothing
line_clears : (h : History) (e : Event) → line_at e h ≡ true → clears e ≡ false
unfolding clears vectors reads line_at fetches
line_clears h (fetch a) p = refl
line_clears h clock p = refl
line_clears h (cpu_read a) p = cc
line_clears h (cpu_write a v) p = refl
line_clears h (ppu_register a v) p = refl
line_clears h other p = refl

-- the detector's target against a line's number, and the history's; a target of 0, as load has it, is no line's number that is asked for
target_is : (o : Option ℕ) (n : ℕ) → 1 ≤ n → eqb n (get_or o 0) ≡ is_value o n
unfolding is_value
target_is none n p = ne_eqb n 0 (λ q. omega arith)
target_is (some v) n p = refl

-- a chain of tests, its first two together
join : (a b c l x : Bool) → a && b ≡ l → c ≡ x → a && (b && c) ≡ l && x
join true b c l x p q = rw (p, q)
join false b c l x p q = rw (← p)

module _ (h : History) (d : Detector) (e : Event) (g : Agrees h d) where
  on_target : leb 1 (line_number d) && eqb (line_number d) d.irq_scanline ≡ is_in_frame h && is_value (last_write 0x5203 h) (lines h)
  unfolding is_in_frame
  on_target =
      rw (numbered d d.irq_scanline, g.in_frame)
      (split (is_in_frame h) (λ t. let p : 1 ≤ lines h = leb-true 1 (lines h) t in rw (t, g.number p, g.target) (target_is (last_write 0x5203 h) (lines h) p)) (λ t. rw t))

  -- the detector meets its target where the history has a hit
  pub meets_hits : strikes_target d e ≡ hits e h
  unfolding strikes_target hits meets strikes
  meets_hits = join (counts e) (is_line d (address e)) _ (line_at e h) _ (strikes_line h d e g.linked) on_target

pub flag_is : (h : History) → (run h).pending ≡ flag_told h
unfolding run flag_told stepped
flag_is [] = refl
flag_is (e ∷ h) = ap (λ (d : Detector). d.pending) (by_fields (run h) e) ∙ rw (meets_hits h (run h) e (agrees h), flag_is h)

pub up_is : (h : History) → interrupt_up (run h) ≡ up h
unfolding up
up_is h = rw (flag_is h, (agrees h).enabled)

-- The tests say what the sentences say ------------------------------------------------------------------------------------------------

value_is : (o : Option ℕ) (n : ℕ) → is_value o n ≡ true → o ≡ some n
unfolding is_value
value_is none n p = absurd (false≢true p)
value_is (some v) n p = ap some (sym (eqb-true n v p))

pub hits_hit : (e : Event) (h : History) → hits e h ≡ true → Hit e h
unfolding hits is_in_frame
hits_hit e h p =
    let q = and_right (line_at e h) (is_in_frame h && is_value (last_write 0x5203 h) (lines h)) p in
    record {
      line = and_left (line_at e h) (is_in_frame h && is_value (last_write 0x5203 h) (lines h)) p;
      later = leb-true 1 (lines h) (and_left (is_in_frame h) (is_value (last_write 0x5203 h) (lines h)) q);
      equal = value_is (last_write 0x5203 h) (lines h) (and_right (is_in_frame h) (is_value (last_write 0x5203 h) (lines h)) q);
    }

hit_hits : (e : Event) (h : History) → Hit e h → hits e h ≡ true
unfolding hits is_in_frame is_value
hit_hits e h t = rw (t.line, le-leb 1 (lines h) t.later, t.equal, eq-eqb (lines h) (lines h) refl)

now : (h : History) (e : Event) → Hit e h → Flagged (e ∷ h)
unfolding none_of
now h e t = record { after = []; line = e; before = h; split = refl; hit = t; unread = refl }

still : (h : History) (e : Event) → not (clears e) ≡ true → Flagged h → Flagged (e ∷ h)
unfolding none_of
still h e c f = record { after = e ∷ f.after; line = f.line; before = f.before; split = ap (λ x. e ∷ x) f.split; hit = f.hit; unread = rw c f.unread }

pub flag_flagged : (h : History) → flag_told h ≡ true → Flagged h
unfolding flag_told
flag_flagged [] p = absurd (false≢true p)
flag_flagged (e ∷ h) p =
    let c = and_left (not (clears e)) (hits e h || flag_told h) p in
    let q = and_right (not (clears e)) (hits e h || flag_told h) p in
    split (hits e h) (λ t. now h e (hits_hit e h t)) (λ t. still h e c (flag_flagged h (rw t at q)))

pub flag_since : (after : History) (e : Event) (before : History) → Hit e before → none_of clears after ≡ true → flag_told (after ++ (e ∷ before)) ≡ true
unfolding flag_told none_of
flag_since [] e before t u = rw (line_clears before e t.line, hit_hits e before t)
flag_since (x ∷ after) e before t u =
    rw (and_left (not (clears x)) (none_of clears after) u)
    (split (hits x (after ++ (e ∷ before))) (λ m. rw m) (λ m. rw m (flag_since after e before t (and_right (not (clears x)) (none_of clears after) u))))

pub flagged_flag : (h : History) → Flagged h → flag_told h ≡ true
flagged_flag h f = rw f.split (flag_since f.after f.line f.before f.hit f.unread)

pub flag_iff : (h : History) → (flag_told h ≡ true) ↔ Flagged h
flag_iff h = (flag_flagged h, flagged_flag h)

pub up_iff : (h : History) → (up h ≡ true) ↔ Up h
unfolding up
up_iff h = (
  λ p. record { flagged = flag_flagged h (and_left (flag_told h) (had_bit7 (last_write 0x5204 h)) p); enabled = and_right (flag_told h) (had_bit7 (last_write 0x5204 h)) p },
  λ u. rw (flagged_flag h u.flagged) u.enabled,
)
