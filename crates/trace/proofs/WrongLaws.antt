-- A number is sound exactly where it is neither cut nor padded nor above its limit, and so a record is refused exactly where 01 says.
use Prim.Native.Nat.{ℕ, zero, suc, ◌+◌, ◌*◌, ◌%◌, ◌<◌, ◌≤◌}
use mathlib.Core.Bool.{Bool, true, false, ◌&&◌, ◌||◌, false≢true}
use mathlib.Core.List.{List, [], ◌∷◌}
use mathlib.Core.Path.{◌≡◌, refl, sym, ap, ◌∙◌}
use native.Mathlib.Omega.{arith}
use borrow.Author.Tests.{ltb-true, ltb-false, lt-ltb, le-ltb, le-leb, lt-leb, eqb-true, eqb-false}
use lib.Dec.{eqb, ltb}
use lib.ListN.{length, get_or, take, drop}
use lib.Seq.{drop-drop}
use Rattle.memory.specs.Tests.{pick}
use Rattle.memory.proofs.Tests.{split}
use Rattle.answers.specs.declared.Refusal.TheVariants.{Number}
use Rattle.std.specs.Prelude.{Ok, Err}
use Rattle.trace.specs.declared.BadNumber.{BadNumber}
use Rattle.trace.specs.declared.BadNumber.TheVariants.{Cut, Padded, Above}
use Rattle.trace.specs.Numbers.{Numeral, numeral, limited, number_at}
use Rattle.trace.specs.Records.{Found, Refused, Form, whole, address, value, unknown, form_of, numbered, filled, record_at}
use Rattle.trace.specs.Refusals.{topped, worth, is_cut, is_padded, is_above, is_wrong, limits, any_wrong, refusal_at}
use Rattle.trace.specs.Promise.{number_found}
use Rattle.trace.proofs.FormLaws.{over_none, over_bad, over_more}
use Rattle.trace.proofs.RecordLaws.{by_kind, by_byte, has_none, none_left, kind_left}

-- The powers of 128.
unfoldable pub power : ℕ → ℕ
power zero = 1
power (suc n) = 128 * power n

power_some : (n : ℕ) → 1 ≤ power n
unfolding power
power_some zero = omega arith
power_some (suc n) = omega (arith, power_some n)

power_grows : (m n : ℕ) → m ≤ n → power m ≤ power n
unfolding power
power_grows zero n h = power_some n
power_grows (suc m) zero h = absurd (omega (arith, h))
power_grows (suc m) (suc n) h = omega (arith, power_grows m n (omega (arith, h)))

-- What the last group is worth.
abbrev last : List ℕ → ℕ
last bytes = get_or bytes (topped bytes) 0

abbrev sum : List ℕ → ℕ
sum bytes = worth (take (suc (topped bytes)) bytes)

last_counts : (bytes : List ℕ) → (last bytes ≡ 0 → ⊥) → power (topped bytes) ≤ sum bytes
unfolding topped worth power
last_counts [] n = absurd (n refl)
last_counts (b ∷ bytes) n =
    split (ltb b 128)
    (λ t. let m : b ≡ 0 → ⊥ = rw t at n in rw t (omega (arith, m, ltb-true b 128 t)))
    (λ t. let m : last bytes ≡ 0 → ⊥ = rw t at n in rw t (omega (arith, last_counts bytes m)))

only_none : (bytes : List ℕ) → topped bytes ≡ 0 → last bytes ≡ 0 → sum bytes ≡ 0
unfolding worth
only_none [] e l = refl
only_none (b ∷ bytes) e l = let m : b ≡ 0 = rw e at l in rw e (omega (arith, m))

topped_inside : (bytes : List ℕ) → topped bytes ≤ length bytes
unfolding topped
topped_inside [] = omega arith
topped_inside (b ∷ bytes) = split (ltb b 128) (λ t. rw t (omega arith)) (λ t. rw t (omega (arith, topped_inside bytes)))

-- What a number is read as, by its groups.
reads_cut : (groups at : ℕ) (bytes : List ℕ) → topped bytes < groups → topped bytes ≡ length bytes → numeral groups at bytes ≡ Err Cut
unfolding numeral topped
reads_cut zero at bytes h e = absurd (omega (arith, h))
reads_cut (suc groups) at [] h e = refl
reads_cut (suc groups) at (b ∷ bytes) h e =
    split (ltb b 128)
    (λ t. let f : 0 ≡ suc (length bytes) = rw t at e in absurd (omega (arith, f)))
    (λ t.
    let k : suc (topped bytes) < suc groups = rw t at h in
    let f : suc (topped bytes) ≡ suc (length bytes) = rw t at e in
    rw t (over_bad (b % 128) 128 (numeral groups (at + 1) bytes) Cut (reads_cut groups (at + 1) bytes (omega (arith, k)) (omega (arith, f)))))

reads_above : (groups at : ℕ) (bytes : List ℕ) → groups ≤ topped bytes → numeral groups at bytes ≡ Err Above
unfolding numeral topped
reads_above zero at bytes h = refl
reads_above (suc groups) at [] h = absurd (omega (arith, h))
reads_above (suc groups) at (b ∷ bytes) h =
    split (ltb b 128)
    (λ t. let k : suc groups ≤ 0 = rw t at h in absurd (omega (arith, k)))
    (λ t.
    let k : suc groups ≤ suc (topped bytes) = rw t at h in
    rw t (over_bad (b % 128) 128 (numeral groups (at + 1) bytes) Above (reads_above groups (at + 1) bytes (omega (arith, k)))))

reads_sum : (groups at : ℕ) (bytes : List ℕ) → topped bytes < groups → topped bytes < length bytes → (0 < topped bytes → last bytes ≡ 0 → ⊥)
    → numeral groups at bytes ≡ Ok (sum bytes, at + suc (topped bytes))
unfolding numeral topped worth
reads_sum zero at bytes h i n = absurd (omega (arith, h))
reads_sum (suc groups) at [] h i n = absurd (omega (arith, i))
reads_sum (suc groups) at (b ∷ bytes) h i n =
    split (ltb b 128)
    (λ t. rw t (ap (λ (v : ℕ). Ok (v, at + 1)) (omega (arith, ltb-true b 128 t))))
    (λ t.
    let k : suc (topped bytes) < suc groups = rw t at h in
    let j : suc (topped bytes) < suc (length bytes) = rw t at i in
    let m : 0 < suc (topped bytes) → last bytes ≡ 0 → ⊥ = rw t at n in
    let z : last bytes ≡ 0 → ⊥ = m (omega arith) in
    let r : numeral groups (at + 1) bytes ≡ Ok (sum bytes, at + 1 + suc (topped bytes)) = reads_sum groups (at + 1) bytes (omega (arith, k)) (omega (arith, j)) (λ p. z) in
    rw t
    (over_more (b % 128) 128 (numeral groups (at + 1) bytes) (sum bytes) (at + 1 + suc (topped bytes)) r
    (λ e. absurd (omega (arith, e, last_counts bytes z, power_some (topped bytes))))
    ∙ ap (λ (p : ℕ). Ok (b % 128 + 128 * sum bytes, p)) (omega arith)))

reads_padded : (groups at : ℕ) (bytes : List ℕ) → topped bytes < groups → topped bytes < length bytes → 0 < topped bytes → last bytes ≡ 0
    → numeral groups at bytes ≡ Err Padded
unfolding numeral topped
reads_padded zero at bytes h i p e = absurd (omega (arith, h))
reads_padded (suc groups) at [] h i p e = absurd (omega (arith, i))
reads_padded (suc groups) at (b ∷ bytes) h i p e =
    split (ltb b 128)
    (λ t. let q : 0 < 0 = rw t at p in absurd (omega (arith, q)))
    (λ t.
    let k : suc (topped bytes) < suc groups = rw t at h in
    let j : suc (topped bytes) < suc (length bytes) = rw t at i in
    let z : last bytes ≡ 0 = rw t at e in
    rw t
    (split (ltb 0 (topped bytes))
    (λ more.
    over_bad (b % 128) 128 (numeral groups (at + 1) bytes) Padded
    (reads_padded groups (at + 1) bytes (omega (arith, k)) (omega (arith, j)) (ltb-true 0 (topped bytes) more) z))
    (λ none.
    let o : topped bytes ≡ 0 = omega (arith, ltb-false 0 (topped bytes) none) in
    over_none (b % 128) 128 (numeral groups (at + 1) bytes) (at + 1 + suc (topped bytes))
    (reads_sum groups (at + 1) bytes (omega (arith, k)) (omega (arith, j)) (λ q. absurd (omega (arith, q, o)))
    ∙ ap (λ (v : ℕ). Ok (v, at + 1 + suc (topped bytes))) (only_none bytes o z)))))

-- The same as tests: a wrong number is refused, another is read.
and_off : (a b : Bool) → a && b ≡ false → a ≡ true → b ≡ false
and_off a b e h = rw h at e

or_left : (a b : Bool) → a || b ≡ false → a ≡ false
or_left true b e = e
or_left false b e = refl

or_right : (a b : Bool) → a || b ≡ false → b ≡ false
or_right true b e = absurd (false≢true (sym e))
or_right false b e = e

module _ (groups limit at : ℕ) (bytes : List ℕ) where
  few_groups : 1 ≤ groups → (0 < topped bytes → last bytes ≡ 0 → ⊥) → sum bytes ≤ limit → limit < power groups → groups ≤ topped bytes → topped bytes < groups
  few_groups some n s wide many =
      split (ltb 0 (topped bytes))
      (λ p. absurd (omega (arith, s, wide, last_counts bytes (n (ltb-true 0 (topped bytes) p)), power_grows groups (topped bytes) many)))
      (λ p. absurd (omega (arith, some, many, ltb-false 0 (topped bytes) p)))

  Refuses : Numeral → Type 0
  Refuses m = (f : ℕ → ℕ → Found) → numbered m f ≡ Refused Number

  refuses_bad : (m : Numeral) (bad : BadNumber) → m ≡ Err bad → Refuses (limited limit m)
  unfolding Refuses limited numbered
  refuses_bad m bad e f = rw e

  refuses_large : (m : Numeral) (n next : ℕ) → m ≡ Ok (n, next) → limit < n → Refuses (limited limit m)
  unfolding Refuses limited numbered
  refuses_large m n next e h f = rw (e, lt-leb n limit h)

  wrong_refused : is_wrong limit bytes ≡ true → Refuses (limited limit (numeral groups at bytes))
  wrong_refused w =
      split (ltb (topped bytes) groups)
      (λ few.
      let g : topped bytes < groups = ltb-true (topped bytes) groups few in
      split (is_cut bytes)
      (λ c. refuses_bad (numeral groups at bytes) Cut (reads_cut groups at bytes g (eqb-true (topped bytes) (length bytes) c)))
      (λ c.
      let i : topped bytes < length bytes = omega (arith, topped_inside bytes, eqb-false (topped bytes) (length bytes) c) in
      split (ltb 0 (topped bytes))
      (λ p.
      split (eqb (last bytes) 0)
      (λ z. refuses_bad (numeral groups at bytes) Padded (reads_padded groups at bytes g i (ltb-true 0 (topped bytes) p) (eqb-true (last bytes) 0 z)))
      (λ z. refuses_large (numeral groups at bytes) (sum bytes) (at + suc (topped bytes)) (reads_sum groups at bytes g i (λ q. eqb-false (last bytes) 0 z))
      (ltb-true limit (sum bytes) (rw (c, p, z) at w))))
      (λ p. refuses_large (numeral groups at bytes) (sum bytes) (at + suc (topped bytes)) (reads_sum groups at bytes g i (λ q. absurd (omega (arith, q, ltb-false 0 (topped bytes) p))))
      (ltb-true limit (sum bytes) (rw (c, p) at w)))))
      (λ many. refuses_bad (numeral groups at bytes) Above (reads_above groups at bytes (ltb-false (topped bytes) groups many)))

  right_read : 1 ≤ groups → limit < power groups → is_wrong limit bytes ≡ false → limited limit (numeral groups at bytes) ≡ Ok (sum bytes, at + suc (topped bytes))
  unfolding limited
  right_read some wide w =
      let c : is_cut bytes ≡ false = or_left (is_cut bytes) (is_padded bytes || is_above limit bytes) w in
      let r : is_padded bytes || is_above limit bytes ≡ false = or_right (is_cut bytes) (is_padded bytes || is_above limit bytes) w in
      let p : is_padded bytes ≡ false = or_left (is_padded bytes) (is_above limit bytes) r in
      let s : sum bytes ≤ limit = ltb-false limit (sum bytes) (or_right (is_padded bytes) (is_above limit bytes) r) in
      let i : topped bytes < length bytes = omega (arith, topped_inside bytes, eqb-false (topped bytes) (length bytes) c) in
      let n : 0 < topped bytes → last bytes ≡ 0 → ⊥ = λ q. eqb-false (last bytes) 0 (and_off (ltb 0 (topped bytes)) (eqb (last bytes) 0) p (lt-ltb 0 (topped bytes) q)) in
      let g : topped bytes < groups =
      split (ltb (topped bytes) groups) (λ t. ltb-true (topped bytes) groups t)
      (λ t. few_groups some n s wide (ltb-false (topped bytes) groups t)) in
      rw (reads_sum groups at bytes g i n, le-leb (sum bytes) limit s)

-- Each kind's form takes numbers with the kind's limits.
Limited : List ℕ → Form → Type 0
Limited [] (whole call) = Unit {0}
Limited [] (address rest) = ⊥
Limited [] (value rest) = ⊥
Limited [] unknown = ⊥
Limited (limit ∷ more) (whole call) = ⊥
Limited (limit ∷ more) (address rest) = (limit ≡ 65535) × ((a : ℕ) → Limited more (rest a))
Limited (limit ∷ more) (value rest) = (limit ≡ 255) × ((v : ℕ) → Limited more (rest v))
Limited (limit ∷ more) unknown = ⊥

forms_limited : (k : ℕ) → k < 7 → Limited (get_or limits k []) (form_of k)
unfolding Limited
forms_limited =
    by_kind (λ (k : ℕ). Limited (get_or limits k []) (form_of k))
    tt (refl, λ a. tt) (refl, λ a. (refl, λ v. tt)) (refl, λ a. (refl, λ v. tt)) (refl, λ a. tt) tt (refl, λ a. (refl, λ v. tt))

module _ (t : List ℕ) where
  Exactly : List ℕ → ℕ → Form → Type 0
  Exactly ls at form = number_found (filled t at form) ≡ pick (any_wrong ls (drop at t)) 10 0

  one_more : (groups limit at : ℕ) (more : List ℕ) (rest : ℕ → Form) → 1 ≤ groups → limit < power groups → ((n next : ℕ) → Exactly more next (rest n))
      → number_found (numbered (number_at groups limit t at) (λ (n next : ℕ). filled t next (rest n))) ≡ pick (any_wrong (limit ∷ more) (drop at t)) 10 0
  unfolding Exactly any_wrong numbered Refuses
  one_more groups limit at more rest some wide further =
      split (is_wrong limit (drop at t))
      (λ w. rw (wrong_refused groups limit at (drop at t) w (λ (n next : ℕ). filled t next (rest n)), w))
      (λ w.
      rw (right_read groups limit at (drop at t) some wide w, w, drop-drop (suc (topped (drop at t))) at t)
      (further (sum (drop at t)) (at + suc (topped (drop at t)))))

  exactly_form : (ls : List ℕ) (at : ℕ) (form : Form) → Limited ls form → Exactly ls at form
  unfolding Limited Exactly filled any_wrong power
  exactly_form [] at (whole call) l = refl
  exactly_form [] at (address rest) l = absurd l
  exactly_form [] at (value rest) l = absurd l
  exactly_form [] at unknown l = absurd l
  exactly_form (limit ∷ more) at (whole call) l = absurd l
  exactly_form (limit ∷ more) at (address rest) l = rw l.0 (one_more 3 65535 at more rest (omega arith) (omega arith) (λ n next. exactly_form more next (rest n) (l.1 n)))
  exactly_form (limit ∷ more) at (value rest) l = rw l.0 (one_more 2 255 at more rest (omega arith) (omega arith) (λ n next. exactly_form more next (rest n) (l.1 n)))
  exactly_form (limit ∷ more) at unknown l = absurd l

  pub refused_exactly : (at : ℕ) → number_found (record_at t at) ≡ refusal_at t at
  unfolding refusal_at filled Exactly
  refused_exactly at =
      split (ltb at (length t))
      (λ b.
      let h : at < length t = ltb-true at (length t) b in
      rw (kind_left t at h, lt-leb (length t) at h)
      (by_byte (get_or t at 0)
      (λ k. rw (le-ltb 6 (get_or t at 0) (omega (arith, k))) (exactly_form (get_or limits (get_or t at 0) []) (at + 1) (form_of (get_or t at 0)) (forms_limited (get_or t at 0) k)))
      (λ k. rw (has_none (get_or t at 0) k, lt-ltb 6 (get_or t at 0) k))))
      (λ b. let h : length t ≤ at = ltb-false at (length t) b in rw (none_left t at h, le-leb (length t) at h))
