-- Laws of numbers in a trace. Assumes nothing.
use Prim.Native.Nat.{ℕ, zero, suc, ◌+◌, ◌*◌, ◌%◌, ◌<◌, ◌≤◌}
use mathlib.Core.List.{List, [], ◌∷◌}
use mathlib.Core.Path.{◌≡◌, refl, sym, ap, ◌∙◌}
use native.Mathlib.Nat.{mul-add, mul_assoc, mul-le-mul, mul-le-mul_left}
use native.Mathlib.Numerals.{add-one}
use native.Mathlib.Omega.{arith}
use borrow.Author.Tests.{lt-ltb, le-ltb, le-leb, lt-leb, ne_eqb, eqb-false, leb-true, ltb-true, ltb-false}
use mir.Syntax.{w8}
use mir.Val.{Fits}
use lib.Dec.{ltb, leb, eqb}
use lib.ListN.{length, get_or, drop, drop_of_length-le, length-drop}
use lib.Seq.{drop-cons}
use Rattle.memory.proofs.Tests.{split}
use Rattle.std.specs.Prelude.{Ok, Err}
use Rattle.trace.specs.declared.BadNumber.TheVariants.{Cut, Padded, Above}
use Rattle.trace.specs.Numbers.{Numeral, grouped, numeral, limited}

-- From two answers that cannot be the same.
pub clash : {A : Type 0} → ◌≡◌ {A = ℕ} 0 1 → A
clash z = absurd (omega arith)

-- Groups below groups: what `a` and `b` say together, lowest first.
regrouped : (a u b w h : ℕ) → a + u * (b + w * h) ≡ a + u * b + u * w * h
regrouped a u b w h = omega (arith, mul-add u b (w * h), mul_assoc u w h)

more_than_none : (b w h : ℕ) → 1 ≤ w → (h ≡ 0 → ⊥) → b + w * h ≡ 0 → ⊥
more_than_none b w h p n e = omega (arith, mul-le-mul {n₁ = 1} {m₁ = 1} {n₂ = w} {m₂ = h} p (omega arith))

pub over_over : (a u b w : ℕ) (n : Numeral) → 1 ≤ w → grouped a u (grouped b w n) ≡ grouped (a + u * b) (u * w) n
unfolding grouped
over_over a u b w (Ok (h, next)) p =
    split (eqb h 0)
    (λ t. rw t)
    (λ t. rw (t, ne_eqb (b + w * h) 0 (more_than_none b w h p (eqb-false h 0 t)), regrouped a u b w h))
over_over a u b w (Err bad) p = refl

-- Nothing is left at a place: a number there is cut.
pub no_group : (groups at : ℕ) (t : List ℕ) → length t ≤ at → numeral (suc groups) at (drop at t) ≡ Err Cut
unfolding numeral
no_group groups at t h = rw (drop_of_length-le t {i = at} h)

-- A group stands at a place.
module _ (t : List ℕ) (at group : ℕ) (here : at < length t) (is : group ≡ get_or t at 0) where
  last_group : (groups : ℕ) → group < 128 → numeral (suc groups) at (drop at t) ≡ Ok (group, at + 1)
  unfolding numeral
  last_group groups h = rw (drop-cons t at 0 here, ← is, lt-ltb group 128 h)

  pub further_group : (groups : ℕ) → 128 ≤ group → numeral (suc groups) at (drop at t) ≡ grouped (group % 128) 128 (numeral groups (at + 1) (drop (at + 1) t))
  unfolding numeral
  further_group groups h = rw (drop-cons t at 0 here, ← is, le-ltb group 128 h, add-one at)

  pub further_over : (groups low weight : ℕ) → 128 ≤ group
      → grouped low weight (numeral (suc groups) at (drop at t)) ≡ grouped (low + weight * (group % 128)) (weight * 128) (numeral groups (at + 1) (drop (at + 1) t))
  further_over groups low weight h =
      ap (grouped low weight) (further_group groups h) ∙ over_over low weight (group % 128) 128 (numeral groups (at + 1) (drop (at + 1) t)) (omega arith)

  -- The only group.
  pub only_group : (groups limit : ℕ) → group < 128 → 127 ≤ limit → limited limit (numeral (suc groups) at (drop at t)) ≡ Ok (group, at + 1)
  unfolding limited
  only_group groups limit h k = rw (last_group groups h, le-leb group limit (omega arith))

  -- A group over others.
  module _ (groups low weight limit : ℕ) where
    pub padded_group : group ≡ 0 → limited limit (grouped low weight (numeral (suc groups) at (drop at t))) ≡ Err Padded
    unfolding limited grouped
    padded_group h = rw (last_group groups (omega arith), h)

    pub top_group : (group ≡ 0 → ⊥) → group < 128 → low + weight * group ≤ limit
        → limited limit (grouped low weight (numeral (suc groups) at (drop at t))) ≡ Ok (low + weight * group, at + 1)
    unfolding limited grouped
    top_group n h k = rw (last_group groups h, ne_eqb group 0 n, le-leb (low + weight * group) limit k)

  -- The last group that a number may have.
  module _ (low weight limit : ℕ) (n : group ≡ 0 → ⊥) where
    pub above_group : limit < low + weight * group → limited limit (grouped low weight (numeral 1 at (drop at t))) ≡ Err Above
    unfolding limited grouped numeral
    above_group k =
        split (ltb group 128)
        (λ b. rw (last_group 0 (ltb-true group 128 b), ne_eqb group 0 n, lt-leb (low + weight * group) limit k))
        (λ b. rw (further_group 0 (ltb-false group 128 b)))

    pub sound_group : limit < weight * 128 → low + weight * group ≤ limit → limited limit (grouped low weight (numeral 1 at (drop at t))) ≡ Ok (low + weight * group, at + 1)
    sound_group b k =
        split (ltb group 128)
        (λ s. top_group 0 low weight limit n (ltb-true group 128 s) k)
        (λ s. absurd (omega (arith, mul-le-mul_left {m = 128} {n = group} weight (ltb-false group 128 s))))

-- A byte's share of a number fits 32 bits, with room for what stands below it.
pub share_small : (weight group byte : ℕ) → Fits w8 byte → group ≡ byte → weight ≤ 16384 → weight * group ≤ 4177920
share_small weight group byte fits is w = mul-le-mul {n₁ = weight} {m₁ = group} {n₂ = 16384} {m₂ = 255} w (omega arith)

-- One sound number is one number at one place.
pub same_number : {n next m at : ℕ} → ◌≡◌ {A = Numeral} (Ok (n, next)) (Ok (m, at)) → (n ≡ m) × (next ≡ at)
same_number {n} {next} {m} {at} e =
    let p : ◌≡◌ {A = ℕ × ℕ} (n, next) (m, at) = cc in (ap (λ (q : ℕ × ℕ). q.0) p, ap (λ (q : ℕ × ℕ). q.1) p)

-- What is within a limit is at most the limit, and stood there before the limit was asked for.
pub within_limit : (limit : ℕ) (m : Numeral) (n next : ℕ) → limited limit m ≡ Ok (n, next) → (m ≡ Ok (n, next)) × (n ≤ limit)
unfolding limited
within_limit limit (Ok (v, at)) n next e =
    split (leb v limit)
    (λ t. let s : Ok (v, at) ≡ Ok (n, next) = rw t at e in let i = same_number s in (s, omega (arith, leb-true v limit t)))
    (λ t. let s : Err Above ≡ Ok (n, next) = rw t at e in clash (cc))
within_limit limit (Err bad) n next e = clash (cc)

-- A sound number of several groups: what its further groups say is sound, and not 0.
pub record Further (low weight : ℕ) (m : Numeral) (n next : ℕ) : Type 0 where
  pub high : ℕ
  pub sound : m ≡ Ok (high, next)
  pub more : high ≡ 0 → ⊥
  pub sum : n ≡ low + weight * high

pub over_sound : (low weight : ℕ) (m : Numeral) (n next : ℕ) → grouped low weight m ≡ Ok (n, next) → Further low weight m n next
unfolding grouped
over_sound low weight (Ok (h, at)) n next e =
    split (eqb h 0)
    (λ t. let s : Err Padded ≡ Ok (n, next) = rw t at e in clash (cc))
    (λ t. let s : Ok (low + weight * h, at) ≡ Ok (n, next) = rw t at e in let i = same_number s in record { high = h; sound = ap (λ (p : ℕ). Ok (h, p)) i.1; more = eqb-false h 0 t; sum = sym i.0 })
over_sound low weight (Err bad) n next e = clash (cc)

-- The place after a sound number lies past its first byte, and among the bytes.
pub numeral_advances : (groups at : ℕ) (bytes : List ℕ) (n next : ℕ) → numeral groups at bytes ≡ Ok (n, next) → (at < next) × (next ≤ at + length bytes)
unfolding numeral
numeral_advances zero at bytes n next e = clash (cc)
numeral_advances (suc groups) at [] n next e = clash (cc)
numeral_advances (suc groups) at (b ∷ bytes) n next e =
    split (ltb b 128)
    (λ t. let s : Ok (b, at + 1) ≡ Ok (n, next) = rw t at e in let i = same_number s in (omega arith, omega arith))
    (λ t.
    let f : Further (b % 128) 128 (numeral groups (at + 1) bytes) n next = over_sound (b % 128) 128 (numeral groups (at + 1) bytes) n next (rw t at e) in
    let i : (at + 1 < next) × (next ≤ at + 1 + length bytes) = numeral_advances groups (at + 1) bytes f.high next f.sound in
    (omega arith, omega arith))

-- The same of a number at a place of a trace.
pub number_advances : (groups limit : ℕ) (t : List ℕ) (at n next : ℕ) → limited limit (numeral groups at (drop at t)) ≡ Ok (n, next) → (at < next) × (next ≤ length t)
number_advances groups limit t at n next e =
    let i : (at < next) × (next ≤ at + length (drop at t)) = numeral_advances groups at (drop at t) n next (within_limit limit (numeral groups at (drop at t)) n next e).0 in
    (omega arith, omega (arith, length-drop at t))
