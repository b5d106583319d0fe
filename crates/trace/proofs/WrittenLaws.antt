-- A call's record that stands at a place is read as that call, and a call is read from its record only.
use Prim.Native.Nat.{ℕ, zero, suc, ◌+◌, ◌-◌, ◌*◌, ◌/◌, ◌%◌, ◌<◌, ◌≤◌}
use mathlib.Core.List.{List, [], ◌∷◌, ◌++◌, append_assoc}
use mathlib.Core.Path.{◌≡◌, refl, sym, ap, ◌∙◌}
use native.Mathlib.Nat.{add-zero}
use native.Mathlib.Numerals.{add-one}
use native.Mathlib.Omega.{arith}
use borrow.Author.Tests.{ltb-true, ltb-false, lt-ltb, le-ltb, le-leb}
use lib.Dec.{ltb}
use lib.ListN.{length, get_or, take, drop, length-append, length-drop, take-append-drop}
use lib.Seq.{drop-cons, drop-drop, get_or-drop, length-take-le, drop-append_seam}
use Rattle.memory.proofs.Tests.{split}
use Rattle.trace.specs.declared.Call.{Call}
use Rattle.trace.specs.declared.Call.TheVariants.{Clock, CpuRead, CpuWrite, PpuRegister, PpuFetch, Reset, PpuWrite}
use Rattle.trace.specs.Numbers.{Numeral, grouped, numeral, limited, number_at}
use Rattle.std.specs.Prelude.{Ok}
use Rattle.trace.specs.Records.{Record, Form, whole, address, value, unknown, form_of, kind_of, numbered, filled, record_at}
use Rattle.trace.specs.Promise.{InRange, SoundRecord, Bytes, shortest, numbers_of, Stands}
use Rattle.trace.proofs.NumberLaws.{clash, number_advances}
use Rattle.trace.proofs.FormLaws.{number_form, over_more}
use Rattle.trace.proofs.RecordLaws.{by_kind, kind_left, one_record, Number-read, numbered_record, record_sound}
use Rattle.trace.proofs.WrongLaws.{power}

-- Numbers --------------------------------------------------------------------------------------------------------------------------------------

last_byte : (groups at b : ℕ) (bytes : List ℕ) → b < 128 → numeral (suc groups) at (b ∷ bytes) ≡ Ok (b, at + 1)
unfolding numeral
last_byte groups at b bytes h = rw (lt-ltb b 128 h)

further_byte : (groups at b : ℕ) (bytes : List ℕ) → 128 ≤ b → numeral (suc groups) at (b ∷ bytes) ≡ grouped (b % 128) 128 (numeral groups (at + 1) bytes)
unfolding numeral
further_byte groups at b bytes h = rw (le-ltb b 128 h)

same_sound : (m n p q : ℕ) → m ≡ n → p ≡ q → ◌≡◌ {A = Numeral} (Ok (m, p)) (Ok (n, q))
same_sound m n p q e f = rw (e, f)

-- The shortest form of a number is read as that number.
reads_form : (groups at n : ℕ) (rest : List ℕ) → n < power (suc groups) → numeral (suc groups) at (shortest (suc groups) n ++ rest) ≡ Ok (n, at + length (shortest (suc groups) n))
unfolding shortest power
reads_form zero at n rest h =
    split (ltb n 128) (λ t. rw t (last_byte 0 at n rest (ltb-true n 128 t))) (λ t. absurd (omega (arith, h, ltb-false n 128 t)))
reads_form (suc groups) at n rest h =
    split (ltb n 128)
    (λ t. rw t (last_byte (suc groups) at n rest (ltb-true n 128 t)))
    (λ t.
    let w : 128 ≤ n = ltb-false n 128 t in
    let r : numeral (suc groups) (at + 1) (shortest (suc groups) (n / 128) ++ rest) ≡ Ok (n / 128, at + 1 + length (shortest (suc groups) (n / 128))) =
    reads_form groups (at + 1) (n / 128) rest (omega (arith, h)) in
    rw t
    (further_byte (suc groups) at (128 + n % 128) (shortest (suc groups) (n / 128) ++ rest) (omega arith)
    ∙ over_more ((128 + n % 128) % 128) 128 (numeral (suc groups) (at + 1) (shortest (suc groups) (n / 128) ++ rest)) (n / 128) (at + 1 + length (shortest (suc groups) (n / 128))) r
    (λ e. absurd (omega (arith, e, w)))
    ∙ same_sound ((128 + n % 128) % 128 + 128 * (n / 128)) n (at + 1 + length (shortest (suc groups) (n / 128))) (at + suc (length (shortest (suc groups) (n / 128)))) (omega arith) (omega arith)))

-- A number's shortest form at a place of a trace: it is read, and what comes behind it stands at the next place.
record Placed (groups limit : ℕ) (t : List ℕ) (at n : ℕ) (rest : List ℕ) : Type 0 where
  sound : number_at groups limit t at ≡ Ok (n, at + length (shortest groups n))
  behind : drop (at + length (shortest groups n)) t ≡ rest

stands_read : (groups limit : ℕ) (t : List ℕ) (at n : ℕ) (rest : List ℕ) → n ≤ limit → limit < power (suc groups) → drop at t ≡ shortest (suc groups) n ++ rest
    → Placed (suc groups) limit t at n rest
unfolding limited
stands_read groups limit t at n rest l w e =
    record {
      sound = rw (e, reads_form groups at n rest (omega (arith, l, w)), le-leb n limit l);
      behind =
          sym (drop-drop (length (shortest (suc groups) n)) at t)
          ∙ ap (drop (length (shortest (suc groups) n))) e
          ∙ drop-append_seam (shortest (suc groups) n) rest;
    }

-- A number that is read: its shortest form stands there.
record Found-form (groups : ℕ) (t : List ℕ) (at n next : ℕ) : Type 0 where
  bytes : drop at t ≡ shortest groups n ++ drop next t
  place : next ≡ at + length (shortest groups n)

found_form : (groups limit : ℕ) (t : List ℕ) (at n next : ℕ) → Bytes t → number_at groups limit t at ≡ Ok (n, next) → Found-form groups t at n next
found_form groups limit t at n next h e =
    let f : take (next - at) (drop at t) ≡ shortest groups n = number_form groups limit t at n next h e in
    let a : (at < next) × (next ≤ length t) = number_advances groups limit t at n next e in
    let d : at + (next - at) ≡ next = omega (arith, a.0) in
    let s : length (take (next - at) (drop at t)) ≡ next - at = length-take-le (next - at) (drop at t) (omega (arith, a.1, length-drop at t)) in
    record {
      bytes =
          sym (take-append-drop (next - at) (drop at t))
          ∙ ap (λ (l : List ℕ). l ++ drop (next - at) (drop at t)) f
          ∙ ap (λ (l : List ℕ). shortest groups n ++ l) (drop-drop (next - at) at t ∙ ap (λ (k : ℕ). drop k t) d);
      place = omega (arith, a.0, s, ap length f);
    }

-- From the record to the call --------------------------------------------------------------------------------------------------------------------

same_record : (c : Call) (p q : ℕ) → p ≡ q → Record c p ≡ Record c q
same_record c p q e = ap (Record c) e

module _ (t : List ℕ) (at next : ℕ) where
  -- The numbers of a call stand at a place, and the next place is behind them.
  Behind : Call → Type 0
  Behind c = (drop at t ≡ numbers_of c ++ drop next t) × (next ≡ at + length (numbers_of c))

  -- An address, and a value behind it.
  with_address : (a : ℕ) (rest : ℕ → Form) → a ≤ 65535 → (more : List ℕ) → drop at t ≡ shortest 3 a ++ more
      → (filled t at (address rest) ≡ filled t (at + length (shortest 3 a)) (rest a)) × (drop (at + length (shortest 3 a)) t ≡ more)
  unfolding filled numbered power
  with_address a rest l more e =
      let p : Placed 3 65535 t at a more = stands_read 2 65535 t at a more l (omega arith) e in
      (rw p.sound, p.behind)

  with_value : (p v : ℕ) (rest : ℕ → Form) → v ≤ 255 → (more : List ℕ) → drop p t ≡ shortest 2 v ++ more → filled t p (value rest) ≡ filled t (p + length (shortest 2 v)) (rest v)
  unfolding filled numbered power
  with_value p v rest l more e = rw (stands_read 1 255 t p v more l (omega arith) e).sound

  one_number : (make : ℕ → Call) (a : ℕ) → a ≤ 65535 → drop at t ≡ shortest 3 a ++ drop next t → next ≡ at + length (shortest 3 a)
      → filled t at (address (λ (n : ℕ). whole (make n))) ≡ Record (make a) next
  unfolding filled
  one_number make a l e p = (with_address a (λ (n : ℕ). whole (make n)) l (drop next t) e).0 ∙ same_record (make a) (at + length (shortest 3 a)) next (sym p)

  two_numbers : (make : ℕ → ℕ → Call) (a v : ℕ) → a ≤ 65535 → v ≤ 255 → drop at t ≡ shortest 3 a ++ shortest 2 v ++ drop next t → next ≡ at + length (shortest 3 a ++ shortest 2 v)
      → filled t at (address (λ (n : ℕ). value (λ (w : ℕ). whole (make n w)))) ≡ Record (make a v) next
  unfolding filled
  two_numbers make a v l m e p =
      let f = with_address a (λ (n : ℕ). value (λ (w : ℕ). whole (make n w))) l (shortest 2 v ++ drop next t) (e ∙ append_assoc (shortest 3 a) (shortest 2 v) (drop next t)) in
      f.0
      ∙ with_value (at + length (shortest 3 a)) v (λ (w : ℕ). whole (make a w)) m (drop next t) f.1
      ∙ same_record (make a v) (at + length (shortest 3 a) + length (shortest 2 v)) next (omega (arith, p, length-append (shortest 3 a) (shortest 2 v)))

  filled_back : (c : Call) → InRange c → Behind c → filled t at (form_of (kind_of c)) ≡ Record c next
  unfolding InRange Behind filled
  filled_back Clock r b = same_record Clock at next (omega (arith, b.1))
  filled_back (CpuRead a) r b = one_number (λ (n : ℕ). CpuRead (record { 0 = n })) a.0 r b.0 b.1
  filled_back (CpuWrite a v) r b = two_numbers (λ (n w : ℕ). CpuWrite (record { 0 = n }) w) a.0 v r.0 r.1 b.0 b.1
  filled_back (PpuRegister a v) r b = two_numbers (λ (n w : ℕ). PpuRegister (record { 0 = n }) w) a.0 v r.0 r.1 b.0 b.1
  filled_back (PpuFetch a) r b = one_number (λ (n : ℕ). PpuFetch (record { 0 = n })) a.0 r b.0 b.1
  filled_back Reset r b = same_record Reset at next (omega (arith, b.1))
  filled_back (PpuWrite a v) r b = two_numbers (λ (n w : ℕ). PpuWrite (record { 0 = n }) w) a.0 v r.0 r.1 b.0 b.1

pub record_read : (t : List ℕ) (at : ℕ) (c : Call) (next : ℕ) → Stands t at c next → record_at t at ≡ Record c next
unfolding Behind
record_read t at c next s =
    let size : length t - at ≡ suc (length (numbers_of c ++ drop next t)) = sym (length-drop at t) ∙ ap length s.bytes in
    let k : get_or t at 0 ≡ kind_of c = sym (ap (λ (i : ℕ). get_or t i 0) (add-zero at)) ∙ sym (get_or-drop at t 0 0) ∙ ap (λ (l : List ℕ). get_or l 0 0) s.bytes in
    let b : drop (at + 1) t ≡ numbers_of c ++ drop next t = sym (drop-drop 1 at t) ∙ ap (drop 1) s.bytes in
    kind_left t at (omega (arith, size))
    ∙ rw k (filled_back t (at + 1) next c s.in_range (b, omega (arith, s.behind)))

-- From the call to the record --------------------------------------------------------------------------------------------------------------------

-- Forms whose calls have these numbers, after numbers that were read before.
Writes : Form → List ℕ → Type 0
Writes (whole c) done = numbers_of c ≡ done
Writes (address rest) done = (a : ℕ) → Writes (rest a) (done ++ shortest 3 a)
Writes (value rest) done = (v : ℕ) → Writes (rest v) (done ++ shortest 2 v)
Writes unknown done = Unit {0}

forms_write : (k : ℕ) → k < 7 → Writes (form_of k) []
unfolding Writes
forms_write = by_kind (λ (k : ℕ). Writes (form_of k) []) refl (λ a. refl) (λ a v. refl) (λ a v. refl) (λ a. refl) refl (λ a v. refl)

module _ (t : List ℕ) (h : Bytes t) (start : ℕ) (c : Call) (end : ℕ) where
  Wrote : Type 0
  Wrote = (drop start t ≡ numbers_of c ++ drop end t) × (end ≡ start + length (numbers_of c))

  wrote_on : (groups limit at : ℕ) (rest : ℕ → Form) (done : List ℕ) → drop start t ≡ done ++ drop at t → at ≡ start + length done
      → numbered (number_at groups limit t at) (λ (n next : ℕ). filled t next (rest n)) ≡ Record c end
      → ((n next : ℕ) → drop start t ≡ done ++ shortest groups n ++ drop next t → next ≡ start + length (done ++ shortest groups n) → filled t next (rest n) ≡ Record c end → Wrote)
      → Wrote
  wrote_on groups limit at rest done b p e further =
      let r : Number-read (number_at groups limit t at) (λ (n next : ℕ). filled t next (rest n)) c end =
      numbered_record (number_at groups limit t at) (λ (n next : ℕ). filled t next (rest n)) c end e in
      let f : Found-form groups t at r.n r.next = found_form groups limit t at r.n r.next h r.sound in
      further r.n r.next
      (b ∙ ap (λ (l : List ℕ). done ++ l) f.bytes ∙ sym (append_assoc done (shortest groups r.n) (drop r.next t)))
      (omega (arith, p, f.place, length-append done (shortest groups r.n)))
      r.rest

  wrote : (at : ℕ) (form : Form) (done : List ℕ) → Writes form done → drop start t ≡ done ++ drop at t → at ≡ start + length done → filled t at form ≡ Record c end → Wrote
  unfolding Writes filled Wrote
  wrote at (whole made) done w b p e =
      let i = one_record e in
      let d : numbers_of c ≡ done = ap numbers_of (sym i.0) ∙ w in
      (b ∙ rw (d, i.1), sym i.1 ∙ p ∙ ap (λ (l : List ℕ). start + length l) (sym d))
  wrote at (address rest) done w b p e = wrote_on 3 65535 at rest done b p e (λ n next. wrote next (rest n) (done ++ shortest 3 n) (w n))
  wrote at (value rest) done w b p e = wrote_on 2 255 at rest done b p e (λ n next. wrote next (rest n) (done ++ shortest 2 n) (w n))
  wrote at unknown done w b p e = clash (cc)

kind_below : (c : Call) → kind_of c < 7
kind_below Clock = omega arith
kind_below (CpuRead a) = omega arith
kind_below (CpuWrite a v) = omega arith
kind_below (PpuRegister a v) = omega arith
kind_below (PpuFetch a) = omega arith
kind_below Reset = omega arith
kind_below (PpuWrite a v) = omega arith

pub record_written : (t : List ℕ) (at : ℕ) (c : Call) (next : ℕ) → Bytes t → record_at t at ≡ Record c next → Stands t at c next
unfolding Wrote
record_written t at c next h e =
    let s : SoundRecord t at c next = record_sound t at c next e in
    let i : at < length t = omega (arith, s.onward, s.inside) in
    let f : filled t (at + 1) (form_of (get_or t at 0)) ≡ Record c next = sym (kind_left t at i) ∙ e in
    let k : kind_of c < 7 = kind_below c in
    let w : Writes (form_of (get_or t at 0)) [] = rw s.kind (forms_write (kind_of c) k) in
    let b = wrote t h (at + 1) c next (at + 1) (form_of (get_or t at 0)) [] w refl (omega arith) f in
    let o : drop at t ≡ get_or t at 0 ∷ drop (suc at) t = drop-cons t at 0 i in
    record {
      in_range = s.in_range;
      bytes = o ∙ rw s.kind (ap (λ (l : List ℕ). kind_of c ∷ l) (ap (λ (j : ℕ). drop j t) (sym (add-one at)) ∙ b.0));
      behind = omega (arith, b.1);
    }
