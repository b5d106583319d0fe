-- Laws of records in a trace: which form a kind has, what is read at a place, and what holds of every record that is read. Assumes nothing.
use Prim.Native.Nat.{ℕ, zero, suc, ◌+◌, ◌-◌, ◌<◌, ◌≤◌}
use mathlib.Core.Bool.{Bool, true, false, false≢true}
use mathlib.Core.List.{List}
use mathlib.Core.Logic.{◌⊎◌, inl, inr}
use mathlib.Core.Path.{◌≡◌, refl, sym, ap, ◌∙◌}
use native.Mathlib.Nat.{add-zero}
use native.Mathlib.Omega.{arith}
use borrow.Author.Tests.{lt-ltb, le-ltb, ltb-true, ltb-false}
use lib.Dec.{ltb}
use lib.ListN.{length, get_or, drop, length-drop, get_or-eq_default}
use lib.Seq.{drop-drop, get_or-drop}
use Rattle.memory.proofs.Tests.{split}
use Rattle.answers.specs.declared.Refusal.{Refusal}
use Rattle.answers.specs.declared.Refusal.TheVariants.{Kind, Number}
use Rattle.trace.specs.declared.Call.{Call}
use Rattle.std.specs.Prelude.{Result, Ok, Err, Some, None, IsErrAnd}
use Rattle.std.proofs.lemmas.Result.{err_from_is_err_and}
use Rattle.trace.specs.Numbers.{Numeral, numeral, limited, number_at, address_at, value_at}
use Rattle.trace.specs.Records.{Found, End, Record, Refused, Form, whole, address, value, unknown, forms, form_of, kind_of, numbered, filled, record_at}
use Rattle.trace.specs.Promise.{InRange, SoundRecord}
use Rattle.trace.proofs.NumberLaws.{clash, within_limit, number_advances}

-- What holds of each of the seven kinds.
pub by_kind : (P : ℕ → Type 0) → P 0 → P 1 → P 2 → P 3 → P 4 → P 5 → P 6 → (k : ℕ) → k < 7 → P k
by_kind P a b c d e f g zero h = a
by_kind P a b c d e f g (suc zero) h = b
by_kind P a b c d e f g (suc (suc zero)) h = c
by_kind P a b c d e f g (suc (suc (suc zero))) h = d
by_kind P a b c d e f g (suc (suc (suc (suc zero)))) h = e
by_kind P a b c d e f g (suc (suc (suc (suc (suc zero))))) h = f
by_kind P a b c d e f g (suc (suc (suc (suc (suc (suc zero)))))) h = g
by_kind P a b c d e f g (suc (suc (suc (suc (suc (suc (suc k))))))) h = absurd (omega arith)

-- A byte that is no kind has no form.
pub has_none : (k : ℕ) → 6 < k → form_of k ≡ unknown
has_none k h = get_or-eq_default forms unknown {n = k} (omega arith)

-- What stands at a place.
pub none_left : (t : List ℕ) (at : ℕ) → length t ≤ at → record_at t at ≡ End
unfolding record_at
none_left t at h = rw (le-ltb at (length t) h)

pub kind_left : (t : List ℕ) (at : ℕ) → at < length t → record_at t at ≡ filled t (at + 1) (form_of (get_or t at 0))
unfolding record_at
kind_left t at h = rw (lt-ltb at (length t) h)

-- The kind that stands at a place, as `get` finds it.
pub kind_stands : (t : List ℕ) (at kind : ℕ) → (at < length t) × ((d : ℕ) → kind ≡ get_or t at d) → record_at t at ≡ filled t (at + 1) (form_of kind)
kind_stands t at kind h = kind_left t at h.0 ∙ ap (λ (k : ℕ). filled t (at + 1) (form_of k)) (sym (h.1 0))

-- What is read on after something that was read.
abbrev pub after : {A B : Type 0} → Result A Refusal → (A → Result B Refusal) → Result B Refusal
after (Ok read) f = f read
after (Err why) f = Err why

pub read_on : {A : Type 0} (m : Numeral) (f : ℕ → ℕ → Result A Refusal) {r : Result (ℕ × ℕ) Refusal} → numbered m (λ (n next : ℕ). Ok (n, next)) ≡ r
    → numbered m f ≡ after r (λ (p : ℕ × ℕ). f p.0 p.1)
unfolding numbered
read_on (Ok n) f e = ap (λ (r : Result (ℕ × ℕ) Refusal). after r (λ (p : ℕ × ℕ). f p.0 p.1)) e
read_on (Err bad) f e = ap (λ (r : Result (ℕ × ℕ) Refusal). after r (λ (p : ℕ × ℕ). f p.0 p.1)) e

numbered_after : {A B : Type 0} (m : Numeral) (f : ℕ → ℕ → Result A Refusal) (g : A → Result B Refusal) → after (numbered m f) g ≡ numbered m (λ (n next : ℕ). after (f n next) g)
unfolding numbered
numbered_after (Ok n) f g = refl
numbered_after (Err bad) f g = refl

-- What a `?` hands on.
pub handed_on : (r : Found) {why : Refusal} → IsErrAnd r (λ (y : Refusal). y ≡ why) → r ≡ Err why
handed_on r h = let p = err_from_is_err_and r h in rw p.1 (ap (λ (y : Refusal). Err y) p.2)

-- A record with an address, and one with a value too, by what was read of it.
module _ (t : List ℕ) (at kind k : ℕ) (stands : (at < length t) × ((d : ℕ) → kind ≡ get_or t at d)) (is : kind ≡ k) where
  pub with_address : (make : ℕ → Call) → form_of k ≡ address (λ (a : ℕ). whole (make a))
      → {r : Numeral} → address_at t (at + 1) ≡ r → numbered r (λ (a next : ℕ). Record (make a) next) ≡ record_at t at
  unfolding filled
  with_address make form e = rw (kind_stands t at kind stands, is, form, ← e)

  pub with_both : (make : ℕ → ℕ → Call) → form_of k ≡ address (λ (a : ℕ). value (λ (v : ℕ). whole (make a v)))
      → {r : Result (ℕ × ℕ × ℕ) Refusal} → numbered (address_at t (at + 1)) (λ (a behind : ℕ). numbered (value_at t behind) (λ (v next : ℕ). Ok (a, v, next))) ≡ r
      → after r (λ (p : ℕ × ℕ × ℕ). Record (make p.0 p.1) p.2) ≡ record_at t at
  unfolding filled
  with_both make form e = rw (kind_stands t at kind stands, is, form, ← e) (simp numbered_after)

-- One record is one call and one place after it.
pub one_record : {call other : Call} {next at : ℕ} → Record call next ≡ Record other at → (call ≡ other) × (next ≡ at)
one_record {call} {other} {next} {at} e =
    let p : ◌≡◌ {A = Call × ℕ} (call, next) (other, at) = cc in (ap (λ (q : Call × ℕ). q.0) p, ap (λ (q : Call × ℕ). q.1) p)

-- Reading ends at the end only.
abbrev is_end : Found → Bool
is_end (Ok None) = true
is_end (Ok (Some found)) = false
is_end (Err why) = false

number_goes_on : (n : Numeral) (f : ℕ → ℕ → Found) → ((v next : ℕ) → is_end (f v next) ≡ false) → is_end (numbered n f) ≡ false
unfolding numbered
number_goes_on (Ok (v, next)) f h = h v next
number_goes_on (Err bad) f h = refl

form_goes_on : (f : Form) (t : List ℕ) (at : ℕ) → is_end (filled t at f) ≡ false
unfolding filled
form_goes_on (whole call) t at = refl
form_goes_on (address rest) t at = number_goes_on _ _ (λ v next. form_goes_on (rest v) t next)
form_goes_on (value rest) t at = number_goes_on _ _ (λ v next. form_goes_on (rest v) t next)
form_goes_on unknown t at = refl

pub none_read : (t : List ℕ) (at : ℕ) → record_at t at ≡ End → length t ≤ at
none_read t at e =
    split (ltb at (length t))
    (λ b. absurd (false≢true (sym (form_goes_on (form_of (get_or t at 0)) t (at + 1)) ∙ ap is_end (sym (kind_left t at (ltb-true at (length t) b)) ∙ e))))
    (λ b. ltb-false at (length t) b)

-- A number was sound where reading went on to a record.
pub record Number-read (m : Numeral) (f : ℕ → ℕ → Found) (call : Call) (end : ℕ) : Type 0 where
  pub n : ℕ
  pub next : ℕ
  pub sound : m ≡ Ok (n, next)
  pub rest : f n next ≡ Record call end

pub numbered_record : (m : Numeral) (f : ℕ → ℕ → Found) (call : Call) (end : ℕ) → numbered m f ≡ Record call end → Number-read m f call end
unfolding numbered
numbered_record (Ok (n, next)) f call end e = record { n = n; next = next; sound = refl; rest = e }
numbered_record (Err bad) f call end e = clash (cc)

-- A form that refuses no kind and gives only calls of which P holds, where its numbers are within their limits.
Gives : (Call → Type 0) → Form → Type 0
Gives P (whole call) = P call
Gives P (address rest) = (a : ℕ) → a ≤ 65535 → Gives P (rest a)
Gives P (value rest) = (v : ℕ) → v ≤ 255 → Gives P (rest v)
Gives P unknown = ⊥

-- Such a form filled to a record: the place goes on and stays inside, and the call is one that the form gives.
module _ (P : Call → Type 0) (t : List ℕ) (call : Call) (end : ℕ) where
  Filled : ℕ → Type 0
  Filled at = (at ≤ end) × (end ≤ length t) × P call

  filled_on : (groups limit at : ℕ) (rest : ℕ → Form) → numbered (number_at groups limit t at) (λ (n next : ℕ). filled t next (rest n)) ≡ Record call end
      → ((n next : ℕ) → n ≤ limit → next ≤ length t → filled t next (rest n) ≡ Record call end → Filled next) → Filled at
  unfolding Filled
  filled_on groups limit at rest e further =
      let r : Number-read (number_at groups limit t at) (λ (n next : ℕ). filled t next (rest n)) call end =
      numbered_record (number_at groups limit t at) (λ (n next : ℕ). filled t next (rest n)) call end e in
      let a : (at < r.next) × (r.next ≤ length t) = number_advances groups limit t at r.n r.next r.sound in
      let s : (r.next ≤ end) × (end ≤ length t) × P call =
      further r.n r.next (within_limit limit (numeral groups at (drop at t)) r.n r.next r.sound).1 a.1 r.rest in
      (omega arith, s.1, s.2)

  filled_sound : (at : ℕ) (form : Form) → at ≤ length t → Gives P form → filled t at form ≡ Record call end → Filled at
  unfolding filled Gives Filled
  filled_sound at (whole made) h g e = let i = one_record e in (omega arith, omega arith, rw i.0 at g)
  filled_sound at (address rest) h g e = filled_on 3 65535 at rest e (λ n next l k. filled_sound next (rest n) k (g n l))
  filled_sound at (value rest) h g e = filled_on 2 255 at rest e (λ n next l k. filled_sound next (rest n) k (g n l))
  filled_sound at unknown h g e = absurd g

-- Such a form refused: a number is to blame.
numbered_refused : (m : Numeral) (f : ℕ → ℕ → Found) (why : Refusal) → ((n next : ℕ) → m ≡ Ok (n, next) → f n next ≡ Refused why → why ≡ Number) → numbered m f ≡ Refused why → why ≡ Number
unfolding numbered
numbered_refused (Ok (n, next)) f why g e = g n next refl e
numbered_refused (Err bad) f why g e = cc

filled_refused : (P : Call → Type 0) (t : List ℕ) (at : ℕ) (form : Form) (why : Refusal) → Gives P form → filled t at form ≡ Refused why → why ≡ Number
unfolding filled Gives
filled_refused P t at (whole made) why g e = clash (cc)
filled_refused P t at (address rest) why g e =
    numbered_refused (address_at t at) (λ (n next : ℕ). filled t next (rest n)) why
    (λ n next s. filled_refused P t next (rest n) why (g n (within_limit 65535 (numeral 3 at (drop at t)) n next s).1)) e
filled_refused P t at (value rest) why g e =
    numbered_refused (value_at t at) (λ (n next : ℕ). filled t next (rest n)) why
    (λ n next s. filled_refused P t next (rest n) why (g n (within_limit 255 (numeral 2 at (drop at t)) n next s).1)) e
filled_refused P t at unknown why g e = absurd g

-- Each kind's form gives calls of that kind, in range.
Fitting : ℕ → Call → Type 0
Fitting k call = InRange call × (k ≡ kind_of call)

forms_fit : (k : ℕ) → k < 7 → Gives (Fitting k) (form_of k)
unfolding InRange Gives Fitting
forms_fit =
    by_kind (λ (k : ℕ). Gives (Fitting k) (form_of k))
    (tt, refl) (λ a h. (h, refl)) (λ a h v g. ((h, g), refl)) (λ a h v g. ((h, g), refl)) (λ a h. (h, refl)) (tt, refl) (λ a h v g. ((h, g), refl))

-- The two kinds of byte that a place can have.
pub by_byte : {A : Type 0} (k : ℕ) → (k < 7 → A) → (6 < k → A) → A
by_byte k f g = split (ltb k 7) (λ t. f (ltb-true k 7 t)) (λ t. g (omega (arith, ltb-false k 7 t)))

-- What holds of every record that is read.
pub record_sound : (t : List ℕ) (at : ℕ) (call : Call) (next : ℕ) → record_at t at ≡ Record call next → SoundRecord t at call next
unfolding filled Filled Fitting
record_sound t at call next e =
    split (ltb at (length t))
    (λ b.
    let h : at < length t = ltb-true at (length t) b in
    let o : filled t (at + 1) (form_of (get_or t at 0)) ≡ Record call next = rw (kind_left t at h) at e in
    by_byte (get_or t at 0)
    (λ k.
    let s : (at + 1 ≤ next) × (next ≤ length t) × Fitting (get_or t at 0) call =
    filled_sound (Fitting (get_or t at 0)) t call next (at + 1) (form_of (get_or t at 0)) (omega arith) (forms_fit (get_or t at 0) k) o in
    record { onward = omega arith; inside = s.1; in_range = s.2.0; kind = s.2.1 })
    (λ k. let w : Refused Kind ≡ Record call next = rw (has_none (get_or t at 0) k) at o in clash (cc)))
    (λ b. let s : End ≡ Record call next = rw (none_left t at (ltb-false at (length t) b)) at e in clash (cc))

-- The next place alone, as a loop over records asks for it.
pub record_advances : (t : List ℕ) (at : ℕ) (call : Call) (next : ℕ) → record_at t at ≡ Record call next → (at < next) × (next ≤ length t)
record_advances t at call next e = let s : SoundRecord t at call next = record_sound t at call next e in (s.onward, s.inside)

-- Why a place is refused: 9 where its byte is no kind, 10 where it is one.
pub record RefusedRecord (trace : List ℕ) (at : ℕ) (why : Refusal) : Type 0 where
  pub inside : at < length trace
  pub cause : ((why ≡ Kind) × (6 < get_or trace at 0)) ⊎ ((why ≡ Number) × (get_or trace at 0 ≤ 6))

pub record_refused : (t : List ℕ) (at : ℕ) (why : Refusal) → record_at t at ≡ Refused why → RefusedRecord t at why
unfolding filled
record_refused t at why e =
    split (ltb at (length t))
    (λ b.
    let h : at < length t = ltb-true at (length t) b in
    let o : filled t (at + 1) (form_of (get_or t at 0)) ≡ Refused why = rw (kind_left t at h) at e in
    by_byte (get_or t at 0)
    (λ k. record { inside = h; cause = inr (filled_refused (Fitting (get_or t at 0)) t (at + 1) (form_of (get_or t at 0)) why (forms_fit (get_or t at 0) k) o, omega arith) })
    (λ k. let w : Refused Kind ≡ Refused why = rw (has_none (get_or t at 0) k) at o in record { inside = h; cause = inl (cc, k) }))
    (λ b. let s : End ≡ Refused why = rw (none_left t at (ltb-false at (length t) b)) at e in clash (cc))

-- What is read at a place depends on the bytes from there on.
numbered_same : (m : Numeral) (f g : ℕ → ℕ → Found) → ((n next : ℕ) → m ≡ Ok (n, next) → f n next ≡ g n next) → numbered m f ≡ numbered m g
unfolding numbered
numbered_same (Ok (n, next)) f g h = h n next refl
numbered_same (Err bad) f g h = refl

module _ (t u : List ℕ) (from : ℕ) (same : drop from t ≡ drop from u) where
  later_same : (at : ℕ) → from ≤ at → drop at t ≡ drop at u
  later_same at h =
      let d : from + (at - from) ≡ at = omega arith in
      rw (sym d, sym (drop-drop (at - from) from t), sym (drop-drop (at - from) from u), same)

  first_of : (l : List ℕ) → get_or (drop from l) 0 0 ≡ get_or l from 0
  first_of l = rw (get_or-drop from l 0 0, add-zero from)

  number_same : (groups limit at : ℕ) → from ≤ at → number_at groups limit t at ≡ number_at groups limit u at
  number_same groups limit at h = ap (λ (l : List ℕ). limited limit (numeral groups at l)) (later_same at h)

  filled_same : (at : ℕ) (form : Form) → from ≤ at → filled t at form ≡ filled u at form
  unfolding filled
  filled_same at (whole call) h = refl
  filled_same at (address rest) h =
      rw (number_same 3 65535 at h)
      (numbered_same (address_at u at) (λ (n next : ℕ). filled t next (rest n)) (λ (n next : ℕ). filled u next (rest n))
      (λ n next s. filled_same next (rest n) (omega (arith, (number_advances 3 65535 u at n next s).0))))
  filled_same at (value rest) h =
      rw (number_same 2 255 at h)
      (numbered_same (value_at u at) (λ (n next : ℕ). filled t next (rest n)) (λ (n next : ℕ). filled u next (rest n))
      (λ n next s. filled_same next (rest n) (omega (arith, (number_advances 2 255 u at n next s).0))))
  filled_same at unknown h = refl

  pub record_ahead : record_at t from ≡ record_at u from
  record_ahead =
      let l : length t - from ≡ length u - from = sym (length-drop from t) ∙ (ap length same ∙ length-drop from u) in
      split (ltb from (length t))
      (λ b.
      let h : from < length t = ltb-true from (length t) b in
      let k : get_or t from 0 ≡ get_or u from 0 = sym (first_of t) ∙ (ap (λ (l : List ℕ). get_or l 0 0) same ∙ first_of u) in
      rw (kind_left t from h, kind_left u from (omega arith), k) (filled_same (from + 1) (form_of (get_or u from 0)) (omega arith)))
      (λ b. let h : length t ≤ from = ltb-false from (length t) b in rw (none_left t from h, none_left u from (omega arith)))
