-- The interrupt that a host hears of: the number of a call that is taken, by `up_along`; and that its other part stays below bit 15.
use Prim.Native.Nat.{ℕ, ◌+◌, ◌/◌, ◌%◌, ◌<◌}
use mathlib.Core.Bool.{Bool, true, false, false≢true}
use mathlib.Core.List.{List, ◌∷◌}
use mathlib.Core.Logic.{◌↔◌}
use mathlib.Core.Path.{◌≡◌, refl, sym, ◌∙◌, ap, subst}
use native.Mathlib.Omega.{arith}
use Rattle.std.specs.Prelude.{Result, Ok, Err}
use Rattle.memory.specs.Tests.{pick}
use Rattle.answers.specs.declared.Answer.{Answer}
use Rattle.answers.specs.declared.Refusal.{Refusal}
use Rattle.answers.specs.Refused.{is_refused}
use Rattle.answers.proofs.Cases.{letter_range}
use Rattle.scanline.specs.declared.Detector.{Detector}
use Rattle.scanline.specs.Steps.{interrupt_up}
use Rattle.board.specs.StateCalls.{interrupt_call}
use Rattle.trace.specs.declared.Call.{Call}
use Rattle.trace.specs.Promise.{InRange}
use Rattle.theorems_scanlines.specs.Told.{Up}
use Rattle.theorems_scanlines.specs.Calls.{history_of}
use Rattle.theorems_scanlines.specs.Calls.Played.{at_load, taken}
use Rattle.transcript.specs.Bytes.{SmallMem}
use Rattle.transcript.proofs.Small.{SmallState}
use Rattle.transcript.proofs.SmallKept.{called_small}
use Rattle.transcript.proofs.SmallLoad.{load_small}
use Rattle.host_answers.specs.Answers.{answer_plain, answer_with_interrupt, answer_interrupt}
use Rattle.theorems_histories.specs.Boards.{Board, Made, says, leaves, number_in}
use Rattle.theorems_histories.specs.Boards.Made.{call, peek, ppu_peek_lem, sprite_peek_lem, mirroring_asked, interrupt_asked, cpu_page, ppu_page}
use Rattle.theorems_histories.specs.Histories.{Load, Reached}
use Rattle.theorems_histories.specs.Watching.{view, event}
use Rattle.theorems_histories.specs.Replays.{answer_at}
use Rattle.theorems_histories.proofs.Demands.{board_demand_3, asked}
use Rattle.theorems_host.specs.Held.{Held, board_of}
use Rattle.theorems_host.specs.Held.Hearing.{number as hear}
use Rattle.theorems_host.specs.Calls.{Loading, Calls}
use Rattle.theorems_host.specs.Served.{plainly, with_interrupt, hears, load_of, Refusing, Hosted}
use Rattle.theorems_host.specs.Interrupts.{Tells, UpAfter, InterruptIsHeard}
use Rattle.theorems_host.specs.Numbers.{AllInRange}
use Rattle.theorems_host.proofs.Along.{host_is_history, stands}
use Rattle.theorems_host.proofs.Lines.{onward, says_none}
use Rattle.theorems_host.proofs.Refusing.{as_number, answer_with, not_refused}

-- The number of a call that is taken.
taken_with : (a : Answer) (d : Detector) → is_refused a ≡ false → answer_with_interrupt a d ≡ pick (interrupt_up d) (answer_plain a + 32768) (answer_plain a)
taken_with a d n = rw n

bit_15 : (up : Bool) (p : ℕ) → p < 32768 → (pick up (p + 32768) p / 32768 % 2 ≡ 1) ↔ (up ≡ true)
bit_15 true p h = (λ e. refl, λ e. omega (arith, h))
bit_15 false p h = (λ e. absurd (omega (arith, h, e)), λ e. absurd (false≢true e))

not_up : (b : Bool) → (b ≡ true → ⊥) → b ≡ false
not_up true f = absurd (f refl)
not_up false f = refl

-- One call of a host's history -----------------------------------------------------------------------------------------------------------

module _ (x : Loading) (cs : List Made) (h : Held) (c : Call) (n : ℕ) (t : Tells x cs h c n) where
  answer : Answer
  answer = answer_at (board_of h) c

  after : Detector
  after = view (leaves (board_of h) (call c))

  tells_it : n ≡ answer_with_interrupt answer after
  unfolding hears with_interrupt says answer after
  tells_it = ap as_number (host_is_history.heard x cs h t.hosted (call c) (hear n) t.left t.called)

  none_in : number_in answer ≡ 0
  none_in = (answer_with answer after).0 (subst (λ (m : ℕ). Refusing (hear m) → ⊥) tells_it t.taken)

  is_picked : n ≡ pick (interrupt_up after) (answer_plain answer + 32768) (answer_plain answer)
  is_picked = tells_it ∙ taken_with answer after (not_refused answer none_in)

  up_after : (interrupt_up after ≡ true) ↔ UpAfter cs c
  unfolding answer after
  up_after =
      let i = host_is_history.history x cs h t.hosted in
      let l = load_of x i.accepted in
      (board_demand_3 l).interrupt (onward l (call c) i.reached (says_none (board_of h) c none_in))

-- Bytes stay bytes -----------------------------------------------------------------------------------------------------------------------

pub record Small (b : Board) : Type 0 where
  pub state : SmallState b.state
  pub mem : SmallMem b.mem

small_after : (b : Board) (c : Made) (cs : List Made) → AllInRange (c ∷ cs) → (AllInRange cs → Small b) → Small (leaves b c)
unfolding AllInRange leaves
small_after b (call c) cs g s =
    let i = s g.1 in
    let k = called_small c b.state b.mem g.0 i.state i.mem in
    record { state = k.state; mem = k.mem }
small_after b (peek a) cs g s = s g
small_after b (ppu_peek_lem a) cs g s = s g
small_after b (sprite_peek_lem a) cs g s = s g
small_after b mirroring_asked cs g s = s g
small_after b interrupt_asked cs g s = s g
small_after b (cpu_page a) cs g s = s g
small_after b (ppu_page a) cs g s = s g

small_along : (l : Load) → SmallMem l.mem → {cs : List Made} {b : Board} → Reached l cs b → AllInRange cs → Small b
small_along l m at_load g = record { state = load_small l.mem l.as_ram l.mirroring; mem = m }
small_along l m (taken {cs = cs} {s = b} c r t) g = subst Small (sym t.left) (small_after b c cs g (λ k. small_along l m r k))

plain_small : (x : Loading) (cs : List Made) (h : Held) (c : Call) → Hosted x cs h → SmallMem x.mem → InRange c → answer_plain (answer_at (board_of h) c) < 32768
plain_small x cs h c d m g =
    let i = host_is_history.history x cs h d in
    let s = small_along (load_of x i.accepted) m i.reached (stands d).small in
    let k = called_small c (board_of h).state (board_of h).mem g s.state s.mem in
    omega (arith, (letter_range (answer_at (board_of h) c)).0, k.answer)

-- The interrupt asked for ------------------------------------------------------------------------------------------------------------------

one_is_up : (i : Result Bool Refusal) → (answer_interrupt i ≡ 1) ↔ (i ≡ Ok true)
one_is_up (Ok true) = (λ e. refl, λ e. refl)
one_is_up (Ok false) = (λ e. absurd (omega (arith, e)), λ e. absurd (omega (arith, ap answer_interrupt e)))
one_is_up (Err r) = (λ e. absurd (omega (arith, e)), λ e. absurd (omega (arith, ap answer_interrupt e)))

asked_heard : (x : Loading) (cs : List Made) (h h' : Held) (n : ℕ) → Hosted x cs h → Calls interrupt_asked h (hear n) h' → (n ≡ 1) ↔ Up (history_of event cs)
unfolding hears plainly says
asked_heard x cs h h' n d p =
    let i = host_is_history.history x cs h d in
    let e : n ≡ answer_interrupt (interrupt_call (board_of h).state) = ap as_number (host_is_history.heard x cs h d interrupt_asked (hear n) h' p) in
    let o = one_is_up (interrupt_call (board_of h).state) in
    let u = asked.up (load_of x i.accepted) cs (board_of h) i.reached in
    (λ q. u.0 (o.0 (sym e ∙ q)), λ q. e ∙ o.1 (u.1 q))

pub interrupt_is_heard : InterruptIsHeard
unfolding answer after
interrupt_is_heard = record {
  more = λ x cs h c n t u. is_picked x cs h c n t ∙ rw ((up_after x cs h c n t).1 u);
  no_more = λ x cs h c n t u. is_picked x cs h c n t ∙ rw (not_up (interrupt_up (after x cs h c n t)) (λ e. u ((up_after x cs h c n t).0 e)));
  bit = λ x cs h c n t m g. let k = bit_15 (interrupt_up (after x cs h c n t)) (answer_plain (answer x cs h c n t)) (plain_small x cs h c t.hosted m g) in
      let u = up_after x cs h c n t in
      let e = ap (λ (i : ℕ). i / 32768 % 2) (is_picked x cs h c n t) in
      (λ q. u.0 (k.0 (sym e ∙ q)), λ q. e ∙ k.1 (u.1 q));
  asked = asked_heard;
}
