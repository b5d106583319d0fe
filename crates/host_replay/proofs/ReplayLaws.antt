-- A replay over lent words, put together from what its steps give; how large its numbers are; what it leaves where it stops at place 0.
use Prim.Native.Nat.{ℕ, zero, suc, ◌+◌, ◌*◌, ◌%◌, ◌<◌, ◌≤◌}
use mathlib.Core.Bool.{Bool, true, false}
use mathlib.Core.List.{List}
use mathlib.Core.Path.{◌≡◌, refl, sym, ◌∙◌, ap, subst}
use native.Mathlib.Omega.{arith}
use borrow.Author.Tests.{ltb-false}
use lib.ListN.{length}
use Rattle.std.specs.Prelude.{Ok, Err}
use Rattle.memory.specs.Bytes.{Mem}
use Rattle.memory.proofs.Tests.{split}
use Rattle.answers.specs.declared.Refusal.{Refusal}
use Rattle.answers.specs.declared.Refusal.TheVariants.{Length}
use Rattle.answers.specs.Numbers.{number_of}
use Rattle.answers.proofs.Cases.{if_refused_lem}
use Rattle.state.specs.declared.State.{State}
use Rattle.state.specs.Gate.{Gate, Open, Shut, gate_mem}
use Rattle.state.specs.Ranges.{in_range}
use Rattle.board.specs.Outcomes.{behind}
use Rattle.std.specs.Prelude.{Ok, Err}
use Rattle.trace.specs.Records.{record_at, too_long}
use Rattle.trace.proofs.RecordLaws.{record_advances}
use Rattle.calls.specs.Called.{called}
use Rattle.player.specs.declared.Replayed.{Replayed}
use Rattle.player.specs.Replay.{Ending, Done, Stopped, Left, left_of, ended, played_from, replayed}
use Rattle.player.proofs.Ways.{by_found}
use Rattle.theorems_promises.proofs.Gates.{in_range_of}
use Rattle.host_state.specs.Words.{state_of, words_of}
use Rattle.host_state.proofs.Backs.{words_back}
use Rattle.host_replay.specs.Promise.{TakenApart, ReplayPromised}
use Rattle.host_replay.specs.Replays.{LeftReplay, ending_number, last_of, left_replay, leaving_replay, replay_on}

pub too_long_stays : (w trace : List ℕ) (m : Mem) (log : List ℕ) (b : Bool) (n : ℕ) → b ≡ too_long (length trace) → b ≡ true → n ≡ ending_number (Stopped 0 Length)
    → left_replay n w m log ≡ replay_on w trace m log
unfolding replay_on
too_long_stays w trace m log b n e t en = rw (← e, t, en)

pub shut_stays : (w trace : List ℕ) (m : Mem) (log : List ℕ) (b : Bool) (k : Gate) (r : Refusal) (n : ℕ)
    → b ≡ too_long (length trace) → b ≡ false → k ≡ gate_mem (state_of w) m → k ≡ Shut r → n ≡ ending_number (Stopped 0 r) → left_replay n w m log ≡ replay_on w trace m log
unfolding replay_on
shut_stays w trace m log b k r n eb tb e t en = rw (← eb, tb, ← e, t, en)

pub replay_left : (w v trace : List ℕ) (m m' : Mem) (log log' : List ℕ) (b : Bool) (k : Gate) (s : State) (o : Replayed) (n : ℕ)
    → b ≡ too_long (length trace) → b ≡ false → k ≡ gate_mem (state_of w) m → k ≡ Open → s ≡ state_of w → left_of o m' log' ≡ replayed s trace m log → v ≡ words_of o.state
    → n ≡ ending_number o.ending → left_replay n v m' log' ≡ replay_on w trace m log
unfolding replay_on
replay_left w v trace m m' log log' b k s o n eb tb e t es eo ev en = rw (← eb, tb, ← e, t, en, ev, ← es, ← eo)

by_gate : (P : Left → Type 0) (g : Gate) (shut : Refusal → Left) (go : Left) → ((why : Refusal) → P (shut why)) → P go → P (behind g shut go)
by_gate P (Ok u) shut go s g = g
by_gate P (Err why) shut go s g = s why

-- No count and no place is above the length of the trace.
abbrev Within : ℕ → Left → Type 0
Within n l = last_of l.out.ending ≤ n

from_within : (k : ℕ) (trace : List ℕ) (at n : ℕ) (s : State) (m : Mem) (log : List ℕ) → n ≤ at → at ≤ length trace → Within (length trace) (played_from k trace at n s m log)
unfolding played_from
from_within zero trace at n s m log i h = omega (arith, i, h)
from_within (suc k) trace at n s m log i h =
    by_found (Within (length trace)) (record_at trace at) _ _ _ (λ e. omega (arith, i, h)) (λ why e. h)
    (λ call next r. let o = record_advances trace at call next r in
    if_refused_lem (Within (length trace)) (called call s m).out.answer _ _ (λ why e. h)
    (λ e. from_within k trace next (n + 1) _ _ _ (omega (arith, i, o.0)) o.1))

pub short : (s : State) (trace : List ℕ) (m : Mem) (log : List ℕ) → Within 8192 (replayed s trace m log)
unfolding replayed
short s trace m log =
    split (too_long (length trace)) (λ t. rw t (omega arith))
    (λ t. rw t (by_gate (Within 8192) (gate_mem s m) _ _ (λ why. omega arith)
    (let h = from_within (length trace + 1) trace 0 0 s m log (omega arith) (omega arith) in omega (arith, h, ltb-false 8192 (length trace) t))))

-- The ending of a replay that was played.
pub short_ending : (s : State) (trace : List ℕ) (m m' : Mem) (log log' : List ℕ) (o : Replayed) → left_of o m' log' ≡ replayed s trace m log → last_of o.ending ≤ 8192
short_ending s trace m m' log log' o e = subst (Within 8192) (sym e) (short s trace m log)

pub done_short : (e : Ending) (count : ℕ) → e ≡ Done count → last_of e ≤ 8192 → count ≤ 8192
done_short e count t h = rw t at h

pub stopped_short : (e : Ending) (place : ℕ) (why : Refusal) → e ≡ Stopped place why → last_of e ≤ 8192 → place ≤ 8192
stopped_short e place why t h = rw t at h

pub apart_of : (e : Ending) → last_of e ≤ 8192 → TakenApart e
apart_of (Ok n) h = (omega (arith, h), omega (arith, h))
apart_of (Err stopped) h = (omega (arith, h), omega (arith, h))

-- What is played from a later place on stops at a later place.
abbrev Past : Left → Type 0
Past l = 65536 ≤ ending_number l.out.ending → ending_number l.out.ending % 65536 ≡ 0 → ⊥

past_stop : (at : ℕ) (why : Refusal) → 0 < at → at ≤ 8192 → 65536 ≤ 65536 * number_of why + at → (65536 * number_of why + at) % 65536 ≡ 0 → ⊥
past_stop at why p h a b = omega (arith, p, h, b)

stops_past : (k : ℕ) (trace : List ℕ) (at n : ℕ) (s : State) (m : Mem) (log : List ℕ) → 0 < at → n ≤ at → at ≤ length trace → length trace ≤ 8192 → Past (played_from k trace at n s m log)
unfolding played_from
stops_past zero trace at n s m log p i h short = λ a b. omega (arith, a, i, h, short)
stops_past (suc k) trace at n s m log p i h short =
    let stop : (why : Refusal) → Past (ended (Stopped at why) s m log) = λ why. past_stop at why p (omega (arith, h, short)) in
    by_found Past (record_at trace at) _ _ _ (λ e a b. omega (arith, a, i, h, short)) (λ why e. stop why)
    (λ call next r. let o = record_advances trace at call next r in
    if_refused_lem Past (called call s m).out.answer _ _ (λ why e. stop why)
    (λ e. stops_past k trace next (n + 1) _ _ _ (omega (arith, o.0)) (omega (arith, i, o.0)) o.1 short))

-- A replay that stopped at place 0 left everything as it was.
abbrev Stays : State → Mem → List ℕ → Left → Type 0
Stays s m log l = 65536 ≤ ending_number l.out.ending → ending_number l.out.ending % 65536 ≡ 0 → l ≡ ended l.out.ending s m log

first_stays : (k : ℕ) (trace : List ℕ) (s : State) (m : Mem) (log : List ℕ) → length trace ≤ 8192 → Stays s m log (played_from k trace 0 0 s m log)
unfolding played_from
first_stays zero trace s m log short = λ a b. refl
first_stays (suc k) trace s m log short =
    by_found (Stays s m log) (record_at trace 0) _ _ _ (λ e a b. refl) (λ why e a b. refl)
    (λ call next r. let o = record_advances trace 0 call next r in
    if_refused_lem (Stays s m log) (called call s m).out.answer _ _ (λ why e a b. refl)
    (λ e a b. absurd (stops_past k trace next 1 _ _ _ o.0 o.0 o.1 short a b)))

replayed_stays : (s : State) (trace : List ℕ) (m : Mem) (log : List ℕ) → Stays s m log (replayed s trace m log)
unfolding replayed
replayed_stays s trace m log =
    split (too_long (length trace)) (λ t. rw t (λ a b. refl))
    (λ t. rw t (by_gate (Stays s m log) (gate_mem s m) _ _ (λ why a b. refl) (first_stays (length trace + 1) trace s m log (ltb-false 8192 (length trace) t))))

abbrev Same : List ℕ → Mem → List ℕ → LeftReplay → Type 0
Same w m log h = 65536 ≤ h.number → h.number % 65536 ≡ 0 → h ≡ left_replay h.number w m log

hosting_same : (w trace : List ℕ) (m : Mem) (log : List ℕ) → length w ≡ 144 → in_range (state_of w) ≡ true → Same w m log (leaving_replay (replayed (state_of w) trace m log))
hosting_same w trace m log e h a b =
    ap leaving_replay (replayed_stays (state_of w) trace m log a b)
    ∙ ap (λ (v : List ℕ). left_replay (ending_number (replayed (state_of w) trace m log).out.ending) v m log) (words_back w e h)

on_gate : (w : List ℕ) (m : Mem) (log : List ℕ) (x : LeftReplay) (g : Gate) → (g ≡ Open → Same w m log x) → Same w m log (behind g (λ (r : Refusal). left_replay (ending_number (Stopped 0 r)) w m log) x)
on_gate w m log x (Ok u) s = s refl
on_gate w m log x (Err r) s = λ a b. refl

same_on : (w trace : List ℕ) (m : Mem) (log : List ℕ) → length w ≡ 144 → Same w m log (replay_on w trace m log)
unfolding replay_on
same_on w trace m log e =
    split (too_long (length trace)) (λ t. rw t (λ a b. refl))
    (λ t. rw t (on_gate w m log _ (gate_mem (state_of w) m) (λ o. hosting_same w trace m log e (in_range_of (state_of w) m o))))

pub promised : ReplayPromised
promised =
    record {
      apart = λ s trace m log. apart_of (replayed s trace m log).out.ending (short s trace m log);
      unchanged = same_on;
    }
