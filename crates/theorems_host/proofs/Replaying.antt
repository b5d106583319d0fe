-- A replay over the words of a state is the replay of its board, and its number tells which records were played.
use Prim.Native.Nat.{ℕ, zero, suc, ◌+◌}
use mathlib.Core.List.{List, [], ◌++◌, map}
use mathlib.Core.Path.{◌≡◌, refl, sym, ◌∙◌, ap, subst}
use native.Mathlib.Omega.{arith}
use borrow.Author.Tests.{lt-ltb, ltb-true, ltb-false}
use lib.Dec.{ltb}
use lib.ListN.{length}
use Rattle.memory.proofs.Tests.{split}
use Rattle.state.specs.Gate.{Open, gate_mem}
use Rattle.trace.specs.declared.Call.{Call}
use Rattle.std.specs.Prelude.{Ok, Err}
use Rattle.player.specs.Replay.{Ending, Left}
use Rattle.host_replay.specs.Promise.{TakenApart}
use Rattle.host_replay.specs.Replays.{LeftReplay, left_replay, ending_number, replay_on}
use Rattle.host_replay.proofs.ReplayLaws.{promised}
use Rattle.theorems_histories.specs.Boards.{Board, Made}
use Rattle.theorems_histories.specs.Boards.Made.{call}
use Rattle.theorems_histories.specs.Histories.{Load, Reached}
use Rattle.theorems_histories.specs.Replays.{records_to, end_of, played_calls, board_in, replay_of}
use Rattle.theorems_histories.proofs.Behind.{no_zero}
use Rattle.theorems_histories.proofs.Replayed.{from_history, too_long}
use Rattle.theorems_host.specs.Held.{Held, held, held_of}
use Rattle.theorems_host.specs.Calls.{Replaying, Runs}
use Rattle.theorems_host.specs.Served.{place_of_number, calls_of_number, Replayed}
use Rattle.theorems_host.proofs.Stands.{Sound, replay_on_lem}

-- The number tells the place where the replay ended.
place_heard : (trace : List ℕ) (e : Ending) → TakenApart e → place_of_number trace (ending_number e) ≡ end_of trace e
place_heard trace (Ok count) a = rw (lt-ltb count 65536 (omega (arith, a.0)))
place_heard trace (Err stopped) a =
    split (ltb (ending_number (Err stopped)) 65536)
    (λ t. no_zero stopped.refusal (omega (arith, ltb-true (ending_number (Err stopped)) 65536 t)))
    (λ f. rw f a.1)

pub calls_heard : (b : Board) (trace log : List ℕ) → calls_of_number trace (ending_number (replay_of b trace log).out.ending) ≡ played_calls trace (replay_of b trace log).out.ending
calls_heard b trace log = ap (λ (p : ℕ). records_to (length trace + 1) trace p 0 []) (place_heard trace (replay_of b trace log).out.ending (promised.apart b.state trace b.mem log))

-- What the contract allows.
left_by : (y : Replaying) → Runs y → left_replay y.heard y.after.words y.after.mem y.log_after ≡ replay_on y.before.words y.trace y.before.mem y.log
unfolding Runs
left_by y (κ, a, r, e, t, q) =
    subst (λ (z : Replaying). left_replay z.heard z.after.words z.after.mem z.log_after ≡ replay_on z.before.words z.trace z.before.mem z.log) q t

pub replay_step : (b : Board) (y : Replaying) → Sound b.state → gate_mem b.state b.mem ≡ Open → y.before ≡ held_of b → Runs y → Replayed y (replay_of b y.trace y.log)
replay_step b y u g e p =
    let q = left_by y p ∙ ap (λ (h : Held). replay_on h.words y.trace h.mem y.log) e ∙ replay_on_lem b.state y.trace b.mem y.log u g in
    let n = ap (λ (z : LeftReplay). z.number) q in
    record {
      heard = n;
      left = ap (λ (z : LeftReplay). held z.words z.mem) q;
      log = ap (λ (z : LeftReplay). z.log) q;
      calls = ap (calls_of_number y.trace) n ∙ calls_heard b y.trace y.log;
    }

-- The history goes on with the records that were played.
none_before : (n : ℕ) (trace : List ℕ) → records_to n trace 0 0 [] ≡ []
unfolding records_to
none_before zero trace = refl
none_before (suc n) trace = refl

pub replay_reaches : (l : Load) (cs : List Made) (b : Board) (trace log : List ℕ) → Reached l cs b
    → Reached l (map call (played_calls trace (replay_of b trace log).out.ending) ++ cs) (board_in (replay_of b trace log))
replay_reaches l cs b trace log r =
    split (ltb 8192 (length trace))
    (λ t. let z = too_long b trace log (ltb-true 8192 (length trace) t) in
    subst (λ (x : Left). Reached l (map call (played_calls trace x.out.ending) ++ cs) (board_in x)) (sym z) (subst (λ (k : List Call). Reached l (map call k ++ cs) b) (sym (none_before (length trace + 1) trace)) r))
    (λ f. from_history l cs b r trace log (ltb-false 8192 (length trace) f))
