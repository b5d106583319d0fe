-- Words of a state that fits its types and is in range, as the library's definitions see them: they stand for it, and a call over them is the board's,
-- where a refusal gives the state back.
use mathlib.Core.Bool.{true}
use mathlib.Core.List.{List}
use mathlib.Core.Path.{◌≡◌, refl, ap}
use Prim.Native.Nat.{ℕ}
use lib.ListN.{length}
use Rattle.memory.specs.declared.Page.{Page}
use Rattle.memory.specs.Bytes.{Mem}
use Rattle.memory.proofs.Tests.{split}
use Rattle.answers.specs.declared.Answer.TheVariants.{Refused}
use Rattle.answers.specs.declared.Refusal.{Refusal}
use Rattle.answers.specs.Refused.{if_refused, is_refused}
use Rattle.answers.proofs.Cases.{if_refused_lem}
use Rattle.state.specs.declared.State.{State}
use Rattle.state.specs.Gate.{Open, gate_mem}
use Rattle.state.specs.Ranges.{in_range}
use Rattle.board.specs.declared.Outcome.{Outcome}
use Rattle.board.specs.Outcomes.{After}
use Rattle.trace.specs.Records.{too_long}
use Rattle.player.specs.Replay.{replayed}
use Rattle.host_state.specs.Fits.{Fits}
use Rattle.host_state.specs.Words.{state_of, words_of}
use Rattle.host_state.proofs.Forths.{words_forth}
use Rattle.host_answers.specs.Answers.{answer_plain}
use Rattle.host.specs.Hosted.{LeftWords, left_words, leaving_words, on_words, LeftMemory, left_memory, leaving_memory, on_memory}
use Rattle.host_looks.specs.Looks.{look_on}
use Rattle.host_looks.specs.Pages.{entry_number, entry_on, copied, copy_on}
use Rattle.host_replay.specs.Replays.{leaving_replay, replay_on}

pub record Sound (s : State) : Type 0 where
  pub fits : Fits s
  pub ranged : in_range s ≡ true

pub forth : (s : State) → Sound s → state_of (words_of s) ≡ s
forth s k = words_forth s k.fits k.ranged

-- What is left is the outcome, refused or not.
left_words_lem : (s : State) (o : Outcome) → (is_refused o.answer ≡ true → o.state ≡ s) → if_refused o.answer (λ (r : Refusal). left_words (answer_plain (Refused r)) (words_of s)) (leaving_words o) ≡ leaving_words o
left_words_lem s o back =
    if_refused_lem (λ (x : LeftWords). x ≡ leaving_words o) o.answer (λ (r : Refusal). left_words (answer_plain (Refused r)) (words_of s)) (leaving_words o)
    (λ why e. rw (e, back (ap is_refused e))) (λ e. refl)

left_memory_lem : (s : State) (m : Mem) (x : After) → (is_refused x.out.answer ≡ true → (x.out.state ≡ s) × (x.mem ≡ m))
    → if_refused x.out.answer (λ (r : Refusal). left_memory (answer_plain (Refused r)) (words_of s) m) (leaving_memory x) ≡ leaving_memory x
left_memory_lem s m x back =
    if_refused_lem (λ (y : LeftMemory). y ≡ leaving_memory x) x.out.answer (λ (r : Refusal). left_memory (answer_plain (Refused r)) (words_of s) m) (leaving_memory x)
    (λ why e. rw (e, (back (ap is_refused e)).0, (back (ap is_refused e)).1)) (λ e. refl)

pub on_words_lem : (s : State) (f : State → Outcome) → Sound s → (is_refused (f s).answer ≡ true → (f s).state ≡ s) → on_words (words_of s) f ≡ leaving_words (f s)
unfolding on_words
on_words_lem s f k back = rw (forth s k) (left_words_lem s (f s) back)

pub on_memory_lem : (s : State) (m : Mem) (f : State → After) → Sound s → (is_refused (f s).out.answer ≡ true → ((f s).out.state ≡ s) × ((f s).mem ≡ m)) → on_memory (words_of s) m f ≡ leaving_memory (f s)
unfolding on_memory
on_memory_lem s m f k back = rw (forth s k) (left_memory_lem s m (f s) back)

pub look_on_lem : {A : Type 0} (s : State) (heard : A → ℕ) (f : State → A) → Sound s → look_on (words_of s) heard f ≡ heard (f s)
unfolding look_on
look_on_lem s heard f k = rw (forth s k)

pub copy_on_lem : (s : State) (f : State → List ℕ) (out : List ℕ) → Sound s → copy_on (words_of s) f out ≡ copied (f s) out
unfolding copy_on
copy_on_lem s f out k = rw (forth s k)

pub entry_on_lem : (s : State) (f : State → Page) → Sound s → entry_on (words_of s) f ≡ entry_number (f s)
unfolding entry_on
entry_on_lem s f k = rw (forth s k, k.ranged)

pub replay_on_lem : (s : State) (trace : List ℕ) (m : Mem) (log : List ℕ) → Sound s → gate_mem s m ≡ Open → replay_on (words_of s) trace m log ≡ leaving_replay (replayed s trace m log)
unfolding replay_on replayed
replay_on_lem s trace m log k g = split (too_long (length trace)) (λ t. rw t) (λ t. rw (t, forth s k, g))
