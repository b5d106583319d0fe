-- What a replay logs: the bytes of each record, and no others.
use Prim.Native.Nat.{ℕ, ◌+◌, ◌*◌, ◌<◌, ◌≤◌}
use mathlib.Core.Bool.{Bool}
use mathlib.Core.List.{List, [], ◌∷◌, ◌++◌, map}
use mathlib.Core.Path.{◌≡◌, refl, ◌∙◌}
use native.Mathlib.Omega.{arith}
use lib.ListN.{length, get_or, set, length-set, length-append}
use lib.Seq.{get_or-set_same, get_or-set_other}
use Rattle.answers.specs.declared.Answer.{Answer}
use Rattle.answers.specs.Letters.{value_of}
use Rattle.trace.specs.declared.Call.{Call}
use Rattle.logs.specs.Logs.{log_letter, logged}
use Rattle.theorems_histories.specs.Boards.{Board, board_after}
use Rattle.theorems_histories.specs.Boards.Made.{call}
use Rattle.theorems_histories.specs.Replays.{answer_at, letter_at, log_along, Replays}
use Rattle.theorems_histories.proofs.Replayed.{from_there, from_history, too_long, shut}

module _ (log : List ℕ) (n : ℕ) (a : Answer) (up : Bool) where
  logged_length : length (logged log n a up) ≡ length log
  unfolding logged
  logged_length = length-set (set log (2 * n) (log_letter a up)) (2 * n + 1) (value_of a) ∙ length-set log (2 * n) (log_letter a up)

  logged_letter : 2 * n < length log → get_or (logged log n a up) (2 * n) 0 ≡ log_letter a up
  unfolding logged
  logged_letter h =
      get_or-set_other (set log (2 * n) (log_letter a up)) (2 * n + 1) (2 * n) (value_of a) 0 (λ e. absurd (omega (arith, e)))
      ∙ get_or-set_same log (2 * n) (log_letter a up) 0 h

  logged_value : 2 * n + 1 < length log → get_or (logged log n a up) (2 * n + 1) 0 ≡ value_of a
  unfolding logged
  logged_value h =
      get_or-set_same (set log (2 * n) (log_letter a up)) (2 * n + 1) (value_of a) 0
      (omega (arith, h, length-set log (2 * n) (log_letter a up)))

  logged_other : (i : ℕ) → (i ≡ 2 * n → ⊥) → (i ≡ 2 * n + 1 → ⊥) → get_or (logged log n a up) i 0 ≡ get_or log i 0
  unfolding logged
  logged_other i p q =
      get_or-set_other (set log (2 * n) (log_letter a up)) (2 * n + 1) i (value_of a) 0 q
      ∙ get_or-set_other log (2 * n) i (log_letter a up) 0 p

module _ (b : Board) (log : List ℕ) where
  along_length : (cs : List Call) → length (log_along b log cs) ≡ length log
  unfolding log_along
  along_length [] = refl
  along_length (c ∷ cs) = logged_length (log_along b log cs) (length cs) _ _ ∙ along_length cs

  -- Later records leave the bytes of earlier ones.
  later_keeps : (later earlier : List Call) (i : ℕ) → i < 2 * length earlier → get_or (log_along b log (later ++ earlier)) i 0 ≡ get_or (log_along b log earlier) i 0
  unfolding log_along
  later_keeps [] earlier i h = refl
  later_keeps (d ∷ later) earlier i h =
      let n = length-append later earlier in
      logged_other (log_along b log (later ++ earlier)) (length (later ++ earlier)) _ _ i (λ e. absurd (omega (arith, h, e, n))) (λ e. absurd (omega (arith, h, e, n)))
      ∙ later_keeps later earlier i h

  letter_logged : (later : List Call) (c : Call) (earlier : List Call) → 2 * length earlier < length log
      → get_or (log_along b log (later ++ (c ∷ earlier))) (2 * length earlier) 0 ≡ letter_at (board_after b (map call earlier)) c
  unfolding log_along
  letter_logged later c earlier h =
      later_keeps later (c ∷ earlier) (2 * length earlier) (omega arith)
      ∙ logged_letter (log_along b log earlier) (length earlier) _ _ (omega (arith, h, along_length earlier))

  value_logged : (later : List Call) (c : Call) (earlier : List Call) → 2 * length earlier + 1 < length log
      → get_or (log_along b log (later ++ (c ∷ earlier))) (2 * length earlier + 1) 0 ≡ value_of (answer_at (board_after b (map call earlier)) c)
  unfolding log_along
  value_logged later c earlier h =
      later_keeps later (c ∷ earlier) (2 * length earlier + 1) (omega arith)
      ∙ logged_value (log_along b log earlier) (length earlier) _ _ (omega (arith, h, along_length earlier))

  others_kept : (cs : List Call) (i : ℕ) → 2 * length cs ≤ i → get_or (log_along b log cs) i 0 ≡ get_or log i 0
  unfolding log_along
  others_kept [] i h = refl
  others_kept (c ∷ cs) i h =
      logged_other (log_along b log cs) (length cs) _ _ i (λ e. absurd (omega (arith, h, e))) (λ e. absurd (omega (arith, h, e)))
      ∙ others_kept cs i (omega (arith, h))

pub replays : Replays
replays = record {
  from_open = from_there;
  from_history = from_history;
  too_long = too_long;
  shut = shut;
  letter_logged = letter_logged;
  value_logged = value_logged;
  others_kept = others_kept;
}
