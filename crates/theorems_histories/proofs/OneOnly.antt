-- A history has one result: by induction over its calls.
use mathlib.Core.Bool.{true}
use mathlib.Core.List.{List, ◌∷◌}
use mathlib.Core.Path.{◌≡◌, refl, sym, ◌∙◌, ap}
use Rattle.theorems_scanlines.specs.Calls.Played.{at_load, taken}
use Rattle.theorems_histories.specs.Boards.{Board, Made, Said, says, leaves, board_after, number}
use Rattle.theorems_histories.specs.Histories.{Load, first, Reached}
use Rattle.theorems_histories.specs.Accepted.{acceptable}
use Rattle.theorems_histories.specs.Code.{Step, meant}
use Rattle.theorems_histories.specs.Results.{Heard, said_along, OneResult}
use Rattle.theorems_histories.specs.Results.Heard.{at_load as heard-at-load, next}
use Rattle.theorems_histories.proofs.Along.{are_reached}
use Rattle.theorems_histories.proofs.Coded.{only, each}

module _ (l : Load) where
  board_is : {cs : List Made} {said : List Said} {b : Board} → Heard l cs said b → b ≡ board_after (first l) cs
  unfolding board_after
  board_is heard-at-load = refl
  board_is (next t h p n) = ap (λ (x : Step). x.after) (only t p) ∙ ap (λ (b : Board). leaves b t.made) (board_is h)

  answers_are : {cs : List Made} {said : List Said} {b : Board} → Heard l cs said b → said ≡ said_along l cs
  unfolding said_along
  answers_are heard-at-load = refl
  answers_are (next {cs = cs} {said = said} t h p n) =
      let s : t.said ≡ says (board_after (first l) cs) t.made = ap (λ (x : Step). x.said) (only t p) ∙ ap (λ (b : Board). says b t.made) (board_is h) in
      ap (λ (x : Said). x ∷ said) s ∙ ap (λ (xs : List Said). says (board_after (first l) cs) t.made ∷ xs) (answers_are h)

  pub reached_board : {cs : List Made} {b : Board} → Reached l cs b → b ≡ board_after (first l) cs
  unfolding board_after
  reached_board at_load = refl
  reached_board (taken c r t) = t.left ∙ ap (λ (b : Board). leaves b c) (reached_board r)

  to_reached : {cs : List Made} {said : List Said} {b : Board} → Heard l cs said b → Reached l cs b
  to_reached heard-at-load = at_load
  to_reached (next t h p n) =
      let e = only t p in
      taken t.made (to_reached h) (record { accepted = ap (λ (x : Step). number x.said) (sym e) ∙ n; left = ap (λ (x : Step). x.after) e })

  to_heard : {cs : List Made} {b : Board} → Reached l cs b → Heard l cs (said_along l cs) b
  unfolding said_along
  to_heard at_load = heard-at-load
  to_heard (taken {cs = cs} {s = b} {s' = b'} c r t) = rw (t.left, ← reached_board r) (next (meant b c) (to_heard r) (each b c) t.accepted)

  results : (cs : List Made) → acceptable cs ≡ true → Heard l cs (said_along l cs) (board_after (first l) cs)
  results cs e = let p = are_reached l cs e in rw (← reached_board p.1) (to_heard p.1)

pub one_result : OneResult
one_result = record {
  board = λ l cs said b h. board_is l h;
  answers = λ l cs said b h. answers_are l h;
  same_board = λ l cs said said' b b' h k. board_is l h ∙ sym (board_is l k);
  same_answers = λ l cs said said' b b' h k. answers_are l h ∙ sym (answers_are l k);
  some_result = results;
  is_reached = λ l cs said b h. to_reached l h;
  is_heard = λ l cs b r. to_heard l r;
}
