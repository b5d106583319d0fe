-- Demand 2 over histories: "On every sequence of accepted calls from load, answers, page tables and memory .. are proved equal to definitions".
-- 01, "What each contract settles": "Any two results it allows are proved equal". A history is one of calls of the code: what each entry point's own
-- contract allows (specs/Code.antt), one after the other.
-- Assumes nothing.
use Rattle.std.specs.Prelude.{◌≡◌, true, List, [], ◌∷◌}
use Rattle.theorems_histories.specs.Boards.{Board, Made, Said, says, board_after, number}
use Rattle.theorems_histories.specs.Histories.{Load, first, Reached}
use Rattle.theorems_histories.specs.Accepted.{acceptable}
use Rattle.theorems_histories.specs.Code.{Step, Happens}

-- The calls cs were made one after the other from the load on, each on the board that the one before it left, and none was refused; they said
-- `said` and left b. Both lists have the newest first.
pub data Heard (l : Load) : List Made → List Said → Board → Type 0 where
  at_load : Heard l [] [] (first l)
  next : {cs : List Made} {said : List Said} (t : Step) → Heard l cs said t.before → Happens t → number t.said ≡ 0 → Heard l (t.made ∷ cs) (t.said ∷ said) t.after

-- The definitions, one after the other: what the calls say, each at the board that the calls before it leave.
unfoldable pub said_along : Load → List Made → List Said
said_along l [] = []
said_along l (c ∷ cs) = says (board_after (first l) cs) c ∷ said_along l cs

pub record OneResult : Type 0 where
  -- state (the page tables in it) and memory, and all answers, are the definitions'
  pub board : (l : Load) (cs : List Made) (said : List Said) (b : Board) → Heard l cs said b → b ≡ board_after (first l) cs
  pub answers : (l : Load) (cs : List Made) (said : List Said) (b : Board) → Heard l cs said b → said ≡ said_along l cs
  -- so two boards with the same load and the same calls are alike in all
  pub same_board : (l : Load) (cs : List Made) (said said' : List Said) (b b' : Board) → Heard l cs said b → Heard l cs said' b' → b ≡ b'
  pub same_answers : (l : Load) (cs : List Made) (said said' : List Said) (b b' : Board) → Heard l cs said b → Heard l cs said' b' → said ≡ said'
  -- and calls that meet no refusal have a result
  pub some_result : (l : Load) (cs : List Made) → acceptable cs ≡ true → Heard l cs (said_along l cs) (board_after (first l) cs)
  -- these are the histories of demand 3
  pub is_reached : (l : Load) (cs : List Made) (said : List Said) (b : Board) → Heard l cs said b → Reached l cs b
  pub is_heard : (l : Load) (cs : List Made) (b : Board) → Reached l cs b → Heard l cs (said_along l cs) b
