-- Worked histories, one list under one statement: what $5204 then reads and whether the interrupt is up, both by the detector of crate
-- `scanline` and by the history alone. From 01, "Examples at the edges", and from runs of the Rust.
-- Assumes nothing.
use Rattle.std.specs.Prelude.{ℕ, Bool, true, false, not, List, [], ◌∷◌, ◌++◌, ◌≡◌, eqb, T}
use Rattle.memory.specs.Tests.{conj, pick, all}
use Rattle.scanline.specs.Steps.{status_of, interrupt_up}
use Rattle.theorems_scanlines.specs.Calls.{Event}
use Rattle.theorems_scanlines.specs.Calls.Event.{clock, fetch, cpu_read, cpu_write, ppu_register}
use Rattle.theorems_scanlines.specs.Told.{line_at, Waiting, new_lines, calm, up, told_status}
use Rattle.theorems_scanlines.specs.Calls.{History}
use Rattle.theorems_scanlines.specs.Machine.{watched, all_taken}
use Rattle.theorems_scanlines.specs.Promise.{LedTo}

-- calls in the order in which they were made, after h
unfoldable pub after : History → List Event → History
after h [] = h
after h (e ∷ es) = after (e ∷ h) es

-- `calls`, the oldest first; then $5204 reads `reads`, and the interrupt is up or not
pub record Case : Type 0 where
  pub calls : List Event
  pub reads : ℕ
  pub irq : Bool

abbrev pub case : List Event → ℕ → Bool → Case
case es n b = record { calls = es; reads = n; irq = b }

-- three fetches at a; $5203 = 1; $5204 = $80; a read of $5204
abbrev three : ℕ → List Event
three a = fetch a ∷ fetch a ∷ fetch a ∷ []

abbrev L : List Event
L = three 0x2000

abbrev K : List Event
K = three 0x2001

abbrev target1 : List Event
target1 = cpu_write 0x5203 1 ∷ []

abbrev enable : List Event
enable = cpu_write 0x5204 0x80 ∷ []

abbrev status : List Event
status = cpu_read 0x5204 ∷ []

-- 01, "Examples at the edges"
abbrev pub edges : List Case
edges =
    case L 64 false
    ∷ case (target1 ++ (L ++ (fetch 0x2000 ∷ []))) 64 false
    ∷ case (target1 ++ (L ++ (fetch 0x2001 ∷ L))) 192 false
    ∷ case (target1 ++ (L ++ (fetch 0x2001 ∷ (L ++ status)))) 64 false
    ∷ case (L ++ (clock ∷ clock ∷ clock ∷ [])) 64 false
    ∷ case (L ++ (clock ∷ clock ∷ clock ∷ clock ∷ [])) 0 false
    ∷ []

-- Where 01 can be read two ways, the Rust's answer.
abbrev pub readings : List Case
readings =
    -- a read of $FFFA or $FFFB is a break, and clears the flag too
    case (target1 ++ (L ++ (K ++ (cpu_read 0xFFFA ∷ [])))) 0 false
    ∷ case (target1 ++ (L ++ (K ++ (cpu_read 0xFFFB ∷ [])))) 0 false
    -- the other breaks keep the flag
    ∷ case (target1 ++ (L ++ (K ++ (ppu_register 0x2001 0 ∷ [])))) 128 false
    ∷ case (target1 ++ (L ++ (K ++ (clock ∷ clock ∷ clock ∷ clock ∷ [])))) 128 false
    -- the interrupt is up after the line, and down after the read of $5204
    ∷ case (target1 ++ (enable ++ (L ++ K))) 192 true
    ∷ case (target1 ++ (enable ++ (L ++ (K ++ status)))) 64 false
    -- the flag rises with the interrupt disabled
    ∷ case (target1 ++ (L ++ K)) 192 false
    -- and the interrupt with it once it is enabled
    ∷ case (target1 ++ (L ++ (K ++ enable))) 192 true
    -- $5203 = 0 never matches line 0
    ∷ case (cpu_write 0x5203 0 ∷ L) 64 false
    -- writing the present line's number to $5203 raises nothing
    ∷ case (L ++ (K ++ target1)) 64 false
    -- PPU addresses from $4000 on are not folded before counting
    ∷ case (three 0x6000) 0 false
    -- PPU register mirrors do nothing
    ∷ case (L ++ (ppu_register 0x2009 0 ∷ [])) 64 false
    -- equal attribute fetches make a line
    ∷ case (three 0x23C0) 64 false
    -- equal fetches at $3000-$3EFF make none
    ∷ case (three 0x3000) 0 false
    -- pattern fetches leave clocks idle
    ∷ case (L ++ (clock ∷ fetch 0x0000 ∷ clock ∷ clock ∷ clock ∷ [])) 0 false
    ∷ []

-- Misreadings of demand 3: each history has another outcome under the misreading that is named above it.
abbrev pub misreadings : List Case
misreadings =
    -- pattern fetches end a run
    case (fetch 0x2000 ∷ fetch 0x0000 ∷ fetch 0x2000 ∷ fetch 0x2000 ∷ []) 64 false
    -- fetches at $3000-$3EFF are passed over in a run
    ∷ case (fetch 0x2000 ∷ fetch 0x2000 ∷ fetch 0x3000 ∷ fetch 0x2000 ∷ []) 0 false
    -- every third of a run is a line
    ∷ case (fetch 0x2000 ∷ fetch 0x2000 ∷ cpu_write 0x5203 1 ∷ fetch 0x2000 ∷ L) 64 false
    -- any break clears the flag
    ∷ case (target1 ++ (K ++ (L ++ (ppu_register 0x2001 0 ∷ [])))) 128 false
    -- a $5204 disable clears the flag
    ∷ case (target1 ++ (L ++ (K ++ (cpu_write 0x5204 0 ∷ [])))) 192 false
    -- a $5204 read is a break
    ∷ case (L ++ status) 64 false
    -- a pattern fetch makes a clock busy
    ∷ case (fetch 0x2000 ∷ clock ∷ fetch 0x0000 ∷ clock ∷ clock ∷ clock ∷ fetch 0x2000 ∷ fetch 0x2000 ∷ []) 0 false
    -- two idle clocks break
    ∷ case (fetch 0x2001 ∷ fetch 0x2001 ∷ clock ∷ clock ∷ clock ∷ fetch 0x2001 ∷ []) 64 false
    ∷ []

abbrev pub cases : List Case
cases = edges ++ (readings ++ misreadings)

abbrev agree : Bool → Bool → Bool
agree a b = pick a b (not b)

-- each call is taken, and the detector and the history alone say the same
unfoldable pub right : Case → Bool
right c =
    let h = after [] c.calls in
    conj (all_taken h
    ∷ eqb (status_of (watched h).detector) c.reads
    ∷ eqb (told_status h) c.reads
    ∷ agree (interrupt_up (watched h).detector) c.irq
    ∷ agree (up h) c.irq
    ∷ [])

abbrev pub Cases : Type 0
Cases = T (all right cases)

-- The wait of demand 3, worked: at line 0 of a frame, target 2, interrupt enabled. Then come one line and two fetches of the next, and
-- then the line that the game is served at. All of these calls are taken, so what `Demand3` says of a wait is said of something.
abbrev pub waiting_from : History
waiting_from = fetch 0x2000 ∷ fetch 0x2000 ∷ fetch 0x2000 ∷ cpu_write 0x5204 128 ∷ cpu_write 0x5203 2 ∷ []

abbrev pub between : History
between = fetch 0x2400 ∷ fetch 0x2400 ∷ fetch 0x2000 ∷ fetch 0x2000 ∷ fetch 0x2000 ∷ fetch 0x2001 ∷ []

abbrev pub last : Event
last = fetch 0x2400

pub record Worked : Type 0 where
  pub waiting : Waiting waiting_from 0 2
  pub undisturbed : calm between waiting_from ≡ true
  pub short : new_lines between waiting_from ≡ 1
  pub reached_short : LedTo (between ++ waiting_from) (watched (between ++ waiting_from))
  pub line : line_at last (between ++ waiting_from) ≡ true
  pub full : new_lines (last ∷ between) waiting_from ≡ 2
  pub reached_full : LedTo (last ∷ (between ++ waiting_from)) (watched (last ∷ (between ++ waiting_from)))
