-- What the words so far come to, whatever the test says.
use Rattle.std.proofs.Common.{◌≡◌, Bool, take}
use Rattle.memory.specs.declared.PageWord.{PageWord}
use Rattle.memory.specs.Tests.{all}
use Rattle.memory.proofs.tables.all_pass.Given as goal

abbrev pub invariant-loop-w : goal.invariant-loop-w
invariant-loop-w g l = (says : PageWord → Bool) → ((w : PageWord) (b : Bool) → g.F.Fn.post l.test (w, tt) b → b ≡ says w) → l.ok ≡ all says (take l.w-index l.w-items)
