-- Load's refusals, by its definition.
use mathlib.Core.Bool.{Bool, not}
use mathlib.Core.Path.{◌≡◌, refl}
use Rattle.memory.specs.Bytes.{Mem}
use Rattle.memory.proofs.Tests.{split}
use Rattle.answers.specs.declared.Answer.TheVariants.{Nothing}
use Rattle.answers.specs.declared.Refusal.{Refusal}
use Rattle.answers.specs.declared.Refusal.TheVariants.{Prg, Chr, Ram}
use Rattle.answers.specs.Numbers.{number_of}
use Rattle.registers.specs.declared.Mirroring.{Mirroring}
use Rattle.state.specs.Gate.{gate_of}
use Rattle.state.specs.Lengths.{lengths_ok}
use Rattle.state.specs.Ranges.{in_range}
use Rattle.board.specs.declared.Outcome.{Outcome}
use Rattle.board.specs.Loads.{not_loaded, recorded, loaded_state, load_call}
use Rattle.theorems_promises.specs.Loading.{NotLoaded, good_prg, good_chr, good_ram, LoadRefusals}
use Rattle.theorems_promises.proofs.Gates.{refused_not_nothing}

not_loaded_lem : (r : Refusal) (o : Outcome) → o ≡ not_loaded r → NotLoaded (number_of r) o
not_loaded_lem r o e = rw e (record { letter = refl; number = refl; zero = refl; marked = refl })

records : (m : Mem) (as_ram : Bool) (mirroring : Mirroring) → (load_call m as_ram mirroring).answer ≡ Nothing → (load_call m as_ram mirroring).state.lengths ≡ recorded m as_ram
unfolding load_call loaded_state
records m as_ram mirroring h =
    split (not (good_prg m)) (λ t. refused_not_nothing _ (rw t at h))
    (λ p.
    split (not (good_chr m)) (λ t. refused_not_nothing _ (rw (p, t) at h))
    (λ c.
    split (not (good_ram m)) (λ t. refused_not_nothing _ (rw (p, c, t) at h))
    (λ r. rw (p, c, r))))

pub load_refusals : LoadRefusals
unfolding load_call gate_of in_range lengths_ok
load_refusals = record {
  prg = λ m as_ram mirroring p. not_loaded_lem Prg (load_call m as_ram mirroring) (rw p);
  chr = λ m as_ram mirroring p c. not_loaded_lem Chr (load_call m as_ram mirroring) (rw (p, c));
  ram = λ m as_ram mirroring p c r. not_loaded_lem Ram (load_call m as_ram mirroring) (rw (p, c, r));
  accepted = λ m as_ram mirroring p c r. rw (p, c, r);
  recorded_so = records;
  then_five = λ m. refl;
  then_five_alone = refl;
}
