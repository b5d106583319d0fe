-- `trace::examples` meets its contract: each case computes.
use mathlib.Core.Path.{refl}
use Rattle.trace.specs.Numbers.{grouped, numeral, limited}
use Rattle.trace.specs.Records.{numbered, filled, record_at}
use Rattle.trace.specs.Examples.{Worked, Kinds, Edges}
use Rattle.trace.proofs.examples.Goals as goal

worked-input : Worked
unfolding grouped numeral limited numbered filled record_at
worked-input = record { first = refl; second = refl; third = refl; fourth = refl; fifth = refl; sixth = refl; last = refl }

kinds : Kinds
unfolding grouped numeral limited numbered filled record_at
kinds = record { clock = refl; read = refl; write = refl; register = refl; fetch = refl; reset = refl; stored = refl; seventh = refl; top_bit = refl }

edges : Edges
unfolding grouped numeral limited numbered filled record_at
edges = record { nothing = refl; past = refl; zero = refl; largest_address = refl; address_above = refl; fourth_group = refl; largest_value = refl; value_above = refl; third_group = refl; cut_address = refl; no_address = refl; no_value = refl; padded = refl; padded_twice = refl; padded_value = refl }

pub returns : goal.returns
returns c = record { worked_input = worked-input; kinds = kinds; edges = edges }
