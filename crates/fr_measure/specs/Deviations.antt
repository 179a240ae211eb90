-- What a node has measured in a double cycle, by the deviations that are recorded of it (section 8.5), and the values that
-- they come to.
use Rattle.std.specs.Prelude.{ℕ, ℤ, List, Option, option_and_then, if◌then◌else◌}
use Rattle.fr_base.specs.Rows.{dev_in}
use Rattle.fr_base.specs.declared.dev.Dev.{Dev}
use Rattle.fr_cluster.specs.Questions.{key_slot_of, own_index}
use Rattle.fr_cluster.specs.Values.{Values}
use Rattle.fr_measure.specs.Values.{LookUp, offset_at, rate_at, values_of}

-- a receiver's deviations of a double cycle, by key index, parity and channel (section 8.5)
abbrev pub deviations_of : Values → List Dev → List Dev → ℕ → LookUp
deviations_of p evens odds receiver index odd channel =
    option_and_then (λ slot. dev_in (if odd then odds else evens) receiver slot channel) (key_slot_of p index)

-- the offset and the rate values of a receiver at the end of a double cycle (sections 8.6.2 and 8.6.3); at its own key
-- index it has 0, and a receiver without one has no value of its own
abbrev pub offset_values_by : Values → List Dev → List Dev → ℕ → Option ℕ → List ℤ
offset_values_by p evens odds node own = values_of (offset_at (deviations_of p evens odds node) own)

abbrev pub rate_values_by : Values → List Dev → List Dev → ℕ → Option ℕ → List ℤ
rate_values_by p evens odds node own = values_of (rate_at (deviations_of p evens odds node) own)

-- those of a node that sends in its key slot
abbrev pub offset_values_of : Values → List Dev → List Dev → ℕ → List ℤ
offset_values_of p evens odds node = offset_values_by p evens odds node (own_index p node)

abbrev pub rate_values_of : Values → List Dev → List Dev → ℕ → List ℤ
rate_values_of p evens odds node = rate_values_by p evens odds node (own_index p node)
