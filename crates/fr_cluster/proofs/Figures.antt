-- Parameters that are made of numbers by the place of their name.
use Rattle.std.proofs.Common.{◌≡◌, ℤ, pos, ◌≤◌, List, ap, sym, refl, arith, subst, rules}
use Rattle.std.specs.Prelude.{nat_abs, slice_index_or}
use mir.Val.{to_z, of_z, SFits}
use mir.Syntax.{w64}
use Rattle.std.proofs.lemmas.Int.{to_z-of_z, ints}
use Rattle.fr_cluster.specs.Ranges.{greatest, InRange}
use Rattle.fr_cluster.specs.Values.{Values, figure, amount}
use Rattle.fr_cluster.specs.Numbers.{values_in, number_in, amount_in, AreInRange}
use Rattle.fr_cluster.specs.Constraints.{Amounts, AllHold, key_slots}
use Rattle.fr_cluster.specs.Sane.{AreSaneLists, IsSane}
use Rattle.fr_cluster.specs.declared.names.ParamName.{ParamName}
use Rattle.fr_cluster.specs.declared.names.ParamName.TheVariants as name
use Rattle.fr_cluster.specs.declared.nodes.NodeSpec.{NodeSpec}
use Rattle.fr_cluster.specs.declared.nodes.SlotSpec.{SlotSpec}

-- no range ends above this number
greatest-le : (n : ParamName) → greatest n ≤ 10000000
greatest-le n = search rules

pub fits : (n : ParamName) (z : ℤ) → InRange n z → SFits w64 z
fits n z h = let most = greatest-le n in omega (arith, ints, h.0, h.1)

-- a number in its range is the same as 64 bits hold it
held : (numbers : List ℤ) (n : ParamName) → AreInRange numbers → to_z w64 (of_z w64 (number_in numbers n)) ≡ number_in numbers n
held numbers n h = to_z-of_z w64 (number_in numbers n) (fits n (number_in numbers n) (h n))

-- the parameters of these numbers, as 64 bits hold them
abbrev pub stored : List ℤ → List NodeSpec → List SlotSpec → Values
stored numbers nodes slots = record {
  macros = to_z w64 (of_z w64 (slice_index_or numbers 0 (pos 0)));
  micros = to_z w64 (of_z w64 (slice_index_or numbers 1 (pos 0)));
  static_slots = to_z w64 (of_z w64 (slice_index_or numbers 2 (pos 0)));
  slot_macros = to_z w64 (of_z w64 (slice_index_or numbers 3 (pos 0)));
  action_offset = to_z w64 (of_z w64 (slice_index_or numbers 4 (pos 0)));
  idle_macros = to_z w64 (of_z w64 (slice_index_or numbers 5 (pos 0)));
  words = to_z w64 (of_z w64 (slice_index_or numbers 6 (pos 0)));
  correction = to_z w64 (of_z w64 (slice_index_or numbers 7 (pos 0)));
  max_passive = to_z w64 (of_z w64 (slice_index_or numbers 8 (pos 0)));
  max_fatal = to_z w64 (of_z w64 (slice_index_or numbers 9 (pos 0)));
  halt_allowed = to_z w64 (of_z w64 (slice_index_or numbers 10 (pos 0)));
  to_active = to_z w64 (of_z w64 (slice_index_or numbers 11 (pos 0)));
  damping = to_z w64 (of_z w64 (slice_index_or numbers 12 (pos 0)));
  offset_limit = to_z w64 (of_z w64 (slice_index_or numbers 13 (pos 0)));
  rate_limit = to_z w64 (of_z w64 (slice_index_or numbers 14 (pos 0)));
  compensation_a = to_z w64 (of_z w64 (slice_index_or numbers 15 (pos 0)));
  compensation_b = to_z w64 (of_z w64 (slice_index_or numbers 16 (pos 0)));
  rate_bound = to_z w64 (of_z w64 (slice_index_or numbers 17 (pos 0)));
  change_bound = to_z w64 (of_z w64 (slice_index_or numbers 18 (pos 0)));
  delay_error = to_z w64 (of_z w64 (slice_index_or numbers 19 (pos 0)));
  nodes = nodes;
  slots = slots;
}

pub figure-values_in : (numbers : List ℤ) (nodes : List NodeSpec) (slots : List SlotSpec) (n : ParamName) → figure (values_in numbers nodes slots) n ≡ number_in numbers n
figure-values_in numbers nodes slots n = search rules

pub figure-stored : (numbers : List ℤ) (nodes : List NodeSpec) (slots : List SlotSpec) → AreInRange numbers → (n : ParamName)
    → figure (stored numbers nodes slots) n ≡ number_in numbers n
figure-stored numbers nodes slots h name.pDelayCompensation =
    rw (held numbers name.pDelayCompensationA h, held numbers name.pDelayCompensationB h) refl
figure-stored numbers nodes slots h n = held numbers n h

-- equal numbers of each name are the same numbers
pub amount-same : (p : Values) (numbers : List ℤ) → ((n : ParamName) → figure p n ≡ number_in numbers n) → amount_in numbers ≡ amount p
amount-same p numbers same = λ i n. ap nat_abs (sym (same n)) i

-- parameters of numbers that meet all demands are sane
pub sane-of : (p : Values) (numbers : List ℤ) → ((n : ParamName) → figure p n ≡ number_in numbers n) → AreInRange numbers
    → AllHold (amount_in numbers) (key_slots p.nodes) p.slots → AreSaneLists p.nodes p.slots → IsSane p
sane-of p numbers same ranged hold lists =
    let P : Amounts → Type 0 = λ f. AllHold f (key_slots p.nodes) p.slots in
    record { ranges = λ n. rw (same n) (ranged n); constraints = subst P (amount-same p numbers same) hold; lists = lists }
