-- How many values a receiver has: no more than there are nodes with a key slot, and fewer besides those of some of these.
use Rattle.std.proofs.Common.{◌≡◌, ℕ, suc, ◌+◌, ◌≤◌, true, ℤ, pos, Option, Some, None, List, [], ◌∷◌, ◌++◌, length, map, refl, ap, sym, ◌∙◌, subst, arith}
use Rattle.std.specs.Prelude.{Contains, IsPermutation, IsSome, count_by, is_some, unwrap_or}
use Rattle.std.specs.List.{cons_option, filter_map, range_with_len}
use Rattle.std.specs.Option.{option_map}
use Rattle.std.proofs.lemmas.List.{length-append}
use Rattle.std.proofs.lemmas.List.Sorted.{length_permutation}
use Rattle.fr_cluster.specs.Constraints.{key_slots}
use Rattle.fr_cluster.specs.Questions.{key_index_of, key_slot_of}
use Rattle.fr_cluster.specs.Values.{Values}
use Rattle.fr_cluster.specs.declared.nodes.NodeSpec.{NodeSpec}
use Rattle.fr_time.proofs.Keys.{key_slot_has}
use Rattle.fr_measure.specs.Values.{values_of}
use Rattle.fr_precision.proofs.Counting.{AreSent, count_no, count_yes, range_apart, sent_apart}
use Rattle.fr_precision.proofs.Parting.{filter_map_counts}
use Rattle.fr_seen_runs.specs.ComputedValues.{AreKeyed}
use Rattle.fr_seen_runs.proofs.ComputedLists.{all_pass, all_there, heard_parts, no_more_there}

slots_by : (node : NodeSpec) (nodes : List NodeSpec) (key : Option ℕ) → node.key ≡ key → length (key_slots nodes) ≡ count_by (λ (n : NodeSpec). is_some n.key) nodes
    → length (cons_option key (key_slots nodes)) ≡ count_by (λ (n : NodeSpec). is_some n.key) (node ∷ nodes)
slots_by node nodes None none rest = rest ∙ sym (count_no (λ (n : NodeSpec). is_some n.key) node nodes (ap is_some none))
slots_by node nodes (Some slot) some rest = ap suc rest ∙ sym (count_yes (λ (n : NodeSpec). is_some n.key) node nodes (ap is_some some))

slots_counted : (nodes : List NodeSpec) → length (key_slots nodes) ≡ count_by (λ (n : NodeSpec). is_some n.key) nodes
slots_counted [] = refl
slots_counted (node ∷ nodes) = slots_by node nodes node.key refl (slots_counted nodes)

some_value : (o : Option ℤ) → is_some o ≡ true → (value : ℤ) × (o ≡ Some value)
some_value None is = absurd (cc is)
some_value (Some value) is = (value, refl)

keyed_sent : (p : Values) (at : ℕ → Option ℤ) → AreKeyed p at
    → AreSent (λ i. is_some (at i)) (λ (slot : ℕ). true) (λ i. unwrap_or (key_slot_of p i) 0) (range_with_len 0 15) (key_slots p.nodes)
keyed_sent p at keyed = record {
  apart = range_apart 0 15;
  lands =
      λ index among wanted.
      let value = some_value (at index) wanted in
      let slot = keyed index value.0 value.1 in
      let to : unwrap_or (key_slot_of p index) 0 ≡ slot.0 = ap (λ o. unwrap_or o 0) slot.1 in
      (subst (Contains (key_slots p.nodes)) (sym to) (key_slot_has p index slot.0 slot.1).1, refl);
  sole =
      λ one other here there wanted also same.
      let first = some_value (at one) wanted in
      let second = some_value (at other) also in
      let slot = keyed one first.0 first.1 in
      let next = keyed other second.0 second.1 in
      let to : unwrap_or (key_slot_of p one) 0 ≡ slot.0 = ap (λ o. unwrap_or o 0) slot.1 in
      let to_other : unwrap_or (key_slot_of p other) 0 ≡ next.0 = ap (λ o. unwrap_or o 0) next.1 in
      let slots : slot.0 ≡ next.0 = sym to ∙ same ∙ to_other in
      let own = (key_slot_has p one slot.0 slot.1).0 in
      let own_other = (key_slot_has p other next.0 next.1).0 in
      let both : Some one ≡ Some other = sym own ∙ ap (key_index_of p) slots ∙ own_other in
      cc both;
}

pub keyed_few : (p : Values) (at : ℕ → Option ℤ) → AreKeyed p at → length (values_of at) ≤ count_by (λ (n : NodeSpec). is_some n.key) p.nodes
unfolding values_of
keyed_few p at keyed =
    let sent = sent_apart (λ i. is_some (at i)) (λ (slot : ℕ). true) (λ i. unwrap_or (key_slot_of p i) 0) (range_with_len 0 15) (key_slots p.nodes) (keyed_sent p at keyed) in
    let long = filter_map_counts at (range_with_len 0 15) in
    let all = all_pass (key_slots p.nodes) in
    let slots = slots_counted p.nodes in
    omega (arith, sent, long, all, slots)

-- ---- besides those of some key slots

key_of : Values → ℕ → Option ℤ
key_of p index = option_map (λ slot. pos slot) (key_slot_of p index)

there_keyed : (p : Values) (index slot : ℕ) → key_slot_of p index ≡ Some slot → IsSome (key_of p index)
unfolding key_of
there_keyed p index slot is = ap (λ o. is_some (option_map (λ (n : ℕ). pos n) o)) is

keys_keyed : (p : Values) → AreKeyed p (key_of p)
unfolding key_of
keys_keyed p index value is = by (key_slot_of p index) is
  where
    by : (o : Option ℕ) → option_map (λ (n : ℕ). pos n) o ≡ Some value → (slot : ℕ) × (o ≡ Some slot)
    by None none = absurd (cc none)
    by (Some slot) some = (slot, refl)

-- values at other indexes than those of some key slots are no more than the other key slots
pub few_besides : (p : Values) (at : ℕ → Option ℤ) (some rest : List ℕ) → AreKeyed p at → ((index : ℕ) → Contains some index → (slot : ℕ) × (key_slot_of p index ≡ Some slot))
    → ((other : ℕ → Option ℤ) → IsPermutation (filter_map other (some ++ rest)) (filter_map other (range_with_len 0 15)))
    → length some + length (filter_map at rest) ≤ count_by (λ (n : NodeSpec). is_some n.key) p.nodes
unfolding values_of
few_besides p at some rest keyed slots front =
    let key = key_of p in
    let most = keyed_few p key (keys_keyed p) in
    let less = no_more_there at key rest (λ index there. let value = there_value (at index) there in let slot = keyed index value.0 value.1 in there_keyed p index slot.0 slot.1) in
    let all = all_there key some (λ index among. let slot = slots index among in there_keyed p index slot.0 slot.1) in
    let parts = ap length (heard_parts key some rest) ∙ length-append (filter_map (λ value. value) (map key some)) (filter_map key rest) in
    let same = length_permutation (filter_map key (some ++ rest)) (filter_map key (range_with_len 0 15)) (front key) in
    omega (arith, most, less, all, parts, same)
  where
    there_value : (o : Option ℤ) → IsSome o → (value : ℤ) × (o ≡ Some value)
    there_value None there = absurd (cc there)
    there_value (Some value) there = (value, refl)
