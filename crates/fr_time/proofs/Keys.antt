-- Key slots, their indexes, and their nodes.
use Rattle.std.proofs.Common.{◌≡◌, ◌≢◌, ◌⊎◌, ℕ, ◌<◌, ◌≤◌, ◌==◌, Bool, true, false, ◌||◌, Option, Some, None, IfSome, List, [], ◌∷◌, All, refl, ap, sym, ◌∙◌, subst, inl, inr, arith, if◌then◌else◌}
use Rattle.std.specs.Prelude.{AllPairs, Contains, count_by, nat_lt}
use Rattle.std.specs.List.{cons_option, list_any}
use Rattle.std.specs.Option.{option_map_or}
use Rattle.std.proofs.lemmas.Bool.Decides.{nat_tests}
use Rattle.std.proofs.lemmas.List.Elements.{All-contains, All-head, All-tail}
use Rattle.std.proofs.lemmas.List.Sums.{count_by-le-length}
use Rattle.fr_cluster.specs.Values.{Values, amount}
use Rattle.fr_cluster.specs.Constraints.{key_slots}
use Rattle.fr_cluster.specs.Questions.{key_index_of, key_slot_of}
use Rattle.fr_cluster.specs.Sane.{IsSane, IsSaneNode}
use Rattle.fr_cluster.specs.Searches.{is_key}
use Rattle.fr_cluster.specs.declared.names.ParamName.TheVariants as name
use Rattle.fr_cluster.specs.declared.nodes.NodeSpec.{NodeSpec}
use Rattle.fr_time.specs.Senders.{key_node_of}
use Rattle.fr_cluster.proofs.KeyIndexes.{index_is_own}
use Rattle.fr_cluster.proofs.KeyNodes.{found_key, AllPairs-first, AllPairs-rest, Contains-cons_cases}
use Rattle.fr_cluster.proofs.Elements.{Contains-here, Contains-none, Contains-there, found, sole_found}

equal : (a : ℕ) → (a == a) ≡ true
equal a = grind arith

-- ---- key slots and nodes

-- a key slot is that of a node
key_node_by : (x : NodeSpec) (xs : List NodeSpec) (slot : ℕ) (key : Option ℕ) → x.key ≡ key → Contains (cons_option key (key_slots xs)) slot
    → (Contains (key_slots xs) slot → (node : NodeSpec) × Contains xs node × (node.key ≡ Some slot)) → (node : NodeSpec) × Contains (x ∷ xs) node × (node.key ≡ Some slot)
key_node_by x xs slot None is among rest =
    let more = rest among in
    (more.0, Contains-there x xs more.0 more.1, more.2)
key_node_by x xs slot (Some k) is among rest = elim (Contains-cons_cases k (key_slots xs) slot among) [
  | inl same ↦ (x, Contains-here x xs, is ∙ ap (λ (n : ℕ). Some n) same)
  | inr later ↦ let more = rest later in (more.0, Contains-there x xs more.0 more.1, more.2)
]

pub key_node_among : (nodes : List NodeSpec) (slot : ℕ) → Contains (key_slots nodes) slot → (node : NodeSpec) × Contains nodes node × (node.key ≡ Some slot)
key_node_among [] slot among = absurd (Contains-none slot among)
key_node_among (x ∷ xs) slot among = key_node_by x xs slot x.key refl among (key_node_among xs slot)

key_tested : (key : Option ℕ) (slot : ℕ) → is_key key slot ≡ true → key ≡ Some slot
key_tested None slot is = absurd (cc)
key_tested (Some k) slot is = let e : k ≡ slot = grind arith in ap Some e

-- the node of a key slot is found
pub key_node_is : (p : Values) (node : NodeSpec) (slot : ℕ) → IsSane p → Contains p.nodes node → node.key ≡ Some slot → key_node_of p slot ≡ Some node
key_node_is p node slot sane among key = found_key p.nodes slot node sane.constraints.own_slots.1 among key

pub key_node_has : (p : Values) (node : NodeSpec) (slot : ℕ) → key_node_of p slot ≡ Some node → Contains p.nodes node × (node.key ≡ Some slot)
key_node_has p node slot is =
    let both = found (λ (n : NodeSpec). is_key n.key slot) p.nodes node is in
    (both.1, key_tested node.key slot both.0)

-- ---- key slots and indexes

any_among_by : (slot key : ℕ) (keys : List ℕ) (b : Bool) → (key == slot) ≡ b → (b || list_any (λ k. k == slot) keys) ≡ true
    → (list_any (λ k. k == slot) keys ≡ true → Contains keys slot) → Contains (key ∷ keys) slot
any_among_by slot key keys true same any rest = let e : key ≡ slot = grind arith in subst (Contains (key ∷ keys)) e (Contains-here key keys)
any_among_by slot key keys false other any rest = Contains-there key keys slot (rest any)

any_among : (slot : ℕ) (keys : List ℕ) → list_any (λ key. key == slot) keys ≡ true → Contains keys slot
any_among slot [] is = absurd (cc)
any_among slot (key ∷ keys) is = any_among_by slot key keys (key == slot) refl is (any_among slot keys)

among_any_by : (slot key : ℕ) (keys : List ℕ) (b : Bool) → (key == slot) ≡ b → Contains (key ∷ keys) slot
    → (Contains keys slot → list_any (λ k. k == slot) keys ≡ true) → (b || list_any (λ k. k == slot) keys) ≡ true
among_any_by slot key keys true same among rest = refl
among_any_by slot key keys false other among rest = elim (Contains-cons_cases key keys slot among) [
  | inl same ↦ let e : true ≡ false = sym (equal slot) ∙ ap (λ k. k == slot) (sym same) ∙ other in absurd (cc)
  | inr more ↦ rest more
]

among_any : (slot : ℕ) (keys : List ℕ) → Contains keys slot → list_any (λ key. key == slot) keys ≡ true
among_any slot [] among = absurd (Contains-none slot among)
among_any slot (key ∷ keys) among = among_any_by slot key keys (key == slot) refl among (among_any slot keys)

-- how many key slots are below one
abbrev pub rank_of : Values → ℕ → ℕ
rank_of p slot = count_by (λ key. nat_lt key slot) (key_slots p.nodes)

pub key_index_is : (p : Values) (slot : ℕ) → Contains (key_slots p.nodes) slot → key_index_of p slot ≡ Some (rank_of p slot)
key_index_is p slot among = rw (among_any slot (key_slots p.nodes) among) refl

indexed_by : (p : Values) (slot index : ℕ) (b : Bool) → list_any (λ key. key == slot) (key_slots p.nodes) ≡ b → (if b then Some (rank_of p slot) else None) ≡ Some index
    → Contains (key_slots p.nodes) slot
indexed_by p slot index true passes is = any_among slot (key_slots p.nodes) passes
indexed_by p slot index false fails is = absurd (cc)

pub indexed_is_key : (p : Values) (slot index : ℕ) → key_index_of p slot ≡ Some index → Contains (key_slots p.nodes) slot
indexed_is_key p slot index is = indexed_by p slot index (list_any (λ key. key == slot) (key_slots p.nodes)) refl is

has_index : Option ℕ → ℕ → Bool
has_index at index = option_map_or (λ place. place == index) at false

index_tested : (at : Option ℕ) (index : ℕ) → has_index at index ≡ true → at ≡ Some index
unfolding has_index
index_tested None index is = absurd (cc)
index_tested (Some place) index is = let e : place ≡ index = grind arith in ap Some e

index_passes : (at : Option ℕ) (index : ℕ) → at ≡ Some index → has_index at index ≡ true
unfolding has_index
index_passes at index is = ap (λ o. option_map_or (λ place. place == index) o false) is ∙ equal index

-- the key slot of an index has it, and is a key slot
pub key_slot_has : (p : Values) (index slot : ℕ) → key_slot_of p index ≡ Some slot → (key_index_of p slot ≡ Some index) × Contains (key_slots p.nodes) slot
unfolding has_index
key_slot_has p index slot is =
    let both : (has_index (key_index_of p slot) index ≡ true) × Contains (key_slots p.nodes) slot = found (λ s. has_index (key_index_of p s) index) (key_slots p.nodes) slot is in
    (index_tested (key_index_of p slot) index both.0, both.1)

-- and each key slot is that of its index
pub slot_of_index : (p : Values) (index slot : ℕ) → key_index_of p slot ≡ Some index → key_slot_of p index ≡ Some slot
unfolding has_index
slot_of_index p index slot is =
    let among = indexed_is_key p slot index is in
    sole_found (λ s. has_index (key_index_of p s) index) (key_slots p.nodes) slot among (index_passes (key_index_of p slot) index is)
    (λ other there passes. index_is_own p other slot index (index_tested (key_index_of p other) index passes) is)

-- a key slot is a static slot
positive_by : (x : NodeSpec) (xs : List NodeSpec) (slot : ℕ) (key : Option ℕ) → IfSome key (λ s. (1 ≤ s) × (s ≤ 1023)) → Contains (cons_option key (key_slots xs)) slot
    → (Contains (key_slots xs) slot → 1 ≤ slot) → 1 ≤ slot
positive_by x xs slot None proper among rest = rest among
positive_by x xs slot (Some k) proper among rest = elim (Contains-cons_cases k (key_slots xs) slot among) [
  | inl same ↦ omega (arith, proper.0, same)
  | inr later ↦ rest later
]

positive_key : (nodes : List NodeSpec) (slot : ℕ) → All IsSaneNode nodes → Contains (key_slots nodes) slot → 1 ≤ slot
positive_key [] slot sane among = absurd (Contains-none slot among)
positive_key (x ∷ xs) slot sane among =
    positive_by x xs slot x.key (All-head IsSaneNode x xs sane).proper.key among (positive_key xs slot (All-tail IsSaneNode x xs sane))

pub key_slot_within : (p : Values) (slot : ℕ) → IsSane p → Contains (key_slots p.nodes) slot → (1 ≤ slot) × (slot ≤ amount p name.gNumberOfStaticSlots)
key_slot_within p slot sane among =
    (positive_key p.nodes slot sane.lists.nodes_sane among, All-contains (λ key. key ≤ amount p name.gNumberOfStaticSlots) (key_slots p.nodes) slot sane.constraints.own_slots.0 among)
