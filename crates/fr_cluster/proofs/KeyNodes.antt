-- The node of a key slot is found by it, and its key slot is among the key slots.
use Rattle.std.proofs.Common.{◌≡◌, ◌≢◌, ◌⊎◌, ℕ, suc, List, [], ◌∷◌, true, false, Option, Some, None, inl, inr, refl, ap, sym, subst, ◌∙◌, arith}
use Rattle.std.specs.Prelude.{AllPairs, Contains, find, ◌==◌}
use Rattle.std.specs.List.{cons_option}
use Rattle.std.proofs.lemmas.List.Elements.{Contains-append_cases, Contains-append_left, Contains-append_right, Contains-push, Contains-push_cases}
use Rattle.fr_cluster.specs.Constraints.{key_slots}
use Rattle.fr_cluster.specs.Searches.{is_key}
use Rattle.fr_cluster.specs.declared.nodes.NodeSpec.{NodeSpec}

-- an element of a list is its first or one of the others
pub Contains-cons_cases : {X : Type 0} (x : X) (xs : List X) (y : X) → Contains (x ∷ xs) y → (x ≡ y) ⊎ Contains xs y
Contains-cons_cases x xs y among = elim (Contains-append_cases (x ∷ []) xs y among) [
  | inl front ↦ elim (Contains-push_cases [] x y front) [ inl none ↦ absurd (omega (arith, none.1)) | inr same ↦ inl same ]
  | inr rest ↦ inr rest
]

pub AllPairs-rest : {X : Type 0} (R : X → X → Type 0) (x : X) (xs : List X) → AllPairs R (x ∷ xs) → AllPairs R xs
AllPairs-rest R x xs pairs i j d before within = pairs (suc i) (suc j) d (omega arith) (omega arith)

pub AllPairs-first : {X : Type 0} (R : X → X → Type 0) (x : X) (xs : List X) (y : X) → AllPairs R (x ∷ xs) → Contains xs y → R x y
AllPairs-first R x xs y pairs (k, within, at) = subst (R x) at (pairs 0 (suc k) y (omega arith) (omega arith))

-- two numbers are different
abbrev Differ : ℕ → ℕ → Type 0
Differ a b = a ≢ b

-- a key slot of a node is among the key slots
pub key_among : (nodes : List NodeSpec) (node : NodeSpec) (slot : ℕ) → Contains nodes node → node.key ≡ Some slot → Contains (key_slots nodes) slot
key_among [] node slot among key = absurd (omega (arith, among.1))
key_among (x ∷ xs) node slot among key = elim (Contains-cons_cases x xs node among) [
  | inl same ↦
      let own : x.key ≡ Some slot = ap (λ (n : NodeSpec). n.key) same ∙ key in
      let more : key_slots (x ∷ xs) ≡ slot ∷ key_slots xs = ap (λ k. cons_option k (key_slots xs)) own in
      let Among : List ℕ → Type 0 = λ keys. Contains keys slot in
      subst Among (sym more) (Contains-append_left (slot ∷ []) (key_slots xs) slot (Contains-push [] slot))
  | inr rest ↦ among_more x.key (key_slots xs) slot (key_among xs node slot rest key)
] where
  among_more : (key : Option ℕ) (keys : List ℕ) (slot : ℕ) → Contains keys slot → Contains (cons_option key keys) slot
  among_more None keys slot among = among
  among_more (Some k) keys slot among = Contains-append_right (k ∷ []) keys slot among

-- a node without this key slot is passed over
passed_over : (x : NodeSpec) (xs : List NodeSpec) (slot : ℕ) (node : NodeSpec) (own : Option ℕ) → x.key ≡ own → AllPairs Differ (key_slots (x ∷ xs)) → Contains (key_slots xs) slot
    → (AllPairs Differ (key_slots xs) → find (λ n. is_key n.key slot) xs ≡ Some node) → find (λ n. is_key n.key slot) (x ∷ xs) ≡ Some node
passed_over x xs slot node None is pairs among found =
    let same : key_slots (x ∷ xs) ≡ key_slots xs = ap (λ k. cons_option k (key_slots xs)) is in
    let fails : is_key x.key slot ≡ false = rw is refl in
    let rest : find (λ n. is_key n.key slot) (x ∷ xs) ≡ find (λ n. is_key n.key slot) xs = rw fails refl in
    rest ∙ found (subst (AllPairs Differ) same pairs)
passed_over x xs slot node (Some k) is pairs among found =
    let more : key_slots (x ∷ xs) ≡ k ∷ key_slots xs = ap (λ key. cons_option key (key_slots xs)) is in
    let apart : AllPairs Differ (k ∷ key_slots xs) = subst (AllPairs Differ) more pairs in
    let other : k ≢ slot = AllPairs-first Differ k (key_slots xs) slot apart among in
    let fails : is_key x.key slot ≡ false = rw is (not_equal k slot other) in
    let rest : find (λ n. is_key n.key slot) (x ∷ xs) ≡ find (λ n. is_key n.key slot) xs = rw fails refl in
    rest ∙ found (AllPairs-rest Differ k (key_slots xs) apart)
  where
    not_equal : (a b : ℕ) → a ≢ b → (a == b) ≡ false
    not_equal a b other = grind arith

pub found_key : (nodes : List NodeSpec) (slot : ℕ) (node : NodeSpec) → AllPairs Differ (key_slots nodes) → Contains nodes node → node.key ≡ Some slot
    → find (λ n. is_key n.key slot) nodes ≡ Some node
found_key [] slot node pairs among key = absurd (omega (arith, among.1))
found_key (x ∷ xs) slot node pairs among key = elim (Contains-cons_cases x xs node among) [
  | inl same ↦
      let passes : is_key x.key slot ≡ true = ap (λ (n : NodeSpec). is_key n.key slot) same ∙ ap (λ k. is_key k slot) key ∙ equal slot in
      let here : find (λ n. is_key n.key slot) (x ∷ xs) ≡ Some x = rw passes refl in
      here ∙ ap (λ (n : NodeSpec). Some n) same
  | inr rest ↦ passed_over x xs slot node x.key refl pairs (key_among xs node slot rest key) (λ apart. found_key xs slot node apart rest key)
] where
  equal : (a : ℕ) → (a == a) ≡ true
  equal a = grind arith
