-- Key slots and their indexes.
use Rattle.std.proofs.Common.{◌≡◌, ◌≢◌, ◌⊎◌, ℕ, ◌≤◌, ◌==◌, Bool, true, false, ◌||◌, Option, Some, None, IfSome, List, [], ◌∷◌, All, refl, ap, sym, ◌∙◌, subst, inl, inr, arith, if◌then◌else◌}
use Rattle.std.specs.Prelude.{find, count_by, nat_lt}
use Rattle.std.specs.List.{cons_option, list_any}
use Rattle.std.specs.Option.{option_map_or}
use Rattle.std.proofs.lemmas.List.Elements.{All-head, All-tail}
use Rattle.fr_cluster.specs.Values.{Values, amount}
use Rattle.fr_cluster.specs.Constraints.{key_slots}
use Rattle.fr_cluster.specs.Questions.{key_index_of, key_slot_of}
use Rattle.fr_cluster.specs.Sane.{IsSane, IsSaneNode}
use Rattle.fr_cluster.specs.declared.names.ParamName.TheVariants as name
use Rattle.fr_cluster.specs.declared.nodes.NodeSpec.{NodeSpec}
use Rattle.fr_history.proofs.Flat.{Among, among_here, among_there}

-- ---- searches

found_by : {A : Type 0} (p : A → Bool) (y : A) (xs : List A) (x : A) (b : Bool) → p y ≡ b → (find p xs ≡ Some x → (p x ≡ true) × Among x xs) → find p (y ∷ xs) ≡ Some x → (p x ≡ true) × Among x (y ∷ xs)
found_by p y xs x true passes rest is =
    let here : find p (y ∷ xs) ≡ Some y = rw passes refl in
    let found : Some y ≡ Some x = sym here ∙ is in
    let same : y ≡ x = cc in
    (ap p (sym same) ∙ passes, subst (λ z. Among z (y ∷ xs)) same (among_here y xs))
found_by p y xs x false fails rest is =
    let there : find p (y ∷ xs) ≡ find p xs = rw fails refl in
    let more : (p x ≡ true) × Among x xs = rest (sym there ∙ is) in
    (more.0, among_there x y xs more.1)

pub found : {A : Type 0} (p : A → Bool) (xs : List A) (x : A) → find p xs ≡ Some x → (p x ≡ true) × Among x xs
found p [] x is = absurd (cc)
found p (y ∷ xs) x is = found_by p y xs x (p y) refl (found p xs x) is

pub not_found : {A : Type 0} (p : A → Bool) (xs : List A) (x : A) → find p xs ≡ None → Among x xs → p x ≡ false
unfolding Among
not_found p [] x none is = absurd is
not_found p (y ∷ xs) x none is = by_test (p y) refl is (not_found p xs x)
  where
    by_test : (b : Bool) → p y ≡ b → (x ≡ y) ⊎ Among x xs → (find p xs ≡ None → Among x xs → p x ≡ false) → p x ≡ false
    by_test true passes any rest =
        let here : find p (y ∷ xs) ≡ Some y = rw passes refl in
        let found : Some y ≡ None = sym here ∙ none in
        absurd (cc)
    by_test false fails (inl same) rest = ap p same ∙ fails
    by_test false fails (inr there) rest = let e : find p (y ∷ xs) ≡ find p xs = rw fails refl in rest (sym e ∙ none) there

any_among : (slot : ℕ) (keys : List ℕ) → list_any (λ key. key == slot) keys ≡ true → Among slot keys
unfolding Among
any_among slot [] is = absurd (cc)
any_among slot (key ∷ keys) is = by_test (key == slot) refl is (any_among slot keys)
  where
    by_test : (b : Bool) → (key == slot) ≡ b → (b || list_any (λ k. k == slot) keys) ≡ true → (list_any (λ k. k == slot) keys ≡ true → Among slot keys) → (slot ≡ key) ⊎ Among slot keys
    by_test true same any rest = inl (grind arith)
    by_test false other any rest = inr (rest any)

-- ---- key slots

-- a slot with a key index is a key slot
pub indexed_is_key : (p : Values) (slot index : ℕ) → key_index_of p slot ≡ Some index → Among slot (key_slots p.nodes)
indexed_is_key p slot index is = by_test (list_any (λ key. key == slot) (key_slots p.nodes)) refl is
  where
    by_test : (b : Bool) → list_any (λ key. key == slot) (key_slots p.nodes) ≡ b → (if b then Some (count_by (λ key. nat_lt key slot) (key_slots p.nodes)) else None) ≡ Some index → Among slot (key_slots p.nodes)
    by_test true passes same = any_among slot (key_slots p.nodes) passes
    by_test false fails same = absurd (cc)

has_index : Option ℕ → ℕ → Bool
has_index at index = option_map_or (λ place. place == index) at false

index_tested : (at : Option ℕ) (index : ℕ) → has_index at index ≡ true → at ≡ Some index
unfolding has_index
index_tested None index is = absurd (cc)
index_tested (Some place) index is = let e : place ≡ index = grind arith in ap Some e

index_passes : (at : Option ℕ) (index : ℕ) → at ≡ Some index → has_index at index ≡ true
unfolding has_index
index_passes at index is = rw is (let e : (index == index) ≡ true = grind arith in e)

pub key_slot-index : (p : Values) (index slot : ℕ) → key_slot_of p index ≡ Some slot → (key_index_of p slot ≡ Some index) × Among slot (key_slots p.nodes)
unfolding has_index
key_slot-index p index slot is =
    let both : (has_index (key_index_of p slot) index ≡ true) × Among slot (key_slots p.nodes) = found (λ s. has_index (key_index_of p s) index) (key_slots p.nodes) slot is in
    (index_tested (key_index_of p slot) index both.0, both.1)

pub no_key_slot : (p : Values) (index : ℕ) → key_slot_of p index ≡ None → (slot : ℕ) → key_index_of p slot ≢ Some index
unfolding has_index
no_key_slot p index none slot = λ (is : key_index_of p slot ≡ Some index).
    let passes : has_index (key_index_of p slot) index ≡ true = index_passes (key_index_of p slot) index is in
    let fails : has_index (key_index_of p slot) index ≡ false = not_found (λ s. has_index (key_index_of p s) index) (key_slots p.nodes) slot none (indexed_is_key p slot index is) in
    let e : true ≡ false = sym passes ∙ fails in
    cc

-- each key slot is a static slot
positive_keys : (nodes : List NodeSpec) (slot : ℕ) → All IsSaneNode nodes → Among slot (key_slots nodes) → 1 ≤ slot
unfolding Among
positive_keys [] slot sane is = absurd is
positive_keys (node ∷ nodes) slot sane is = by_key node.key (All-head IsSaneNode node nodes sane).proper.key is (positive_keys nodes slot (All-tail IsSaneNode node nodes sane))
  where
    by_key : (key : Option ℕ) → IfSome key (λ s. (1 ≤ s) × (s ≤ 1023)) → Among slot (cons_option key (key_slots nodes)) → (Among slot (key_slots nodes) → 1 ≤ slot) → 1 ≤ slot
    by_key None proper any rest = rest any
    by_key (Some key) proper (inl same) rest = omega (arith, proper.0)
    by_key (Some key) proper (inr there) rest = rest there

all_among : (P : ℕ → Type 0) (xs : List ℕ) (x : ℕ) → All P xs → Among x xs → P x
unfolding Among
all_among P [] x all is = absurd is
all_among P (y ∷ xs) x all (inl same) = subst P (sym same) (All-head P y xs all)
all_among P (y ∷ xs) x all (inr there) = all_among P xs x (All-tail P y xs all) there

pub key_slot-within : (p : Values) (slot : ℕ) → IsSane p → Among slot (key_slots p.nodes) → (1 ≤ slot) × (slot ≤ amount p name.gNumberOfStaticSlots)
key_slot-within p slot sane is =
    (positive_keys p.nodes slot sane.lists.nodes_sane is, all_among (λ key. key ≤ amount p name.gNumberOfStaticSlots) (key_slots p.nodes) slot sane.constraints.own_slots.0 is)
