-- The places of key slots among the key slots: below 15, and each key slot has its own.
use Rattle.std.proofs.Common.{◌≡◌, ℕ, ◌+◌, ◌<◌, ◌≤◌, Bool, true, false, cond, ◌==◌, nat_lt, List, [], ◌∷◌, length, Option, Some, None, IfSome, inl, inr, refl, ap, sym, ◌∙◌, arith}
use Rattle.std.specs.Prelude.{count_by}
use Rattle.std.specs.List.{list_any}
use Rattle.std.proofs.lemmas.Bool.{cases_Bool, or_cases, cases_order, eqb-true}
use Rattle.std.proofs.lemmas.Bool.Decides.{nat_tests}
use Rattle.std.proofs.lemmas.List.Sums.{count_by-le-length, sum_by-cons}
use Rattle.fr_cluster.specs.Values.{Values}
use Rattle.fr_cluster.specs.Sane.{IsSane}
use Rattle.fr_cluster.specs.Constraints.{key_slots}
use Rattle.fr_cluster.specs.Questions.{key_index_of}

-- how many keys lie below a number
abbrev pub below : ℕ → List ℕ → ℕ
below slot keys = count_by (λ key. nat_lt key slot) keys

-- a number is a key
abbrev pub is_among : ℕ → List ℕ → Bool
is_among slot keys = list_any (λ key. key == slot) keys

-- a test as a number
abbrev one_if : Bool → ℕ
one_if test = cond test 1 0

below-cons : (slot key : ℕ) (keys : List ℕ) → below slot (key ∷ keys) ≡ one_if (nat_lt key slot) + below slot keys
below-cons slot key keys = sum_by-cons (λ k. one_if (nat_lt k slot)) key keys

one_below : (a b key : ℕ) → a < b → one_if (nat_lt key a) ≤ one_if (nat_lt key b)
one_below a b key less = grind (arith, nat_tests)

none_itself : (a : ℕ) → one_if (nat_lt a a) ≡ 0
none_itself a = grind (arith, nat_tests)

one_less : (a b : ℕ) → a < b → one_if (nat_lt a b) ≡ 1
one_less a b less = grind (arith, nat_tests)

at_most_one : (test : Bool) → one_if test ≤ 1
at_most_one true = omega arith
at_most_one false = omega arith

-- a key has fewer below itself than there are keys
below-lt : (slot : ℕ) (keys : List ℕ) → is_among slot keys ≡ true → below slot keys < length keys
below-lt slot [] among = cc
below-lt slot (key ∷ keys) among = elim (or_cases (key == slot) (is_among slot keys) among) [
  | inl same ↦
      let itself : key ≡ slot = eqb-true key slot same in
      let none : one_if (nat_lt key slot) ≡ 0 = ap (λ (k : ℕ). one_if (nat_lt k slot)) itself ∙ none_itself slot in
      let rest : below slot keys ≤ length keys = count_by-le-length (λ k. nat_lt k slot) keys in
      omega (arith, below-cons slot key keys, none, rest)
  | inr later ↦ omega (arith, below-cons slot key keys, below-lt slot keys later, at_most_one (nat_lt key slot))
]

below-le : (a b : ℕ) (keys : List ℕ) → a < b → below a keys ≤ below b keys
below-le a b [] less = omega arith
below-le a b (key ∷ keys) less = omega (arith, below-cons a key keys, below-cons b key keys, below-le a b keys less, one_below a b key less)

-- a greater key has more below it
below-lt-below : (a b : ℕ) (keys : List ℕ) → a < b → is_among a keys ≡ true → below a keys < below b keys
below-lt-below a b [] less among = cc
below-lt-below a b (key ∷ keys) less among = elim (or_cases (key == a) (is_among a keys) among) [
  | inl same ↦
      let itself : key ≡ a = eqb-true key a same in
      let none : one_if (nat_lt key a) ≡ 0 = ap (λ (k : ℕ). one_if (nat_lt k a)) itself ∙ none_itself a in
      let one : one_if (nat_lt key b) ≡ 1 = ap (λ (k : ℕ). one_if (nat_lt k b)) itself ∙ one_less a b less in
      omega (arith, below-cons a key keys, below-cons b key keys, none, one, below-le a b keys less)
  | inr later ↦ omega (arith, below-cons a key keys, below-cons b key keys, below-lt-below a b keys less later, one_below a b key less)
]

-- what a place says of its slot
found : (p : Values) (slot index : ℕ) → key_index_of p slot ≡ Some index → (is_among slot (key_slots p.nodes) ≡ true) × (below slot (key_slots p.nodes) ≡ index)
found p slot index is = elim (cases_Bool (is_among slot (key_slots p.nodes))) [
  | inl among ↦
      let here : key_index_of p slot ≡ Some (below slot (key_slots p.nodes)) = rw among refl in
      let same : below slot (key_slots p.nodes) ≡ index = cc in
      (among, same)
  | inr other ↦
      let none : key_index_of p slot ≡ None = rw other refl in
      cc
]

pub index-lt : (p : Values) (slot index : ℕ) → IsSane p → key_index_of p slot ≡ Some index → index < 15
index-lt p slot index sane is =
    let there : (is_among slot (key_slots p.nodes) ≡ true) × (below slot (key_slots p.nodes) ≡ index) = found p slot index is in
    omega (arith, below-lt slot (key_slots p.nodes) there.0, there.1, sane.constraints.sync_nodes.1)

pub key_index-lt : (p : Values) (slot : ℕ) (at : Option ℕ) → IsSane p → at ≡ key_index_of p slot → IfSome at (λ index. index < 15)
key_index-lt p slot None sane is = tt
key_index-lt p slot (Some index) sane is = index-lt p slot index sane (sym is)

-- no two key slots have one place
pub index_is_own : (p : Values) (a b index : ℕ) → key_index_of p a ≡ Some index → key_index_of p b ≡ Some index → a ≡ b
index_is_own p a b index one other =
    let first : (is_among a (key_slots p.nodes) ≡ true) × (below a (key_slots p.nodes) ≡ index) = found p a index one in
    let second : (is_among b (key_slots p.nodes) ≡ true) × (below b (key_slots p.nodes) ≡ index) = found p b index other in
    elim (cases_order a b) [
      | inl same ↦ same
      | inr (inl less) ↦ absurd (omega (arith, below-lt-below a b (key_slots p.nodes) less first.0, first.1, second.1))
      | inr (inr more) ↦ absurd (omega (arith, below-lt-below b a (key_slots p.nodes) more second.0, first.1, second.1))
    ]
