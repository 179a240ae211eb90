-- How many nodes with a key slot pass a test, counted by key index; and what lists discard.
use Rattle.std.proofs.Common.{◌≡◌, ◌⊎◌, ℕ, ◌+◌, ◌≤◌, Bool, true, false, Option, Some, None, List, [], ◌∷◌, refl, ap, sym, ◌∙◌, subst, inl, inr, arith}
use Rattle.std.specs.Prelude.{Contains, count_by, unwrap_or}
use Rattle.std.specs.List.{cons_option, list_all, range_with_len}
use Rattle.std.specs.Option.{option_map_or}
use Rattle.std.proofs.lemmas.Bool.{and_parts}
use Rattle.std.proofs.lemmas.Bool.Decides.{nat_tests}
use Rattle.fr_cluster.specs.Values.{Values}
use Rattle.fr_cluster.specs.Constraints.{key_slots}
use Rattle.fr_cluster.specs.Questions.{key_index_of, key_slot_of}
use Rattle.fr_cluster.specs.Sane.{IsSane}
use Rattle.fr_cluster.specs.declared.nodes.NodeSpec.{NodeSpec}
use Rattle.fr_cluster.proofs.Elements.{Contains-here, Contains-none, Contains-there}
use Rattle.fr_cluster.proofs.KeyIndexes.{index-lt}
use Rattle.fr_cluster.proofs.KeyNodes.{Contains-cons_cases}
use Rattle.fr_time.specs.Senders.{key_node_of}
use Rattle.fr_time.proofs.Keys.{key_index_is, key_node_among, key_node_is, key_slot_has, rank_of, slot_of_index}
use Rattle.fr_midpoint.specs.Midpoint.{discarded}
use Rattle.fr_precision.proofs.Counting.{count_cons, count_no, count_yes, one_if, range_apart, range_contains, sent_apart, AreSent}

-- what all of a list pass one of it passes
pub all_pass : {X : Type 0} (test : X → Bool) (xs : List X) (x : X) → list_all test xs ≡ true → Contains xs x → test x ≡ true
all_pass test [] x all among = absurd (Contains-none x among)
all_pass test (y ∷ xs) x all among =
    let parts = and_parts (test y) (list_all test xs) all in
    elim (Contains-cons_cases y xs x among) [
      | inl same ↦ sym (ap test same) ∙ parts.0
      | inr more ↦ all_pass test xs x parts.1 more
    ]

-- ---- what is counted in parts

one_of_two : (a b c : Bool) → (a ≡ true → (b ≡ true) ⊎ (c ≡ true)) → one_if a ≤ one_if b + one_if c
one_of_two false b c either = omega arith
one_of_two true b c either = by (either refl)
  where
    by : (b ≡ true) ⊎ (c ≡ true) → one_if true ≤ one_if b + one_if c
    by (inl is) = let one : one_if b ≡ 1 = ap one_if is in omega (arith, one)
    by (inr is) = let one : one_if c ≡ 1 = ap one_if is in omega (arith, one)

-- what passes a test passes one of two others
pub count_two : {X : Type 0} (p q r : X → Bool) (xs : List X) → ((x : X) → p x ≡ true → (q x ≡ true) ⊎ (r x ≡ true)) → count_by p xs ≤ count_by q xs + count_by r xs
count_two p q r [] either = omega arith
count_two p q r (x ∷ xs) either =
    let rest = count_two p q r xs either in
    let one = one_of_two (p x) (q x) (r x) (either x) in
    let e = count_cons p x xs in
    let f = count_cons q x xs in
    let g = count_cons r x xs in
    omega (arith, rest, one, e, f, g)

one_of_three : (a b c d : Bool) → (a ≡ true → (b ≡ true) ⊎ ((c ≡ true) ⊎ (d ≡ true))) → one_if a ≤ one_if b + one_if c + one_if d
one_of_three false b c d any = omega arith
one_of_three true b c d any = by (any refl)
  where
    by : (b ≡ true) ⊎ ((c ≡ true) ⊎ (d ≡ true)) → one_if true ≤ one_if b + one_if c + one_if d
    by (inl is) = let one : one_if b ≡ 1 = ap one_if is in omega (arith, one)
    by (inr (inl is)) = let one : one_if c ≡ 1 = ap one_if is in omega (arith, one)
    by (inr (inr is)) = let one : one_if d ≡ 1 = ap one_if is in omega (arith, one)

-- or one of three
pub count_three : {X : Type 0} (p q r s : X → Bool) (xs : List X) → ((x : X) → p x ≡ true → (q x ≡ true) ⊎ ((r x ≡ true) ⊎ (s x ≡ true)))
    → count_by p xs ≤ count_by q xs + count_by r xs + count_by s xs
count_three p q r s [] any = omega arith
count_three p q r s (x ∷ xs) any =
    let rest = count_three p q r s xs any in
    let one = one_of_three (p x) (q x) (r x) (s x) (any x) in
    let e = count_cons p x xs in
    let f = count_cons q x xs in
    let g = count_cons r x xs in
    let h = count_cons s x xs in
    omega (arith, rest, one, e, f, g, h)

-- ---- a test of nodes, at key slots and at key indexes

slot_passes : Values → (NodeSpec → Bool) → ℕ → Bool
slot_passes p test slot = option_map_or test (key_node_of p slot) false

pub passes_at : Values → (NodeSpec → Bool) → ℕ → Bool
passes_at p test index = option_map_or (slot_passes p test) (key_slot_of p index) false

pub passes_is : (p : Values) (test : NodeSpec → Bool) (index slot : ℕ) (node : NodeSpec) → key_slot_of p index ≡ Some slot → key_node_of p slot ≡ Some node → passes_at p test index ≡ test node
unfolding passes_at slot_passes
passes_is p test index slot node slot_is node_is =
    let e : passes_at p test index ≡ slot_passes p test slot = ap (λ o. option_map_or (slot_passes p test) o false) slot_is in
    e ∙ ap (λ o. option_map_or test o false) node_is

-- at a key index where it passes there is such a node
pub record IsPassed (p : Values) (test : NodeSpec → Bool) (index : ℕ) : Type 0 where
  pub slot : ℕ
  pub node : NodeSpec
  pub slot_is : key_slot_of p index ≡ Some slot
  pub there : Contains p.nodes node
  pub key : node.key ≡ Some slot
  pub passes : test node ≡ true

some_passed : {X : Type 0} (test : X → Bool) (o : Option X) → option_map_or test o false ≡ true → (x : X) × (o ≡ Some x) × (test x ≡ true)
some_passed test None is = absurd (cc)
some_passed test (Some x) is = (x, refl, is)

pub is_passed : (p : Values) (test : NodeSpec → Bool) (index : ℕ) → IsSane p → passes_at p test index ≡ true → IsPassed p test index
unfolding passes_at slot_passes
is_passed p test index sane is =
    let slot = some_passed (slot_passes p test) (key_slot_of p index) is in
    let node = key_node_among p.nodes slot.0 (key_slot_has p index slot.0 slot.1).1 in
    let found = key_node_is p node.0 slot.0 sane node.1 node.2 in
    let e : slot_passes p test slot.0 ≡ test node.0 = ap (λ o. option_map_or test o false) found in
    record { slot = slot.0; node = node.0; slot_is = slot.1; there = node.1; key = node.2; passes = sym e ∙ slot.2 }

-- ---- as many nodes as key slots, and as key indexes

-- a test that a node without a key slot fails
abbrev pub AsksForKey : (NodeSpec → Bool) → Type 0
AsksForKey test = (node : NodeSpec) → node.key ≡ None → test node ≡ false

keyed_by : (p : Values) (test : NodeSpec → Bool) (x : NodeSpec) (xs : List NodeSpec) (key : Option ℕ) → IsSane p → AsksForKey test → Contains p.nodes x → x.key ≡ key
    → count_by (slot_passes p test) (key_slots xs) ≡ count_by test xs → count_by (slot_passes p test) (cons_option key (key_slots xs)) ≡ count_by test (x ∷ xs)
unfolding slot_passes
keyed_by p test x xs None sane asks among is rest = rest ∙ sym (count_no test x xs (asks x is))
keyed_by p test x xs (Some slot) sane asks among is rest = by_test (test x) refl
  where
    same : slot_passes p test slot ≡ test x
    same = ap (λ o. option_map_or test o false) (key_node_is p x slot sane among is)

    by_test : (b : Bool) → test x ≡ b → count_by (slot_passes p test) (slot ∷ key_slots xs) ≡ count_by test (x ∷ xs)
    by_test true passes =
        let one = count_yes (slot_passes p test) slot (key_slots xs) (same ∙ passes) in
        let other = count_yes test x xs passes in
        omega (arith, one, other, rest)
    by_test false fails =
        let one = count_no (slot_passes p test) slot (key_slots xs) (same ∙ fails) in
        let other = count_no test x xs fails in
        omega (arith, one, other, rest)

keyed_counts : (p : Values) (test : NodeSpec → Bool) (xs : List NodeSpec) → IsSane p → AsksForKey test → ((node : NodeSpec) → Contains xs node → Contains p.nodes node)
    → count_by (slot_passes p test) (key_slots xs) ≡ count_by test xs
keyed_counts p test [] sane asks all = refl
keyed_counts p test (x ∷ xs) sane asks all =
    keyed_by p test x xs x.key sane asks (all x (Contains-here x xs)) refl (keyed_counts p test xs sane asks (λ node among. all node (Contains-there x xs node among)))

slots_sent : (p : Values) (test : NodeSpec → Bool) → IsSane p → AreSent (slot_passes p test) (passes_at p test) (rank_of p) (key_slots p.nodes) (range_with_len 0 15)
unfolding passes_at
slots_sent p test sane = record {
  apart = sane.constraints.own_slots.1;
  lands =
      λ slot among wanted.
      let index = key_index_is p slot among in
      let at = slot_of_index p (rank_of p slot) slot index in (
        range_contains 15 (rank_of p slot) (index-lt p slot (rank_of p slot) sane index),
        ap (λ o. option_map_or (slot_passes p test) o false) at ∙ wanted,
      );
  sole =
      λ one other here there wanted also same.
      let first = slot_of_index p (rank_of p one) one (key_index_is p one here) in
      let second = slot_of_index p (rank_of p other) other (key_index_is p other there) in
      let both : Some one ≡ Some other = sym first ∙ ap (key_slot_of p) same ∙ second in
      cc;
}

indexes_sent : (p : Values) (test : NodeSpec → Bool) → AreSent (passes_at p test) (slot_passes p test) (λ i. unwrap_or (key_slot_of p i) 0) (range_with_len 0 15) (key_slots p.nodes)
unfolding passes_at
indexes_sent p test = record {
  apart = range_apart 0 15;
  lands =
      λ index among wanted.
      let slot = some_passed (slot_passes p test) (key_slot_of p index) wanted in
      let to : unwrap_or (key_slot_of p index) 0 ≡ slot.0 = ap (λ o. unwrap_or o 0) slot.1 in (
        subst (Contains (key_slots p.nodes)) (sym to) (key_slot_has p index slot.0 slot.1).1,
        ap (slot_passes p test) to ∙ slot.2,
      );
  sole =
      λ one other here there wanted also same.
      let first = some_passed (slot_passes p test) (key_slot_of p one) wanted in
      let second = some_passed (slot_passes p test) (key_slot_of p other) also in
      let to : unwrap_or (key_slot_of p one) 0 ≡ first.0 = ap (λ o. unwrap_or o 0) first.1 in
      let to_other : unwrap_or (key_slot_of p other) 0 ≡ second.0 = ap (λ o. unwrap_or o 0) second.1 in
      let slots : first.0 ≡ second.0 = sym to ∙ same ∙ to_other in
      let own = (key_slot_has p one first.0 first.1).0 in
      let own_other = (key_slot_has p other second.0 second.1).0 in
      let both : Some one ≡ Some other = sym own ∙ ap (key_index_of p) slots ∙ own_other in
      cc;
}

pub nodes_counted : (p : Values) (test : NodeSpec → Bool) → IsSane p → AsksForKey test → count_by test p.nodes ≡ count_by (passes_at p test) (range_with_len 0 15)
nodes_counted p test sane asks =
    let slots = keyed_counts p test p.nodes sane asks (λ node among. among) in
    let to = sent_apart (slot_passes p test) (passes_at p test) (rank_of p) (key_slots p.nodes) (range_with_len 0 15) (slots_sent p test sane) in
    let from = sent_apart (passes_at p test) (slot_passes p test) (λ i. unwrap_or (key_slot_of p i) 0) (range_with_len 0 15) (key_slots p.nodes) (indexes_sent p test) in
    omega (arith, slots, to, from)

-- ---- what is discarded

pub discards_more : (a b : ℕ) → a ≤ b → discarded a ≤ discarded b
discards_more a b le = grind (arith, nat_tests)

-- fewer further values than may be discarded are discarded too
pub fewer_discarded : (heard some most : ℕ) → some ≤ most → most ≤ discarded (heard + most) → some ≤ discarded (heard + some)
fewer_discarded heard some most le fits = grind (arith, nat_tests)
