-- The senders of a round by key index, and how many they are.
use Rattle.std.proofs.Common.{◌≡◌, ℕ, ◌+◌, ◌≤◌, ◌==◌, Bool, true, false, ◌&&◌, ◌||◌, ℤ, Option, Some, None, List, [], ◌∷◌, ◌++◌, length, refl, ap, sym, ◌∙◌, subst, inl, inr, arith, if◌then◌else◌}
use Rattle.std.specs.Prelude.{Contains, count_by, is_some, nat_le, option_and_then, unwrap_or}
use Rattle.std.specs.List.{cons_option, range_with_len}
use Rattle.std.specs.Option.{option_map_or}
use Rattle.std.proofs.lemmas.Bool.{and_parts, eqb-true, or_cases}
use Rattle.std.proofs.lemmas.List.{length-append}
use Rattle.std.proofs.lemmas.List.Sorted.{length_permutation}
use Rattle.std.proofs.lemmas.Slice.Zip.{AllZip-long}
use Rattle.fr_cluster.specs.Values.{Values}
use Rattle.fr_cluster.specs.Constraints.{key_slots}
use Rattle.fr_cluster.specs.Questions.{key_index_of, key_slot_of}
use Rattle.fr_cluster.specs.Sane.{IsSane}
use Rattle.fr_cluster.specs.declared.nodes.NodeSpec.{NodeSpec}
use Rattle.fr_time.specs.Senders.{key_node_of}
use Rattle.fr_midpoint.specs.Midpoint.{discarded}
use Rattle.fr_midpoint.specs.Receivers.{AreFew, Hears}
use Rattle.fr_midpoint.proofs.Agreement.{few_are_discarded_lem}
use Rattle.fr_measure.specs.Values.{values_of}
use Rattle.fr_precision.specs.Alike.{IsArbitraryAt}
use Rattle.fr_precision.specs.Rows.{KeepOne, Sender}
use Rattle.fr_precision.specs.Round.{IsRound, IsSender, Round, sender_at, sender_by, sender_in, sender_with, senders_of, sync_count}
use Rattle.fr_cluster.proofs.KeyIndexes.{index-lt}
use Rattle.fr_precision.proofs.Counting.{AreSent, count_no, count_yes, range_apart, range_contains, sent_apart}
use Rattle.fr_time.proofs.Keys.{key_index_is, key_node_among, key_node_has, key_node_is, key_slot_has, rank_of, slot_of_index}
use Rattle.fr_cluster.proofs.Elements.{Contains-here, Contains-there}
use Rattle.fr_precision.proofs.Parting.{AreTold, IsParted, filter_map_counts, parted}

-- ---- the sender of an index

pub and_then_some : {A B : Type 0} (f : A → Option B) (o : Option A) (y : B) → option_and_then f o ≡ Some y → (x : A) × (o ≡ Some x) × (f x ≡ Some y)
and_then_some f None y is = absurd (cc)
and_then_some f (Some x) y is = (x, refl, is)

-- a sender is that of a node and its key slot
pub record IsFrom (r : Round) (index : ℕ) (sender : Sender) : Type 0 where
  pub slot : ℕ
  pub node : NodeSpec
  pub from : IsSender r node slot
  pub slot_is : key_slot_of r.params index ≡ Some slot
  pub is : sender_with r slot node.id ≡ sender

sender_tested : (r : Round) (slot : ℕ) (node : NodeSpec) (sender : Sender) (b : Bool) → r.has_rows node.id ≡ b
    → (if b then Some (sender_with r slot node.id) else None) ≡ Some sender → (r.has_rows node.id ≡ true) × (sender_with r slot node.id ≡ sender)
sender_tested r slot node sender true has is = (has, let e : Some (sender_with r slot node.id) ≡ Some sender = is in cc)
sender_tested r slot node sender false has is = absurd (cc)

pub sender_is : (r : Round) (index : ℕ) (sender : Sender) → sender_at r index ≡ Some sender → IsFrom r index sender
unfolding sender_at
sender_is r index sender is =
    let slot = and_then_some (sender_in r) (key_slot_of r.params index) sender is in
    let node = and_then_some (sender_by r slot.0) (key_node_of r.params slot.0) sender slot.2 in
    let both = sender_tested r slot.0 node.0 sender (r.has_rows node.0.id) refl node.2 in
    let has = key_node_has r.params node.0 slot.0 node.1 in
    record {
      slot = slot.0;
      node = node.0;
      from = record { there = has.0; rows = both.0; key = has.1 };
      slot_is = slot.1;
      is = both.1;
    }

pub sender_found : (r : Round) (index slot : ℕ) (node : NodeSpec) → IsSane r.params → IsSender r node slot → key_slot_of r.params index ≡ Some slot
    → sender_at r index ≡ Some (sender_with r slot node.id)
unfolding sender_at
sender_found r index slot node sane from slot_is =
    let by_slot : sender_at r index ≡ sender_in r slot = ap (option_and_then (sender_in r)) slot_is in
    let by_node : sender_in r slot ≡ sender_by r slot node = ap (option_and_then (sender_by r slot)) (key_node_is r.params node slot sane from.there from.key) in
    by_slot ∙ by_node ∙ ap (λ b. if b then Some (sender_with r slot node.id) else None) from.rows

-- ---- how many key slots have a node that passes a test

abbrev by_node : (ℕ → Bool) → Option NodeSpec → Bool
by_node test o = option_map_or (λ (node : NodeSpec). test node.id) o false

keyed : Values → (ℕ → Bool) → ℕ → Bool
keyed p test slot = by_node test (key_node_of p slot)

keyed_is : (p : Values) (test : ℕ → Bool) (node : NodeSpec) (slot : ℕ) → IsSane p → Contains p.nodes node → node.key ≡ Some slot → keyed p test slot ≡ test node.id
unfolding keyed
keyed_is p test node slot sane among key = ap (by_node test) (key_node_is p node slot sane among key)

counted_by : (p : Values) (test : ℕ → Bool) (x : NodeSpec) (xs : List NodeSpec) (key : Option ℕ) → IsSane p → Contains p.nodes x → x.key ≡ key
    → count_by (keyed p test) (key_slots xs) ≡ count_by (λ (node : NodeSpec). is_some node.key && test node.id) xs
    → count_by (keyed p test) (cons_option key (key_slots xs)) ≡ count_by (λ (node : NodeSpec). is_some node.key && test node.id) (x ∷ xs)
counted_by p test x xs None sane among is rest =
    let fails : (is_some x.key && test x.id) ≡ false = ap (λ o. is_some o && test x.id) is in
    rest ∙ sym (count_no (λ (node : NodeSpec). is_some node.key && test node.id) x xs fails)
counted_by p test x xs (Some slot) sane among is rest = by_test (test x.id) refl
  where
    by_test : (b : Bool) → test x.id ≡ b
        → count_by (keyed p test) (slot ∷ key_slots xs) ≡ count_by (λ (node : NodeSpec). is_some node.key && test node.id) (x ∷ xs)
    by_test true passes =
        let here : keyed p test slot ≡ true = keyed_is p test x slot sane among is ∙ passes in
        let there : (is_some x.key && test x.id) ≡ true = ap (λ o. is_some o && test x.id) is ∙ passes in
        let one = count_yes (keyed p test) slot (key_slots xs) here in
        let other = count_yes (λ (node : NodeSpec). is_some node.key && test node.id) x xs there in
        omega (arith, one, other, rest)
    by_test false fails =
        let here : keyed p test slot ≡ false = keyed_is p test x slot sane among is ∙ fails in
        let there : (is_some x.key && test x.id) ≡ false = ap (λ o. is_some o && test x.id) is ∙ fails in
        let one = count_no (keyed p test) slot (key_slots xs) here in
        let other = count_no (λ (node : NodeSpec). is_some node.key && test node.id) x xs there in
        omega (arith, one, other, rest)

keyed_counts : (p : Values) (test : ℕ → Bool) (xs : List NodeSpec) → IsSane p → ((node : NodeSpec) → Contains xs node → Contains p.nodes node)
    → count_by (keyed p test) (key_slots xs) ≡ count_by (λ (node : NodeSpec). is_some node.key && test node.id) xs
keyed_counts p test [] sane all = refl
keyed_counts p test (x ∷ xs) sane all =
    counted_by p test x xs x.key sane (all x (Contains-here x xs)) refl (keyed_counts p test xs sane (λ node among. all node (Contains-there x xs node among)))

-- at least as many senders as sync nodes with rows
some_is : {A : Type 0} (o : Option A) (x : A) → o ≡ Some x → is_some o ≡ true
some_is o x is = ap is_some is

sender_sent : (r : Round) → IsSane r.params → AreSent (keyed r.params r.has_rows) (λ i. is_some (sender_at r i)) (rank_of r.params) (key_slots r.params.nodes) (range_with_len 0 15)
unfolding keyed
sender_sent r sane = record {
  apart = sane.constraints.own_slots.1;
  lands =
      λ slot among wanted.
      let node = key_node_among r.params.nodes slot among in
      let index = key_index_is r.params slot among in
      let from : IsSender r node.0 slot = record {
        there = node.1;
        rows = sym (keyed_is r.params r.has_rows node.0 slot sane node.1 node.2) ∙ wanted;
        key = node.2;
      } in (
        range_contains 15 (rank_of r.params slot) (index-lt r.params slot (rank_of r.params slot) sane index),
        some_is (sender_at r (rank_of r.params slot)) (sender_with r slot node.0.id)
            (sender_found r (rank_of r.params slot) slot node.0 sane from (slot_of_index r.params (rank_of r.params slot) slot index)),
      );
  sole =
      λ one other here there wanted also same.
      let first = slot_of_index r.params (rank_of r.params one) one (key_index_is r.params one here) in
      let second = slot_of_index r.params (rank_of r.params other) other (key_index_is r.params other there) in
      let both : Some one ≡ Some other = sym first ∙ ap (key_slot_of r.params) same ∙ second in
      cc;
}

pub senders_counted : (r : Round) → IsSane r.params → sync_count r.params r.has_rows ≤ length (senders_of r)
senders_counted r sane =
    let sent = sent_apart (keyed r.params r.has_rows) (λ i. is_some (sender_at r i)) (rank_of r.params) (key_slots r.params.nodes) (range_with_len 0 15) (sender_sent r sane) in
    let one = keyed_counts r.params r.has_rows r.params.nodes sane (λ node among. among) in
    let other = filter_map_counts (sender_at r) (range_with_len 0 15) in
    omega (arith, sent, one, other)

-- at most as many indexes of arbitrary nodes as arbitrary sync nodes
pub marked : Round → ℕ → Bool
marked r index = option_map_or (keyed r.params r.is_arbitrary) (key_slot_of r.params index) false

pub marked_is : (r : Round) (index slot : ℕ) (node : NodeSpec) → key_slot_of r.params index ≡ Some slot → key_node_of r.params slot ≡ Some node → r.is_arbitrary node.id ≡ true
    → marked r index ≡ true
unfolding marked keyed
marked_is r index slot node slot_is node_is arbitrary =
    let e : marked r index ≡ keyed r.params r.is_arbitrary slot = ap (λ o. option_map_or (keyed r.params r.is_arbitrary) o false) slot_is in
    e ∙ ap (by_node r.is_arbitrary) node_is ∙ arbitrary

marked_slot : (test : ℕ → Bool) (o : Option ℕ) → option_map_or test o false ≡ true → (slot : ℕ) × (o ≡ Some slot) × (test slot ≡ true)
marked_slot test None is = absurd (cc)
marked_slot test (Some slot) is = (slot, refl, is)

marked_sent : (r : Round) → IsSane r.params → AreSent (marked r) (keyed r.params r.is_arbitrary) (λ i. unwrap_or (key_slot_of r.params i) 0) (range_with_len 0 15) (key_slots r.params.nodes)
unfolding marked
marked_sent r sane = record {
  apart = range_apart 0 15;
  lands =
      λ index among wanted.
      let slot = marked_slot (keyed r.params r.is_arbitrary) (key_slot_of r.params index) wanted in
      let to : unwrap_or (key_slot_of r.params index) 0 ≡ slot.0 = ap (λ o. unwrap_or o 0) slot.1 in (
        subst (Contains (key_slots r.params.nodes)) (sym to) (key_slot_has r.params index slot.0 slot.1).1,
        ap (keyed r.params r.is_arbitrary) to ∙ slot.2,
      );
  sole =
      λ one other here there wanted also same.
      let first = marked_slot (keyed r.params r.is_arbitrary) (key_slot_of r.params one) wanted in
      let second = marked_slot (keyed r.params r.is_arbitrary) (key_slot_of r.params other) also in
      let to : unwrap_or (key_slot_of r.params one) 0 ≡ first.0 = ap (λ o. unwrap_or o 0) first.1 in
      let to_other : unwrap_or (key_slot_of r.params other) 0 ≡ second.0 = ap (λ o. unwrap_or o 0) second.1 in
      let slots : first.0 ≡ second.0 = sym to ∙ same ∙ to_other in
      let own = (key_slot_has r.params one first.0 first.1).0 in
      let own_other = (key_slot_has r.params other second.0 second.1).0 in
      let both : Some one ≡ Some other = sym own ∙ ap (key_index_of r.params) slots ∙ own_other in
      cc;
}

marked_counted : (r : Round) → IsSane r.params → count_by (marked r) (range_with_len 0 15) ≤ sync_count r.params r.is_arbitrary
marked_counted r sane =
    let sent = sent_apart (marked r) (keyed r.params r.is_arbitrary) (λ i. unwrap_or (key_slot_of r.params i) 0) (range_with_len 0 15) (key_slots r.params.nodes) (marked_sent r sane) in
    let one = keyed_counts r.params r.is_arbitrary r.params.nodes sane (λ node among. among) in
    omega (arith, sent, one)

-- ---- values by key index, and the senders

pub few_more : (correct more arbitrary : ℕ) → correct ≤ more → AreFew correct arbitrary → AreFew more arbitrary
few_more correct more arbitrary le (inl none) = inl (none.0, omega (arith, le, none.1))
few_more correct more arbitrary le (inr (inl one)) = inr (inl (one.0, omega (arith, le, one.1)))
few_more correct more arbitrary le (inr (inr two)) = inr (inr (two.0, omega (arith, le, two.1)))

-- those that a test finds few are few
pub few_by_test : (correct arbitrary : ℕ) → (((arbitrary == 0) && nat_le 1 correct) || ((arbitrary == 1) && nat_le 3 correct) || ((arbitrary == 2) && nat_le 6 correct)) ≡ true → AreFew correct arbitrary
few_by_test correct arbitrary is = elim (or_cases (((arbitrary == 0) && nat_le 1 correct) || ((arbitrary == 1) && nat_le 3 correct)) ((arbitrary == 2) && nat_le 6 correct) is) [
  | inl fewer ↦ elim (or_cases ((arbitrary == 0) && nat_le 1 correct) ((arbitrary == 1) && nat_le 3 correct) fewer) [
    | inl none ↦ inl (both 0 1 none)
    | inr one ↦ inr (inl (both 1 3 one))
  ]
  | inr two ↦ inr (inr (both 2 6 two))
] where
  nat_le-true : (a b : ℕ) → nat_le a b ≡ true → a ≤ b
  nat_le-true a b le = grind arith

  both : (count least : ℕ) → ((arbitrary == count) && nat_le least correct) ≡ true → (arbitrary ≡ count) × (least ≤ correct)
  both count least is =
      let parts : ((arbitrary == count) ≡ true) × (nat_le least correct ≡ true) = and_parts (arbitrary == count) (nat_le least correct) is in
      (eqb-true arbitrary count parts.0, nat_le-true least correct parts.1)

senders_few : (r : Round) → IsRound r → AreFew (length (senders_of r)) (sync_count r.params r.is_arbitrary)
senders_few r is = few_more (sync_count r.params r.has_rows) (length (senders_of r)) (sync_count r.params r.is_arbitrary) (senders_counted r is.sane) is.few

-- at least one
pub some_senders : (r : Round) → IsRound r → 1 ≤ length (senders_of r)
some_senders r is = least (length (senders_of r)) (sync_count r.params r.is_arbitrary) (senders_few r is)
  where
    least : (correct arbitrary : ℕ) → AreFew correct arbitrary → 1 ≤ correct
    least correct arbitrary (inl none) = none.1
    least correct arbitrary (inr (inl one)) = omega (arith, one.1)
    least correct arbitrary (inr (inr two)) = omega (arith, two.1)

-- values by key index, one of each sender, and others of arbitrary nodes alone
abbrev pub AreValues : Round → (Sender → ℤ → Type 0) → (ℕ → Option ℤ) → Type 0
AreValues r Says at = AreTold Sender Says (sender_at r) at (marked r)

pub record Sized (r : Round) (values : List ℤ) : Type 0 where
  pub heard : ℕ
  pub size : length values ≡ length (senders_of r) + heard
  pub few : heard ≤ sync_count r.params r.is_arbitrary

parts_of : (r : Round) (Says : Sender → ℤ → Type 0) (at : ℕ → Option ℤ) → AreValues r Says at
    → IsParted Sender Says (senders_of r) (values_of at) (count_by (marked r) (range_with_len 0 15))
unfolding values_of
parts_of r Says at told = parted Sender Says (sender_at r) at (marked r) (range_with_len 0 15) told

pub sized : (r : Round) (Says : Sender → ℤ → Type 0) (at : ℕ → Option ℤ) → IsRound r → AreValues r Says at → Sized r (values_of at)
sized r Says at is told =
    let parts = parts_of r Says at told in
    let few = parts.few_further in
    let most = marked_counted r is.sane in
    let said = AllZip-long Says (senders_of r) parts.said parts.each in
    let both = length_permutation (parts.said ++ parts.further) (values_of at) parts.parts in
    record { heard = length parts.further; size = whole parts.said parts.further said both; few = omega (arith, few, most) }
  where
    whole : (said further : List ℤ) → length said ≡ length (senders_of r) → length (values_of at) ≡ length (said ++ further)
        → length (values_of at) ≡ length (senders_of r) + length further
    whole said further same both = omega (arith, same, both, length-append said further)

pub hears_values : (r : Round) (Says : Sender → ℤ → Type 0) (at : ℕ → Option ℤ) → IsRound r → AreValues r Says at → Hears Sender Says (senders_of r) (values_of at)
hears_values r Says at is told =
    let parts = parts_of r Says at told in
    let few_marked = parts.few_further in
    let most = marked_counted r is.sane in
    let said = AllZip-long Says (senders_of r) parts.said parts.each in
    let size = length_permutation (parts.said ++ parts.further) (values_of at) parts.parts in
    let both = length-append parts.said parts.further in
    let heard = length parts.further in
    let few = few_are_discarded_lem (length (senders_of r)) (sync_count r.params r.is_arbitrary) heard heard (senders_few r is) (omega (arith, few_marked, most)) (omega (arith, few_marked, most)) in
    let whole : length (senders_of r) + heard ≡ length (values_of at) = omega (arith, said, size, both) in
    let At : ℕ → Type 0 = λ n. heard ≤ discarded n in
    record { said = parts.said; further = parts.further; parts = parts.parts; few = subst At whole few.0; each = parts.each }

pub values_keep_one : (r : Round) (Says Others : Sender → ℤ → Type 0) (at other : ℕ → Option ℤ) → IsRound r → AreValues r Says at → AreValues r Others other
    → KeepOne (values_of at) (values_of other) (senders_of r)
values_keep_one r Says Others at other is told also =
    let one = sized r Says at is told in
    let two = sized r Others other is also in
    let few = few_are_discarded_lem (length (senders_of r)) (sync_count r.params r.is_arbitrary) one.heard two.heard (senders_few r is) one.few two.few in
    let At : ℕ → ℕ → Type 0 = λ a b. discarded a + discarded b + 1 ≤ length (senders_of r) in
    let Other : ℕ → Type 0 = λ b. At (length (senders_of r) + one.heard) b in
    let First : ℕ → Type 0 = λ a. At a (length (values_of other)) in
    subst First (sym one.size) (subst Other (sym two.size) few.1)

pub marked_node : (r : Round) (index : ℕ) → marked r index ≡ true → IsArbitraryAt r index
unfolding marked keyed
marked_node r index is =
    let slot = marked_slot (keyed r.params r.is_arbitrary) (key_slot_of r.params index) is in
    let node = keyed_node r.is_arbitrary (key_node_of r.params slot.0) slot.2 in
    record { slot = slot.0; node = node.0; slot_is = slot.1; node_is = node.1; arbitrary = node.2 }
  where
    keyed_node : (test : ℕ → Bool) (o : Option NodeSpec) → by_node test o ≡ true → (node : NodeSpec) × (o ≡ Some node) × (test node.id ≡ true)
    keyed_node test None is = absurd (cc)
    keyed_node test (Some node) is = (node, refl, is)
