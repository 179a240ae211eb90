-- What a receiver makes of the frames that came, whatever was lost: each value is that of a sender.
use Rattle.std.proofs.Common.{◌≡◌, ◌⊎◌, ℕ, ◌+◌, ◌≤◌, Bool, true, false, ◌&&◌, cond, ℤ, pos, Option, Some, None, ◌++◌, All, List, map, length, refl, ap, sym, ◌∙◌, subst, inl, inr, arith, if◌then◌else◌}
use Rattle.std.specs.Prelude.{◌-ℤ◌, Contains, is_some, int_lt, count_by}
use Rattle.std.specs.Int.{int_min}
use Rattle.std.specs.List.{range_with_len}
use Rattle.std.proofs.lemmas.List.{length-append}
use Rattle.std.proofs.lemmas.List.Sorted.{length_permutation}
use Rattle.std.proofs.lemmas.Slice.Zip.{AllZip-long}
use Rattle.fr_base.specs.declared.channel.Channel.{Channel}
use Rattle.fr_base.specs.declared.channel.Channel.TheVariants.{A, B}
use Rattle.fr_base.specs.declared.node_row.NodeRow.{NodeRow}
use Rattle.fr_base.specs.Within.{IsBetween}
use Rattle.fr_cluster.specs.Questions.{key_slot_of}
use Rattle.fr_cluster.specs.declared.nodes.NodeSpec.{NodeSpec}
use Rattle.fr_cluster.specs.Sane.{IsSane}
use Rattle.fr_time.specs.Senders.{key_node_of}
use Rattle.fr_time.specs.Slots.{action_point_of}
use Rattle.fr_time.proofs.Keys.{key_node_has, key_node_is}
use Rattle.fr_midpoint.specs.Midpoint.{discarded, half_of_sum}
use Rattle.fr_midpoint.specs.Receivers.{Hears}
use Rattle.fr_measure.specs.Values.{change_at, is_own, least_of, mean_of, offset_at, rate_at, values_of}
use Rattle.fr_correct.proofs.There.{offset_term_is_there, rate_term_is_there}
use Rattle.fr_correct.specs.Terms.{offset_term_of, rate_term_of}
use Rattle.fr_precision.specs.Lengths.{IsSteadyRound, KeepSenders}
use Rattle.fr_precision.specs.Offsets.{IsDeviation, IsOffsetRound}
use Rattle.fr_precision.specs.Round.{offsets_of, rates_of, sender_at, sender_with, senders_of, sync_count, Hearer, IsRound, IsSender, Round}
use Rattle.fr_precision.specs.Rows.{Sender}
use Rattle.fr_precision.specs.Step.{IsAmong, Member}
use Rattle.std.proofs.lemmas.Bool.{and_parts}
use Rattle.fr_precision.proofs.OffsetLaws.{micro_lasts, own_value_is_deviation}
use Rattle.fr_precision.proofs.Counting.{count_le}
use Rattle.fr_precision.proofs.Parting.{filter_map_counts, parted, AreTold, IsParted}
use Rattle.fr_precision.proofs.RoundSenders.{hears_values, marked, marked_is, sender_found, sender_is, sized, some_senders, values_keep_one, AreValues, IsFrom}
use Rattle.fr_precision.proofs.Values.{acts_before, change_from, other_of, other_value, own_value, own_is}
use Rattle.fr_precision.specs.Among.{ComputesOwn, OwnOffsets, OwnRates}
use Rattle.fr_precision.specs.Hearing.{AllowsArbitrary, IsHeardInPart}
use Rattle.fr_traffic.specs.RoundsInPart.{heard_at, senders_heard, IsSuppliedInPart, IsTrustedOf, RoundsInPartComputeOwn}
use Rattle.fr_bound.specs.SharpBounds.{last_action}
use Rattle.fr_precision.specs.SharpRound.{as_member}
use Rattle.fr_precision.specs.Steady.{PlacesEven}
use Rattle.fr_runs.proofs.KeyedCounts.{fewer_discarded, is_passed, nodes_counted, passes_at, passes_is}
use Rattle.fr_precision.proofs.HearingLemmas.{acts_regularly, no_less}
use Rattle.fr_precision.proofs.RoundLemmas.{acts_early, all_given, map_contains, sender_among}
use Rattle.fr_precision.proofs.SteadyLemmas.{half_places_even, own_value_places_even, steady_values_place_lem}

-- ---- values of both channels

-- what holds of the deviations of both channels holds of the least of them
each_least : (P : ℤ → Type 0) (a b : Option ℤ) → ((v : ℤ) → a ≡ Some v → P v) → ((v : ℤ) → b ≡ Some v → P v) → (v : ℤ) → least_of a b ≡ Some v → P v
each_least P None None one other v is = other v is
each_least P None (Some b) one other v is = other v is
each_least P (Some a) None one other v is = one v is
each_least P (Some a) (Some b) one other v is = by_test (int_lt b a) (let e : Some (int_min a b) ≡ Some v = is in cc)
  where
    by_test : (t : Bool) → cond t b a ≡ v → P v
    by_test true same = other v (ap Some same)
    by_test false same = one v (ap Some same)

-- and of their mean, where it holds of half of their sum
each_mean : (P : ℤ → Type 0) (a b : Option ℤ) → ((x y : ℤ) → P x → P y → P (half_of_sum x y)) → ((v : ℤ) → a ≡ Some v → P v) → ((v : ℤ) → b ≡ Some v → P v)
    → (v : ℤ) → mean_of a b ≡ Some v → P v
each_mean P None None half one other v is = other v is
each_mean P None (Some b) half one other v is = other v is
each_mean P (Some a) None half one other v is = one v is
each_mean P (Some a) (Some b) half one other v is =
    let same : half_of_sum a b ≡ v = (let e : Some (half_of_sum a b) ≡ Some v = is in cc) in
    subst P same (half a b (one a refl) (other b refl))

-- where there is a least or a mean, some channel has one
pub least_there : (a b : Option ℤ) (v : ℤ) → least_of a b ≡ Some v → ((x : ℤ) × (a ≡ Some x)) ⊎ ((x : ℤ) × (b ≡ Some x))
least_there None b v is = inr (v, is)
least_there (Some a) b v is = inl (a, refl)

pub mean_there : (a b : Option ℤ) (v : ℤ) → mean_of a b ≡ Some v → ((x : ℤ) × (a ≡ Some x)) ⊎ ((x : ℤ) × (b ≡ Some x))
mean_there None b v is = inr (v, is)
mean_there (Some a) b v is = inl (a, refl)

-- ---- the senders of whom there is a value

heard_is : (r : Round) (at : ℕ → Option ℤ) (index : ℕ) (sender : Sender) (o : Option ℤ) → at index ≡ o → heard_at r at index ≡ Some sender
    → (v : ℤ) × (at index ≡ Some v) × (sender_at r index ≡ Some sender)
heard_is r at index sender None none is =
    let e : None ≡ Some sender = sym (ap (λ (o : Option ℤ). if is_some o then sender_at r index else None) none) ∙ is in
    absurd (cc)
heard_is r at index sender (Some v) some is =
    (v, some, sym (ap (λ (o : Option ℤ). if is_some o then sender_at r index else None) some) ∙ is)

heard_found : (r : Round) (at : ℕ → Option ℤ) (index : ℕ) (v : ℤ) → at index ≡ Some v → heard_at r at index ≡ sender_at r index
heard_found r at index v some = ap (λ (o : Option ℤ). if is_some o then sender_at r index else None) some

-- what holds of each sender holds of each of those
pub all_heard : (r : Round) (at : ℕ → Option ℤ) (P : Sender → Type 0) → ((index : ℕ) (sender : Sender) → IsFrom r index sender → P sender) → All P (senders_heard r at)
all_heard r at P each =
    all_given (heard_at r at) P (range_with_len 0 15)
    (λ index sender some. each index sender (sender_is r index sender (heard_is r at index sender (at index) refl some).2))

-- a list of values is not empty where some sender is heard
pub heard_some : (r : Round) (at : ℕ → Option ℤ) → 1 ≤ length (senders_heard r at) → 1 ≤ length (values_of at)
unfolding values_of
heard_some r at some =
    let heard = filter_map_counts (heard_at r at) (range_with_len 0 15) in
    let values = filter_map_counts at (range_with_len 0 15) in
    let le = count_le (λ i. is_some (heard_at r at i)) (λ i. is_some (at i)) (range_with_len 0 15) (λ i is. from (at i) (sender_at r i) is) in
    omega (arith, some, heard, values, le)
  where
    from : (o : Option ℤ) (sender : Option Sender) → is_some (if is_some o then sender else None) ≡ true → is_some o ≡ true
    from None sender is = absurd (cc)
    from (Some v) sender is = refl

-- ---- one list of values

-- whether a key index is that of an arbitrary node
abbrev pub is_other : Round → ℕ → Bool
is_other r index = passes_at r.params (λ (node : NodeSpec). is_some node.key && r.is_arbitrary node.id) index

-- there are as many of these as arbitrary sync nodes
pub others_counted : (r : Round) → IsSane r.params → sync_count r.params r.is_arbitrary ≡ count_by (is_other r) (range_with_len 0 15)
others_counted r sane =
    nodes_counted r.params (λ (node : NodeSpec). is_some node.key && r.is_arbitrary node.id) sane
    (λ node none. ap (λ (o : Option ℕ). is_some o && r.is_arbitrary node.id) none)

other_marked : (r : Round) (index : ℕ) → IsSane r.params → is_other r index ≡ true → marked r index ≡ true
other_marked r index sane is =
    let of = is_passed r.params (λ (node : NodeSpec). is_some node.key && r.is_arbitrary node.id) index sane is in
    let both = and_parts (is_some of.node.key) (r.is_arbitrary of.node.id) of.passes in
    marked_is r index of.slot of.node of.slot_is (key_node_is r.params of.node of.slot sane of.there of.key) both.1

module _ (r : Round) (n : Hearer) (is : IsRound r) (hears : IsHeardInPart r n) where
  -- each value is of a sender, or of an arbitrary node
  of_sender : (index : ℕ) (is_odd : Bool) (channel : Channel) (value : ℤ) → n.look index is_odd channel ≡ Some value → sender_at r index ≡ None → is_other r index ≡ true
  of_sender index is_odd channel value there no_sender =
      let only = hears.only index is_odd channel value there in
      by_kind only.0 only.1.0 only.1.1 only.1.2 only.1.3
    where
      by_kind : (slot : ℕ) (node : NodeSpec) → key_slot_of r.params index ≡ Some slot → key_node_of r.params slot ≡ Some node
          → (r.has_rows node.id ≡ true) ⊎ (r.is_arbitrary node.id ≡ true) → is_other r index ≡ true
      by_kind slot node slot_is node_is (inl rows) =
          let has = key_node_has r.params node slot node_is in
          let from : IsSender r node slot = record { there = has.0; rows = rows; key = has.1 } in
          let e : Some (sender_with r slot node.id) ≡ None = sym (sender_found r index slot node is.sane from slot_is) ∙ no_sender in
          absurd (cc)
      by_kind slot node slot_is node_is (inr arbitrary) =
          let has = key_node_has r.params node slot node_is in
          passes_is r.params (λ (one : NodeSpec). is_some one.key && r.is_arbitrary one.id) index slot node slot_is node_is ∙ rw (has.1, arbitrary) refl

  own_sends : (index : ℕ) → is_own n.own index ≡ true → sender_at r index ≡ None → ⊥
  own_sends index own no_sender =
      let itself = hears.itself index (own_is n.own index own) in
      let e : Some (sender_with r itself.0 itself.1.0.id) ≡ None = sym (sender_found r index itself.0 itself.1.0 is.sane itself.1.1.sender itself.1.1.slot_is) ∙ no_sender in
      cc

  -- the sender of the receiver's own index has its odd row
  own_row : (index : ℕ) (sender : Sender) → IsFrom r index sender → is_own n.own index ≡ true → sender.odd ≡ n.odd
  own_row index sender from own =
      let itself = hears.itself index (own_is n.own index own) in
      let slots : Some from.slot ≡ Some itself.0 = sym from.slot_is ∙ itself.1.1.slot_is in
      let same : from.slot ≡ itself.0 = cc in
      let one = key_node_is r.params from.node from.slot is.sane from.from.there from.from.key in
      let two = key_node_is r.params itself.1.0 itself.0 is.sane itself.1.1.sender.there itself.1.1.sender.key in
      let nodes : Some from.node ≡ Some itself.1.0 = sym one ∙ ap (key_node_of r.params) same ∙ two in
      let node : from.node ≡ itself.1.0 = cc in
      ap (λ (s : Sender). s.odd) (sym from.is) ∙ ap (λ (one : NodeSpec). r.odd one.id) node ∙ itself.1.1.odd

  module _ (Says : Sender → ℤ → Type 0) (at : ℕ → Option ℤ)
      (said : (index : ℕ) (sender : Sender) (v : ℤ) → IsFrom r index sender → at index ≡ Some v → Says sender v)
      (other : (index : ℕ) (v : ℤ) → at index ≡ Some v → sender_at r index ≡ None → is_other r index ≡ true) where
    told : AreTold Sender Says (heard_at r at) at (is_other r)
    told = record {
      said = λ index sender some.
          let has = heard_is r at index sender (at index) refl some in
          (has.0, has.1, said index sender has.0 (sender_is r index sender has.2) has.1);
      other = λ index v no_one some. other index v some (sym (heard_found r at index v some) ∙ no_one);
    }

    parts : IsParted Sender Says (senders_heard r at) (values_of at) (count_by (is_other r) (range_with_len 0 15))
    unfolding values_of
    parts = parted Sender Says (heard_at r at) at (is_other r) (range_with_len 0 15) told

    few_further : length (parts.further) ≤ sync_count r.params r.is_arbitrary
    few_further =
        let few = parts.few_further in
        let most = others_counted r is.sane in
        omega (arith, few, most)

    as_many : length (senders_heard r at) + length (parts.further) ≡ length (values_of at)
    as_many =
        let long = AllZip-long Says (senders_heard r at) parts.said parts.each in
        let size = length_permutation (parts.said ++ parts.further) (values_of at) parts.parts in
        let both = length-append parts.said parts.further in
        omega (arith, long, size, both)

    pub hears_heard : IsTrustedOf r at → Hears Sender Says (senders_heard r at) (values_of at)
    hears_heard trusted =
        let At : ℕ → Type 0 = λ m. length (parts.further) ≤ discarded m in
        let same = as_many in
        let at_most = trusted.at_most in
        let further : length (parts.further) ≤ trusted.most = omega (arith, same, at_most) in
        record {
          said = parts.said;
          further = parts.further;
          parts = parts.parts;
          few = subst At as_many (fewer_discarded (length (senders_heard r at)) (length (parts.further)) trusted.most further trusted.few);
          each = parts.each;
        }

    -- without arbitrary sync nodes a list with a value is trusted
    pub trusted_alone : sync_count r.params r.is_arbitrary ≡ 0 → 1 ≤ length (values_of at) → IsTrustedOf r at
    trusted_alone none some =
        let same = as_many in
        let few = few_further in
        record {
          most = 0;
          at_most = omega (arith, none, same, few);
          few = omega arith;
          some = omega (arith, none, some, same, few);
        }

    -- where there is one of each sender: the values are those of all, and few others
    pub told_of_all : ((index : ℕ) → is_some (sender_at r index) ≡ true → is_some (at index) ≡ true) → AreValues r Says at
    told_of_all all = record {
      said = λ index sender some.
          let has = value_of (at index) (all index (ap is_some some)) in
          (has.0, has.1, said index sender has.0 (sender_is r index sender some) has.1);
      other = λ index v no_one some. other_marked r index is.sane (other index v some no_one);
    }
      where
        value_of : (o : Option ℤ) → is_some o ≡ true → (v : ℤ) × (o ≡ Some v)
        value_of None there = absurd (cc)
        value_of (Some v) there = (v, refl)

-- ---- offsets and rates

module _ (r : Round) (flutter : ℕ) (n : Hearer) (is : IsRound r) (s : IsSuppliedInPart r flutter n) where
  Offset : Sender → ℤ → Type 0
  Offset sender value = IsDeviation r.params true sender.action n.odd sender.odd value

  Rate : Sender → ℤ → Type 0
  Rate sender value = PlacesEven r.params flutter sender n.odd value

  offset_by : (index : ℕ) (sender : Sender) (v : ℤ) (own : Bool) → IsFrom r index sender → is_own n.own index ≡ own → offset_at n.look n.own index ≡ Some v → Offset sender v
  unfolding Offset
  offset_by index sender v true from own some =
      let least = least_of (n.look index true A) (n.look index true B) in
      let zero : Some (pos 0) ≡ Some v = sym (own_value n.own index least own) ∙ some in
      let value : pos 0 ≡ v = cc in
      let lasts = micro_lasts r.params n.odd is.sane s.regular.odd_micro in
      let At : NodeRow → Type 0 = λ row. IsDeviation r.params true sender.action n.odd row (pos 0) in
      let Of : ℤ → Type 0 = λ x. IsDeviation r.params true sender.action n.odd sender.odd x in
      subst Of value (subst At (sym (own_row r n is s.hears index sender from own)) (own_value_is_deviation r.params true sender.action n.odd lasts))
  offset_by index sender v false from own some =
      let other = other_of r n index sender from own in
      let least : least_of (n.look index true A) (n.look index true B) ≡ Some v = sym (other_value n.own index (least_of (n.look index true A) (n.look index true B)) own) ∙ some in
      let each = λ (channel : Channel) (x : ℤ) (there : n.look index true channel ≡ Some x).
      (
      let Here : Sender → Type 0 = λ one. IsDeviation r.params true one.action n.odd one.odd x in
      subst Here from.is (s.hears.placed index from.slot from.node true channel x other there)
      ) in
      each_least (λ x. IsDeviation r.params true sender.action n.odd sender.odd x) (n.look index true A) (n.look index true B) (each A) (each B) v least

  offset_other : (index : ℕ) (v : ℤ) (own : Bool) → is_own n.own index ≡ own → offset_at n.look n.own index ≡ Some v → sender_at r index ≡ None → is_other r index ≡ true
  offset_other index v true own some no_sender = absurd (own_sends r n is s.hears index own no_sender)
  offset_other index v false own some no_sender =
      let least : least_of (n.look index true A) (n.look index true B) ≡ Some v = sym (other_value n.own index (least_of (n.look index true A) (n.look index true B)) own) ∙ some in
      by_channel (least_there (n.look index true A) (n.look index true B) v least)
    where
      by_channel : ((x : ℤ) × (n.look index true A ≡ Some x)) ⊎ ((x : ℤ) × (n.look index true B ≡ Some x)) → is_other r index ≡ true
      by_channel (inl one) = of_sender r n is s.hears index true A one.0 one.1 no_sender
      by_channel (inr one) = of_sender r n is s.hears index true B one.0 one.1 no_sender

  -- the change on one channel
  change_placed : (index : ℕ) (sender : Sender) (channel : Channel) (v : ℤ) (from : IsFrom r index sender) → is_own n.own index ≡ false → change_at n.look index channel ≡ Some v → Rate sender v
  unfolding Rate
  change_placed index sender channel v from own some =
      let both = change_from (n.look index false channel) (n.look index true channel) v some in
      let early = both.0 in
      let late = both.1.0 in
      let other = other_of r n index sender from own in
      let Value : ℤ → Type 0 = λ x. PlacesEven r.params flutter sender n.odd x in
      let Here : Sender → Type 0 = λ one. PlacesEven r.params flutter one n.odd (late -ℤ early) in
      subst Value (sym both.1.3)
      (
      subst Here from.is
      (
      steady_values_place_lem r.params flutter (sender_with r from.slot from.node.id) n.even n.odd early late is.sane s.regular
      (record {
        regular = is.regular from.node from.from.there from.from.rows;
        acts_from = no_less (action_point_of r.params from.slot);
        acts_to = acts_before r from.slot from.node is.sane from.from;
      })
      (s.steady index from.slot from.node channel early late other both.1.1 both.1.2)
      )
      )

  rate_by : (index : ℕ) (sender : Sender) (v : ℤ) (own : Bool) → IsFrom r index sender → is_own n.own index ≡ own → rate_at n.look n.own index ≡ Some v → Rate sender v
  unfolding Rate
  rate_by index sender v true from own some =
      let mean = mean_of (change_at n.look index A) (change_at n.look index B) in
      let zero : Some (pos 0) ≡ Some v = sym (own_value n.own index mean own) ∙ some in
      let value : pos 0 ≡ v = cc in
      let At : NodeRow → Type 0 = λ row. PlacesEven r.params flutter sender row (pos 0) in
      let Of : ℤ → Type 0 = λ x. PlacesEven r.params flutter sender n.odd x in
      subst Of value (subst At (own_row r n is s.hears index sender from own) (own_value_places_even r.params flutter sender is.sane (acts_regularly r index sender is from)))
  rate_by index sender v false from own some =
      let mean : mean_of (change_at n.look index A) (change_at n.look index B) ≡ Some v = sym (other_value n.own index (mean_of (change_at n.look index A) (change_at n.look index B)) own) ∙ some in
      each_mean (λ x. PlacesEven r.params flutter sender n.odd x) (change_at n.look index A) (change_at n.look index B)
      (λ x y one two. half_places_even r.params flutter sender n.odd x y is.sane s.regular.odd_micro one two)
      (λ x there. change_placed index sender A x from own there) (λ x there. change_placed index sender B x from own there) v mean

  rate_other : (index : ℕ) (v : ℤ) (own : Bool) → is_own n.own index ≡ own → rate_at n.look n.own index ≡ Some v → sender_at r index ≡ None → is_other r index ≡ true
  rate_other index v true own some no_sender = absurd (own_sends r n is s.hears index own no_sender)
  rate_other index v false own some no_sender =
      let mean : mean_of (change_at n.look index A) (change_at n.look index B) ≡ Some v = sym (other_value n.own index (mean_of (change_at n.look index A) (change_at n.look index B)) own) ∙ some in
      by_channel (mean_there (change_at n.look index A) (change_at n.look index B) v mean)
    where
      of_change : (channel : Channel) (x : ℤ) → change_at n.look index channel ≡ Some x → is_other r index ≡ true
      of_change channel x there =
          let both = change_from (n.look index false channel) (n.look index true channel) x there in
          of_sender r n is s.hears index true channel both.1.0 both.1.2 no_sender

      by_channel : ((x : ℤ) × (change_at n.look index A ≡ Some x)) ⊎ ((x : ℤ) × (change_at n.look index B ≡ Some x)) → is_other r index ≡ true
      by_channel (inl one) = of_change A one.0 one.1
      by_channel (inr one) = of_change B one.0 one.1

  -- what is trusted is heard
  abbrev offsets : ℕ → Option ℤ
  offsets = offset_at n.look n.own

  abbrev rates : ℕ → Option ℤ
  rates = rate_at n.look n.own

  pub offsets_heard : IsTrustedOf r offsets → Hears Sender (λ sender value. IsDeviation r.params true sender.action n.odd sender.odd value) (senders_heard r offsets) (offsets_of n)
  unfolding Offset
  offsets_heard trusted =
      hears_heard r n is s.hears (λ sender value. IsDeviation r.params true sender.action n.odd sender.odd value) offsets
      (λ index sender v from some. offset_by index sender v (is_own n.own index) from refl some) (λ index v some no_sender. offset_other index v (is_own n.own index) refl some no_sender) trusted

  pub rates_heard : IsTrustedOf r rates → Hears Sender (λ sender value. PlacesEven r.params flutter sender n.odd value) (senders_heard r rates) (rates_of n)
  unfolding Rate
  rates_heard trusted =
      hears_heard r n is s.hears (λ sender value. PlacesEven r.params flutter sender n.odd value) rates
      (λ index sender v from some. rate_by index sender v (is_own n.own index) from refl some) (λ index v some no_sender. rate_other index v (is_own n.own index) refl some no_sender) trusted

  -- its terms are then of them
  pub offset_round : IsTrustedOf r offsets → IsOffsetRound r.params (senders_heard r offsets) n.odd (offsets_of n) (offset_term_of r.params.offset_limit (offsets_of n))
  offset_round trusted = record {
    micro = s.regular.odd_micro;
    hears = offsets_heard trusted;
    is_term = offset_term_is_there r.params.offset_limit (offsets_of n);
    applied = s.applied;
  }

  pub rate_round : IsTrustedOf r rates
      → IsSteadyRound r.params flutter (senders_heard r rates) n.odd (rates_of n) (rate_term_of n.odd.rate r.params.damping r.params.rate_limit (rates_of n))
  rate_round trusted = record {
    micro = s.regular.odd_micro;
    hears = rates_heard trusted;
    is_term = rate_term_is_there n.odd.rate r.params.damping r.params.rate_limit (rates_of n);
  }

  -- without arbitrary sync nodes both lists are, where each has a value
  pub both_trusted : sync_count r.params r.is_arbitrary ≡ 0 → 1 ≤ length (offsets_of n) → 1 ≤ length (rates_of n) → IsTrustedOf r offsets × IsTrustedOf r rates
  both_trusted none some_offsets some_rates = (
    trusted_alone r n is s.hears Offset offsets
        (λ index sender v from some. offset_by index sender v (is_own n.own index) from refl some) (λ index v some no_sender. offset_other index v (is_own n.own index) refl some no_sender)
        none some_offsets,
    trusted_alone r n is s.hears Rate rates
        (λ index sender v from some. rate_by index sender v (is_own n.own index) from refl some) (λ index v some no_sender. rate_other index v (is_own n.own index) refl some no_sender)
        none some_rates,
  )

  -- ---- where it has a value of each sender

  module _ (all : (index : ℕ) → is_some (sender_at r index) ≡ true → is_some (offset_at n.look n.own index) ≡ true) where
    pub all_offsets_told : AreValues r (λ sender value. IsDeviation r.params true sender.action n.odd sender.odd value) (offset_at n.look n.own)
    unfolding Offset
    all_offsets_told =
        told_of_all r n is s.hears (λ sender value. IsDeviation r.params true sender.action n.odd sender.odd value) offsets
        (λ index sender v from some. offset_by index sender v (is_own n.own index) from refl some) (λ index v some no_sender. offset_other index v (is_own n.own index) refl some no_sender) all

    pub all_offset_round : IsOffsetRound r.params (senders_of r) n.odd (offsets_of n) (offset_term_of r.params.offset_limit (offsets_of n))
    all_offset_round = record {
      micro = s.regular.odd_micro;
      hears = hears_values r (λ sender value. IsDeviation r.params true sender.action n.odd sender.odd value) offsets is all_offsets_told;
      is_term = offset_term_is_there r.params.offset_limit (offsets_of n);
      applied = s.applied;
    }

  module _ (all : (index : ℕ) → is_some (sender_at r index) ≡ true → is_some (rate_at n.look n.own index) ≡ true) where
    pub all_rates_told : AreValues r (λ sender value. PlacesEven r.params flutter sender n.odd value) (rate_at n.look n.own)
    unfolding Rate
    all_rates_told =
        told_of_all r n is s.hears (λ sender value. PlacesEven r.params flutter sender n.odd value) rates
        (λ index sender v from some. rate_by index sender v (is_own n.own index) from refl some) (λ index v some no_sender. rate_other index v (is_own n.own index) refl some no_sender) all

    pub all_rate_round : IsSteadyRound r.params flutter (senders_of r) n.odd (rates_of n) (rate_term_of n.odd.rate r.params.damping r.params.rate_limit (rates_of n))
    all_rate_round = record {
      micro = s.regular.odd_micro;
      hears = hears_values r (λ sender value. PlacesEven r.params flutter sender n.odd value) rates is all_rates_told;
      is_term = rate_term_is_there n.odd.rate r.params.damping r.params.rate_limit (rates_of n);
    }

-- two lists of which each has a value of each sender keep them: beside arbitrary nodes one in common, and without any all and no others
pub lists_keep : (beside : Bool) (r : Round) (Says Others : Sender → ℤ → Type 0) (at other : ℕ → Option ℤ) → IsRound r → AllowsArbitrary beside r → AreValues r Says at → AreValues r Others other
    → KeepSenders beside (senders_of r) (values_of at) (values_of other)
lists_keep false r Says Others at other is none one two = (some_senders r is, no_others Says at one, no_others Others other two)
  where
    step : (a b h c : ℕ) → a ≡ b + h → h ≤ c → c ≡ 0 → a ≡ b
    step a b h c d e f = omega arith

    no_others : (Says : Sender → ℤ → Type 0) (at : ℕ → Option ℤ) → AreValues r Says at → length (values_of at) ≡ length (senders_of r)
    no_others Says at are =
        let one = sized r Says at is are in
        step (length (values_of at)) (length (senders_of r)) one.heard (sync_count r.params r.is_arbitrary) one.size one.few none
lists_keep true r Says Others at other is any one two = values_keep_one r Says Others at other is one two

-- ---- a round

-- each sender is one of the receivers with rows
abbrev pub HaveSenders : Round → List Hearer → Type 0
HaveSenders r rows =
    (node : NodeSpec) (slot : ℕ) → IsSender r node slot → (n : Hearer) × Contains rows n × (n.even ≡ r.even node.id) × (n.odd ≡ r.odd node.id)

-- a receiver that trusts a list of its own computes its term from the values of senders of its own, some of those with rows, whether it
-- has rows or not
pub own_offsets : (r : Round) (flutter : ℕ) (rows : List Hearer) (n : Hearer) → IsRound r → HaveSenders r rows → IsSuppliedInPart r flutter n → IsTrustedOf r (offset_at n.look n.own)
    → OwnOffsets r.params (map (as_member r.params) rows) (pos (last_action r.params)) (as_member r.params n)
own_offsets r flutter rows n is have supplied trusted =
    let p = r.params in
    let offsets = offset_at n.look n.own in
    record {
      senders = senders_heard r offsets;
      some = trusted.some;
      among = all_heard r offsets (IsAmong (map (as_member p) rows)) (sender_among r rows have);
      acts = all_heard r offsets (λ (sender : Sender). IsBetween (pos 0) (pos (last_action p)) sender.action) (acts_early r is.sane);
      round = offset_round r flutter n is supplied trusted;
    }

pub own_rates : (r : Round) (flutter : ℕ) (rows : List Hearer) (n : Hearer) → IsRound r → HaveSenders r rows → IsSuppliedInPart r flutter n → IsTrustedOf r (rate_at n.look n.own)
    → OwnRates r.params flutter (map (as_member r.params) rows) (as_member r.params n)
own_rates r flutter rows n is have supplied trusted =
    let p = r.params in
    let rates = rate_at n.look n.own in
    record {
      senders = senders_heard r rates;
      some = trusted.some;
      among = all_heard r rates (IsAmong (map (as_member p) rows)) (sender_among r rows have);
      round = rate_round r flutter n is supplied trusted;
    }

pub computes_in_part : (r : Round) (flutter : ℕ) (rows : List Hearer) (n : Hearer) → IsRound r → HaveSenders r rows → IsSuppliedInPart r flutter n
    → IsTrustedOf r (offset_at n.look n.own) × IsTrustedOf r (rate_at n.look n.own)
    → ComputesOwn r.params flutter (map (as_member r.params) rows) (pos (last_action r.params)) (as_member r.params n)
computes_in_part r flutter rows n is have supplied trusted = record {
  regular = supplied.regular;
  offsets = own_offsets r flutter rows n is have supplied trusted.0;
  rates = own_rates r flutter rows n is have supplied trusted.1;
}

pub rounds_in_part_compute_own : RoundsInPartComputeOwn
rounds_in_part_compute_own r flutter rows node s here =
    let p = r.params in
    let at = as_member p in
    let found = map_contains at rows node here in
    let Own : Member → Type 0 = λ one. ComputesOwn p flutter (map at rows) (pos (last_action p)) one in
    subst Own found.2 (computes_in_part r flutter rows found.0 s.round s.among (s.supplied found.0 found.1) (s.trusted found.0 found.1))
