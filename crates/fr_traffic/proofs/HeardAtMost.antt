-- What receivers of a double cycle may have, whether they have rows or follow, by what becomes of frames: counted, trusted, and none where
-- nothing can reach them.
use Rattle.std.proofs.Common.{◌≡◌, ◌≢◌, ◌⊎◌, ℕ, suc, ◌+◌, ◌*◌, ◌≤◌, ◌==◌, ◌&&◌, ◌||◌, Bool, true, false, not, ℤ, Option, Some, None, List, [], ◌∷◌, length, refl, ap, sym, ◌∙◌, inl, inr, arith, if◌then◌else◌}
use Rattle.std.specs.Prelude.{Contains, count_by, is_some, nat_le}
use Rattle.std.specs.List.{list_any, range_with_len}
use Rattle.std.proofs.lemmas.Bool.{and_parts, not-true}
use Rattle.fr_base.specs.declared.channel.Channel.{Channel}
use Rattle.fr_base.specs.declared.channel.Channel.TheVariants.{A, B}
use Rattle.fr_cluster.specs.Questions.{index_in, key_slot_of, own_index}
use Rattle.fr_cluster.specs.Sane.{IsSane}
use Rattle.fr_cluster.specs.Setting.{Setting, correct_nodes, is_correct}
use Rattle.fr_cluster.specs.declared.nodes.NodeSpec.{NodeSpec}
use Rattle.fr_cluster.proofs.Elements.{Contains-none}
use Rattle.fr_cluster.proofs.KeyNodes.{Contains-cons_cases}
use Rattle.fr_time.specs.Senders.{key_node_of}
use Rattle.fr_time.proofs.Keys.{key_node_has, key_node_is, slot_of_index}
use Rattle.fr_measure.specs.Values.{change_at, is_own, least_of, mean_of, values_of}
use Rattle.fr_precision.specs.Round.{sender_at, sender_with, IsSender}
use Rattle.fr_precision.specs.Rows.{Sender}
use Rattle.fr_precision.proofs.RoundSenders.{sender_found}
use Rattle.fr_precision.proofs.Parting.{filter_map_counts}
use Rattle.fr_precision.proofs.Values.{change_from, other_value, own_is}
use Rattle.fr_history.specs.Cycles.{Cycle, Cycles}
use Rattle.fr_history.specs.Standing.{has_row}
use Rattle.fr_runs.specs.Gathered.{round_at}
use Rattle.fr_runs.specs.Links.{Share, cycle_in}
use Rattle.fr_runs.proofs.Nodes.{correct_node}
use Rattle.fr_coverage.specs.Links.{is_sync, shares}
use Rattle.fr_midpoint.specs.Midpoint.{discarded}
use Rattle.fr_traffic.specs.RoundsInPart.{heard_at, senders_heard, IsTrustedOf}
use Rattle.fr_traffic.specs.Traffic.{comes, further_count, has_value, is_deaf, is_trusted, may_be_said, may_reach, may_say, most_count, is_correct_sender, sure_count, traffic_of, value_on}
use Rattle.fr_runs.proofs.KeyedCounts.{count_two, discards_more, nodes_counted, passes_at, passes_is}
use Rattle.fr_traffic.proofs.HeardEvents.{may_come}
use Rattle.fr_traffic.proofs.HeardSurely.{at_most, heard_enough, own_of, senders_counted, value_by, ReceivesOwn}
use Rattle.fr_traffic.proofs.HeardInPart.{least_there, mean_there}
use Rattle.fr_base.specs.Rows.{dev_in}
use Rattle.fr_runs.specs.SteadyRuns.{is_silent}
use Rattle.fr_runs.proofs.FramesCounted.{recorded_says}
use Rattle.fr_runs.proofs.Hearing.{comes as came, counted_from, even_exchange, hearer_from, heard_in_part, looked, odd_exchange, IsReceiver, Receivers, RowsSend}

-- ---- channels and lists

shared : (a b : NodeSpec) (channel : Channel) → Share a b channel → shares a b channel ≡ true
shared a b channel share = rw (share.by_sender, share.by_receiver) refl

-- what one of a list passes some of it passes
any_pass : {X : Type 0} (test : X → Bool) (xs : List X) (x : X) → Contains xs x → test x ≡ true → list_any test xs ≡ true
any_pass test [] x among is = absurd (Contains-none x among)
any_pass test (y ∷ xs) x among is = elim (Contains-cons_cases y xs x among) [
  | inl same ↦ here (test y) (list_any test xs) (ap test same ∙ is)
  | inr more ↦ there (test y) (list_any test xs) (any_pass test xs x more is)
]
  where
    here : (a b : Bool) → a ≡ true → (a || b) ≡ true
    here true b is = refl
    here false b is = absurd (cc)

    there : (a b : Bool) → b ≡ true → (a || b) ≡ true
    there true b is = refl
    there false b is = is

-- the own key index of a node with a row is that of its key slot; one that follows adds no value of its own
pub row_owned : (x : Setting) (node : NodeSpec) (index : ℕ) → IsSane x.params → Contains (correct_nodes x) node → is_own (own_index x.params node.id) index ≡ true
    → (slot : ℕ) × (node.key ≡ Some slot) × (key_slot_of x.params index ≡ Some slot)
row_owned x node index sane there own =
    let is : own_index x.params node.id ≡ Some index = own_number (own_index x.params node.id) index own in
    key_of node.key index (sym (own_of x.params node sane (correct_node x node there).there) ∙ is)
  where
    key_of : (key : Option ℕ) (index : ℕ) → index_in x.params key ≡ Some index → (slot : ℕ) × (key ≡ Some slot) × (key_slot_of x.params index ≡ Some slot)
    key_of None index is = absurd (cc)
    key_of (Some slot) index is = (slot, refl, slot_of_index x.params index slot is)

    own_number : (own : Option ℕ) (index : ℕ) → is_own own index ≡ true → own ≡ Some index
    own_number None index is = absurd (cc)
    own_number (Some own) index is = let e : own ≡ index = grind arith in ap Some e

-- ---- receivers of one kind

module _
    (x : Setting) (h : Cycles) (even odd : Cycle) (double : ℕ) (reach : ℤ) (rs : Receivers) (In : NodeSpec → Type 0) (sending : RowsSend x h even odd double reach)
    (receives : (node : NodeSpec) → In node → IsReceiver x h even odd reach rs node) (owned : (node : NodeSpec) (index : ℕ) → In node → is_own (rs.own node.id) index ≡ true → (slot : ℕ) × (node.key ≡ Some slot) × (key_slot_of x.params index ≡ Some slot)) where
  odd_number : 2 * double + 1 ≡ suc (2 * double)
  odd_number = omega arith

  -- ---- what it may have

  -- a test of a sender and a receiver, as it is counted
  abbrev may : Bool → NodeSpec → NodeSpec → Bool
  may rate node sender = is_correct_sender (traffic_of x) sender && has_value rate false (traffic_of x) double node sender

  own_passes : (rate : Bool) (node : NodeSpec) (index : ℕ) → In node → is_own (rs.own node.id) index ≡ true → passes_at x.params (may rate node) index ≡ true
  own_passes rate node index among own =
      let correct = correct_node x node (receives node among).correct in
      let key = owned node index among own in
      passes_is x.params (may rate node) index key.0 node key.2 (key_node_is x.params node key.0 sending.sane correct.there key.1) ∙ rw (key.1, correct.correct, itself node.id) refl
    where
      itself : (a : ℕ) → (a == a) ≡ true
      itself a = grind arith

  -- what is stored of a sender, or else it is an arbitrary node's
  record IsLinkedAt (node : NodeSpec) (index : ℕ) : Type 0 where
    slot : ℕ
    sender : NodeSpec
    slot_is : key_slot_of x.params index ≡ Some slot
    node_is : key_node_of x.params slot ≡ Some sender
    correct : is_correct_sender (traffic_of x) sender ≡ true
    from : IsSender (round_at x h even odd) sender slot
    other : sender.id ≢ node.id
    hears : IsReceiver x h even odd reach rs node

  record IsSaidAt (node : NodeSpec) (index : ℕ) : Type 0 where
    slot : ℕ
    sender : NodeSpec
    slot_is : key_slot_of x.params index ≡ Some slot
    node_is : key_node_of x.params slot ≡ Some sender
    there : Contains x.params.nodes sender
    key : sender.key ≡ Some slot
    arbitrary : x.is_arbitrary sender.id ≡ true

  from_at : (node : NodeSpec) (index : ℕ) (is_odd : Bool) (channel : Channel) (value : ℤ) → In node → is_own (rs.own node.id) index ≡ false
      → (hearer_from x rs node.id).look index is_odd channel ≡ Some value → IsLinkedAt node index ⊎ IsSaidAt node index
  from_at node index is_odd channel value among other is =
      let only = (heard_in_part x h even odd double reach rs node sending (receives node among)).only index is_odd channel value is in
      by only.0 only.1.0 only.1.1 only.1.2 only.1.3
    where
      by : (slot : ℕ) (sender : NodeSpec) → key_slot_of x.params index ≡ Some slot → key_node_of x.params slot ≡ Some sender
          → ((is_correct x sender.id && has_row x h sender.id) ≡ true) ⊎ (x.is_arbitrary sender.id ≡ true) → IsLinkedAt node index ⊎ IsSaidAt node index
      by slot sender slot_is node_is (inl rows) =
          let has = key_node_has x.params sender slot node_is in
          let both = and_parts (is_correct x sender.id) (has_row x h sender.id) rows in
          let from : IsSender (round_at x h even odd) sender slot = record { there = has.0; rows = rows; key = has.1 } in
          inl (record {
            slot = slot;
            sender = sender;
            slot_is = slot_is;
            node_is = node_is;
            correct = rw (has.1, both.0) refl;
            from = from;
            other = (receives node among).other index slot sender (record { sender = from; slot_is = slot_is; other = other });
            hears = receives node among;
          })
      by slot sender slot_is node_is (inr arbitrary) =
          let has = key_node_has x.params sender slot node_is in
          inr (record { slot = slot; sender = sender; slot_is = slot_is; node_is = node_is; there = has.0; key = has.1; arbitrary = arbitrary })

  -- of a deviation both nodes have the channel, and the frame was not silent
  may_store : (node : NodeSpec) (index : ℕ) (is_odd : Bool) (channel : Channel) (value : ℤ) (at : IsLinkedAt node index) → (hearer_from x rs node.id).look index is_odd channel ≡ Some value
      → (shares at.sender node channel ≡ true) × (comes false (x.event (cycle_in is_odd double) at.sender.id node.id channel) ≡ true)
  may_store node index is_odd channel value at is =
      let stored = sym (looked x rs node.id index at.slot is_odd channel at.slot_is) ∙ is in (
        shared at.sender node channel (counted_from x h even odd double reach rs node at.sender at.slot is_odd channel value sending at.hears at.from at.other stored).share,
        may_come (x.event (cycle_in is_odd double) at.sender.id node.id channel) (came x h even odd double reach rs node at.sender at.slot is_odd channel value sending at.hears at.from at.other stored),
      )

  may_pass : (rate : Bool) (node : NodeSpec) (index : ℕ) (channel : Channel) (at : IsLinkedAt node index) → value_on rate false (traffic_of x) at.sender node double channel ≡ true
      → passes_at x.params (may rate node) index ≡ true
  may_pass rate node index channel at is =
      passes_is x.params (may rate node) index at.slot at.sender at.slot_is at.node_is
      ∙ whole (is_correct_sender (traffic_of x) at.sender) (at.sender.id == node.id) (value_on rate false (traffic_of x) at.sender node double) channel at.correct is
    where
      whole : (a b : Bool) (on : Channel → Bool) (channel : Channel) → a ≡ true → on channel ≡ true → (a && (b || (on A || on B))) ≡ true
      whole true true on channel one two = refl
      whole true false on A one two = rw two refl
      whole true false on B one two = by (on A) two
        where
          by : (c : Bool) → on B ≡ true → (c || on B) ≡ true
          by true is = refl
          by false is = is
      whole false b on channel one two = absurd (cc)

  offset_on_may : (node : NodeSpec) (index : ℕ) (channel : Channel) (value : ℤ) (at : IsLinkedAt node index) → (hearer_from x rs node.id).look index true channel ≡ Some value
      → value_on false false (traffic_of x) at.sender node double channel ≡ true
  offset_on_may node index channel value at is =
      let both = may_store node index true channel value at is in
      let late : comes false (x.event (2 * double + 1) at.sender.id node.id channel) ≡ true = ap (λ (c : ℕ). comes false (x.event c at.sender.id node.id channel)) odd_number ∙ both.1 in
      rw (both.0, late) refl

  rate_on_may : (node : NodeSpec) (index : ℕ) (channel : Channel) (early late : ℤ) (at : IsLinkedAt node index) → (hearer_from x rs node.id).look index false channel ≡ Some early
      → (hearer_from x rs node.id).look index true channel ≡ Some late → value_on true false (traffic_of x) at.sender node double channel ≡ true
  rate_on_may node index channel early late at is also =
      let one = may_store node index false channel early at is in
      let two = may_store node index true channel late at also in
      let odd : comes false (x.event (2 * double + 1) at.sender.id node.id channel) ≡ true = ap (λ (c : ℕ). comes false (x.event c at.sender.id node.id channel)) odd_number ∙ two.1 in
      rw (one.0, one.1, odd) refl

  -- of an arbitrary node it said something
  says_at : (node : NodeSpec) (index : ℕ) (is_odd : Bool) (channel : Channel) (value : ℤ) → In node → (at : IsSaidAt node index)
      → (hearer_from x rs node.id).look index is_odd channel ≡ Some value → comes false (x.event (cycle_in is_odd double) at.sender.id node.id channel) ≡ true
  says_at node index is_odd channel value among at is =
      may_come (x.event (cycle_in is_odd double) at.sender.id node.id channel) (by is_odd (sym (looked x rs node.id index at.slot is_odd channel at.slot_is) ∙ is))
    where
      hears : IsReceiver x h even odd reach rs node
      hears = receives node among

      by : (is_odd : Bool) → dev_in (if is_odd then rs.odd_devs else rs.even_devs) node.id at.slot channel ≡ Some value → is_silent (x.event (cycle_in is_odd double) at.sender.id node.id channel) ≡ false
      by false stored =
          ap (λ (n : ℕ). is_silent (x.event n at.sender.id node.id channel)) (sym sending.counted)
          ∙ recorded_says x (even_exchange x h even rs) at.sender node at.slot channel value sending.sane hears.evens at.there at.key at.arbitrary hears.hears_even stored
      by true stored =
          ap (λ (n : ℕ). is_silent (x.event (suc n) at.sender.id node.id channel)) (sym sending.counted)
          ∙ recorded_says x (odd_exchange x h even odd rs) at.sender node at.slot channel value sending.sane hears.odds at.there at.key at.arbitrary hears.hears_odd stored

  odd_says : (node : NodeSpec) (index : ℕ) (channel : Channel) (value : ℤ) → In node → (at : IsSaidAt node index) → (hearer_from x rs node.id).look index true channel ≡ Some value
      → comes false (x.event (2 * double + 1) at.sender.id node.id channel) ≡ true
  odd_says node index channel value among at is = ap (λ (c : ℕ). comes false (x.event c at.sender.id node.id channel)) odd_number ∙ says_at node index true channel value among at is

  some_sender : (index slot : ℕ) (sender : NodeSpec) → IsSender (round_at x h even odd) sender slot → key_slot_of x.params index ≡ Some slot → sender_at (round_at x h even odd) index ≡ None → ⊥
  some_sender index slot sender from slot_is none =
      let e : Some (sender_with (round_at x h even odd) slot sender.id) ≡ None = sym (sender_found (round_at x h even odd) index slot sender sending.sane from slot_is) ∙ none in
      cc

  -- what it has is of a sender whose frames may have come, or of an arbitrary node that may have said something
  record IsLinkedOn (rate : Bool) (node : NodeSpec) (index : ℕ) : Type 0 where
    at : IsLinkedAt node index
    channel : Channel
    comes_on : value_on rate false (traffic_of x) at.sender node double channel ≡ true

  record IsSaidOn (rate : Bool) (node : NodeSpec) (index : ℕ) : Type 0 where
    at : IsSaidAt node index
    channel : Channel
    says_on : may_say rate (traffic_of x) at.sender node double channel ≡ true

  value_from : (rate : Bool) (node : NodeSpec) (index : ℕ) (value : ℤ) → In node → is_own (rs.own node.id) index ≡ false
      → value_by rate (hearer_from x rs node.id) index ≡ Some value → IsLinkedOn rate node index ⊎ IsSaidOn rate node index
  value_from false node index value among other is =
      let n = hearer_from x rs node.id in
      let least : least_of (n.look index true A) (n.look index true B) ≡ Some value = sym (other_value n.own index (least_of (n.look index true A) (n.look index true B)) other) ∙ is in
      by (least_there (n.look index true A) (n.look index true B) value least)
    where
      on : (channel : Channel) (v : ℤ) → (hearer_from x rs node.id).look index true channel ≡ Some v → IsLinkedOn false node index ⊎ IsSaidOn false node index
      on channel v there = elim (from_at node index true channel v among other there) [
        | inl at ↦ inl (record { at = at; channel = channel; comes_on = offset_on_may node index channel v at there })
        | inr at ↦ inr (record { at = at; channel = channel; says_on = odd_says node index channel v among at there })
      ]

      by : ((v : ℤ) × ((hearer_from x rs node.id).look index true A ≡ Some v)) ⊎ ((v : ℤ) × ((hearer_from x rs node.id).look index true B ≡ Some v)) → IsLinkedOn false node index ⊎ IsSaidOn false node index
      by (inl one) = on A one.0 one.1
      by (inr one) = on B one.0 one.1
  value_from true node index value among other is =
      let n = hearer_from x rs node.id in
      let mean : mean_of (change_at n.look index A) (change_at n.look index B) ≡ Some value = sym (other_value n.own index (mean_of (change_at n.look index A) (change_at n.look index B)) other) ∙ is in
      by (mean_there (change_at n.look index A) (change_at n.look index B) value mean)
    where
      on : (channel : Channel) (v : ℤ) → change_at (hearer_from x rs node.id).look index channel ≡ Some v → IsLinkedOn true node index ⊎ IsSaidOn true node index
      on channel v there =
          let n = hearer_from x rs node.id in
          let both = change_from (n.look index false channel) (n.look index true channel) v there in
          elim (from_at node index true channel both.1.0 among other both.1.2) [
            | inl at ↦ inl (record { at = at; channel = channel; comes_on = rate_on_may node index channel both.0 both.1.0 at both.1.1 both.1.2 })
            | inr at ↦ inr (record { at = at; channel = channel; says_on = rw (says_at node index false channel both.0 among at both.1.1, odd_says node index channel both.1.0 among at both.1.2) refl })
          ]

      by : ((v : ℤ) × (change_at (hearer_from x rs node.id).look index A ≡ Some v)) ⊎ ((v : ℤ) × (change_at (hearer_from x rs node.id).look index B ≡ Some v)) → IsLinkedOn true node index ⊎ IsSaidOn true node index
      by (inl one) = on A one.0 one.1
      by (inr one) = on B one.0 one.1

  -- ---- by key index

  -- an arbitrary node whose frames may have come
  abbrev further : Bool → NodeSpec → NodeSpec → Bool
  further rate node sender = (is_sync sender && (traffic_of x).is_arbitrary sender.id) && may_be_said rate (traffic_of x) double node sender

  further_passes : (rate : Bool) (node : NodeSpec) (index : ℕ) → IsSaidOn rate node index → passes_at x.params (further rate node) index ≡ true
  further_passes rate node index on =
      passes_is x.params (further rate node) index on.at.slot on.at.sender on.at.slot_is on.at.node_is
      ∙ whole (is_sync on.at.sender) (x.is_arbitrary on.at.sender.id) (may_say rate (traffic_of x) on.at.sender node double) on.channel (ap is_some on.at.key) on.at.arbitrary on.says_on
    where
      whole : (a b : Bool) (on : Channel → Bool) (channel : Channel) → a ≡ true → b ≡ true → on channel ≡ true → ((a && b) && (on A || on B)) ≡ true
      whole a b on A one two three = rw (one, two, three) refl
      whole a b on B one two three = rw (one, two) (by (on A) three)
        where
          by : (c : Bool) → on B ≡ true → (c || on B) ≡ true
          by true is = refl
          by false is = is

  maybe_value : (rate : Bool) (node : NodeSpec) (index : ℕ) (value : ℤ) (own : Bool) → In node → is_own (rs.own node.id) index ≡ own
      → value_by rate (hearer_from x rs node.id) index ≡ Some value → (passes_at x.params (may rate node) index ≡ true) ⊎ (passes_at x.params (further rate node) index ≡ true)
  maybe_value rate node index value true among own is = inl (own_passes rate node index among own)
  maybe_value rate node index value false among other is = elim (value_from rate node index value among other is) [
    | inl on ↦ inl (may_pass rate node index on.channel on.at on.comes_on)
    | inr on ↦ inr (further_passes rate node index on)
  ]

  -- of no sender, it is of such an arbitrary node
  further_value : (rate : Bool) (node : NodeSpec) (index : ℕ) (value : ℤ) (own : Bool) → In node → is_own (rs.own node.id) index ≡ own
      → value_by rate (hearer_from x rs node.id) index ≡ Some value → sender_at (round_at x h even odd) index ≡ None → passes_at x.params (further rate node) index ≡ true
  further_value rate node index value true among own is none =
      let itself = (receives node among).itself index (own_is (rs.own node.id) index own) in
      absurd (some_sender index itself.0 itself.1.0 itself.1.1.sender itself.1.1.slot_is none)
  further_value rate node index value false among other is none = elim (value_from rate node index value among other is) [
    | inl on ↦ absurd (some_sender index on.at.slot on.at.sender on.at.from on.at.slot_is none)
    | inr on ↦ further_passes rate node index on
  ]

  -- ---- a node that hears nothing

  -- each value comes of a sync node that may reach it
  record IsReached (rate : Bool) (node : NodeSpec) : Type 0 where
    sender : NodeSpec
    there : Contains x.params.nodes sender
    reaches : (is_sync sender && may_reach rate (traffic_of x) double node sender) ≡ true

  by_link : (rate : Bool) (node : NodeSpec) (index : ℕ) (channel : Channel) (at : IsLinkedAt node index) → value_on rate false (traffic_of x) at.sender node double channel ≡ true → IsReached rate node
  by_link rate node index channel at is =
      let both = and_parts (is_sync at.sender) (not (x.is_arbitrary at.sender.id)) at.correct in
      record {
        sender = at.sender;
        there = (key_node_has x.params at.sender at.slot at.node_is).0;
        reaches =
            whole (is_sync at.sender) (x.is_arbitrary at.sender.id) (may_say rate (traffic_of x) at.sender node double A || may_say rate (traffic_of x) at.sender node double B) (at.sender.id == node.id)
            (value_on rate false (traffic_of x) at.sender node double) channel both.0 (not-true (x.is_arbitrary at.sender.id) both.1) is;
      }
    where
      whole : (a c said own : Bool) (on : Channel → Bool) (channel : Channel) → a ≡ true → c ≡ false → on channel ≡ true → (a && (if c then said else (own || (on A || on B)))) ≡ true
      whole a c said true on channel one two three = rw (one, two) refl
      whole a c said false on A one two three = rw (one, two, three) refl
      whole a c said false on B one two three = rw (one, two) (by (on A) three)
        where
          by : (d : Bool) → on B ≡ true → (d || on B) ≡ true
          by true is = refl
          by false is = is

  by_saying : (rate : Bool) (node : NodeSpec) (index : ℕ) (channel : Channel) (at : IsSaidAt node index) → may_say rate (traffic_of x) at.sender node double channel ≡ true → IsReached rate node
  by_saying rate node index channel at is = record {
    sender = at.sender;
    there = at.there;
    reaches =
        whole (is_sync at.sender) (x.is_arbitrary at.sender.id) (may_say rate (traffic_of x) at.sender node double) (has_value rate false (traffic_of x) double node at.sender) channel (ap is_some at.key) at.arbitrary is;
  }
    where
      whole : (a c : Bool) (on : Channel → Bool) (has : Bool) (channel : Channel) → a ≡ true → c ≡ true → on channel ≡ true → (a && (if c then (on A || on B) else has)) ≡ true
      whole a c on has A one two three = rw (one, two, three) refl
      whole a c on has B one two three = rw (one, two) (by (on A) three)
        where
          by : (d : Bool) → on B ≡ true → (d || on B) ≡ true
          by true is = refl
          by false is = is

  reached_by : (rate : Bool) (node : NodeSpec) (index : ℕ) (value : ℤ) → In node → is_own (rs.own node.id) index ≡ false
      → value_by rate (hearer_from x rs node.id) index ≡ Some value → IsReached rate node
  reached_by rate node index value among other is = elim (value_from rate node index value among other is) [
    | inl on ↦ by_link rate node index on.channel on.at on.comes_on
    | inr on ↦ by_saying rate node index on.channel on.at on.says_on
  ]

  -- so a deaf node has none
  pub no_value : (rate : Bool) (node : NodeSpec) (index : ℕ) (value : ℤ) → In node → is_deaf rate (traffic_of x) double node ≡ true
      → value_by rate (hearer_from x rs node.id) index ≡ Some value → ⊥
  no_value rate node index value among deaf is = by (is_own (rs.own node.id) index) refl
    where
      parts : (not (is_sync node) ≡ true) × (not (list_any (λ (a : NodeSpec). is_sync a && may_reach rate (traffic_of x) double node a) x.params.nodes) ≡ true)
      parts = and_parts (not (is_sync node)) (not (list_any (λ (a : NodeSpec). is_sync a && may_reach rate (traffic_of x) double node a) x.params.nodes)) deaf

      keyless : (key : Option ℕ) → is_some key ≡ false → key ≡ None
      keyless None fails = refl
      keyless (Some slot) fails = absurd (cc)

      by : (own : Bool) → is_own (rs.own node.id) index ≡ own → ⊥
      by true own =
          let key = owned node index among own in
          let e : None ≡ Some key.0 = sym (keyless node.key (not-true (is_sync node) parts.0)) ∙ key.1 in
          cc
      by false other =
          let from = reached_by rate node index value among other is in
          let test : NodeSpec → Bool = λ a. is_sync a && may_reach rate (traffic_of x) double node a in
          let any = any_pass test x.params.nodes from.sender from.there from.reaches in
          let none = not-true (list_any test x.params.nodes) parts.1 in
          let e : true ≡ false = sym any ∙ none in
          cc

  -- ---- counted

  further_counted : (rate : Bool) (node : NodeSpec) → further_count rate (traffic_of x) double node ≡ count_by (passes_at x.params (further rate node)) (range_with_len 0 15)
  further_counted rate node =
      nodes_counted x.params (further rate node) sending.sane
      (λ one none. ap (λ (o : Option ℕ). (is_some o && x.is_arbitrary one.id) && may_be_said rate (traffic_of x) double node one) none)

  value_of : (o : Option ℤ) → is_some o ≡ true → (v : ℤ) × (o ≡ Some v)
  value_of None is = absurd (cc)
  value_of (Some v) is = (v, refl)

  pub most_values : (rate : Bool) (node : NodeSpec) → In node → length (values_of (value_by rate (hearer_from x rs node.id))) ≤ most_count rate (traffic_of x) double node
  unfolding values_of
  most_values rate node among =
      let at = value_by rate (hearer_from x rs node.id) in
      let senders = senders_counted x (has_value rate false (traffic_of x) double node) sending.sane in
      let others = further_counted rate node in
      let values = filter_map_counts at (range_with_len 0 15) in
      let le =
      count_two (λ i. is_some (at i)) (passes_at x.params (may rate node)) (passes_at x.params (further rate node)) (range_with_len 0 15)
      (λ index some. let v = value_of (at index) some in maybe_value rate node index v.0 (is_own (rs.own node.id) index) among refl v.1) in
      omega (arith, senders, others, values, le)

  -- no more than of the senders of whom it has one, and of arbitrary nodes that may say something
  pub few_further : (rate : Bool) (node : NodeSpec) → In node
      → length (values_of (value_by rate (hearer_from x rs node.id))) ≤ length (senders_heard (round_at x h even odd) (value_by rate (hearer_from x rs node.id))) + further_count rate (traffic_of x) double node
  unfolding values_of
  few_further rate node among =
      let at = value_by rate (hearer_from x rs node.id) in
      let heard = filter_map_counts (heard_at (round_at x h even odd) at) (range_with_len 0 15) in
      let others = further_counted rate node in
      let values = filter_map_counts at (range_with_len 0 15) in
      let le =
      count_two (λ i. is_some (at i)) (λ i. is_some (heard_at (round_at x h even odd) at i)) (passes_at x.params (further rate node)) (range_with_len 0 15)
      (λ index some. by index (value_of (at index) some) (sender_at (round_at x h even odd) index) refl some) in
      omega (arith, heard, others, values, le)
    where
      by : (index : ℕ) → (v : ℤ) × (value_by rate (hearer_from x rs node.id) index ≡ Some v) → (o : Option Sender) → sender_at (round_at x h even odd) index ≡ o
          → is_some (value_by rate (hearer_from x rs node.id) index) ≡ true
          → (is_some (heard_at (round_at x h even odd) (value_by rate (hearer_from x rs node.id)) index) ≡ true) ⊎ (passes_at x.params (further rate node) index ≡ true)
      by index v None none some = inr (further_value rate node index v.0 (is_own (rs.own node.id) index) among refl v.1 none)
      by index v (Some sender) is some = inl (ap (λ (b : Bool). is_some (if b then sender_at (round_at x h even odd) index else None)) some ∙ ap is_some is)

-- ---- trusted

pub trusted_so : (x : Setting) (h : Cycles) (even odd : Cycle) (double : ℕ) (reach : ℤ) (rs : Receivers) (node : NodeSpec) → RowsSend x h even odd double reach → ReceivesOwn x h even odd reach rs node
    → (rate : Bool) → is_trusted rate (traffic_of x) double node ≡ true → IsTrustedOf (round_at x h even odd) (value_by rate (hearer_from x rs node.id))
trusted_so x h even odd double reach rs node sending r rate is =
    let count = sure_count rate (traffic_of x) double node in
    let others = further_count rate (traffic_of x) double node in
    let both = and_parts (nat_le 1 count) (nat_le others (discarded (count + others))) is in
    let some = at_most 1 count both.0 in
    let few = at_most others (discarded (count + others)) both.1 in
    let heard = length (senders_heard (round_at x h even odd) (value_by rate (hearer_from x rs node.id))) in
    let enough : count ≤ heard = heard_enough x h even odd double reach rs node sending r.is r.owns rate in
    let more = discards_more (count + others) (heard + others) (omega (arith, enough)) in
    record {
      most = others;
      at_most = few_further x h even odd double reach rs (λ n. ReceivesOwn x h even odd reach rs n) sending (λ n has. has.is) (λ n index has own. has.owned index own) rate node r;
      few = omega (arith, few, more);
      some = omega (arith, some, enough);
    }
