-- What a receiver of a double cycle surely has of senders with rows, by what becomes of their frames, whether it has rows or follows.
use Rattle.std.proofs.Common.{◌≡◌, ◌≢◌, ℕ, suc, ◌+◌, ◌*◌, ◌≤◌, ◌==◌, ◌&&◌, ◌||◌, Bool, true, false, not, ℤ, Option, Some, None, length, refl, ap, sym, ◌∙◌, inl, inr, arith, if◌then◌else◌}
use Rattle.std.specs.Prelude.{Contains, IsSome, count_by, is_some, nat_le}
use Rattle.std.specs.List.{range_with_len}
use Rattle.std.proofs.lemmas.Bool.{and_parts, eqb-true, or_cases}
use Rattle.std.proofs.lemmas.Bool.Decides.{nat_tests}
use Rattle.fr_base.specs.declared.channel.Channel.{Channel}
use Rattle.fr_base.specs.declared.channel.Channel.TheVariants.{A, B}
use Rattle.fr_cluster.specs.Questions.{has_channel, index_in, key_in, key_slot_of, own_index}
use Rattle.fr_cluster.specs.Sane.{IsSane}
use Rattle.fr_cluster.specs.Setting.{Setting, is_correct}
use Rattle.fr_cluster.specs.Values.{Values}
use Rattle.fr_cluster.specs.declared.nodes.NodeSpec.{NodeSpec}
use Rattle.fr_measure.specs.Values.{change_at, change_of, is_own, least_of, mean_of, offset_at, own_value_or, rate_at}
use Rattle.fr_precision.specs.Round.{sender_at, Hearer, IsSender}
use Rattle.fr_precision.specs.Rows.{Sender}
use Rattle.fr_precision.proofs.Counting.{count_le}
use Rattle.fr_precision.proofs.Parting.{filter_map_counts}
use Rattle.fr_precision.proofs.RoundSenders.{sender_found, sender_is}
use Rattle.fr_precision.proofs.Values.{other_value, own_value}
use Rattle.fr_history.specs.Cycles.{Cycle, Cycles}
use Rattle.fr_time.proofs.Keys.{key_slot_has}
use Rattle.fr_history.specs.Standing.{following_nodes, has_row}
use Rattle.fr_runs.specs.Gathered.{CycleRuns, round_at}
use Rattle.fr_runs.specs.Links.{Share, cycle_in}
use Rattle.fr_runs.proofs.Fed.{follower_other, follower_receivers, row_receivers}
use Rattle.fr_runs.proofs.Hearing.{hearer_from, looked, stored, IsReceiver, Receivers, RowsSend}
use Rattle.fr_runs.proofs.Nodes.{node_there}
use Rattle.fr_coverage.specs.Links.{is_regular, is_sync, shares}
use Rattle.fr_traffic.specs.RoundsInPart.{heard_at, senders_heard}
use Rattle.fr_traffic.specs.Traffic.{has_all, has_value, is_correct_sender, may_send, may_send_by, stays, sure_count, traffic_of, value_on}
use Rattle.fr_runs.proofs.Covers.{stays_has}
use Rattle.fr_runs.proofs.KeyedCounts.{all_pass, is_passed, nodes_counted, passes_at}
use Rattle.fr_traffic.proofs.HeardEvents.{regular_of}

-- the values of one of both kinds, by key index
abbrev pub value_by : Bool → Hearer → (ℕ → Option ℤ)
value_by false n = offset_at n.look n.own
value_by true n = rate_at n.look n.own

-- ---- values of both channels, and of both cycles

-- of both channels one suffices
pub least_some : (f : Channel → Option ℤ) (channel : Channel) → IsSome (f channel) → IsSome (least_of (f A) (f B))
least_some f A there = by (f A) (f B) there
  where
    by : (a b : Option ℤ) → IsSome a → IsSome (least_of a b)
    by None b is = absurd (cc)
    by (Some a) None is = refl
    by (Some a) (Some b) is = refl
least_some f B there = by (f A) (f B) there
  where
    by : (a b : Option ℤ) → IsSome b → IsSome (least_of a b)
    by a None is = absurd (cc)
    by None (Some b) is = refl
    by (Some a) (Some b) is = refl

pub mean_some : (f : Channel → Option ℤ) (channel : Channel) → IsSome (f channel) → IsSome (mean_of (f A) (f B))
mean_some f A there = by (f A) (f B) there
  where
    by : (a b : Option ℤ) → IsSome a → IsSome (mean_of a b)
    by None b is = absurd (cc)
    by (Some a) None is = refl
    by (Some a) (Some b) is = refl
mean_some f B there = by (f A) (f B) there
  where
    by : (a b : Option ℤ) → IsSome b → IsSome (mean_of a b)
    by a None is = absurd (cc)
    by None (Some b) is = refl
    by (Some a) (Some b) is = refl

pub change_some : (early late : Option ℤ) → IsSome early → IsSome late → IsSome (change_of early late)
change_some None late is also = absurd (cc)
change_some (Some early) None is also = absurd (cc)
change_some (Some early) (Some late) is also = refl

-- whose own index it is makes no difference
pub own_or_other : (own : Option ℕ) (index : ℕ) (value : Option ℤ) (is : Bool) → is_own own index ≡ is → IsSome value → IsSome (own_value_or own index value)
own_or_other own index value true is there = ap is_some (own_value own index value is)
own_or_other own index value false is there = ap is_some (other_value own index value is) ∙ there

pub own_there : (own : Option ℕ) (index : ℕ) (value : Option ℤ) → own ≡ Some index → IsSome (own_value_or own index value)
own_there own index value is = ap is_some (own_value own index value (itself own index is))
  where
    itself : (own : Option ℕ) (index : ℕ) → own ≡ Some index → is_own own index ≡ true
    itself None index is = absurd (cc)
    itself (Some own) index is = let e : own ≡ index = cc in grind (arith, e)

pub own_of : (p : Values) (node : NodeSpec) → IsSane p → Contains p.nodes node → own_index p node.id ≡ index_in p node.key
own_of p node sane there = ap (λ o. index_in p (key_in o)) (node_there p node sane there)

-- ---- channels

pub share_of : (a b : NodeSpec) (channel : Channel) → shares a b channel ≡ true → Share a b channel
share_of a b channel is =
    let both = and_parts (has_channel (Some a) channel) (has_channel (Some b) channel) is in
    record { by_sender = both.0; by_receiver = both.1 }

pub at_most : (a b : ℕ) → nat_le a b ≡ true → a ≤ b
at_most a b is = grind (arith, nat_tests)

-- as many senders pass a test as key indexes of theirs
pub senders_counted : (x : Setting) (test : NodeSpec → Bool) → IsSane x.params
    → count_by (λ (a : NodeSpec). is_correct_sender (traffic_of x) a && test a) x.params.nodes ≡ count_by (passes_at x.params (λ (a : NodeSpec). is_correct_sender (traffic_of x) a && test a)) (range_with_len 0 15)
senders_counted x test sane =
    nodes_counted x.params (λ (a : NodeSpec). is_correct_sender (traffic_of x) a && test a) sane
    (λ node none. ap (λ (o : Option ℕ). (is_some o && not (x.is_arbitrary node.id)) && test node) none)

-- ---- a receiver, whose own values are those of its own frames where it sends

abbrev pub KeepsOwn : Setting → Cycles → Cycle → Cycle → Receivers → NodeSpec → Type 0
KeepsOwn x h even odd s node =
    (sender : NodeSpec) (index slot : ℕ) → IsSender (round_at x h even odd) sender slot → key_slot_of x.params index ≡ Some slot → sender.id ≡ node.id
    → s.own node.id ≡ Some index

-- a node with a row adds its own value, and is the one sender of its number; one that follows is no sender
pub row_owns : (x : Setting) (h : Cycles) (even odd : Cycle) (node : NodeSpec) → IsSane x.params → KeepsOwn x h even odd (row_receivers x h even odd) node
row_owns x h even odd node sane sender index slot from slot_is same =
    ap (own_index x.params) (sym same) ∙ own_of x.params sender sane from.there ∙ ap (index_in x.params) from.key ∙ (key_slot_has x.params index slot slot_is).0

pub follower_owns : (x : Setting) (h : Cycles) (even odd : Cycle) (node : NodeSpec) → CycleRuns x h even → Contains (following_nodes x h) node → KeepsOwn x h even odd (follower_receivers x h even odd) node
follower_owns x h even odd node runs among sender index slot from slot_is same =
    absurd (follower_other x h even odd node sender index slot runs among (record { sender = from; slot_is = slot_is; other = refl }) same)

-- a receiver whose own values are those of its own frames, where it adds them
pub record ReceivesOwn (x : Setting) (h : Cycles) (even odd : Cycle) (reach : ℤ) (rs : Receivers) (node : NodeSpec) : Type 0 where
  pub is : IsReceiver x h even odd reach rs node
  pub owns : KeepsOwn x h even odd rs node
  pub owned : (index : ℕ) → is_own (rs.own node.id) index ≡ true → (slot : ℕ) × (node.key ≡ Some slot) × (key_slot_of x.params index ≡ Some slot)

module _
    (x : Setting) (h : Cycles) (even odd : Cycle) (double : ℕ) (reach : ℤ) (s : Receivers) (node : NodeSpec)
    (sending : RowsSend x h even odd double reach) (receiving : IsReceiver x h even odd reach s node) (owns : KeepsOwn x h even odd s node) where
  abbrev n : Hearer
  n = hearer_from x s node.id

  -- ---- what it surely has of a sender

  own_value_there : (rate : Bool) (index : ℕ) → s.own node.id ≡ Some index → IsSome (value_by rate (hearer_from x s node.id) index)
  own_value_there false index own =
      let n = hearer_from x s node.id in
      own_there n.own index (least_of (n.look index true A) (n.look index true B)) own
  own_value_there true index own =
      let n = hearer_from x s node.id in
      own_there n.own index (mean_of (change_at n.look index A) (change_at n.look index B)) own

  stored_there : (sender : NodeSpec) (index slot : ℕ) (is_odd : Bool) (channel : Channel) → IsSender (round_at x h even odd) sender slot → sender.id ≢ node.id → key_slot_of x.params index ≡ Some slot
      → Share sender node channel → is_regular (x.event (cycle_in is_odd double) sender.id node.id channel) ≡ true → IsSome ((hearer_from x s node.id).look index is_odd channel)
  stored_there sender index slot is_odd channel from other slot_is share regular =
      ap is_some (looked x s node.id index slot is_odd channel slot_is)
      ∙ stored x h even odd double reach s node sender slot is_odd channel sending receiving from other share (regular_of (x.event (cycle_in is_odd double) sender.id node.id channel) regular)

  odd_number : 2 * double + 1 ≡ suc (2 * double)
  odd_number = omega arith

  value_there : (rate : Bool) (sender : NodeSpec) (index slot : ℕ) (channel : Channel) → IsSender (round_at x h even odd) sender slot → sender.id ≢ node.id → key_slot_of x.params index ≡ Some slot
      → value_on rate true (traffic_of x) sender node double channel ≡ true → IsSome (value_by rate (hearer_from x s node.id) index)
  value_there false sender index slot channel from other slot_is is =
      let n = hearer_from x s node.id in
      let both = and_parts (shares sender node channel) (is_regular (x.event (2 * double + 1) sender.id node.id channel)) is in
      let regular = ap (λ (c : ℕ). is_regular (x.event c sender.id node.id channel)) (sym odd_number) ∙ both.1 in
      own_or_other n.own index (least_of (n.look index true A) (n.look index true B)) (is_own n.own index) refl
      (least_some (n.look index true) channel (stored_there sender index slot true channel from other slot_is (share_of sender node channel both.0) regular))
  value_there true sender index slot channel from other slot_is is =
      let n = hearer_from x s node.id in
      let both = and_parts (shares sender node channel && is_regular (x.event (2 * double) sender.id node.id channel)) (is_regular (x.event (2 * double + 1) sender.id node.id channel)) is in
      let two = and_parts (shares sender node channel) (is_regular (x.event (2 * double) sender.id node.id channel)) both.0 in
      let regular = ap (λ (c : ℕ). is_regular (x.event c sender.id node.id channel)) (sym odd_number) ∙ both.1 in
      let share = share_of sender node channel two.0 in
      own_or_other n.own index (mean_of (change_at n.look index A) (change_at n.look index B)) (is_own n.own index) refl
      (
      mean_some (change_at n.look index) channel
      (
      change_some (n.look index false channel) (n.look index true channel) (stored_there sender index slot false channel from other slot_is share two.1)
      (stored_there sender index slot true channel from other slot_is share regular)
      )
      )

  sure_value : (rate : Bool) (sender : NodeSpec) (index slot : ℕ) → IsSender (round_at x h even odd) sender slot → key_slot_of x.params index ≡ Some slot
      → has_value rate true (traffic_of x) double node sender ≡ true → IsSome (value_by rate (hearer_from x s node.id) index)
  sure_value rate sender index slot from slot_is has = by (sender.id == node.id) refl has
    where
      unequal : (a b : ℕ) → (a == b) ≡ false → a ≢ b
      unequal a b is = grind arith

      by : (b : Bool) → (sender.id == node.id) ≡ b
          → (b || (value_on rate true (traffic_of x) sender node double A || value_on rate true (traffic_of x) sender node double B)) ≡ true → IsSome (value_by rate (hearer_from x s node.id) index)
      by true same is = own_value_there rate index (owns sender index slot from slot_is (eqb-true sender.id node.id same))
      by false differs is =
          let other = unequal sender.id node.id differs in
          elim (or_cases (value_on rate true (traffic_of x) sender node double A) (value_on rate true (traffic_of x) sender node double B) is) [
            | inl a ↦ value_there rate sender index slot A from other slot_is a
            | inr b ↦ value_there rate sender index slot B from other slot_is b
          ]

  -- ---- of senders that stay on: counted

  abbrev sure : Bool → NodeSpec → Bool
  sure rate a = is_correct_sender (traffic_of x) a && (stays (traffic_of x) a && has_value rate true (traffic_of x) double node a)

  pub surely_heard : (rate : Bool) (index : ℕ)
      → passes_at x.params (λ (a : NodeSpec). is_correct_sender (traffic_of x) a && (stays (traffic_of x) a && has_value rate true (traffic_of x) double node a)) index ≡ true
      → IsSome (value_by rate (hearer_from x s node.id) index) × (is_some (sender_at (round_at x h even odd) index) ≡ true)
  surely_heard rate index is =
      let of = is_passed x.params (sure rate) index sending.sane is in
      let both = and_parts (is_correct_sender (traffic_of x) of.node) (stays (traffic_of x) of.node && has_value rate true (traffic_of x) double node of.node) of.passes in
      let kind = and_parts (is_sync of.node) (not (x.is_arbitrary of.node.id)) both.0 in
      let rest = and_parts (stays (traffic_of x) of.node) (has_value rate true (traffic_of x) double node of.node) both.1 in
      let rows : (is_correct x of.node.id && has_row x h of.node.id) ≡ true = rw (kind.1, stays_has x h of.node.id (x.join of.node.id) refl rest.0) refl in
      let from : IsSender (round_at x h even odd) of.node of.slot = record { there = of.there; rows = rows; key = of.key } in (
        sure_value rate of.node index of.slot from of.slot_is rest.1,
        ap is_some (sender_found (round_at x h even odd) index of.slot of.node sending.sane from of.slot_is),
      )

  pub heard_enough : (rate : Bool) → sure_count rate (traffic_of x) double node ≤ length (senders_heard (round_at x h even odd) (value_by rate (hearer_from x s node.id)))
  heard_enough rate =
      let at = value_by rate (hearer_from x s node.id) in
      let counted = senders_counted x (λ (a : NodeSpec). stays (traffic_of x) a && has_value rate true (traffic_of x) double node a) sending.sane in
      let heard = filter_map_counts (heard_at (round_at x h even odd) at) (range_with_len 0 15) in
      let le =
      count_le (passes_at x.params (sure rate)) (λ i. is_some (heard_at (round_at x h even odd) at i)) (range_with_len 0 15)
      (λ index is.
      let has = surely_heard rate index is in
      there (is_some (at index)) (sender_at (round_at x h even odd) index) has.0 has.1) in
      omega (arith, counted, heard, le)
    where
      there : (b : Bool) (o : Option Sender) → b ≡ true → is_some o ≡ true → is_some (if b then o else None) ≡ true
      there true o is also = also
      there false o is also = absurd (cc)

  -- ---- where it surely has a value of each sender that may send

  module _ (may : (sender : NodeSpec) (slot : ℕ) → IsSender (round_at x h even odd) sender slot → may_send_by (x.join sender.id) double ≡ true) where
    pub all_there : (rate : Bool) (index : ℕ) → has_all rate (traffic_of x) double node ≡ true → is_some (sender_at (round_at x h even odd) index) ≡ true
        → IsSome (value_by rate (hearer_from x s node.id) index)
    all_there rate index has there = by (sender_at (round_at x h even odd) index) refl there
      where
        right : (a b : Bool) → a ≡ true → (not a || b) ≡ true → b ≡ true
        right true b is either = either
        right false b is either = absurd (cc)

        by : (o : Option Sender) → sender_at (round_at x h even odd) index ≡ o → is_some o ≡ true → IsSome (value_by rate (hearer_from x s node.id) index)
        by None is some = absurd (cc)
        by (Some sender) is some =
            let t = traffic_of x in
            let of = sender_is (round_at x h even odd) index sender is in
            let rows = and_parts (is_correct x of.node.id) (has_row x h of.node.id) of.from.rows in
            let sends : may_send t double of.node ≡ true = rw (of.from.key, rows.0, may of.node of.slot of.from) refl in
            let one = all_pass (λ (a : NodeSpec). not (may_send t double a) || has_value rate true t double node a) x.params.nodes of.node has of.from.there in
            sure_value rate of.node index of.slot of.from of.slot_is (right (may_send t double of.node) (has_value rate true t double node of.node) sends one)
