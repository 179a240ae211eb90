-- A receiver of a double cycle of a run, whether it has rows or follows, has its deviations of each sender.
use Rattle.std.proofs.Common.{◌≡◌, ◌≢◌, ◌⊎◌, ℕ, suc, ◌*◌, ◌<◌, Bool, true, false, not, ◌&&◌, ℤ, pos, Option, Some, None, List, ◌∷◌, length, All, refl, ap, sym, ◌∙◌, subst, inl, inr, arith, if◌then◌else◌}
use Rattle.std.specs.Prelude.{Contains, IsSome, is_some, option_and_then}
use Rattle.std.proofs.lemmas.Bool.{and_parts}
use Rattle.fr_base.specs.Event.Event.{Regular}
use Rattle.fr_base.specs.Rows.{dev_in}
use Rattle.fr_base.specs.States.{is_halted}
use Rattle.fr_base.specs.Within.{IsWithin}
use Rattle.fr_base.specs.declared.channel.Channel.{Channel}
use Rattle.fr_base.specs.declared.dev.Dev.{Dev}
use Rattle.fr_base.specs.declared.node_row.NodeRow.{NodeRow}
use Rattle.fr_base.specs.declared.state.State.TheVariants.{Active}
use Rattle.fr_cluster.specs.Questions.{key_slot_of}
use Rattle.fr_cluster.specs.Sane.{IsSane}
use Rattle.fr_cluster.specs.Setting.{Setting, correct_nodes, is_correct}
use Rattle.fr_cluster.specs.declared.nodes.NodeSpec.{NodeSpec}
use Rattle.fr_time.specs.Senders.{key_node_of}
use Rattle.fr_time.specs.Slots.{action_point_of}
use Rattle.fr_measure.specs.Deviations.{deviations_of}
use Rattle.fr_precision.specs.Instants.{gap_of, row_in}
use Rattle.fr_precision.specs.Hearing.{IsHeardInPart}
use Rattle.fr_precision.specs.Offsets.{IsDeviation}
use Rattle.fr_precision.specs.Placement.{IsRegular}
use Rattle.fr_precision.specs.Reception.{IsDelay, LeavesRoom}
use Rattle.fr_history.specs.History.{row_for, row_of}
use Rattle.fr_history.specs.Cycles.{Cycle, Cycles}
use Rattle.fr_history.specs.Standing.{has_row, row_nodes}
use Rattle.fr_precision.specs.Round.{Hearer, IsHeardAt, IsItself, IsOther, IsSender}
use Rattle.fr_time.proofs.Keys.{key_node_among, key_node_is, key_slot_has}
use Rattle.fr_cluster.proofs.Elements.{kept_filtered}
use Rattle.fr_precision.proofs.RoundSenders.{and_then_some}
use Rattle.fr_runs.proofs.Receivers.{is_correct_node}
use Rattle.fr_runs.proofs.Rows.{each_row}
use Rattle.fr_runs.specs.Links.{IsCarried, IsLinked, Share, cycle_in}
use Rattle.fr_runs.specs.Exchange.{Exchange, IsExchangeOf}
use Rattle.fr_runs.proofs.Nodes.{correct_node, node_there}
use Rattle.fr_runs.proofs.Reception.{absent_is_not_recorded}
use Rattle.fr_runs.proofs.Exchanged.{IsNearIn, on_channel, regular_is_stored, stored_is_deviation}
use Rattle.fr_runs.specs.Gathered.{CycleRuns, round_at}
use Rattle.fr_runs.specs.SteadyRuns.{is_silent, IsWhole}
use Rattle.fr_runs.proofs.FramesCounted.{link_in, recorded_comes, recorded_is_counted}
use Rattle.fr_runs.proofs.Links.{IsCounted}
use Rattle.fr_runs.specs.Supplied.{IsCovered}
use Rattle.fr_runs.proofs.Standing.{has_stays, is_none, told_has}
use Rattle.fr_runs.proofs.SyncedRows.{stays_later}

-- ---- either cycle

abbrev pub before_in : Bool → Cycles → Cycle → Cycles
before_in false h even = h
before_in true h even = even ∷ h

abbrev pub cycle_of : Bool → Cycle → Cycle → Cycle
cycle_of false even odd = even
cycle_of true even odd = odd

-- ---- receivers of one kind

-- their own key indexes, and of both cycles their nodes, their rows and their deviations
pub record Receivers : Type 0 where
  pub own : ℕ → Option ℕ
  pub early : List NodeSpec
  pub evens : List NodeRow
  pub even_devs : List Dev
  pub late : List NodeSpec
  pub odds : List NodeRow
  pub odd_devs : List Dev

-- one of them
abbrev pub hearer_from : Setting → Receivers → ℕ → Hearer
hearer_from x s node = record {
  even = row_for s.evens node;
  odd = row_for s.odds node;
  own = s.own node;
  look = deviations_of x.params s.even_devs s.odd_devs node;
}

-- the exchanges of both cycles: the nodes with rows send, and these receive
abbrev pub even_exchange : Setting → Cycles → Cycle → Receivers → Exchange
even_exchange x h even s = record {
  cycle = length h;
  senders = row_nodes x h;
  sender_rows = even.told.rows;
  receivers = s.early;
  receiver_rows = s.evens;
  devs = s.even_devs;
}

abbrev pub odd_exchange : Setting → Cycles → Cycle → Cycle → Receivers → Exchange
odd_exchange x h even odd s = record {
  cycle = suc (length h);
  senders = row_nodes x (even ∷ h);
  sender_rows = odd.told.rows;
  receivers = s.late;
  receiver_rows = s.odds;
  devs = s.odd_devs;
}

abbrev pub exchange_in : Bool → Setting → Cycles → Cycle → Cycle → Receivers → Exchange
exchange_in false x h even odd s = even_exchange x h even s
exchange_in true x h even odd s = odd_exchange x h even odd s

-- a node is one of these receivers: it is awake, its rows are regular, within reach of each node that sends, and it is no
-- sender but that of its own index
pub record IsReceiver (x : Setting) (h : Cycles) (even odd : Cycle) (reach : ℤ) (s : Receivers) (node : NodeSpec) : Type 0 where
  pub correct : Contains (correct_nodes x) node
  pub evens : IsExchangeOf x (even_exchange x h even s)
  pub odds : IsExchangeOf x (odd_exchange x h even odd s)
  pub hears_even : Contains s.early node
  pub hears_odd : Contains s.late node
  pub even_awake : is_halted (row_for s.evens node.id).state ≡ false
  pub odd_awake : is_halted (row_for s.odds node.id).state ≡ false
  pub regular : IsRegular x.params (row_for s.evens node.id) (row_for s.odds node.id)
  pub reached :
      (is_odd : Bool) (sender : NodeSpec) (slot : ℕ) → Contains (row_nodes x h) sender → sender.key ≡ Some slot
      → IsWithin reach
      (gap_of x.params is_odd (pos (action_point_of x.params slot)) (row_in is_odd (row_for even.told.rows sender.id) (row_for odd.told.rows sender.id)) (row_in is_odd (row_for s.evens node.id) (row_for s.odds node.id)))
  pub itself : (index : ℕ) → s.own node.id ≡ Some index → (slot : ℕ) × ((spec : NodeSpec) × IsItself (round_at x h even odd) (hearer_from x s node.id) index slot spec)
  pub other : (index slot : ℕ) (sender : NodeSpec) → IsOther (round_at x h even odd) (hearer_from x s node.id) index slot sender → sender.id ≢ node.id

-- ---- a sender

-- a double cycle in which the nodes with rows send: they are active, whoever hears them; slots leave room for a reach, and delays
-- keep within what is stated
pub record RowsSend (x : Setting) (h : Cycles) (even odd : Cycle) (double : ℕ) (reach : ℤ) : Type 0 where
  pub sane : IsSane x.params
  pub counted : length h ≡ 2 * double
  pub even_runs : CycleRuns x h even
  pub odd_runs : CycleRuns x (even ∷ h) odd
  pub active_even : All (λ row. row.state ≡ Active) even.told.rows
  pub active_odd : All (λ row. row.state ≡ Active) odd.told.rows
  pub room : LeavesRoom x.params reach
  pub delays :
      (is_odd : Bool) (sender receiver : NodeSpec) (slot : ℕ) (channel : Channel) → IsLinked x sender receiver slot → Share sender receiver channel
      → IsDelay x.params channel (x.delay sender.id receiver.id channel (length (before_in is_odd h even)))

-- it is correct, and has rows in both cycles
record SendsRows (x : Setting) (h : Cycles) (even : Cycle) (sender : NodeSpec) : Type 0 where
  correct : Contains (correct_nodes x) sender
  early : Contains (row_nodes x h) sender
  late : Contains (row_nodes x (even ∷ h)) sender

sends_rows : (x : Setting) (h : Cycles) (even odd : Cycle) (double : ℕ) (reach : ℤ) (sender : NodeSpec) (slot : ℕ) → RowsSend x h even odd double reach → IsSender (round_at x h even odd) sender slot
    → SendsRows x h even sender
sends_rows x h even odd double reach sender slot g from =
    let both = and_parts (is_correct x sender.id) (has_row x h sender.id) from.rows in
    let correct = is_correct_node x sender from.there both.0 in
    let early = kept_filtered (λ (n : NodeSpec). has_row x h n.id) (correct_nodes x) sender correct both.1 in
    record { correct = correct; early = early; late = stays_later x h even double sender g.counted g.even_runs early }

-- its frames come with proper delays
pub delayed : (x : Setting) (sender receiver : NodeSpec) (slot cycle : ℕ) (channel : Channel) → IsCovered x → Contains (correct_nodes x) sender → Contains (correct_nodes x) receiver
    → sender.key ≡ Some slot → sender.id ≢ receiver.id → cycle < 2 * x.doubles → Share sender receiver channel
    → IsDelay x.params channel (x.delay sender.id receiver.id channel cycle)
delayed x sender receiver slot cycle channel w sends hears key other less share =
    let sane = w.clocks.sane in
    let on = λ (node : NodeSpec) (is : Contains (correct_nodes x) node). on_channel x node channel (node_there x.params node sane (correct_node x node is).there) in
    w.referenced.delays sender receiver slot channel cycle sends hears key other (on sender sends ∙ share.by_sender) (on receiver hears ∙ share.by_receiver) less

pub delays_in : (x : Setting) (h : Cycles) (even : Cycle) (double : ℕ) → IsCovered x → length h ≡ 2 * double → double < x.doubles
    → (is_odd : Bool) (sender receiver : NodeSpec) (slot : ℕ) (channel : Channel) → IsLinked x sender receiver slot → Share sender receiver channel
    → IsDelay x.params channel (x.delay sender.id receiver.id channel (length (before_in is_odd h even)))
delays_in x h even double w counted within false sender receiver slot channel link share =
    delayed x sender receiver slot (length h) channel w link.sends link.hears link.key link.other (omega (arith, counted, within)) share
delays_in x h even double w counted within true sender receiver slot channel link share =
    delayed x sender receiver slot (suc (length h)) channel w link.sends link.hears link.key link.other (omega (arith, counted, within)) share

-- ---- both as links

even_link : (x : Setting) (h : Cycles) (even odd : Cycle) (double : ℕ) (reach : ℤ) (s : Receivers) (node sender : NodeSpec) (slot : ℕ)
    → RowsSend x h even odd double reach → IsReceiver x h even odd reach s node → IsSender (round_at x h even odd) sender slot → sender.id ≢ node.id
    → IsNearIn x (even_exchange x h even s) false reach sender node slot
even_link x h even odd double reach s node sender slot g r from other =
    let p = x.params in
    let sends = sends_rows x h even odd double reach sender slot g from in
    record {
      sane = g.sane;
      is = r.evens;
      link = record { sends = sends.early; hears = r.hears_even; key = from.key; other = other };
      room = g.room;
      active = each_row (row_nodes x h) even.told.rows (λ row. row.state ≡ Active) sender g.even_runs.rows.nodes sends.early g.active_even;
      awake = r.even_awake;
      rate = r.regular.rate_within;
      micro = r.regular.even_micro;
      near = r.reached false sender slot sends.early from.key;
      delays = λ channel share. g.delays false sender node slot channel (record { sends = sends.correct; hears = r.correct; key = from.key; other = other }) share;
    }

odd_link : (x : Setting) (h : Cycles) (even odd : Cycle) (double : ℕ) (reach : ℤ) (s : Receivers) (node sender : NodeSpec) (slot : ℕ)
    → RowsSend x h even odd double reach → IsReceiver x h even odd reach s node → IsSender (round_at x h even odd) sender slot → sender.id ≢ node.id
    → IsNearIn x (odd_exchange x h even odd s) true reach sender node slot
odd_link x h even odd double reach s node sender slot g r from other =
    let p = x.params in
    let sends = sends_rows x h even odd double reach sender slot g from in
    record {
      sane = g.sane;
      is = r.odds;
      link = record { sends = sends.late; hears = r.hears_odd; key = from.key; other = other };
      room = g.room;
      active = each_row (row_nodes x (even ∷ h)) odd.told.rows (λ row. row.state ≡ Active) sender g.odd_runs.rows.nodes sends.late g.active_odd;
      awake = r.odd_awake;
      rate = subst (IsWithin p.rate_limit) (sym r.regular.double.same_rate) r.regular.rate_within;
      micro = r.regular.odd_micro;
      near = r.reached true sender slot sends.early from.key;
      delays = λ channel share. g.delays true sender node slot channel (record { sends = sends.correct; hears = r.correct; key = from.key; other = other }) share;
    }

-- ---- what the receiver has

-- a deviation by key index is that of the key slot
pub looked : (x : Setting) (s : Receivers) (node index slot : ℕ) (is_odd : Bool) (channel : Channel) → key_slot_of x.params index ≡ Some slot
    → (hearer_from x s node).look index is_odd channel ≡ dev_in (if is_odd then s.odd_devs else s.even_devs) node slot channel
looked x s node index slot is_odd channel slot_is = ap (option_and_then (λ k. dev_in (if is_odd then s.odd_devs else s.even_devs) node k channel)) slot_is

-- each is of both rows
pub placed : (x : Setting) (h : Cycles) (even odd : Cycle) (double : ℕ) (reach : ℤ) (s : Receivers) (node sender : NodeSpec) (slot : ℕ) (is_odd : Bool) (channel : Channel) (value : ℤ)
    → RowsSend x h even odd double reach → IsReceiver x h even odd reach s node → IsSender (round_at x h even odd) sender slot → sender.id ≢ node.id
    → dev_in (if is_odd then s.odd_devs else s.even_devs) node.id slot channel ≡ Some value
    → IsDeviation x.params is_odd (pos (action_point_of x.params slot)) (row_in is_odd (row_for s.evens node.id) (row_for s.odds node.id))
    (row_in is_odd (row_for even.told.rows sender.id) (row_for odd.told.rows sender.id)) value
placed x h even odd double reach s node sender slot false channel value g r from other is =
    stored_is_deviation x (even_exchange x h even s) false reach sender node slot channel value (even_link x h even odd double reach s node sender slot g r from other) is
placed x h even odd double reach s node sender slot true channel value g r from other is =
    stored_is_deviation x (odd_exchange x h even odd s) true reach sender node slot channel value (odd_link x h even odd double reach s node sender slot g r from other) is

-- it is counted from the arrival of the frame
pub counted_from : (x : Setting) (h : Cycles) (even odd : Cycle) (double : ℕ) (reach : ℤ) (s : Receivers) (node sender : NodeSpec) (slot : ℕ) (is_odd : Bool) (channel : Channel) (value : ℤ)
    → RowsSend x h even odd double reach → IsReceiver x h even odd reach s node → IsSender (round_at x h even odd) sender slot → sender.id ≢ node.id
    → dev_in (if is_odd then s.odd_devs else s.even_devs) node.id slot channel ≡ Some value
    → IsCounted x (link_in (exchange_in is_odd x h even odd s) sender node slot) is_odd channel value
counted_from x h even odd double reach s node sender slot false channel value g r from other is =
    recorded_is_counted x (even_exchange x h even s) false reach sender node slot channel value (even_link x h even odd double reach s node sender slot g r from other) is
counted_from x h even odd double reach s node sender slot true channel value g r from other is =
    recorded_is_counted x (odd_exchange x h even odd s) true reach sender node slot channel value (odd_link x h even odd double reach s node sender slot g r from other) is

-- of one that is not silent
pub comes : (x : Setting) (h : Cycles) (even odd : Cycle) (double : ℕ) (reach : ℤ) (s : Receivers) (node sender : NodeSpec) (slot : ℕ) (is_odd : Bool) (channel : Channel) (value : ℤ)
    → RowsSend x h even odd double reach → IsReceiver x h even odd reach s node → IsSender (round_at x h even odd) sender slot → sender.id ≢ node.id
    → dev_in (if is_odd then s.odd_devs else s.even_devs) node.id slot channel ≡ Some value
    → is_silent (x.event (cycle_in is_odd double) sender.id node.id channel) ≡ false
comes x h even odd double reach s node sender slot false channel value g r from other is =
    ap (λ (n : ℕ). is_silent (x.event n sender.id node.id channel)) (sym g.counted)
    ∙ recorded_comes x (even_exchange x h even s) false reach sender node slot channel value (even_link x h even odd double reach s node sender slot g r from other) is
comes x h even odd double reach s node sender slot true channel value g r from other is =
    ap (λ (n : ℕ). is_silent (x.event (suc n) sender.id node.id channel)) (sym g.counted)
    ∙ recorded_comes x (odd_exchange x h even odd s) true reach sender node slot channel value (odd_link x h even odd double reach s node sender slot g r from other) is

-- that of a regular frame is stored
pub stored : (x : Setting) (h : Cycles) (even odd : Cycle) (double : ℕ) (reach : ℤ) (s : Receivers) (node sender : NodeSpec) (slot : ℕ) (is_odd : Bool) (channel : Channel)
    → RowsSend x h even odd double reach → IsReceiver x h even odd reach s node → IsSender (round_at x h even odd) sender slot → sender.id ≢ node.id
    → Share sender node channel → x.event (cycle_in is_odd double) sender.id node.id channel ≡ Regular
    → IsSome (dev_in (if is_odd then s.odd_devs else s.even_devs) node.id slot channel)
stored x h even odd double reach s node sender slot false channel g r from other share regular =
    regular_is_stored x (even_exchange x h even s) false reach sender node slot channel (even_link x h even odd double reach s node sender slot g r from other) share
    (ap (λ (n : ℕ). x.event n sender.id node.id channel) g.counted ∙ regular)
stored x h even odd double reach s node sender slot true channel g r from other share regular =
    regular_is_stored x (odd_exchange x h even odd s) true reach sender node slot channel (odd_link x h even odd double reach s node sender slot g r from other) share
    (ap (λ (n : ℕ). x.event (suc n) sender.id node.id channel) g.counted ∙ regular)

-- where some channel carries the frames of both cycles, it has them in both
record HasBoth (s : Receivers) (node slot : ℕ) : Type 0 where
  channel : Channel
  early : IsSome (dev_in s.even_devs node slot channel)
  late : IsSome (dev_in s.odd_devs node slot channel)

heard : (x : Setting) (h : Cycles) (even odd : Cycle) (double : ℕ) (reach : ℤ) (s : Receivers) (node sender : NodeSpec) (slot : ℕ) → IsWhole x double
    → RowsSend x h even odd double reach → IsReceiver x h even odd reach s node → IsSender (round_at x h even odd) sender slot → sender.id ≢ node.id
    → HasBoth s node.id slot
heard x h even odd double reach s node sender slot links g r from other =
    let sends = sends_rows x h even odd double reach sender slot g from in
    let carried : IsCarried x sender node double = links sender node slot (record { sends = sends.correct; hears = r.correct; key = from.key; other = other }) in
    record {
      channel = carried.channel;
      early = stored x h even odd double reach s node sender slot false carried.channel g r from other carried.share carried.even;
      late = stored x h even odd double reach s node sender slot true carried.channel g r from other carried.share carried.odd;
    }

-- there is none of a correct node that has no row
none_heard : (x : Setting) (h : Cycles) (even odd : Cycle) (double : ℕ) (reach : ℤ) (s : Receivers) (node sender : NodeSpec) (slot : ℕ) (is_odd : Bool) (channel : Channel)
    → RowsSend x h even odd double reach → IsReceiver x h even odd reach s node → Contains (correct_nodes x) sender → sender.key ≡ Some slot → has_row x h sender.id ≡ false
    → dev_in (if is_odd then s.odd_devs else s.even_devs) node.id slot channel ≡ None
none_heard x h even odd double reach s node sender slot false channel g r correct key fails =
    absent_is_not_recorded x (even_exchange x h even s) sender node slot channel g.sane r.evens correct key
    (is_none (row_of even.told.rows sender.id) (told_has x h even sender g.even_runs correct ∙ fails)) r.hears_even
none_heard x h even odd double reach s node sender slot true channel g r correct key fails =
    let fails_odd = has_stays x h even double sender g.counted g.even_runs correct ∙ fails in
    absent_is_not_recorded x (odd_exchange x h even odd s) sender node slot channel g.sane r.odds correct key
    (is_none (row_of odd.told.rows sender.id) (told_has x (even ∷ h) odd sender g.odd_runs correct ∙ fails_odd)) r.hears_odd

-- so each is of a sender, or of an arbitrary node
only : (x : Setting) (h : Cycles) (even odd : Cycle) (double : ℕ) (reach : ℤ) (s : Receivers) (node : NodeSpec) (index : ℕ) (is_odd : Bool) (channel : Channel) (value : ℤ)
    → RowsSend x h even odd double reach → IsReceiver x h even odd reach s node → (hearer_from x s node.id).look index is_odd channel ≡ Some value
    → (slot : ℕ) × ((sender : NodeSpec) × (key_slot_of x.params index ≡ Some slot) × (key_node_of x.params slot ≡ Some sender)
    × (((is_correct x sender.id && has_row x h sender.id) ≡ true) ⊎ (x.is_arbitrary sender.id ≡ true)))
only x h even odd double reach s node index is_odd channel value g r is =
    let p = x.params in
    let slot = and_then_some (λ k. dev_in (if is_odd then s.odd_devs else s.even_devs) node.id k channel) (key_slot_of p index) value is in
    let sender = key_node_among p.nodes slot.0 (key_slot_has p index slot.0 slot.1).1 in
    (slot.0, (sender.0, slot.1, key_node_is p sender.0 slot.0 g.sane sender.1 sender.2, kind sender.0 slot.0 sender.1 sender.2 slot.2 (x.is_arbitrary sender.0.id) (has_row x h sender.0.id) refl refl))
  where
    kind : (sender : NodeSpec) (slot : ℕ) → Contains x.params.nodes sender → sender.key ≡ Some slot → dev_in (if is_odd then s.odd_devs else s.even_devs) node.id slot channel ≡ Some value
        → (arbitrary has : Bool) → x.is_arbitrary sender.id ≡ arbitrary → has_row x h sender.id ≡ has
        → ((is_correct x sender.id && has_row x h sender.id) ≡ true) ⊎ (x.is_arbitrary sender.id ≡ true)
    kind sender slot there key some true has arbitrary row = inr arbitrary
    kind sender slot there key some false true correct row = inl (rw (correct, row) refl)
    kind sender slot there key some false false correct row =
        let is_right : is_correct x sender.id ≡ true = ap not correct in
        let none = none_heard x h even odd double reach s node sender slot is_odd channel g r (is_correct_node x sender there is_right) key row in
        let e : Some value ≡ None = sym some ∙ none in
        absurd (cc)

pub heard_in_part : (x : Setting) (h : Cycles) (even odd : Cycle) (double : ℕ) (reach : ℤ) (s : Receivers) (node : NodeSpec)
    → RowsSend x h even odd double reach → IsReceiver x h even odd reach s node → IsHeardInPart (round_at x h even odd) (hearer_from x s node.id)
heard_in_part x h even odd double reach s node g r = record {
  itself = r.itself;
  placed =
      λ index slot sender is_odd channel value other is.
      placed x h even odd double reach s node sender slot is_odd channel value g r other.sender (r.other index slot sender other)
      (sym (looked x s node.id index slot is_odd channel other.slot_is) ∙ is);
  only = λ index is_odd channel value is. only x h even odd double reach s node index is_odd channel value g r is;
}

pub heard_at : (x : Setting) (h : Cycles) (even odd : Cycle) (double : ℕ) (reach : ℤ) (s : Receivers) (node : NodeSpec) → IsWhole x double
    → RowsSend x h even odd double reach → IsReceiver x h even odd reach s node → IsHeardAt (round_at x h even odd) (hearer_from x s node.id)
heard_at x h even odd double reach s node links g r =
    let part = heard_in_part x h even odd double reach s node g r in
    record {
      itself = part.itself;
      placed = part.placed;
      heard =
          λ index slot sender other.
          let both = heard x h even odd double reach s node sender slot links g r other.sender (r.other index slot sender other) in (
            both.channel,
            ap is_some (looked x s node.id index slot false both.channel other.slot_is) ∙ both.early,
            ap is_some (looked x s node.id index slot true both.channel other.slot_is) ∙ both.late,
          );
      only = part.only;
    }
