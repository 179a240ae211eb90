-- What each receiver of a double cycle has of the senders, by the deviations that a trace that passes records.
use Rattle.std.proofs.Common.{◌≡◌, ◌⊎◌, ◌≢◌, ℕ, suc, ◌*◌, ◌/◌, ◌<◌, ◌≤◌, ◌==◌, Bool, true, false, not, ◌&&◌, ◌||◌, ℤ, pos, Option, Some, None, IsSome, List, [], ◌∷◌, ◌++◌, length, refl, ap, ap₂, sym, ◌∙◌, subst, inl, inr, arith, if◌then◌else◌}
use Rattle.std.specs.Prelude.{◌≤ℤ◌, Contains, find, int_lt, is_some, option_and_then}
use Rattle.std.specs.Option.{option_map, option_map_or}
use Rattle.std.proofs.lemmas.Bool.{and_parts, eqb-true, ne_eqb, or_cases, or_parts}
use Rattle.std.proofs.lemmas.Int.{ints}
use Rattle.fr_base.specs.Rows.{channel_rank, dev_in, is_dev_of}
use Rattle.fr_base.specs.declared.channel.Channel.{Channel}
use Rattle.fr_base.specs.declared.channel.Channel.TheVariants as channel
use Rattle.fr_base.specs.declared.dev.Dev.{Dev}
use Rattle.fr_base.specs.declared.node_row.NodeRow.{NodeRow}
use Rattle.fr_cluster.specs.Sane.{IsSane}
use Rattle.fr_cluster.specs.Searches.{key_node_in}
use Rattle.fr_cluster.specs.Setting.{correct_nodes, is_correct}
use Rattle.fr_cluster.specs.Values.{Values}
use Rattle.fr_cluster.specs.declared.nodes.NodeSpec.{NodeSpec}
use Rattle.fr_cluster.proofs.KeyNodes.{found_key}
use Rattle.fr_history.specs.History.{History, Record, record_at, row_for, row_of}
use Rattle.fr_runs.specs.Links.{IsLinked, record_in}
use Rattle.fr_runs.proofs.Doubles.{even_length, odd_length}
use Rattle.fr_runs.proofs.Rows.{HasRow, has_row as row_there}
use Rattle.fr_coverage.specs.Links.{shares}
use Rattle.fr_coverage.specs.declared.gap.Gap.{Gap}
use Rattle.fr_coverage.specs.declared.gap.Gap.TheVariants as gap
use Rattle.fr_history.proofs.Synced.{record_at-lt}
use Rattle.fr_precision.specs.Offsets.{IsDeviation}
use Rattle.fr_precision.proofs.DeviationLaws.{recorded_is_deviation}
use Rattle.fr_precision.proofs.OffsetLaws.{micro_lasts}
use Rattle.fr_cluster.specs.Questions.{key_slot_of}
use Rattle.fr_precision.specs.Round.{Hearer, IsHeardAt, Round}
use Rattle.fr_cluster.proofs.Elements.{filtered, found, kept_filtered}
use Rattle.fr_time.specs.Cycles.{is_odd}
use Rattle.fr_time.specs.Slots.{action_point_of}
use Rattle.fr_trace.specs.Items.Item.{Heard}
use Rattle.fr_trace.specs.Lasting.{IsTrace}
use Rattle.fr_trace.specs.Trace.{TraceView, is_named}
use Rattle.fr_verdict.specs.Breach.{IsLawfulTrace, high_of, is_away, low_of, sender_is_away, sender_row}
use Rattle.fr_verdict.specs.Gaps.{has_dev, has_rows, is_heard, is_heard_on, is_pair, IsTracedLinkGap}
use Rattle.fr_verdict.specs.Heard.{IsHeardBy, hearer_of, traced_round}
use Rattle.fr_verdict.specs.Search.{breach_by, outside_by, whenever}
use Rattle.fr_verdict.specs.Sync.{IsFirstSynced}
use Rattle.fr_verdict.specs.declared.unlawful.Unlawful.TheVariants as unlawful
use Rattle.fr_verdict.proofs.Hearing.{heard_suffices}
use Rattle.fr_verdict.proofs.Items.{Unbroken, dev_there, unbroken}
use Rattle.fr_verdict.proofs.Recorded.{IsDouble, NodeTwo, Passes, even_at, even_parted, known, node_two, odd_at, row_is_at, rows_in, window}
use Rattle.fr_verdict.proofs.Standing.{has_row, nodes_in, stays_within, unnamed_with_row}

-- ---- the round of a double cycle

-- its senders are the correct sync nodes with rows
abbrev pub round_in : Values → TraceView → Record → Record → Round
round_in p t even odd = record {
  params = p;
  is_arbitrary = is_named t;
  has_rows = is_correct (window p t even);
  even = row_for even.rows;
  odd = row_for odd.rows;
}

-- a node as a receiver
abbrev pub hearer_in : Values → TraceView → Record → Record → NodeSpec → Hearer
hearer_in p t even odd node = hearer_of (window p t even) even odd node.id

twice : (b : Bool) → not (not b) ≡ true → b ≡ true
twice true e = refl
twice false e = cc e

twice_so : (b : Bool) → b ≡ true → not (not b) ≡ true
twice_so b e = rw e refl

pub sends_in : (p : Values) (t : TraceView) (even : Record) (node : NodeSpec) → Contains p.nodes node → is_correct (window p t even) node.id ≡ true → Contains (nodes_in p even) node
sends_in p t even node there is = kept_filtered (λ (n : NodeSpec). has_row even n.id) p.nodes node there (twice (has_row even node.id) is)

from_window : (p : Values) (t : TraceView) (even : Record) (node : NodeSpec) → Contains (correct_nodes (window p t even)) node → Contains (nodes_in p even) node
from_window p t even node among =
    let parts = filtered (λ (n : NodeSpec). is_correct (window p t even) n.id) p.nodes node among in
    sends_in p t even node parts.0 parts.1

to_window : (p : Values) (t : TraceView) (even : Record) (node : NodeSpec) → Contains (nodes_in p even) node → Contains (correct_nodes (window p t even)) node
to_window p t even node among =
    let parts = known p even node among in
    kept_filtered (λ (n : NodeSpec). is_correct (window p t even) n.id) p.nodes node parts.0 (twice_so (has_row even node.id) parts.1)

-- ---- a recorded deviation

record IsRecorded (devs : List Dev) (receiver slot : ℕ) (ch : Channel) (value : ℤ) : Type 0 where
  dev : Dev
  among : Contains devs dev
  at_receiver : dev.receiver ≡ receiver
  of_slot : dev.slot ≡ slot
  of_value : dev.value ≡ value

recorded_dev : (devs : List Dev) (receiver slot : ℕ) (ch : Channel) (value : ℤ) → dev_in devs receiver slot ch ≡ Some value → IsRecorded devs receiver slot ch value
recorded_dev devs receiver slot ch value is = by_found (find (is_dev_of receiver slot ch) devs) refl is
  where
    by_found : (o : Option Dev) → find (is_dev_of receiver slot ch) devs ≡ o → option_map (λ d. d.value) o ≡ Some value → IsRecorded devs receiver slot ch value
    by_found None e is = cc is
    by_found (Some dev) e is =
        let w : (is_dev_of receiver slot ch dev ≡ true) × Contains devs dev = found (is_dev_of receiver slot ch) devs dev e in
        let outer : (((dev.receiver == receiver) && (dev.slot == slot)) ≡ true) × ((channel_rank dev.channel == channel_rank ch) ≡ true) = and_parts ((dev.receiver == receiver) && (dev.slot == slot)) (channel_rank dev.channel == channel_rank ch) w.0 in
        let inner : ((dev.receiver == receiver) ≡ true) × ((dev.slot == slot) ≡ true) = and_parts (dev.receiver == receiver) (dev.slot == slot) outer.0 in
        record { dev = dev; among = w.1; at_receiver = eqb-true dev.receiver receiver inner.0; of_slot = eqb-true dev.slot slot inner.1; of_value = cc is }

-- no law is broken at it
record IsAt (p : Values) (t : TraceView) (h : History) (r : Record) (later : History) : Type 0 where
  parted : t.history ≡ later ++ r ∷ h
  lawful : IsLawfulTrace p t

dev_unbroken : (p : Values) (t : TraceView) (h : History) (r : Record) (later : History) (receiver slot : ℕ) (ch : Channel) (value : ℤ) → IsAt p t h r later → HasRow r.rows receiver
    → (d : IsRecorded r.devs receiver slot ch value) → Unbroken p t (Heard h r d.dev)
dev_unbroken p t h r later receiver slot ch value at here d =
    unbroken p t later h r (Heard h r d.dev) at.lawful at.parted (dev_there h r r.rows (row_for r.rows receiver) d.dev here.there d.among (d.at_receiver ∙ sym here.number))

-- ---- it lies within what both rows allow

no_less : (a b : ℤ) → int_lt a b ≡ false → b ≤ℤ a
no_less a b told = grind (arith, ints)

bounds_of : (p : Values) (n : ℕ) (odd : Bool) (dev : Dev) (sender receiver : NodeRow) → outside_by p n odd dev (Some sender) (Some receiver) ≡ None
    → (low_of p odd dev.slot sender receiver ≤ℤ dev.value) × (dev.value ≤ℤ high_of p odd dev.slot sender receiver)
bounds_of p n odd dev sender receiver e = by_test (int_lt dev.value (low_of p odd dev.slot sender receiver) || int_lt (high_of p odd dev.slot sender receiver) dev.value) refl e
  where
    by_test : (b : Bool) → (int_lt dev.value (low_of p odd dev.slot sender receiver) || int_lt (high_of p odd dev.slot sender receiver) dev.value) ≡ b
        → (if b then Some (unlawful.Deviation n dev.value (low_of p odd dev.slot sender receiver) (high_of p odd dev.slot sender receiver)) else None) ≡ None
        → (low_of p odd dev.slot sender receiver ≤ℤ dev.value) × (dev.value ≤ℤ high_of p odd dev.slot sender receiver)
    by_test true is e = cc e
    by_test false is e =
        let parts : (int_lt dev.value (low_of p odd dev.slot sender receiver) ≡ false) × (int_lt (high_of p odd dev.slot sender receiver) dev.value ≡ false) =
        or_parts (int_lt dev.value (low_of p odd dev.slot sender receiver)) (int_lt (high_of p odd dev.slot sender receiver) dev.value) is in
        (no_less dev.value (low_of p odd dev.slot sender receiver) parts.0, no_less (high_of p odd dev.slot sender receiver) dev.value parts.1)

key_node : (p : Values) (sender : NodeSpec) (slot : ℕ) → IsSane p → Contains p.nodes sender → sender.key ≡ Some slot → key_node_in p.nodes slot ≡ Some sender
key_node p sender slot sane among key = found_key p.nodes slot sender sane.constraints.own_slots.1 among key

bounded : (p : Values) (t : TraceView) (h : History) (r : Record) (later : History) (odd : Bool) (sender receiver : NodeSpec) (slot : ℕ) (ch : Channel) (value : ℤ) → IsSane p → IsAt p t h r later
    → is_odd (length h) ≡ odd → Contains p.nodes sender → sender.key ≡ Some slot → HasRow r.rows sender.id → HasRow r.rows receiver.id → dev_in r.devs receiver.id slot ch ≡ Some value
    → (low_of p odd slot (row_for r.rows sender.id) (row_for r.rows receiver.id) ≤ℤ value) × (value ≤ℤ high_of p odd slot (row_for r.rows sender.id) (row_for r.rows receiver.id))
unfolding breach_by
bounded p t h r later odd sender receiver slot ch value sane at parity there key s o is =
    let d : IsRecorded r.devs receiver.id slot ch value = recorded_dev r.devs receiver.id slot ch value is in
    let w : Unbroken p t (Heard h r d.dev) = dev_unbroken p t h r later receiver.id slot ch value at o d in
    let sends : sender_row p r d.dev.slot ≡ Some (row_for r.rows sender.id) =
    ap (λ (n : ℕ). sender_row p r n) d.of_slot
    ∙ ap (option_and_then (λ node. row_of r.rows node.id)) (key_node p sender slot sane there key) ∙ s.is in
    let hears : row_of r.rows d.dev.receiver ≡ Some (row_for r.rows receiver.id) = ap (row_of r.rows) d.at_receiver ∙ o.is in
    let none : outside_by p w.number odd d.dev (Some (row_for r.rows sender.id)) (Some (row_for r.rows receiver.id)) ≡ None =
    sym (ap₂ (λ (a b : Option NodeRow). outside_by p w.number odd d.dev a b) sends hears)
    ∙ sym (ap (λ (b : Bool). outside_by p w.number b d.dev (sender_row p r d.dev.slot) (row_of r.rows d.dev.receiver)) parity)
    ∙ w.none 5 (omega arith) in
    let b = bounds_of p w.number odd d.dev (row_for r.rows sender.id) (row_for r.rows receiver.id) none in
    (at_slot d.dev.slot slot d.of_slot d.dev.value value d.of_value (row_for r.rows sender.id) (row_for r.rows receiver.id) b.0 b.1)
  where
    at_slot : (m n : ℕ) → m ≡ n → (v u : ℤ) → v ≡ u → (a b : NodeRow) → low_of p odd m a b ≤ℤ v → v ≤ℤ high_of p odd m a b → (low_of p odd n a b ≤ℤ u) × (u ≤ℤ high_of p odd n a b)
    at_slot m n same v u value a b low high =
        subst (λ (w : ℤ). (low_of p odd n a b ≤ℤ w) × (w ≤ℤ high_of p odd n a b)) value
        (subst (λ (k : ℕ). (low_of p odd k a b ≤ℤ v) × (v ≤ℤ high_of p odd k a b)) same (low, high))

-- ---- and is about a node with a row, or about an arbitrary one

not_away : (p : Values) (t : TraceView) (h : History) (r : Record) (later : History) (sender : NodeSpec) (receiver slot : ℕ) (ch : Channel) (value : ℤ) → IsAt p t h r later
    → key_node_in p.nodes slot ≡ Some sender → HasRow r.rows receiver → dev_in r.devs receiver slot ch ≡ Some value → has_row r sender.id ≡ false → is_named t sender.id ≡ true
unfolding breach_by has_row
not_away p t h r later sender receiver slot ch value at key o is none =
    let d : IsRecorded r.devs receiver slot ch value = recorded_dev r.devs receiver slot ch value is in
    let w : Unbroken p t (Heard h r d.dev) = dev_unbroken p t h r later receiver slot ch value at o d in
    let away : sender_is_away p t r d.dev.slot ≡ is_away t r sender =
    ap (λ (n : ℕ). sender_is_away p t r n) d.of_slot ∙ ap (λ (o : Option NodeSpec). option_map_or (is_away t r) o false) key in
    let here : is_away t r sender ≡ false = sym away ∙ passed (sender_is_away p t r d.dev.slot) w.number (length h / 2) (w.none 6 (omega arith)) in
    by_name (is_named t sender.id) refl here
  where
    passed : (b : Bool) (n double : ℕ) → whenever b (unlawful.Apart n double) ≡ None → b ≡ false
    passed true n double e = cc e
    passed false n double e = refl

    by_name : (b : Bool) → is_named t sender.id ≡ b → is_away t r sender ≡ false → b ≡ true
    by_name true e here = refl
    by_name false e here =
        let both : is_away t r sender ≡ true = ap₂ (λ (a c : Bool). not a && not c) e none in
        let no : true ≡ false = sym both ∙ here in
        cc no

-- ---- links

-- of each correct node with a key slot each other correct node has a deviation in both cycles of a double cycle on one channel, if
-- both have rows there
abbrev pub AllPairsHeard : Values → TraceView → ℕ → Type 0
AllPairsHeard p t k =
    (sender receiver : NodeSpec) → Contains p.nodes sender → Contains p.nodes receiver → is_pair t sender receiver ≡ true → has_rows t.history k sender ≡ true → has_rows t.history k receiver ≡ true
    → is_heard t sender receiver k ≡ true

-- so it is from the first double cycle in sync on, where there is no gap of a link
pub pairs_heard : (p : Values) (t : TraceView) (double k : ℕ) → ((g : Gap) → IsTracedLinkGap p t g → ⊥) → IsFirstSynced p t double → double ≤ k → k < t.doubles → AllPairsHeard p t k
pairs_heard p t double k links first from within sender receiver sender_there receiver_there pair sends hears = by_test (is_heard t sender receiver k) refl
  where
    by_test : (b : Bool) → is_heard t sender receiver k ≡ b → b ≡ true
    by_test true e = refl
    by_test false broken =
        absurd (links (gap.Link sender.id receiver.id k) (record {
          sender = sender;
          receiver = receiver;
          sender_there = sender_there;
          receiver_there = receiver_there;
          pair = pair;
          synced = double;
          first = first;
          double = k;
          from = from;
          within = within;
          sends = sends;
          hears = hears;
          broken = broken;
          told = refl;
        }))

-- the double cycle of two records is one of the trace
pub double_within : (t : TraceView) (h : History) (even odd : Record) (k : ℕ) → IsTrace t → IsDouble t h even odd k → k < t.doubles
double_within t h even odd k trace d =
    let lt = record_at-lt t.history (suc (2 * k)) odd (odd_at t h even odd k d) in
    let whole = trace.whole in
    omega (arith, lt, whole)

some_is : {A : Type 0} (o : Option A) → is_some o ≡ true → IsSome o
some_is o e = e

record LinksAt (p : Values) (t : TraceView) (h : History) (even odd : Record) (k : ℕ) (sender receiver : NodeSpec) (slot : ℕ) : Type 0 where
  channel : Channel
  early : IsSome (dev_in even.devs receiver.id slot channel)
  late : IsSome (dev_in odd.devs receiver.id slot channel)

linked : (p : Values) (t : TraceView) (h : History) (even odd : Record) (k : ℕ) (sender receiver : NodeSpec) (slot : ℕ) → Passes p t → AllPairsHeard p t k → IsDouble t h even odd k
    → Contains (nodes_in p even) sender → Contains (nodes_in p even) receiver → sender.key ≡ Some slot → sender.id ≢ receiver.id → LinksAt p t h even odd k sender receiver slot
linked p t h even odd k sender receiver slot w heard d sends hears key other =
    elim (or_cases (is_heard_on t sender receiver k channel.A) (is_heard_on t sender receiver k channel.B)
    (heard sender receiver (known p even sender sends).0 (known p even receiver hears).0 pair (has sender sends) (has receiver hears))) [
      | inl a ↦ on channel.A a
      | inr b ↦ on channel.B b
    ]
  where
    unnamed : (node : NodeSpec) → Contains (nodes_in p even) node → is_named t node.id ≡ false
    unnamed node among =
        let parts = known p even node among in
        unnamed_with_row p t h even node (rows_in p t h even odd k w d).two.early parts.0 parts.1

    pair : is_pair t sender receiver ≡ true
    pair = rw (key, unnamed sender sends, unnamed receiver hears, ne_eqb sender.id receiver.id other) refl

    has : (node : NodeSpec) → Contains (nodes_in p even) node → has_rows t.history k node ≡ true
    has node among =
        let rows = rows_in p t h even odd k w d in
        let early = row_is_at t (2 * k) node.id even (even_at t h even odd k d) (row_there (nodes_in p even) even.rows node rows.even_rows among) in
        let late = row_is_at t (suc (2 * k)) node.id odd (odd_at t h even odd k d) (row_there (nodes_in p even) odd.rows node rows.odd_rows among) in
        ap₂ (λ (a b : Option NodeRow). is_some a && is_some b) early late

    there : (cycle : ℕ) (r : Record) (ch : Channel) → record_at t.history cycle ≡ Some r → has_dev t.history cycle sender receiver ch ≡ true → IsSome (dev_in r.devs receiver.id slot ch)
    there cycle r ch at e =
        let found_in : is_some (option_and_then (λ s. dev_in r.devs receiver.id s ch) sender.key) ≡ true =
        sym (ap (λ (o : Option Record). is_some (option_and_then (λ q. option_and_then (λ s. dev_in q.devs receiver.id s ch) sender.key) o)) at) ∙ e in
        sym (ap (λ (key : Option ℕ). is_some (option_and_then (λ s. dev_in r.devs receiver.id s ch) key)) key) ∙ found_in

    on : (ch : Channel) → is_heard_on t sender receiver k ch ≡ true → LinksAt p t h even odd k sender receiver slot
    on ch e =
        let outer : ((shares sender receiver ch && has_dev t.history (2 * k) sender receiver ch) ≡ true) × (has_dev t.history (suc (2 * k)) sender receiver ch ≡ true) =
        and_parts (shares sender receiver ch && has_dev t.history (2 * k) sender receiver ch) (has_dev t.history (suc (2 * k)) sender receiver ch) e in
        let inner : (shares sender receiver ch ≡ true) × (has_dev t.history (2 * k) sender receiver ch ≡ true) = and_parts (shares sender receiver ch) (has_dev t.history (2 * k) sender receiver ch) outer.0 in
        record {
          channel = ch;
          early = there (2 * k) even ch (even_at t h even odd k d) inner.1;
          late = there (suc (2 * k)) odd ch (odd_at t h even odd k d) outer.1;
        }

-- ---- so each node hears each sender

heard_by : (p : Values) (t : TraceView) (h : History) (even odd : Record) (k : ℕ) (sender receiver : NodeSpec) (slot : ℕ) → Passes p t → AllPairsHeard p t k → IsDouble t h even odd k
    → IsLinked (window p t even) sender receiver slot → IsHeardBy (window p t even) even odd sender receiver slot
heard_by p t h even odd k sender receiver slot w heard d link =
    let link_is = linked p t h even odd k sender receiver slot w heard d sends hears link.key link.other in
    record { placed = λ odd_is channel value is. placed odd_is channel value is; channel = link_is.channel; early = link_is.early; late = link_is.late }
  where
    sends : Contains (nodes_in p even) sender
    sends = from_window p t even sender link.sends

    hears : Contains (nodes_in p even) receiver
    hears = from_window p t even receiver link.hears

    two : (node : NodeSpec) → Contains (nodes_in p even) node → NodeTwo p t h even odd node
    two node among = node_two p t h even odd k node w d among

    placed : (odd_is : Bool) (channel : Channel) (value : ℤ) → dev_in (record_in odd_is even odd).devs receiver.id slot channel ≡ Some value
        → IsDeviation p odd_is (pos (action_point_of p slot)) (row_for (record_in odd_is even odd).rows receiver.id) (row_for (record_in odd_is even odd).rows sender.id) value
    placed false channel value is =
        let one = two sender sends in
        let other = two receiver hears in
        let at : IsAt p t h even (d.later ++ odd ∷ []) = record { parted = even_parted t h even odd k d; lawful = w.lawful } in
        let b = bounded p t h even (d.later ++ odd ∷ []) false sender receiver slot channel value w.sane at (even_length (length h) k d.counted) one.there link.key one.has_even other.has_even is in
        recorded_is_deviation p false (pos (action_point_of p slot)) value (row_for even.rows receiver.id) (row_for even.rows sender.id) (micro_lasts p (row_for even.rows receiver.id) w.sane other.even_micro) b.0 b.1
    placed true channel value is =
        let one = two sender sends in
        let other = two receiver hears in
        let at : IsAt p t (even ∷ h) odd d.later = record { parted = d.parted; lawful = w.lawful } in
        let b = bounded p t (even ∷ h) odd d.later true sender receiver slot channel value w.sane at (odd_length (length h) k d.counted) one.there link.key one.has_odd other.has_odd is in
        recorded_is_deviation p true (pos (action_point_of p slot)) value (row_for odd.rows receiver.id) (row_for odd.rows sender.id) (micro_lasts p (row_for odd.rows receiver.id) w.sane other.odd_micro) b.0 b.1

-- a deviation is of a sender, or of an arbitrary node
only : (p : Values) (t : TraceView) (h : History) (even odd : Record) (k : ℕ) (node sender : NodeSpec) (slot : ℕ) (odd_is : Bool) (channel : Channel) (value : ℤ) → Passes p t → IsDouble t h even odd k
    → Contains (nodes_in p even) node → Contains p.nodes sender → key_node_in p.nodes slot ≡ Some sender → dev_in (record_in odd_is even odd).devs node.id slot channel ≡ Some value
    → (is_correct (window p t even) sender.id ≡ true) ⊎ (is_named t sender.id ≡ true)
only p t h even odd k node sender slot odd_is channel value w d among there key is = by_row (has_row even sender.id) refl
  where
    two : NodeTwo p t h even odd node
    two = node_two p t h even odd k node w d among

    named : (b : Bool) → dev_in (record_in b even odd).devs node.id slot channel ≡ Some value → has_row even sender.id ≡ false → is_named t sender.id ≡ true
    named false is none =
        not_away p t h even (d.later ++ odd ∷ []) sender node.id slot channel value (record { parted = even_parted t h even odd k d; lawful = w.lawful }) key two.has_even is none
    named true is none =
        not_away p t (even ∷ h) odd d.later sender node.id slot channel value (record { parted = d.parted; lawful = w.lawful }) key two.has_odd is
        (stays_within p t h even odd k sender (rows_in p t h even odd k w d).two d.counted there ∙ none)

    by_row : (b : Bool) → has_row even sender.id ≡ b → (is_correct (window p t even) sender.id ≡ true) ⊎ (is_named t sender.id ≡ true)
    by_row true e = inl (twice_so (has_row even sender.id) e)
    by_row false e = inr (named odd_is is e)

pub heard_in : (p : Values) (t : TraceView) (h : History) (even odd : Record) (k : ℕ) (node : NodeSpec) → Passes p t → AllPairsHeard p t k → IsDouble t h even odd k
    → Contains (nodes_in p even) node → IsHeardAt (round_in p t even odd) (hearer_in p t even odd node)
heard_in p t h even odd k node w pairs d among =
    let x = window p t even in
    let heard : IsHeardAt (traced_round x even odd) (hearer_of x even odd node.id) =
    heard_suffices x even odd w.sane (λ sender receiver slot link. heard_by p t h even odd k sender receiver slot w pairs d link) node (to_window p t even node among) in
    record {
      itself =
          λ index own.
          let is = heard.itself index own in
          let it = is.1.1 in
          (is.0, (is.1.0, record { sender = record { there = it.sender.there; rows = it.sender.rows; key = it.sender.key }; slot_is = it.slot_is; even = it.even; odd = it.odd }));
      placed =
          λ index slot sender odd_is channel value other is.
          heard.placed index slot sender odd_is channel value
          (record { sender = record { there = other.sender.there; rows = other.sender.rows; key = other.sender.key }; slot_is = other.slot_is; other = other.other }) is;
      heard =
          λ index slot sender other.
          heard.heard index slot sender (record { sender = record { there = other.sender.there; rows = other.sender.rows; key = other.sender.key }; slot_is = other.slot_is; other = other.other });
      only =
          λ index odd_is channel value is.
          let told = heard.only index odd_is channel value is in
          let key = told.1.2 in
          (told.0, (told.1.0, told.1.1, key, only p t h even odd k node told.1.0 told.0 odd_is channel value w d among (sender_there told.1.0 told.0 key) key (by_slot index told.0 odd_is channel value told.1.1 is)));
    }
  where
    sender_there : (sender : NodeSpec) (slot : ℕ) → key_node_in p.nodes slot ≡ Some sender → Contains p.nodes sender
    sender_there sender slot key = (found _ p.nodes sender key).1

    by_slot : (index slot : ℕ) (odd_is : Bool) (channel : Channel) (value : ℤ) → key_slot_of p index ≡ Some slot → (hearer_in p t even odd node).look index odd_is channel ≡ Some value
        → dev_in (record_in odd_is even odd).devs node.id slot channel ≡ Some value
    by_slot index slot false channel value slot_is is = sym (ap (option_and_then (λ s. dev_in even.devs node.id s channel)) slot_is) ∙ is
    by_slot index slot true channel value slot_is is = sym (ap (option_and_then (λ s. dev_in odd.devs node.id s channel)) slot_is) ∙ is
