-- What the tables of the nodes list after the slots of a cycle are the deviations that the next cycle tells.
use Rattle.std.proofs.Common.{◌≡◌, ℕ, ◌≤◌, ◌<◌, ◌+◌, ◌==◌, ℤ, Bool, true, false, not, ◌||◌, Option, Some, None, IfSome, List, [], ◌∷◌, map, length, refl, ap, sym, subst, ◌∙◌, arith, if◌then◌else◌}
use Rattle.std.specs.Prelude.{int_le, int_lt, is_none, is_some, option_and_then, Result, Ok, Err}
use Rattle.std.specs.List.{flat_map}
use Rattle.std.specs.Option.{option_map, option_to_list}
use Rattle.std.proofs.lemmas.List.Folds.{flat_map-map}
use Rattle.fr_base.specs.declared.channel.Channel.{Channel}
use Rattle.fr_base.specs.declared.dev.Dev.{Dev}
use Rattle.fr_base.specs.declared.node_row.NodeRow.{NodeRow}
use Rattle.fr_frame.specs.Reading.{read_as}
use Rattle.fr_frame.specs.declared.fault.FrameFault.{FrameFault}
use Rattle.fr_frame.specs.declared.header.Header.{Header}
use Rattle.fr_cluster.specs.Questions.{key_index_of}
use Rattle.fr_cluster.specs.Values.{Values, amount}
use Rattle.fr_cluster.specs.declared.names.ParamName.TheVariants as name
use Rattle.fr_cluster.specs.declared.nodes.NodeSpec.{NodeSpec}
use Rattle.fr_time.specs.Cycles.{cycle_count, is_odd}
use Rattle.fr_measure.specs.Readings.{Readings, no_readings, reading}
use Rattle.fr_node.specs.View.{NodeView}
use Rattle.fr_cluster.proofs.KeyIndexes.{index-lt}
use Rattle.fr_reception.specs.Answers.{answer_by, answer_of}
use Rattle.fr_reception.specs.Offers.{Offer, deviation_of}
use Rattle.fr_time.specs.Instant.{slot_begins, slot_ends}
use Rattle.fr_reception.specs.declared.heard.Heard.{Heard}
use Rattle.fr_reception.specs.declared.heard.Heard.TheVariants.{Stored, Ignored}
use Rattle.fr_reception.specs.declared.heard.Ignored.TheVariants as reason
use Rattle.fr_cluster.specs.Setting.{Setting}
use Rattle.fr_history.specs.Offers.{channels, offer_in, static_slots_of, stored_in, value_of}
use Rattle.fr_history.specs.Cycles.{Cycles}
use Rattle.fr_history.specs.Next.{early_row, early_rows, early_told, next_cycle}
use Rattle.fr_history.specs.Standing.{row_nodes}
use Rattle.fr_air.specs.Nodes.{all_devs_after, readings_after}
use Rattle.fr_base.specs.Rows.{dev_with}
use Rattle.fr_air.specs.Listing.{listed_among, listed_at, listed_of, ordered_keys}
use Rattle.fr_air.proofs.Columns.{empty_reading, empty-table, no_odd_reading, one_to_one, recorded-table}
use Rattle.fr_history.proofs.Devs.{devs_are_stored, stored_at, stored_of}
use Rattle.fr_history.proofs.Flat.{Among, flat_map-filter, flat_map_same, range_from, range_to}
use Rattle.fr_history.proofs.Marks.{HasMarks, offer_in-marked}
use Rattle.fr_air.proofs.Members.{IsRun}
use Rattle.fr_air.proofs.Step.{begun_odd, begun_table, heard_node, next_table}
use Rattle.fr_air.proofs.Store.{IsTable}
use Rattle.fr_air.proofs.Table.{used_reading}

-- ---- nothing is stored in a slot that is no key slot

if-none : (c : Bool) (a b : Heard) → value_of a ≡ None → value_of b ≡ None → value_of (if c then a else b) ≡ None
if-none true a b first second = first
if-none false a b first second = second

always_plain : (c : Bool) (value : ℤ) → value_of (if c || true then Ignored reason.Plain else Stored value) ≡ None
always_plain true value = refl
always_plain false value = refl

plain_by : (p : Values) (row : NodeRow) (offer : Offer) (sync : Bool) (at : Option ℕ) → at ≡ None → value_of (if not sync || is_none at then Ignored reason.Plain else Stored (deviation_of p row offer)) ≡ None
plain_by p row offer sync at none = ap (λ (k : Option ℕ). value_of (if not sync || is_none k then Ignored reason.Plain else Stored (deviation_of p row offer))) none ∙ always_plain (not sync) (deviation_of p row offer)

unkeyed_by : (p : Values) (cycle : ℕ) (row : NodeRow) (offer : Offer) (r : Result Header FrameFault) → key_index_of p offer.slot ≡ None → value_of (answer_by p cycle row offer r) ≡ None
unkeyed_by p cycle row offer (Err fault) none = refl
unkeyed_by p cycle row offer (Ok header) none =
    let last : Heard = if not header.sync || is_none (key_index_of p offer.slot) then Ignored reason.Plain else Stored (deviation_of p row offer) in
    let words : ℕ = amount p name.gPayloadLengthStatic in
    let third : Heard = if not (header.words == words) then Ignored (reason.WrongLength words header.words) else last in
    let second : Heard = if not (header.cycle == cycle_count cycle) then Ignored (reason.WrongCycle (cycle_count cycle) header.cycle) else third in
    if-none (not (header.id == offer.slot)) (Ignored (reason.WrongId offer.slot header.id)) second refl
    (if-none (not (header.cycle == cycle_count cycle)) (Ignored (reason.WrongCycle (cycle_count cycle) header.cycle)) third refl
    (if-none (not (header.words == words)) (Ignored (reason.WrongLength words header.words)) last refl
    (plain_by p row offer header.sync (key_index_of p offer.slot) none)))

unkeyed_answer : (p : Values) (cycle : ℕ) (row : NodeRow) (offer : Offer) → key_index_of p offer.slot ≡ None → value_of (answer_of p cycle row offer) ≡ None
unfolding answer_of
unkeyed_answer p cycle row offer none =
    if-none (int_lt offer.arrival (slot_begins p row offer.slot) || int_le (slot_ends p row offer.slot) offer.arrival)
    (Ignored (reason.Outside offer.arrival (slot_begins p row offer.slot) (slot_ends p row offer.slot))) (answer_by p cycle row offer (read_as offer.channel offer.bytes)) refl
    (unkeyed_by p cycle row offer (read_as offer.channel offer.bytes) none)

unkeyed_offer : (p : Values) (cycle : ℕ) (row : NodeRow) (slot : ℕ) (channel : Channel) (o : Option Offer) → IfSome o (HasMarks slot channel) → key_index_of p slot ≡ None → option_and_then (λ offer. value_of (answer_of p cycle row offer)) o ≡ None
unkeyed_offer p cycle row slot channel None marks none = refl
unkeyed_offer p cycle row slot channel (Some offer) marks none = unkeyed_answer p cycle row offer (ap (key_index_of p) marks.slot_is ∙ none)

stored_in-unkeyed : (x : Setting) (cycle : ℕ) (rows : List NodeRow) (row : NodeRow) (slot : ℕ) (channel : Channel) → key_index_of x.params slot ≡ None → stored_in x cycle rows row slot channel ≡ None
unfolding stored_in
stored_in-unkeyed x cycle rows row slot channel none = unkeyed_offer x.params cycle row slot channel (offer_in x cycle rows row slot channel) (offer_in-marked x cycle rows row slot channel) none

-- ---- what a node has heard in a slot

begun_none : (x : Setting) (h : Cycles) → IsRun x h → (node : NodeSpec) → Among node (row_nodes x h) → (index : ℕ) (c : Channel) (odd : Bool) → is_odd (length h) ≡ odd
    → reading (begun_table x h node.id) index odd c ≡ None
begun_none x h run node is index c true odd =
    ap (λ (b : Bool). reading (if b then readings_after x h node.id else no_readings) index true c) odd
    ∙ ap (λ (t : Readings). reading t index true c) (begun_odd x h run.lawful.1 false node is odd) ∙ no_odd_reading x.params (all_devs_after h) node.id index c
begun_none x h run node is index c false odd = ap (λ (b : Bool). reading (if b then readings_after x h node.id else no_readings) index false c) odd ∙ empty_reading index false c

begun-table : (x : Setting) (h : Cycles) → IsRun x h → (node : NodeSpec) → Among node (row_nodes x h) → (odd : Bool) → is_odd (length h) ≡ odd → IsTable (begun_table x h node.id)
begun-table x h run node is true odd =
    let P : Readings → Type 0 = λ t. IsTable t in
    subst P (sym (ap (λ (b : Bool). let t : Readings = if b then readings_after x h node.id else no_readings in t) odd ∙ begun_odd x h run.lawful.1 false node is odd)) (recorded-table x.params (all_devs_after h) [] node.id)
begun-table x h run node is false odd =
    let P : Readings → Type 0 = λ t. IsTable t in
    subst P (sym (ap (λ (b : Bool). let t : Readings = if b then readings_after x h node.id else no_readings in t) odd)) empty-table

-- the reading of a slot, by its key index
slot_reading : (x : Setting) (h : Cycles) → IsRun x h → (node : NodeSpec) → Among node (row_nodes x h) → (slot : ℕ) (c : Channel) → 1 ≤ slot → slot ≤ amount x.params name.gNumberOfStaticSlots → (k : Option ℕ) → key_index_of x.params slot ≡ k →
    option_and_then (λ index. reading (readings_after x (next_cycle x h ∷ h) node.id) index (is_odd (length h)) c) k ≡ stored_in x (length h) (early_rows x h) (early_row x h node.id) slot c
slot_reading x h run node is slot c low high None key = sym (stored_in-unkeyed x (length h) (early_rows x h) (early_row x h node.id) slot c key)
slot_reading x h run node is slot c low high (Some index) key =
    ap (λ (t : Readings). reading t index (is_odd (length h)) c) (sym (next_table x h run false node is))
    ∙ used_reading x (one_to_one x.params) (length h) (early_rows x h) (early_row x h node.id) (is_odd (length h)) (begun_table x h node.id) (begun-table x h run node is (is_odd (length h)) refl) index slot c
    (index-lt x.params slot index run.sane key) key (begun_none x h run node is index c (is_odd (length h)) refl) (amount x.params name.gNumberOfStaticSlots) low high

listed_is_stored : (x : Setting) (h : Cycles) → IsRun x h → (node : NodeSpec) → Among node (row_nodes x h) → (slot : ℕ) (c : Channel) → 1 ≤ slot → slot ≤ amount x.params name.gNumberOfStaticSlots →
    listed_at x.params (is_odd (length h)) (heard_node x h false node.id) slot c ≡ stored_at x (length h) (early_rows x h) (early_row x h node.id) slot c
unfolding early_row
listed_is_stored x h run node is slot c low high =
    ap (λ (o : Option ℤ). option_to_list (option_map (dev_with node.id slot c) o)) (slot_reading x h run node is slot c low high (key_index_of x.params slot) refl)

-- a slot that is no key slot lists nothing
empty_slot : (p : Values) (odd : Bool) (node : NodeView) (slot : ℕ) → is_some (key_index_of p slot) ≡ false → flat_map (listed_at p odd node slot) channels ≡ []
empty_slot p odd node slot none = by_key (key_index_of p slot) none
  where
    at : Option ℕ → Channel → List Dev
    at k c = option_to_list (option_map (dev_with node.id slot c) (option_and_then (λ index. reading node.table index odd c) k))

    by_key : (k : Option ℕ) → is_some k ≡ false →
        flat_map (λ c. option_to_list (option_map (dev_with node.id slot c) (option_and_then (λ index. reading node.table index odd c) k))) channels ≡ []
    by_key None is = refl
    by_key (Some index) is = absurd (cc)

node_lists : (x : Setting) (h : Cycles) → IsRun x h → (node : NodeSpec) → Among node (row_nodes x h) →
    listed_of x.params (is_odd (length h)) (ordered_keys x.params) (heard_node x h false node.id) ≡ stored_of x (length h) (early_rows x h) (early_row x h node.id)
node_lists x h run node is =
    let heard : NodeView = heard_node x h false node.id in
    flat_map-filter (λ slot. flat_map (listed_at x.params (is_odd (length h)) heard slot) channels) (λ slot. is_some (key_index_of x.params slot)) (static_slots_of x)
    (λ slot none. empty_slot x.params (is_odd (length h)) heard slot none)
    ∙ flat_map_same (λ slot. flat_map (listed_at x.params (is_odd (length h)) heard slot) channels)
    (λ slot. flat_map (stored_at x (length h) (early_rows x h) (early_row x h node.id) slot) channels) (static_slots_of x)
    (λ slot there.
    let low : 1 ≤ slot = range_from 1 (amount x.params name.gNumberOfStaticSlots) slot there in
    let high : slot < 1 + amount x.params name.gNumberOfStaticSlots = range_to 1 (amount x.params name.gNumberOfStaticSlots) slot there in
    flat_map_same (listed_at x.params (is_odd (length h)) heard slot) (stored_at x (length h) (early_rows x h) (early_row x h node.id) slot) channels
    (λ c _. listed_is_stored x h run node is slot c low (omega arith)))

-- the deviations that the nodes list are those that the next cycle tells
pub all_listed : (x : Setting) (h : Cycles) → IsRun x h
    → listed_among x.params (is_odd (length h)) (ordered_keys x.params) (map (λ node. heard_node x h false node.id) (row_nodes x h)) ≡ (next_cycle x h).told.devs
unfolding next_cycle early_told
all_listed x h run =
    flat_map-map (listed_of x.params (is_odd (length h)) (ordered_keys x.params)) (λ (node : NodeSpec). heard_node x h false node.id) (row_nodes x h)
    ∙ flat_map_same (λ node. listed_of x.params (is_odd (length h)) (ordered_keys x.params) (heard_node x h false node.id)) (λ node. stored_of x (length h) (early_rows x h) (early_row x h node.id)) (row_nodes x h) (λ node is. node_lists x h run node is)
    ∙ sym (flat_map-map (stored_of x (length h) (early_rows x h)) (λ (node : NodeSpec). early_row x h node.id) (row_nodes x h))
    ∙ sym (devs_are_stored x (length h) (early_rows x h) (early_rows x h))
