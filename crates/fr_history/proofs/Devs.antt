-- The deviations of a cycle, part by part: what the rules list is what the nodes' rows store, slot by slot.
use Rattle.std.proofs.Common.{◌≡◌, ◌≢◌, ◌⊎◌, ℕ, ◌≤◌, ◌==◌, ℤ, Bool, true, false, Option, Some, None, IfSome, List, map, refl, ap, sym, ◌∙◌, inl, inr, arith}
use Rattle.std.specs.Prelude.{find, option_and_then}
use Rattle.std.specs.List.{filter_map, flat_map}
use Rattle.std.specs.Option.{option_map, option_to_list}
use Rattle.std.proofs.lemmas.List.Folds.{flat_map-map}
use Rattle.std.proofs.lemmas.Bool.{ne_eqb}
use Rattle.fr_base.specs.declared.channel.Channel.{Channel}
use Rattle.fr_base.specs.declared.channel.Channel.TheVariants.{A, B}
use Rattle.fr_base.specs.declared.dev.Dev.{Dev}
use Rattle.fr_base.specs.declared.node_row.NodeRow.{NodeRow}
use Rattle.fr_cluster.specs.Values.{amount}
use Rattle.fr_cluster.specs.declared.names.ParamName.TheVariants as name
use Rattle.fr_cluster.specs.declared.nodes.NodeSpec.{NodeSpec}
use Rattle.fr_reception.specs.Answers.{answer_of}
use Rattle.fr_reception.specs.Offers.{Offer}
use Rattle.fr_reception.specs.declared.heard.Heard.{Heard}
use Rattle.fr_reception.specs.declared.heard.Heard.TheVariants.{Stored, Ignored}
use Rattle.fr_cluster.specs.Setting.{Setting}
use Rattle.fr_history.specs.Offers.{channels, dev_by, dev_of, devs_between, offer_in, offers_between, offers_to, reception_of, static_slots_of, stored_in, value_of}
use Rattle.fr_base.specs.Rows.{dev_with, is_dev_of, dev_in}
use Rattle.fr_history.proofs.Flat.{Among, among_range, filter_map-flat_map, filter_map-map, filter_map-option, find_found, find_nowhere, flat_map_same}
use Rattle.fr_history.proofs.Marks.{HasMarks, offer_in-marked}

-- what a row stores in a slot on a channel, as a list of one or none
abbrev pub stored_at : Setting → ℕ → List NodeRow → NodeRow → ℕ → Channel → List Dev
stored_at x cycle rows row slot channel = option_to_list (option_map (dev_with row.node slot channel) (stored_in x cycle rows row slot channel))

-- in all slots on both channels, and what all rows store
abbrev pub stored_of : Setting → ℕ → List NodeRow → NodeRow → List Dev
stored_of x cycle rows row = flat_map (λ slot. flat_map (stored_at x cycle rows row slot) channels) (static_slots_of x)

abbrev pub stored_among : Setting → ℕ → List NodeRow → List NodeRow → List Dev
stored_among x cycle rows heard_by = flat_map (stored_of x cycle rows) heard_by

-- ---- the listed deviations are those

heard_dev : (row : NodeRow) (slot : ℕ) (channel : Channel) (offer : Offer) (heard : Heard) → HasMarks slot channel offer → dev_by row offer heard ≡ option_map (dev_with row.node slot channel) (value_of heard)
heard_dev row slot channel offer (Stored value) marks =
    ap (λ (s : ℕ). Some (dev_with row.node s offer.channel value)) marks.slot_is ∙ ap (λ (c : Channel). Some (dev_with row.node slot c value)) marks.channel_is
heard_dev row slot channel offer (Ignored why) marks = refl

offered_dev : (x : Setting) (cycle : ℕ) (row : NodeRow) (slot : ℕ) (channel : Channel) (o : Option Offer) → IfSome o (HasMarks slot channel) →
    option_and_then (λ offer. dev_of (reception_of x cycle (row, offer))) o ≡ option_map (dev_with row.node slot channel) (option_and_then (λ offer. value_of (answer_of x.params cycle row offer)) o)
offered_dev x cycle row slot channel None marks = refl
offered_dev x cycle row slot channel (Some offer) marks = heard_dev row slot channel offer (answer_of x.params cycle row offer) marks

channel_devs : (x : Setting) (cycle : ℕ) (rows : List NodeRow) (row : NodeRow) (slot : ℕ) (channel : Channel) →
    filter_map (λ offer. dev_of (reception_of x cycle (row, offer))) (option_to_list (offer_in x cycle rows row slot channel)) ≡ stored_at x cycle rows row slot channel
unfolding stored_in
channel_devs x cycle rows row slot channel =
    filter_map-option (λ offer. dev_of (reception_of x cycle (row, offer))) (offer_in x cycle rows row slot channel)
    ∙ ap option_to_list (offered_dev x cycle row slot channel (offer_in x cycle rows row slot channel) (offer_in-marked x cycle rows row slot channel))

row_devs : (x : Setting) (cycle : ℕ) (rows : List NodeRow) (row : NodeRow) → filter_map (λ offer. dev_of (reception_of x cycle (row, offer))) (offers_to x cycle rows row) ≡ stored_of x cycle rows row
row_devs x cycle rows row =
    let dev : Offer → Option Dev = λ offer. dev_of (reception_of x cycle (row, offer)) in
    let offers : ℕ → List Offer = λ slot. flat_map (λ channel. option_to_list (offer_in x cycle rows row slot channel)) channels in
    filter_map-flat_map dev offers (static_slots_of x)
    ∙ flat_map_same (λ slot. filter_map dev (offers slot)) (λ slot. flat_map (stored_at x cycle rows row slot) channels) (static_slots_of x)
    (λ slot _. filter_map-flat_map dev (λ channel. option_to_list (offer_in x cycle rows row slot channel)) channels
    ∙ flat_map_same (λ channel. filter_map dev (option_to_list (offer_in x cycle rows row slot channel))) (stored_at x cycle rows row slot) channels (λ channel _. channel_devs x cycle rows row slot channel))

pub devs_are_stored : (x : Setting) (cycle : ℕ) (rows receivers : List NodeRow) → devs_between x cycle rows receivers ≡ stored_among x cycle rows receivers
devs_are_stored x cycle rows receivers =
    let pairs : NodeRow → List (NodeRow × Offer) = λ row. map (λ offer. (row, offer)) (offers_to x cycle rows row) in
    filter_map-map dev_of (reception_of x cycle) (offers_between x cycle rows receivers)
    ∙ filter_map-flat_map (λ pair. dev_of (reception_of x cycle pair)) pairs receivers
    ∙ flat_map_same (λ row. filter_map (λ pair. dev_of (reception_of x cycle pair)) (pairs row)) (stored_of x cycle rows) receivers
    (λ row _. filter_map-map (λ pair. dev_of (reception_of x cycle pair)) (λ offer. (row, offer)) (offers_to x cycle rows row) ∙ row_devs x cycle rows row)

-- ---- one deviation is found again

not_equal : (a b : ℕ) → a ≢ b → (a == b) ≡ false
not_equal a b ne = ne_eqb a b ne

equal_test : (a : ℕ) → (a == a) ≡ true
equal_test a = grind arith

-- a deviation of these numbers is looked for and found, and one of others is not
found_dev : (receiver slot : ℕ) (channel : Channel) (value : ℤ) → is_dev_of receiver slot channel (dev_with receiver slot channel value) ≡ true
found_dev receiver slot A value = rw (equal_test receiver, equal_test slot) refl
found_dev receiver slot B value = rw (equal_test receiver, equal_test slot) refl

other_receiver : (receiver other slot s : ℕ) (channel c : Channel) (value : ℤ) → other ≢ receiver → is_dev_of receiver slot channel (dev_with other s c value) ≡ false
other_receiver receiver other slot s channel c value ne = rw (not_equal other receiver ne) refl

other_slot : (receiver slot s : ℕ) (channel c : Channel) (value : ℤ) → s ≢ slot → is_dev_of receiver slot channel (dev_with receiver s c value) ≡ false
other_slot receiver slot s channel c value ne = rw (equal_test receiver, not_equal s slot ne) refl

other_a : (receiver slot : ℕ) (value : ℤ) → is_dev_of receiver slot A (dev_with receiver slot B value) ≡ false
other_a receiver slot value = rw (equal_test receiver, equal_test slot) refl

other_b : (receiver slot : ℕ) (value : ℤ) → is_dev_of receiver slot B (dev_with receiver slot A value) ≡ false
other_b receiver slot value = rw (equal_test receiver, equal_test slot) refl

-- in a list of one or none
find_in_one : (p : Dev → Bool) (f : ℤ → Dev) (o : Option ℤ) → ((value : ℤ) → p (f value) ≡ true) → find p (option_to_list (option_map f o)) ≡ option_map f o
find_in_one p f None passes = refl
find_in_one p f (Some value) passes = rw (passes value) refl

find_in_none : (p : Dev → Bool) (f : ℤ → Dev) (o : Option ℤ) → ((value : ℤ) → p (f value) ≡ false) → find p (option_to_list (option_map f o)) ≡ None
find_in_none p f None fails = refl
find_in_none p f (Some value) fails = rw (fails value) refl

a_is_channel : Among A channels
unfolding Among
a_is_channel = inl refl

b_is_channel : Among B channels
unfolding Among
b_is_channel = inr (inl refl)

wanted : Setting → ℕ → List NodeRow → NodeRow → ℕ → Channel → Option Dev
wanted x cycle rows row slot channel = option_map (dev_with row.node slot channel) (stored_in x cycle rows row slot channel)

find_in_slot : (x : Setting) (cycle : ℕ) (rows : List NodeRow) (row : NodeRow) (slot : ℕ) (channel : Channel) → find (is_dev_of row.node slot channel) (flat_map (stored_at x cycle rows row slot) channels) ≡ wanted x cycle rows row slot channel
unfolding wanted
find_in_slot x cycle rows row slot A =
    find_found (is_dev_of row.node slot A) (stored_at x cycle rows row slot) (option_map (dev_with row.node slot A) (stored_in x cycle rows row slot A)) channels A a_is_channel here each
  where
    here : find (is_dev_of row.node slot A) (stored_at x cycle rows row slot A) ≡ option_map (dev_with row.node slot A) (stored_in x cycle rows row slot A)
    here = find_in_one (is_dev_of row.node slot A) (dev_with row.node slot A) (stored_in x cycle rows row slot A) (found_dev row.node slot A)

    each : (c : Channel) → Among c channels → (find (is_dev_of row.node slot A) (stored_at x cycle rows row slot c) ≡ None) ⊎ (find (is_dev_of row.node slot A) (stored_at x cycle rows row slot c) ≡ option_map (dev_with row.node slot A) (stored_in x cycle rows row slot A))
    each A is = inr (find_in_one (is_dev_of row.node slot A) (dev_with row.node slot A) (stored_in x cycle rows row slot A) (found_dev row.node slot A))
    each B is = inl (find_in_none (is_dev_of row.node slot A) (dev_with row.node slot B) (stored_in x cycle rows row slot B) (other_a row.node slot))
find_in_slot x cycle rows row slot B =
    find_found (is_dev_of row.node slot B) (stored_at x cycle rows row slot) (option_map (dev_with row.node slot B) (stored_in x cycle rows row slot B)) channels B b_is_channel here each
  where
    here : find (is_dev_of row.node slot B) (stored_at x cycle rows row slot B) ≡ option_map (dev_with row.node slot B) (stored_in x cycle rows row slot B)
    here = find_in_one (is_dev_of row.node slot B) (dev_with row.node slot B) (stored_in x cycle rows row slot B) (found_dev row.node slot B)

    each : (c : Channel) → Among c channels → (find (is_dev_of row.node slot B) (stored_at x cycle rows row slot c) ≡ None) ⊎ (find (is_dev_of row.node slot B) (stored_at x cycle rows row slot c) ≡ option_map (dev_with row.node slot B) (stored_in x cycle rows row slot B))
    each A is = inl (find_in_none (is_dev_of row.node slot B) (dev_with row.node slot A) (stored_in x cycle rows row slot A) (other_b row.node slot))
    each B is = inr (find_in_one (is_dev_of row.node slot B) (dev_with row.node slot B) (stored_in x cycle rows row slot B) (found_dev row.node slot B))

find_elsewhere : (x : Setting) (cycle : ℕ) (rows : List NodeRow) (row : NodeRow) (slot s : ℕ) (channel : Channel) → s ≢ slot → find (is_dev_of row.node slot channel) (flat_map (stored_at x cycle rows row s) channels) ≡ None
find_elsewhere x cycle rows row slot s channel ne =
    find_nowhere (is_dev_of row.node slot channel) (stored_at x cycle rows row s) channels
    (λ c. find_in_none (is_dev_of row.node slot channel) (dev_with row.node s c) (stored_in x cycle rows row s c) (λ value. other_slot row.node slot s channel c value ne))

find_in_row : (x : Setting) (cycle : ℕ) (rows : List NodeRow) (row : NodeRow) (slot : ℕ) (channel : Channel) → 1 ≤ slot → slot ≤ amount x.params name.gNumberOfStaticSlots →
    find (is_dev_of row.node slot channel) (stored_of x cycle rows row) ≡ wanted x cycle rows row slot channel
find_in_row x cycle rows row slot channel low high =
    find_found (is_dev_of row.node slot channel) (λ s. flat_map (stored_at x cycle rows row s) channels) (wanted x cycle rows row slot channel) (static_slots_of x) slot
    (among_range 1 (amount x.params name.gNumberOfStaticSlots) slot low (omega arith)) (find_in_slot x cycle rows row slot channel) (λ s _. by_place s (grind arith))
  where
    by_place : (s : ℕ) → (s ≡ slot) ⊎ (s ≢ slot) → (find (is_dev_of row.node slot channel) (flat_map (stored_at x cycle rows row s) channels) ≡ None) ⊎ (find (is_dev_of row.node slot channel) (flat_map (stored_at x cycle rows row s) channels) ≡ wanted x cycle rows row slot channel)
    by_place s (inl same) = inr (ap (λ (k : ℕ). find (is_dev_of row.node slot channel) (flat_map (stored_at x cycle rows row k) channels)) same ∙ find_in_slot x cycle rows row slot channel)
    by_place s (inr ne) = inl (find_elsewhere x cycle rows row slot s channel ne)

find_in_other : (x : Setting) (cycle : ℕ) (rows : List NodeRow) (row : NodeRow) (receiver slot : ℕ) (channel : Channel) → row.node ≢ receiver → find (is_dev_of receiver slot channel) (stored_of x cycle rows row) ≡ None
find_in_other x cycle rows row receiver slot channel ne =
    find_nowhere (is_dev_of receiver slot channel) (λ s. flat_map (stored_at x cycle rows row s) channels) (static_slots_of x)
    (λ s. find_nowhere (is_dev_of receiver slot channel) (stored_at x cycle rows row s) channels
    (λ c. find_in_none (is_dev_of receiver slot channel) (dev_with row.node s c) (stored_in x cycle rows row s c) (λ value. other_receiver receiver row.node slot s channel c value ne)))

-- the value of a wanted deviation
wanted_value : (receiver slot : ℕ) (channel : Channel) (o : Option ℤ) → option_map (λ (dev : Dev). dev.value) (option_map (dev_with receiver slot channel) o) ≡ o
wanted_value receiver slot channel None = refl
wanted_value receiver slot channel (Some value) = refl

-- the deviation of one of the receivers, a slot and a channel is what its row stores
pub dev_in-between : (x : Setting) (cycle : ℕ) (rows : List NodeRow) (row_at : ℕ → NodeRow) (nodes : List NodeSpec) (node : NodeSpec) (slot : ℕ) (channel : Channel)
    → ((spec : NodeSpec) → Among spec nodes → (row_at spec.id).node ≡ spec.id) → Among node nodes → 1 ≤ slot → slot ≤ amount x.params name.gNumberOfStaticSlots
    → dev_in (devs_between x cycle rows (map (λ (spec : NodeSpec). row_at spec.id) nodes)) node.id slot channel ≡ stored_in x cycle rows (row_at node.id) slot channel
unfolding wanted
dev_in-between x cycle rows row_at nodes node slot channel own is low high =
    let row : NodeRow = row_at node.id in
    let t : Option Dev = wanted x cycle rows row slot channel in
    let p : Dev → Bool = is_dev_of row.node slot channel in
    let part : NodeSpec → List Dev = λ spec. stored_of x cycle rows (row_at spec.id) in
    let devs : List Dev = devs_between x cycle rows (map (λ (spec : NodeSpec). row_at spec.id) nodes) in
    let parts : devs ≡ flat_map part nodes =
    devs_are_stored x cycle rows (map (λ (spec : NodeSpec). row_at spec.id) nodes) ∙ flat_map-map (stored_of x cycle rows) (λ (spec : NodeSpec). row_at spec.id) nodes in
    let found : find p (flat_map part nodes) ≡ t =
    find_found p part t nodes node is (find_in_row x cycle rows row slot channel low high) (λ spec there. by_id spec there (grind arith)) in
    ap (λ (id : ℕ). dev_in devs id slot channel) (sym (own node is))
    ∙ ap (λ (listed : List Dev). option_map (λ (dev : Dev). dev.value) (find p listed)) parts
    ∙ ap (option_map (λ (dev : Dev). dev.value)) found
    ∙ wanted_value row.node slot channel (stored_in x cycle rows row slot channel)
  where
    by_id : (spec : NodeSpec) → Among spec nodes → (spec.id ≡ node.id) ⊎ (spec.id ≢ node.id) →
        (find (is_dev_of (row_at node.id).node slot channel) (stored_of x cycle rows (row_at spec.id)) ≡ None)
        ⊎ (find (is_dev_of (row_at node.id).node slot channel) (stored_of x cycle rows (row_at spec.id)) ≡ wanted x cycle rows (row_at node.id) slot channel)
    by_id spec there (inl same) = inr (ap (λ (id : ℕ). find (is_dev_of (row_at node.id).node slot channel) (stored_of x cycle rows (row_at id))) same ∙ find_in_row x cycle rows (row_at node.id) slot channel low high)
    by_id spec there (inr ne) =
        inl (find_in_other x cycle rows (row_at spec.id) (row_at node.id).node slot channel (λ same. ne (sym (own spec there) ∙ same ∙ own node is)))

-- none is found of a receiver whose rows store nothing there
pub dev_in-unstored : (x : Setting) (cycle : ℕ) (rows receivers : List NodeRow) (receiver slot : ℕ) (channel : Channel) → ((row : NodeRow) → row.node ≡ receiver → stored_in x cycle rows row slot channel ≡ None)
    → dev_in (devs_between x cycle rows receivers) receiver slot channel ≡ None
unfolding wanted
dev_in-unstored x cycle rows receivers receiver slot channel none =
    ap (λ (listed : List Dev). option_map (λ (dev : Dev). dev.value) (find (is_dev_of receiver slot channel) listed)) (devs_are_stored x cycle rows receivers)
    ∙ ap (option_map (λ (dev : Dev). dev.value)) (find_nowhere (is_dev_of receiver slot channel) (stored_of x cycle rows) receivers (λ row. by_receiver row (grind arith)))
  where
    by_slot : (row : NodeRow) → row.node ≡ receiver → (s : ℕ) → (s ≡ slot) ⊎ (s ≢ slot) → find (is_dev_of row.node slot channel) (flat_map (stored_at x cycle rows row s) channels) ≡ None
    by_slot row own s (inl same) =
        ap (λ (k : ℕ). find (is_dev_of row.node slot channel) (flat_map (stored_at x cycle rows row k) channels)) same
        ∙ find_in_slot x cycle rows row slot channel
        ∙ ap (option_map (dev_with row.node slot channel)) (none row own)
    by_slot row own s (inr ne) = find_elsewhere x cycle rows row slot s channel ne

    by_receiver : (row : NodeRow) → (row.node ≡ receiver) ⊎ (row.node ≢ receiver) → find (is_dev_of receiver slot channel) (stored_of x cycle rows row) ≡ None
    by_receiver row (inl own) =
        ap (λ (node : ℕ). find (is_dev_of node slot channel) (stored_of x cycle rows row)) (sym own)
        ∙ find_nowhere (is_dev_of row.node slot channel) (λ s. flat_map (stored_at x cycle rows row s) channels) (static_slots_of x) (λ s. by_slot row own s (grind arith))
    by_receiver row (inr ne) = find_in_other x cycle rows row receiver slot channel ne
