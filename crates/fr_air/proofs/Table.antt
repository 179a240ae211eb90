-- The table of a node after the slots of a cycle.
use Rattle.std.proofs.Common.{◌≡◌, ◌≢◌, ℕ, zero, suc, ◌<◌, ◌≤◌, ℤ, Bool, true, false, not, ◌⊎◌, inl, inr, Option, Some, None, IfSome, List, refl, ap, sym, ◌∙◌, subst, arith}
use Rattle.std.specs.Prelude.{option_and_then}
use Rattle.std.specs.Option.{option_or}
use Rattle.fr_base.specs.declared.channel.Channel.{Channel}
use Rattle.fr_base.specs.declared.channel.Channel.TheVariants.{A, B}
use Rattle.fr_base.specs.declared.node_row.NodeRow.{NodeRow}
use Rattle.fr_cluster.specs.Values.{Values}
use Rattle.fr_cluster.specs.Questions.{key_index_of}
use Rattle.fr_time.specs.Cycles.{is_odd}
use Rattle.fr_measure.specs.Readings.{Readings, column, reading, stored}
use Rattle.fr_reception.specs.Answers.{answer_of}
use Rattle.fr_reception.specs.Offers.{Offer}
use Rattle.fr_reception.specs.declared.heard.Heard.{Heard}
use Rattle.fr_reception.specs.declared.heard.Heard.TheVariants.{Stored, Ignored}
use Rattle.fr_node.specs.Cycle.{after_hearing, with_deviation}
use Rattle.fr_node.specs.View.{NodeView, node_row_of}
use Rattle.fr_cluster.specs.Setting.{Setting}
use Rattle.fr_history.specs.Offers.{offer_in, stored_in, value_of}
use Rattle.fr_air.specs.Hearing.{after_channel, after_offer, after_slot, after_slots}
use Rattle.fr_history.proofs.Marks.{HasMarks, offer_in-marked}
use Rattle.fr_air.proofs.Store.{IsTable, stored-table, stored_even, stored_here, stored_index, stored_odd, stored_on_a, stored_on_b}
use Rattle.fr_air.specs.Walk.{after_both_channels, over_slots}

-- a node with the deviation of a slot on a channel, if there is one
abbrev with_value : Values → NodeView → ℕ → Channel → Option ℤ → NodeView
with_value p node slot channel None = node
with_value p node slot channel (Some value) = with_deviation node (key_index_of p slot) channel value

hearing_value : (p : Values) (node : NodeView) (slot : ℕ) (channel : Channel) (heard : Heard) → after_hearing p node slot channel heard ≡ with_value p node slot channel (value_of heard)
hearing_value p node slot channel (Stored value) = refl
hearing_value p node slot channel (Ignored why) = refl

offer_value : (x : Setting) (cycle : ℕ) (node : NodeView) (slot : ℕ) (channel : Channel) (o : Option Offer) → IfSome o (HasMarks slot channel) →
    after_offer x cycle node o ≡ with_value x.params node slot channel (option_and_then (λ offer. value_of (answer_of x.params cycle (node_row_of node) offer)) o)
offer_value x cycle node slot channel None marks = refl
offer_value x cycle node slot channel (Some offer) marks =
    let heard : Heard = answer_of x.params cycle (node_row_of node) offer in
    ap (λ (s : ℕ). after_hearing x.params node s offer.channel heard) marks.slot_is
    ∙ ap (λ (c : Channel). after_hearing x.params node slot c heard) marks.channel_is
    ∙ hearing_value x.params node slot channel heard

channel_value : (x : Setting) (cycle : ℕ) (rows : List NodeRow) (slot : ℕ) (channel : Channel) (node : NodeView) →
    after_channel x cycle rows slot channel node ≡ with_value x.params node slot channel (stored_in x cycle rows (node_row_of node) slot channel)
unfolding stored_in
channel_value x cycle rows slot channel node =
    offer_value x cycle node slot channel (offer_in x cycle rows (node_row_of node) slot channel) (offer_in-marked x cycle rows (node_row_of node) slot channel)

-- ---- one value

-- a node that differs from another in its table alone
abbrev with_table : NodeView → Readings → NodeView
with_table node table = record node { table = table }

deviation_table : (node : NodeView) (index : Option ℕ) (channel : Channel) (value : ℤ) → with_deviation node index channel value ≡ with_table node (with_deviation node index channel value).table
deviation_table node None channel value = refl
deviation_table node (Some index) channel value = refl

value_table : (p : Values) (node : NodeView) (slot : ℕ) (channel : Channel) (o : Option ℤ) → with_value p node slot channel o ≡ with_table node (with_value p node slot channel o).table
value_table p node slot channel None = refl
value_table p node slot channel (Some value) = deviation_table node (key_index_of p slot) channel value

-- what a value makes of a table
abbrev table_with : Option ℕ → Bool → Channel → Option ℤ → Readings → Readings
table_with index odd channel None t = t
table_with None odd channel (Some value) t = t
table_with (Some index) odd channel (Some value) t = stored t index odd channel value

value_in_table : (p : Values) (node : NodeView) (slot : ℕ) (channel : Channel) (o : Option ℤ) → (with_value p node slot channel o).table ≡ table_with (key_index_of p slot) (is_odd node.cycle) channel o node.table
value_in_table p node slot channel None = none (key_index_of p slot)
  where
    none : (k : Option ℕ) → node.table ≡ table_with k (is_odd node.cycle) channel None node.table
    none None = refl
    none (Some k) = refl
value_in_table p node slot channel (Some value) = some (key_index_of p slot)
  where
    some : (k : Option ℕ) → (with_deviation node k channel value).table ≡ table_with k (is_odd node.cycle) channel (Some value) node.table
    some None = refl
    some (Some k) = refl

table_with-table : (k : Option ℕ) (odd : Bool) (channel : Channel) (o : Option ℤ) (t : Readings) → IsTable t → IsTable (table_with k odd channel o t)
table_with-table k odd channel None t is = is
table_with-table None odd channel (Some value) t is = is
table_with-table (Some k) odd channel (Some value) t is = stored-table t k odd channel value is

table_with-here : (k : ℕ) (odd : Bool) (channel : Channel) (o : Option ℤ) (t : Readings) → IsTable t → k < 15 → reading (table_with (Some k) odd channel o t) k odd channel ≡ option_or o (reading t k odd channel)
table_with-here k odd channel None t is below = refl
table_with-here k odd channel (Some value) t is below = stored_here t k odd channel value is below

table_with-other : (k : Option ℕ) (index : ℕ) (odd : Bool) (channel : Channel) (o : Option ℤ) (t : Readings) (p : Bool) (c : Channel) → k ≢ Some index → reading (table_with k odd channel o t) index p c ≡ reading t index p c
table_with-other k index odd channel None t p c ne = refl
table_with-other None index odd channel (Some value) t p c ne = refl
table_with-other (Some k) index odd channel (Some value) t p c ne = stored_index t k index odd p channel c value (λ (same : index ≡ k). ne (ap Some (sym same)))

table_with-on_a : (k : Option ℕ) (index : ℕ) (odd : Bool) (o : Option ℤ) (t : Readings) → reading (table_with k odd A o t) index odd B ≡ reading t index odd B
table_with-on_a k index odd None t = refl
table_with-on_a None index odd (Some value) t = refl
table_with-on_a (Some k) index odd (Some value) t = stored_on_a t k index odd value

table_with-on_b : (k : Option ℕ) (index : ℕ) (odd : Bool) (o : Option ℤ) (t : Readings) → reading (table_with k odd B o t) index odd A ≡ reading t index odd A
table_with-on_b k index odd None t = refl
table_with-on_b None index odd (Some value) t = refl
table_with-on_b (Some k) index odd (Some value) t = stored_on_b t k index odd value

-- ---- a slot, and the slots of a cycle

-- what a slot on a channel makes of a table
abbrev table_on : Setting → ℕ → List NodeRow → NodeRow → Bool → ℕ → Channel → Readings → Readings
table_on x cycle rows row odd slot channel t = table_with (key_index_of x.params slot) odd channel (stored_in x cycle rows row slot channel) t

-- a slot on both channels
abbrev slot_table : Setting → ℕ → List NodeRow → NodeRow → Bool → ℕ → Readings → Readings
slot_table x cycle rows row odd slot t = after_both_channels (table_on x cycle rows row odd) slot t

-- and so many slots
abbrev pub table_after : Setting → ℕ → List NodeRow → NodeRow → Bool → ℕ → Readings → Readings
table_after x cycle rows row odd count t = over_slots (table_on x cycle rows row odd) count t

channel_with_table : (x : Setting) (cycle : ℕ) (rows : List NodeRow) (slot : ℕ) (channel : Channel) (node : NodeView) (t : Readings) →
    after_channel x cycle rows slot channel (with_table node t) ≡ with_table node (table_with (key_index_of x.params slot) (is_odd node.cycle) channel (stored_in x cycle rows (node_row_of node) slot channel) t)
channel_with_table x cycle rows slot channel node t =
    let o : Option ℤ = stored_in x cycle rows (node_row_of node) slot channel in
    channel_value x cycle rows slot channel (with_table node t)
    ∙ value_table x.params (with_table node t) slot channel o
    ∙ ap (with_table node) (value_in_table x.params (with_table node t) slot channel o)

slot_with_table : (x : Setting) (cycle : ℕ) (rows : List NodeRow) (slot : ℕ) (node : NodeView) (t : Readings) →
    after_slot x cycle rows slot (with_table node t) ≡ with_table node (slot_table x cycle rows (node_row_of node) (is_odd node.cycle) slot t)
slot_with_table x cycle rows slot node t =
    ap (after_channel x cycle rows slot B) (channel_with_table x cycle rows slot A node t)
    ∙ channel_with_table x cycle rows slot B node (table_with (key_index_of x.params slot) (is_odd node.cycle) A (stored_in x cycle rows (node_row_of node) slot A) t)

pub slots_with_table : (x : Setting) (cycle : ℕ) (rows : List NodeRow) (node : NodeView) (count : ℕ) →
    after_slots x cycle rows count node ≡ with_table node (table_after x cycle rows (node_row_of node) (is_odd node.cycle) count node.table)
unfolding over_slots
slots_with_table x cycle rows node zero = refl
slots_with_table x cycle rows node (suc earlier) =
    ap (after_slot x cycle rows (suc earlier)) (slots_with_table x cycle rows node earlier)
    ∙ slot_with_table x cycle rows (suc earlier) node (table_after x cycle rows (node_row_of node) (is_odd node.cycle) earlier node.table)

slot_table-table : (x : Setting) (cycle : ℕ) (rows : List NodeRow) (row : NodeRow) (odd : Bool) (slot : ℕ) (t : Readings) → IsTable t → IsTable (slot_table x cycle rows row odd slot t)
slot_table-table x cycle rows row odd slot t is =
    table_with-table (key_index_of x.params slot) odd B (stored_in x cycle rows row slot B) (table_with (key_index_of x.params slot) odd A (stored_in x cycle rows row slot A) t)
    (table_with-table (key_index_of x.params slot) odd A (stored_in x cycle rows row slot A) t is)

pub table_after-table : (x : Setting) (cycle : ℕ) (rows : List NodeRow) (row : NodeRow) (odd : Bool) (count : ℕ) (t : Readings) → IsTable t → IsTable (table_after x cycle rows row odd count t)
unfolding over_slots
table_after-table x cycle rows row odd zero t is = is
table_after-table x cycle rows row odd (suc earlier) t is = slot_table-table x cycle rows row odd (suc earlier) (table_after x cycle rows row odd earlier t) (table_after-table x cycle rows row odd earlier t is)

-- a slot of another key index, or of none, leaves the reading
slot_other : (x : Setting) (cycle : ℕ) (rows : List NodeRow) (row : NodeRow) (odd : Bool) (slot : ℕ) (t : Readings) (index : ℕ) (p : Bool) (c : Channel) →
    key_index_of x.params slot ≢ Some index → reading (slot_table x cycle rows row odd slot t) index p c ≡ reading t index p c
slot_other x cycle rows row odd slot t index p c ne =
    let k : Option ℕ = key_index_of x.params slot in
    let first : Readings = table_with k odd A (stored_in x cycle rows row slot A) t in
    table_with-other k index odd B (stored_in x cycle rows row slot B) first p c ne ∙ table_with-other k index odd A (stored_in x cycle rows row slot A) t p c ne

-- its own slot puts in what is stored on each channel
slot_here_a : (k : Option ℕ) (index : ℕ) (odd : Bool) (a b : Option ℤ) (t : Readings) → IsTable t → index < 15 → k ≡ Some index → reading t index odd A ≡ None →
    reading (table_with k odd B b (table_with k odd A a t)) index odd A ≡ a
slot_here_a k index odd a b t is below same none =
    let first : Readings = table_with k odd A a t in
    let P : Option ℕ → Type 0 = λ j. reading (table_with j odd A a t) index odd A ≡ option_or a (reading t index odd A) in
    let here : reading first index odd A ≡ option_or a (reading t index odd A) = subst P (sym same) (table_with-here index odd A a t is below) in
    table_with-on_b k index odd b first ∙ here ∙ ap (option_or a) none ∙ or_none a
  where
    or_none : (o : Option ℤ) → option_or o None ≡ o
    or_none None = refl
    or_none (Some v) = refl

slot_here_b : (k : Option ℕ) (index : ℕ) (odd : Bool) (a b : Option ℤ) (t : Readings) → IsTable t → index < 15 → k ≡ Some index → reading t index odd B ≡ None →
    reading (table_with k odd B b (table_with k odd A a t)) index odd B ≡ b
slot_here_b k index odd a b t is below same none =
    let first : Readings = table_with k odd A a t in
    let P : Option ℕ → Type 0 = λ j. reading (table_with j odd B b first) index odd B ≡ option_or b (reading first index odd B) in
    let here : reading (table_with k odd B b first) index odd B ≡ option_or b (reading first index odd B) = subst P (sym same) (table_with-here index odd B b first (table_with-table k odd A a t is) below) in
    here ∙ ap (option_or b) (table_with-on_a k index odd a t ∙ none) ∙ or_none b
  where
    or_none : (o : Option ℤ) → option_or o None ≡ o
    or_none None = refl
    or_none (Some v) = refl

slot_here : (x : Setting) (cycle : ℕ) (rows : List NodeRow) (row : NodeRow) (odd : Bool) (slot : ℕ) (t : Readings) (index : ℕ) (c : Channel) → IsTable t → index < 15 →
    key_index_of x.params slot ≡ Some index → reading t index odd c ≡ None → reading (slot_table x cycle rows row odd slot t) index odd c ≡ stored_in x cycle rows row slot c
slot_here x cycle rows row odd slot t index A is below same none = slot_here_a (key_index_of x.params slot) index odd (stored_in x cycle rows row slot A) (stored_in x cycle rows row slot B) t is below same none
slot_here x cycle rows row odd slot t index B is below same none = slot_here_b (key_index_of x.params slot) index odd (stored_in x cycle rows row slot A) (stored_in x cycle rows row slot B) t is below same none

-- a reading of an index stays up to its slot
abbrev pub AreOneToOne : Values → Type 0
AreOneToOne p = (slot other index : ℕ) → key_index_of p slot ≡ Some index → key_index_of p other ≡ Some index → slot ≡ other

unused_reading : (x : Setting) (cycle : ℕ) (rows : List NodeRow) (row : NodeRow) (odd : Bool) (t : Readings) (index : ℕ) (p : Bool) (c : Channel) (count : ℕ) →
    ((slot : ℕ) → slot ≤ count → key_index_of x.params slot ≢ Some index) → reading (table_after x cycle rows row odd count t) index p c ≡ reading t index p c
unfolding over_slots
unused_reading x cycle rows row odd t index p c zero unused = refl
unused_reading x cycle rows row odd t index p c (suc earlier) unused =
    slot_other x cycle rows row odd (suc earlier) (table_after x cycle rows row odd earlier t) index p c (unused (suc earlier) (omega arith))
    ∙ unused_reading x cycle rows row odd t index p c earlier (λ slot below. unused slot (omega arith))

-- after its slot it is what was stored there
pub used_reading : (x : Setting) → AreOneToOne x.params → (cycle : ℕ) (rows : List NodeRow) (row : NodeRow) (odd : Bool) (t : Readings) → IsTable t → (index slot : ℕ) (c : Channel) → index < 15 →
    key_index_of x.params slot ≡ Some index → reading t index odd c ≡ None → (count : ℕ) → 1 ≤ slot → slot ≤ count → reading (table_after x cycle rows row odd count t) index odd c ≡ stored_in x cycle rows row slot c
unfolding over_slots
used_reading x one cycle rows row odd t is index slot c below same none zero low high = absurd (omega arith)
used_reading x one cycle rows row odd t is index slot c below same none (suc earlier) low high =
    by_place (used_reading x one cycle rows row odd t is index slot c below same none earlier low) (grind arith)
  where
    by_place : (slot ≤ earlier → reading (table_after x cycle rows row odd earlier t) index odd c ≡ stored_in x cycle rows row slot c) → (slot ≤ earlier) ⊎ (slot ≡ suc earlier) →
        reading (slot_table x cycle rows row odd (suc earlier) (table_after x cycle rows row odd earlier t)) index odd c ≡ stored_in x cycle rows row slot c
    by_place before (inl less) =
        slot_other x cycle rows row odd (suc earlier) (table_after x cycle rows row odd earlier t) index odd c
        (λ (again : key_index_of x.params (suc earlier) ≡ Some index). let e : slot ≡ suc earlier = one slot (suc earlier) index same again in omega arith)
        ∙ before less
    by_place before (inr here) =
        let k : key_index_of x.params (suc earlier) ≡ Some index = ap (key_index_of x.params) (sym here) ∙ same in
        let was : reading (table_after x cycle rows row odd earlier t) index odd c ≡ None =
        unused_reading x cycle rows row odd t index odd c earlier
        (λ s less (again : key_index_of x.params s ≡ Some index). let e : s ≡ slot = one s slot index again same in omega arith) ∙ none in
        slot_here x cycle rows row odd (suc earlier) (table_after x cycle rows row odd earlier t) index c (table_after-table x cycle rows row odd earlier t is) below k was
        ∙ ap (λ (s : ℕ). stored_in x cycle rows row s c) (sym here)

pub unkeyed_reading : (x : Setting) (cycle : ℕ) (rows : List NodeRow) (row : NodeRow) (odd : Bool) (t : Readings) (index : ℕ) (p : Bool) (c : Channel) (count : ℕ) →
    ((slot : ℕ) → key_index_of x.params slot ≢ Some index) → reading (table_after x cycle rows row odd count t) index p c ≡ reading t index p c
unkeyed_reading x cycle rows row odd t index p c count unkeyed = unused_reading x cycle rows row odd t index p c count (λ slot below. unkeyed slot)

-- the cycle of the other parity keeps its column
table_with-column : (k : Option ℕ) (odd : Bool) (channel : Channel) (o : Option ℤ) (t : Readings) (c : Channel) → column (table_with k odd channel o t) (not odd) c ≡ column t (not odd) c
table_with-column k odd channel None t c = refl
table_with-column None odd channel (Some value) t c = refl
table_with-column (Some k) true channel (Some value) t c = stored_odd t k channel c value
table_with-column (Some k) false channel (Some value) t c = stored_even t k channel c value

pub other_column : (x : Setting) (cycle : ℕ) (rows : List NodeRow) (row : NodeRow) (odd : Bool) (t : Readings) (c : Channel) (count : ℕ) → column (table_after x cycle rows row odd count t) (not odd) c ≡ column t (not odd) c
unfolding over_slots
other_column x cycle rows row odd t c zero = refl
other_column x cycle rows row odd t c (suc earlier) =
    let k : Option ℕ = key_index_of x.params (suc earlier) in
    let before : Readings = table_after x cycle rows row odd earlier t in
    table_with-column k odd B (stored_in x cycle rows row (suc earlier) B) (table_with k odd A (stored_in x cycle rows row (suc earlier) A) before) c
    ∙ table_with-column k odd A (stored_in x cycle rows row (suc earlier) A) before c
    ∙ other_column x cycle rows row odd t c earlier
