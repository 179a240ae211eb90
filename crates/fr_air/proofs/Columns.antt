-- The tables of receivers after the slots of a cycle are as lists of deviations record them.
use Rattle.std.proofs.Common.{◌≡◌, ℕ, zero, suc, ◌+◌, ◌<◌, ◌≤◌, ℤ, Bool, true, false, Option, Some, None, List, [], length, get_or, replicate, refl, ap, ap₂, sym, ◌∙◌, arith}
use Rattle.std.proofs.lemmas.List.{length-replicate}
use Rattle.std.specs.Prelude.{option_and_then}
use Rattle.std.specs.List.{cons_option, filter_map, range_with_len}
use Rattle.fr_base.specs.declared.channel.Channel.{Channel}
use Rattle.fr_base.specs.declared.channel.Channel.TheVariants.{A, B}
use Rattle.fr_base.specs.declared.dev.Dev.{Dev}
use Rattle.fr_base.specs.declared.node_row.NodeRow.{NodeRow}
use Rattle.fr_cluster.specs.Sane.{IsSane}
use Rattle.fr_cluster.specs.Values.{Values, amount}
use Rattle.fr_cluster.specs.Questions.{key_index_of, key_slot_of}
use Rattle.fr_cluster.specs.declared.names.ParamName.TheVariants as name
use Rattle.fr_measure.specs.Readings.{Readings, column, no_readings, reading}
use Rattle.fr_measure.specs.Values.{change_of, least_of, mean_of, offset_at, own_value_or, rate_at, values_of}
use Rattle.fr_cluster.proofs.KeyIndexes.{index_is_own}
use Rattle.fr_cluster.specs.Setting.{Setting}
use Rattle.fr_measure.specs.Deviations.{deviations_of}
use Rattle.fr_base.specs.Rows.{dev_in}
use Rattle.fr_history.specs.Offers.{stored_in}
use Rattle.fr_air.specs.Nodes.{column_of, readings_of, recorded_at}
use Rattle.fr_history.proofs.Flat.{Among, get_or-map-range, length-map-range, same_lists}
use Rattle.fr_history.proofs.KeySlots.{key_slot-index, key_slot-within, no_key_slot}
use Rattle.fr_air.proofs.Store.{IsTable}
use Rattle.fr_air.proofs.Table.{AreOneToOne, other_column, table_after, table_after-table, unkeyed_reading, used_reading}

pub one_to_one : (p : Values) → AreOneToOne p
one_to_one p = λ slot other index one same. index_is_own p slot other index one same

pub length-column : (t : Readings) (odd : Bool) (c : Channel) → IsTable t → length (column t odd c) ≡ 15
length-column t false A is = is.even_a
length-column t false B is = is.even_b
length-column t true A is = is.odd_a
length-column t true B is = is.odd_b

zero_plus : (n : ℕ) → 0 + n ≡ n
zero_plus n = omega arith

-- a list records of a node what a receiver with its row stores of some senders, in each static slot and on each channel
abbrev pub RecordsStored : Setting → ℕ → List NodeRow → NodeRow → List Dev → ℕ → Type 0
RecordsStored x cycle rows row devs node =
    (slot : ℕ) (c : Channel) → 1 ≤ slot → slot ≤ amount x.params name.gNumberOfStaticSlots → dev_in devs node slot c ≡ stored_in x cycle rows row slot c

-- the whole hearing of a cycle
abbrev pub heard_table : Setting → ℕ → List NodeRow → NodeRow → Bool → Readings → Readings
heard_table x cycle rows row odd t = table_after x cycle rows row odd (amount x.params name.gNumberOfStaticSlots) t

-- ---- the column of the cycle

-- at each key index is what the list of the cycle records
reading_by : (x : Setting) → IsSane x.params → (cycle : ℕ) (rows : List NodeRow) (row : NodeRow) (devs : List Dev) (node : ℕ) → RecordsStored x cycle rows row devs node
    → (odd : Bool) (t : Readings) → IsTable t → (index : ℕ) (c : Channel) → index < 15 → reading t index odd c ≡ None → (o : Option ℕ) → key_slot_of x.params index ≡ o
    → reading (heard_table x cycle rows row odd t) index odd c ≡ option_and_then (λ slot. dev_in devs node slot c) o
reading_by x sane cycle rows row devs node records odd t table index c below none None lacks =
    unkeyed_reading x cycle rows row odd t index odd c (amount x.params name.gNumberOfStaticSlots) (no_key_slot x.params index lacks) ∙ none
reading_by x sane cycle rows row devs node records odd t table index c below none (Some slot) has =
    let key : (key_index_of x.params slot ≡ Some index) × Among slot _ = key_slot-index x.params index slot has in
    let within : (1 ≤ slot) × (slot ≤ amount x.params name.gNumberOfStaticSlots) = key_slot-within x.params slot sane key.1 in
    used_reading x (one_to_one x.params) cycle rows row odd t table index slot c below key.0 none (amount x.params name.gNumberOfStaticSlots) within.0 within.1
    ∙ sym (records slot c within.0 within.1)

heard_column : (x : Setting) → IsSane x.params → (cycle : ℕ) (rows : List NodeRow) (row : NodeRow) (devs : List Dev) (node : ℕ) → RecordsStored x cycle rows row devs node
    → (odd : Bool) (t : Readings) → IsTable t → (c : Channel) → ((index : ℕ) → reading t index odd c ≡ None)
    → column (heard_table x cycle rows row odd t) odd c ≡ column_of x.params devs node c
heard_column x sane cycle rows row devs node records odd t table c none =
    let heard : Readings = heard_table x cycle rows row odd t in
    let long : length (column heard odd c) ≡ 15 = length-column heard odd c (table_after-table x cycle rows row odd (amount x.params name.gNumberOfStaticSlots) t table) in
    let other : length (column_of x.params devs node c) ≡ 15 = length-map-range (recorded_at x.params devs node c) 0 15 in
    same_lists None (column heard odd c) (column_of x.params devs node c) (long ∙ sym other)
    (λ index below.
    let small : index < 15 = omega (arith, long) in
    reading_by x sane cycle rows row devs node records odd t table index c small (none index) (key_slot_of x.params index) refl
    ∙ sym (get_or-map-range (recorded_at x.params devs node c) None 0 15 index small ∙ ap (recorded_at x.params devs node c) (zero_plus index)))

-- ---- the column of the other cycle

none_at : (n index : ℕ) → get_or (replicate n (let o : Option ℤ = None in o)) index None ≡ None
none_at zero index = refl
none_at (suc n) zero = refl
none_at (suc n) (suc index) = none_at n index

none_recorded : (p : Values) (node : ℕ) (c : Channel) (index : ℕ) → recorded_at p [] node c index ≡ None
none_recorded p node c index = by_key (key_slot_of p index)
  where
    by_key : (o : Option ℕ) → option_and_then (λ slot. dev_in [] node slot c) o ≡ None
    by_key None = refl
    by_key (Some slot) = refl

empty_column : (p : Values) (node : ℕ) (c : Channel) → replicate 15 None ≡ column_of p [] node c
empty_column p node c =
    let long : length (column_of p [] node c) ≡ 15 = length-map-range (recorded_at p [] node c) 0 15 in
    let wide : length (replicate 15 (let o : Option ℤ = None in o)) ≡ 15 = length-replicate 15 (let o : Option ℤ = None in o) in
    same_lists None (replicate 15 None) (column_of p [] node c) (wide ∙ sym long)
    (λ index below.
    let small : index < 15 = omega (arith, wide) in
    none_at 15 index ∙ sym (get_or-map-range (recorded_at p [] node c) None 0 15 index small ∙ none_recorded p node c (0 + index)))

-- ---- tables by their columns

abbrev made_of : List (Option ℤ) → List (Option ℤ) → List (Option ℤ) → List (Option ℤ) → Readings
made_of a b c d = record { even_a = a; even_b = b; odd_a = c; odd_b = d }

made_same : (a e b f c g d i : List (Option ℤ)) → a ≡ e → b ≡ f → c ≡ g → d ≡ i → made_of a b c d ≡ made_of e f g i
made_same a e b f c g d i p q r s = cc

readings_same : (t u : Readings) → ((odd : Bool) (c : Channel) → column t odd c ≡ column u odd c) → t ≡ u
readings_same t u same = made_same t.even_a u.even_a t.even_b u.even_b t.odd_a u.odd_a t.odd_b u.odd_b (same false A) (same false B) (same true A) (same true B)

pub empty-table : IsTable no_readings
empty-table = record { even_a = refl; even_b = refl; odd_a = refl; odd_b = refl }

pub empty_reading : (index : ℕ) (odd : Bool) (c : Channel) → reading no_readings index odd c ≡ None
empty_reading index odd c = column_none odd c
  where
    none : get_or (replicate 15 (let o : Option ℤ = None in o)) index None ≡ None
    none = none_at 15 index

    column_none : (o : Bool) (d : Channel) → get_or (column no_readings o d) index None ≡ None
    column_none false A = none
    column_none false B = none
    column_none true A = none
    column_none true B = none

pub recorded-table : (p : Values) (evens odds : List Dev) (node : ℕ) → IsTable (readings_of p evens odds node)
unfolding readings_of
recorded-table p evens odds node = record {
  even_a = length-map-range (recorded_at p evens node A) 0 15;
  even_b = length-map-range (recorded_at p evens node B) 0 15;
  odd_a = length-map-range (recorded_at p odds node A) 0 15;
  odd_b = length-map-range (recorded_at p odds node B) 0 15;
}

-- what is there of the odd cycle before it
pub no_odd_reading : (p : Values) (evens : List Dev) (node index : ℕ) (c : Channel) → reading (readings_of p evens [] node) index true c ≡ None
unfolding readings_of
no_odd_reading p evens node index A = ap (λ (xs : List (Option ℤ)). get_or xs index None) (sym (empty_column p node A)) ∙ none_at 15 index
no_odd_reading p evens node index B = ap (λ (xs : List (Option ℤ)). get_or xs index None) (sym (empty_column p node B)) ∙ none_at 15 index

-- ---- the tables of an even and of an odd cycle

even_columns : (x : Setting) → IsSane x.params → (cycle : ℕ) (rows : List NodeRow) (row : NodeRow) (devs : List Dev) (node : ℕ) → RecordsStored x cycle rows row devs node
    → (odd : Bool) (c : Channel) → column (heard_table x cycle rows row false no_readings) odd c ≡ column (readings_of x.params devs [] node) odd c
unfolding readings_of
even_columns x sane cycle rows row devs node records false A = heard_column x sane cycle rows row devs node records false no_readings empty-table A (λ index. empty_reading index false A)
even_columns x sane cycle rows row devs node records false B = heard_column x sane cycle rows row devs node records false no_readings empty-table B (λ index. empty_reading index false B)
even_columns x sane cycle rows row devs node records true A = other_column x cycle rows row false no_readings A (amount x.params name.gNumberOfStaticSlots) ∙ empty_column x.params node A
even_columns x sane cycle rows row devs node records true B = other_column x cycle rows row false no_readings B (amount x.params name.gNumberOfStaticSlots) ∙ empty_column x.params node B

pub heard_even : (x : Setting) → IsSane x.params → (cycle : ℕ) (rows : List NodeRow) (row : NodeRow) (devs : List Dev) (node : ℕ) → RecordsStored x cycle rows row devs node
    → heard_table x cycle rows row false no_readings ≡ readings_of x.params devs [] node
heard_even x sane cycle rows row devs node records =
    readings_same (heard_table x cycle rows row false no_readings) (readings_of x.params devs [] node) (even_columns x sane cycle rows row devs node records)

odd_columns : (x : Setting) → IsSane x.params → (cycle : ℕ) (rows : List NodeRow) (row : NodeRow) (evens devs : List Dev) (node : ℕ) → RecordsStored x cycle rows row devs node
    → (odd : Bool) (c : Channel) → column (heard_table x cycle rows row true (readings_of x.params evens [] node)) odd c ≡ column (readings_of x.params evens devs node) odd c
unfolding readings_of
odd_columns x sane cycle rows row evens devs node records true A =
    heard_column x sane cycle rows row devs node records true (readings_of x.params evens [] node) (recorded-table x.params evens [] node) A (λ index. no_odd_reading x.params evens node index A)
odd_columns x sane cycle rows row evens devs node records true B =
    heard_column x sane cycle rows row devs node records true (readings_of x.params evens [] node) (recorded-table x.params evens [] node) B (λ index. no_odd_reading x.params evens node index B)
odd_columns x sane cycle rows row evens devs node records false A = other_column x cycle rows row true (readings_of x.params evens [] node) A (amount x.params name.gNumberOfStaticSlots)
odd_columns x sane cycle rows row evens devs node records false B = other_column x cycle rows row true (readings_of x.params evens [] node) B (amount x.params name.gNumberOfStaticSlots)

pub heard_odd : (x : Setting) → IsSane x.params → (cycle : ℕ) (rows : List NodeRow) (row : NodeRow) (evens devs : List Dev) (node : ℕ) → RecordsStored x cycle rows row devs node
    → heard_table x cycle rows row true (readings_of x.params evens [] node) ≡ readings_of x.params evens devs node
heard_odd x sane cycle rows row evens devs node records =
    readings_same (heard_table x cycle rows row true (readings_of x.params evens [] node)) (readings_of x.params evens devs node) (odd_columns x sane cycle rows row evens devs node records)

-- ---- the values at the end of an odd cycle

-- the table answers what the lists record
pub recorded_reading : (p : Values) (evens odds : List Dev) (node index : ℕ) (odd : Bool) (c : Channel) → index < 15 → reading (readings_of p evens odds node) index odd c ≡ deviations_of p evens odds node index odd c
unfolding readings_of
recorded_reading p evens odds node index false A below = get_or-map-range (recorded_at p evens node A) None 0 15 index below ∙ ap (recorded_at p evens node A) (zero_plus index)
recorded_reading p evens odds node index false B below = get_or-map-range (recorded_at p evens node B) None 0 15 index below ∙ ap (recorded_at p evens node B) (zero_plus index)
recorded_reading p evens odds node index true A below = get_or-map-range (recorded_at p odds node A) None 0 15 index below ∙ ap (recorded_at p odds node A) (zero_plus index)
recorded_reading p evens odds node index true B below = get_or-map-range (recorded_at p odds node B) None 0 15 index below ∙ ap (recorded_at p odds node B) (zero_plus index)

filter_map_range : (f g : ℕ → Option ℤ) (from count : ℕ) → ((k : ℕ) → from ≤ k → k < from + count → f k ≡ g k) → filter_map f (range_with_len from count) ≡ filter_map g (range_with_len from count)
filter_map_range f g from zero same = refl
filter_map_range f g from (suc count) same = ap₂ cons_option (same from (omega arith) (omega arith)) (filter_map_range f g (from + 1) count (λ k low high. same k (omega arith) (omega arith)))

pub offset_values_same : (p : Values) (evens odds : List Dev) (node : ℕ) (own : Option ℕ) → values_of (offset_at (reading (readings_of p evens odds node)) own) ≡ values_of (offset_at (deviations_of p evens odds node) own)
unfolding values_of
offset_values_same p evens odds node own =
    filter_map_range (offset_at (reading (readings_of p evens odds node)) own) (offset_at (deviations_of p evens odds node) own) 0 15
    (λ index low high.
    let small : index < 15 = omega arith in
    ap (own_value_or own index) (ap₂ least_of (recorded_reading p evens odds node index true A small) (recorded_reading p evens odds node index true B small)))

pub rate_values_same : (p : Values) (evens odds : List Dev) (node : ℕ) (own : Option ℕ) → values_of (rate_at (reading (readings_of p evens odds node)) own) ≡ values_of (rate_at (deviations_of p evens odds node) own)
unfolding values_of
rate_values_same p evens odds node own =
    filter_map_range (rate_at (reading (readings_of p evens odds node)) own) (rate_at (deviations_of p evens odds node) own) 0 15
    (λ index low high.
    let small : index < 15 = omega arith in
    ap (own_value_or own index)
    (ap₂ mean_of
    (ap₂ change_of (recorded_reading p evens odds node index false A small) (recorded_reading p evens odds node index true A small))
    (ap₂ change_of (recorded_reading p evens odds node index false B small) (recorded_reading p evens odds node index true B small))))

-- ---- lists that record the same of a node

column_same : (p : Values) (devs others : List Dev) (node : ℕ) → ((slot : ℕ) (c : Channel) → dev_in devs node slot c ≡ dev_in others node slot c) → (c : Channel)
    → column_of p devs node c ≡ column_of p others node c
column_same p devs others node same c = same_lists None (column_of p devs node c) (column_of p others node c) (wide ∙ sym long) at_index
  where
    wide : length (column_of p devs node c) ≡ 15
    wide = length-map-range (recorded_at p devs node c) 0 15

    long : length (column_of p others node c) ≡ 15
    long = length-map-range (recorded_at p others node c) 0 15

    by_key : (o : Option ℕ) → option_and_then (λ slot. dev_in devs node slot c) o ≡ option_and_then (λ slot. dev_in others node slot c) o
    by_key None = refl
    by_key (Some slot) = same slot c

    at_index : (index : ℕ) → index < length (column_of p devs node c) → get_or (column_of p devs node c) index None ≡ get_or (column_of p others node c) index None
    at_index index below =
        let small : index < 15 = omega (arith, wide, below) in
        get_or-map-range (recorded_at p devs node c) None 0 15 index small
        ∙ by_key (key_slot_of p (0 + index))
        ∙ sym (get_or-map-range (recorded_at p others node c) None 0 15 index small)

pub readings_same_of : (p : Values) (evens odds evens2 odds2 : List Dev) (node : ℕ) → ((slot : ℕ) (c : Channel) → dev_in evens node slot c ≡ dev_in evens2 node slot c)
    → ((slot : ℕ) (c : Channel) → dev_in odds node slot c ≡ dev_in odds2 node slot c) → readings_of p evens odds node ≡ readings_of p evens2 odds2 node
unfolding readings_of
readings_same_of p evens odds evens2 odds2 node early late =
    made_same (column_of p evens node A) (column_of p evens2 node A) (column_of p evens node B) (column_of p evens2 node B) (column_of p odds node A) (column_of p odds2 node A)
    (column_of p odds node B) (column_of p odds2 node B) (column_same p evens evens2 node early A) (column_same p evens evens2 node early B) (column_same p odds odds2 node late A)
    (column_same p odds odds2 node late B)
