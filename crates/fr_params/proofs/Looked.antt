-- What is looked up in the records of an upgraded file.
use Rattle.std.proofs.Common.{◌≡◌, ℕ, ℤ, Bool, true, false, List, [], ◌∷◌, ◌++◌, map, Option, Some, None, Result, Ok, refl, ap, ◌∙◌}
use Rattle.std.specs.Prelude.{All, find, option_map, ◌==◌, if◌then◌else◌}
use Rattle.std.proofs.lemmas.List.Elements.{All-head, All-tail}
use Rattle.fr_base.specs.declared.reason.Reason.{Reason}
use Rattle.fr_text.proofs.Lookups.{or_else-none}
use Rattle.fr_text.specs.Fields.{looked_up, or_else}
use Rattle.fr_text.specs.Records.{FileRecord}
use Rattle.fr_params.specs.Names.{place}
use Rattle.fr_cluster.specs.Values.{Values, figure}
use Rattle.fr_cluster.specs.declared.names.ParamName.{ParamName}
use Rattle.fr_params.specs.declared.names.Version.TheVariants.{Two}
use Rattle.fr_cluster.specs.declared.nodes.NodeSpec.{NodeSpec}
use Rattle.fr_cluster.specs.declared.nodes.SlotSpec.{SlotSpec}
use Rattle.fr_params.specs.Reasons.{node_at, node_said, slot_at, slot_said, value_at, value_said}
use Rattle.fr_params.specs.Rows.{param_row_of}
use Rattle.fr_params.specs.declared.rows.Row.{Row}
use Rattle.fr_params.specs.declared.rows.Row.TheVariants as row
use Rattle.fr_params.proofs.Ascending.{at_number}
use Rattle.fr_params.proofs.Says.{says-version}
use Rattle.fr_params.specs.Texts.{node_record, param_record, records_with, slot_record, version_record}

-- the record of a name says its number, that of a node this node, that of a further slot this slot
abbrev pub SaysValue : Values → ParamName → Type 0
SaysValue p n = param_row_of Two (param_record p n) ≡ Ok (row.Param n (figure p n))

abbrev pub SaysNode : NodeSpec → Type 0
SaysNode node = param_row_of Two (node_record node) ≡ Ok (row.Node node)

abbrev pub SaysSlot : SlotSpec → Type 0
SaysSlot slot = param_row_of Two (slot_record slot) ≡ Ok (row.Slot slot)

-- the records say what they are written for
pub record Say (p : Values) (names : List ParamName) (nodes : List NodeSpec) (slots : List SlotSpec) : Type 0 where
  pub values : All (SaysValue p) names
  pub nodes_say : All SaysNode nodes
  pub slots_say : All SaysSlot slots

or_else_assoc : {A : Type 0} (a b c : Option A) → or_else a (or_else b c) ≡ or_else (or_else a b) c
or_else_assoc None b c = refl
or_else_assoc (Some x) b c = refl

looked-append : {A : Type 0} (what : FileRecord → Option A) (xs ys : List FileRecord) → looked_up what (xs ++ ys) ≡ or_else (looked_up what xs) (looked_up what ys)
unfolding looked_up
looked-append what [] ys = refl
looked-append {A} what (x ∷ xs) ys = ap (λ (o : Option A). or_else (what x) o) (looked-append what xs ys) ∙ or_else_assoc (what x) (looked_up what xs) (looked_up what ys)

-- part by part, where the first record says nothing of the kind
parts : {A : Type 0} (what : FileRecord → Option A) (first : FileRecord) (xs ys zs : List FileRecord) → what first ≡ None
    → looked_up what (first ∷ (xs ++ (ys ++ zs))) ≡ or_else (looked_up what xs) (or_else (looked_up what ys) (looked_up what zs))
unfolding looked_up
parts {A} what first xs ys zs none =
    ap (λ (o : Option A). or_else o (looked_up what (xs ++ (ys ++ zs)))) none
    ∙ looked-append what xs (ys ++ zs)
    ∙ ap (λ (o : Option A). or_else (looked_up what xs) o) (looked-append what ys zs)

-- records that say nothing of the kind
looked-none : {A X : Type 0} (what : FileRecord → Option A) (record_of : X → FileRecord) (xs : List X) → All (λ x. what (record_of x) ≡ None) xs → looked_up what (map record_of xs) ≡ None
unfolding looked_up
looked-none what record_of [] none = refl
looked-none {A} {X} what record_of (x ∷ xs) none =
    let here : what (record_of x) ≡ None = All-head (λ (y : X). what (record_of y) ≡ None) x xs none in
    ap (λ (o : Option A). or_else o (looked_up what (map record_of xs))) here ∙ looked-none what record_of xs (All-tail (λ (y : X). what (record_of y) ≡ None) x xs none)

pick : {X : Type 0} (b : Bool) (x : X) (rest : Option X) → or_else (if b then Some x else None) rest ≡ (if b then Some x else rest)
pick true x rest = refl
pick false x rest = refl

-- records each of which says one
looked-found : {X : Type 0} (what : FileRecord → Option X) (record_of : X → FileRecord) (test : X → Bool) (xs : List X)
    → All (λ x. what (record_of x) ≡ (if test x then Some x else None)) xs → looked_up what (map record_of xs) ≡ find test xs
unfolding looked_up
looked-found what record_of test [] each = refl
looked-found {X} what record_of test (x ∷ xs) each =
    let here : what (record_of x) ≡ (if test x then Some x else None) = All-head (λ (y : X). what (record_of y) ≡ (if test y then Some y else None)) x xs each in
    let rest = looked-found what record_of test xs (All-tail (λ (y : X). what (record_of y) ≡ (if test y then Some y else None)) x xs each) in
    ap (λ (o : Option X). or_else o (looked_up what (map record_of xs))) here
    ∙ pick (test x) x (looked_up what (map record_of xs))
    ∙ ap (λ (o : Option X). if test x then Some x else o) rest

-- the values of names
values-found : (p : Values) (k : ℕ) (names : List ParamName) → All (SaysValue p) names
    → value_at Two k (map (param_record p) names) ≡ option_map (figure p) (at_number place k names)
unfolding looked_up
values-found p k [] says = refl
values-found p k (m ∷ ms) says =
    let here : param_row_of Two (param_record p m) ≡ Ok (row.Param m (figure p m)) = All-head (SaysValue p) m ms says in
    let rest = values-found p k ms (All-tail (SaysValue p) m ms says) in
    ap (λ (x : Result Row Reason). or_else (value_said k x) (value_at Two k (map (param_record p) ms))) here
    ∙ ap (λ (o : Option ℤ). or_else (if place m == k then Some (figure p m) else None) o) rest
    ∙ by (place m == k) (at_number place k ms)
  where
    by : (b : Bool) (o : Option ParamName) → or_else (if b then Some (figure p m) else None) (option_map (figure p) o) ≡ option_map (figure p) (if b then Some m else o)
    by true o = refl
    by false o = refl

pub value-in : (p : Values) (names : List ParamName) (nodes : List NodeSpec) (slots : List SlotSpec) (k : ℕ) → Say p names nodes slots
    → value_at Two k (records_with p names nodes slots) ≡ option_map (figure p) (at_number place k names)
value-in p names nodes slots k says =
    parts (λ r. value_said k (param_row_of Two r)) version_record (map (param_record p) names) (map node_record nodes) (map slot_record slots) (ap (value_said k) says-version)
    ∙ ap (λ (o : Option ℤ). or_else (value_at Two k (map (param_record p) names)) (or_else o (value_at Two k (map slot_record slots))))
    (looked-none (λ r. value_said k (param_row_of Two r)) node_record nodes (λ i d lt. ap (value_said k) (says.nodes_say i d lt)))
    ∙ ap (λ (o : Option ℤ). or_else (value_at Two k (map (param_record p) names)) o)
    (looked-none (λ r. value_said k (param_row_of Two r)) slot_record slots (λ i d lt. ap (value_said k) (says.slots_say i d lt)))
    ∙ or_else-none (value_at Two k (map (param_record p) names))
    ∙ values-found p k names says.values

pub node-in : (p : Values) (names : List ParamName) (nodes : List NodeSpec) (slots : List SlotSpec) (k : ℕ) → Say p names nodes slots
    → node_at Two k (records_with p names nodes slots) ≡ at_number (λ node. node.id) k nodes
node-in p names nodes slots k says =
    parts (λ r. node_said k (param_row_of Two r)) version_record (map (param_record p) names) (map node_record nodes) (map slot_record slots) (ap (node_said k) says-version)
    ∙ ap (λ (o : Option NodeSpec). or_else o (or_else (node_at Two k (map node_record nodes)) (node_at Two k (map slot_record slots))))
    (looked-none (λ r. node_said k (param_row_of Two r)) (param_record p) names (λ i d lt. ap (node_said k) (says.values i d lt)))
    ∙ ap (λ (o : Option NodeSpec). or_else (node_at Two k (map node_record nodes)) o)
    (looked-none (λ r. node_said k (param_row_of Two r)) slot_record slots (λ i d lt. ap (node_said k) (says.slots_say i d lt)))
    ∙ or_else-none (node_at Two k (map node_record nodes))
    ∙ looked-found (λ r. node_said k (param_row_of Two r)) node_record (λ node. node.id == k) nodes (λ i d lt. ap (node_said k) (says.nodes_say i d lt))

pub slot-in : (p : Values) (names : List ParamName) (nodes : List NodeSpec) (slots : List SlotSpec) (k : ℕ) → Say p names nodes slots
    → slot_at Two k (records_with p names nodes slots) ≡ at_number (λ slot. slot.slot) k slots
slot-in p names nodes slots k says =
    parts (λ r. slot_said k (param_row_of Two r)) version_record (map (param_record p) names) (map node_record nodes) (map slot_record slots) (ap (slot_said k) says-version)
    ∙ ap (λ (o : Option SlotSpec). or_else o (or_else (slot_at Two k (map node_record nodes)) (slot_at Two k (map slot_record slots))))
    (looked-none (λ r. slot_said k (param_row_of Two r)) (param_record p) names (λ i d lt. ap (slot_said k) (says.values i d lt)))
    ∙ ap (λ (o : Option SlotSpec). or_else o (slot_at Two k (map slot_record slots)))
    (looked-none (λ r. slot_said k (param_row_of Two r)) node_record nodes (λ i d lt. ap (slot_said k) (says.nodes_say i d lt)))
    ∙ looked-found (λ r. slot_said k (param_row_of Two r)) slot_record (λ slot. slot.slot == k) slots (λ i d lt. ap (slot_said k) (says.slots_say i d lt))
