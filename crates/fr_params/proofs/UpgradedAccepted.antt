-- An upgraded file is accepted, and it stands for the parameters.
use Rattle.std.proofs.Common.{◌≡◌, ℕ, Bool, true, false, List, [], ◌∷◌, ◌++◌, map, Option, Some, None, Result, Ok, refl, ap, sym, ◌∙◌, subst, arith, append_assoc, append-nil}
use Rattle.std.specs.Prelude.{All, IsSome, is_none, option_map}
use Rattle.std.specs.List.{list_all}
use Rattle.std.proofs.lemmas.List.{map-append}
use Rattle.std.proofs.lemmas.List.Elements.{All-head, All-tail, All-nil, All-cons}
use Rattle.std.proofs.lemmas.List.Folds.{list_all-append}
use Rattle.fr_base.specs.declared.reason.Reason.{Reason}
use Rattle.fr_text.proofs.Cuts.{none-empty, none-more}
use Rattle.fr_text.specs.Records.{FileRecord, records_of}
use Rattle.fr_text.specs.Refusal.{NoneRefused, Refusing}
use Rattle.fr_params.specs.Names.{place}
use Rattle.fr_cluster.specs.Ranges.{has_turn, is_keyless_starter}
use Rattle.fr_cluster.specs.Sane.{IsSane, IsSaneNode, IsSaneSlot}
use Rattle.fr_cluster.specs.Values.{Values, figure}
use Rattle.fr_cluster.specs.declared.names.ParamName.{ParamName}
use Rattle.fr_cluster.specs.declared.names.ParamName.TheVariants as name
use Rattle.fr_params.specs.declared.names.TheConstants.{NAMES_OF_TWO}
use Rattle.fr_params.specs.declared.names.Version.{Version}
use Rattle.fr_params.specs.declared.names.Version.TheVariants.{Two}
use Rattle.fr_cluster.specs.declared.nodes.NodeSpec.{NodeSpec}
use Rattle.fr_cluster.specs.declared.nodes.SlotSpec.{SlotSpec}
use Rattle.fr_params.specs.Files.{ParamsStandFor}
use Rattle.fr_params.specs.Lists.{listed}
use Rattle.fr_params.specs.Reasons.{node_at, param_reason_after, param_row_reason, slot_at, value_at}
use Rattle.fr_params.specs.Rows.{param_row_of}
use Rattle.fr_params.specs.Versions.{is_of_version}
use Rattle.fr_params.specs.declared.rows.Row.{Row}
use Rattle.fr_params.specs.declared.rows.Row.TheVariants as row
use Rattle.fr_text.proofs.RecordLines.{and-left, and-right, records-read-back}
use Rattle.fr_text.specs.Texts.{is_plain_record}
use Rattle.fr_params.proofs.Ascending.{Ascend, ascend, ascend-tested, at_number, listed-back, none-before, some-found}
use Rattle.fr_params.proofs.Looked.{Say, SaysNode, SaysSlot, SaysValue, node-in, slot-in, value-in}
use Rattle.fr_params.proofs.Plain.{node-plain, param-plain, slot-plain}
use Rattle.fr_params.proofs.Says.{begins-two, says-node, says-param, says-slot, says-version}
use Rattle.fr_params.specs.Texts.{node_record, param_record, records_with, slot_record, upgraded_records, upgraded_text, version_record}
use Rattle.fr_params.specs.Upgrades.{AreOnChannels, TextsAreAccepted}

-- records that are written one after the other, none of which is refused
grown : {X : Type 0} (reason : Refusing) (file : List X → List FileRecord) (record_of : X → FileRecord)
    → ((seen : List X) (x : X) → file seen ++ record_of x ∷ [] ≡ file (seen ++ x ∷ []))
    → (seen rest : List X)
    → ((before : List X) (x : X) (after : List X) → rest ≡ before ++ x ∷ after → reason (file (seen ++ before)) (record_of x) ≡ None)
    → NoneRefused reason (file seen) → NoneRefused reason (file (seen ++ rest))
grown {X} reason file record_of last seen [] fine none = let P : List X → Type 0 = λ xs. NoneRefused reason (file xs) in subst P (sym (append-nil seen)) none
grown {X} reason file record_of last seen (x ∷ xs) fine none =
    let P : List X → Type 0 = λ ys. NoneRefused reason (file ys) in
    let here : reason (file seen) (record_of x) ≡ None = ap (λ (ys : List X). reason (file ys) (record_of x)) (sym (append-nil seen)) ∙ fine [] x xs refl in
    let more : NoneRefused reason (file (seen ++ x ∷ [])) = subst (NoneRefused reason) (last seen x) (none-more reason (file seen) (record_of x) none here) in
    subst P (append_assoc seen (x ∷ []) xs)
    (grown reason file record_of last (seen ++ x ∷ []) xs
    (λ before y after e.
    ap (λ (ys : List X). reason (file ys) (record_of y)) (append_assoc seen (x ∷ []) before) ∙ fine (x ∷ before) y after (ap (λ (ys : List X). x ∷ ys) e))
    more)

-- what holds of each of a list holds of those before one and of this one
front : {X : Type 0} (P : X → Type 0) (before : List X) (x : X) (after : List X) → All P (before ++ x ∷ after) → All P before
front P [] x after all = All-nil P
front P (y ∷ ys) x after all = All-cons P y ys (All-head P y (ys ++ x ∷ after) all) (front P ys x after (All-tail P y (ys ++ x ∷ after) all))

middle : {X : Type 0} (P : X → Type 0) (before : List X) (x : X) (after : List X) → All P (before ++ x ∷ after) → P x
middle P [] x after all = All-head P x after all
middle P (y ∷ ys) x after all = middle P ys x after (All-tail P y (ys ++ x ∷ after) all)

-- a record behind the first
behind-first : (records : List FileRecord) (r : FileRecord) (said : Row) → param_row_of Two r ≡ Ok said
    → param_reason_after (version_record ∷ records) r ≡ param_row_reason Two (version_record ∷ records) (Ok said)
behind-first records r said e =
    ap (λ (v : Version). param_row_reason v (version_record ∷ records) (param_row_of v r)) begins-two
    ∙ ap (λ (x : Result Row Reason). param_row_reason Two (version_record ∷ records) x) e

first-fine : param_reason_after [] version_record ≡ None
first-fine =
    ap (λ (v : Version). param_row_reason v [] (param_row_of v version_record)) begins-two
    ∙ ap (λ (x : Result Row Reason). param_row_reason Two [] x) says-version

-- the values
none-values : (p : Values) (names : List ParamName) → All (SaysValue p) names → Ascend place 0 names → NoneRefused param_reason_after (records_with p names [] [])
none-values p names says up =
    grown param_reason_after (λ ns. records_with p ns [] []) (param_record p) last [] names fine
    (none-more param_reason_after [] version_record (none-empty param_reason_after) first-fine)
  where
    last : (seen : List ParamName) (n : ParamName) → records_with p seen [] [] ++ param_record p n ∷ [] ≡ records_with p (seen ++ n ∷ []) [] []
    last seen n =
        ap (λ (xs : List FileRecord). version_record ∷ xs)
        (ap (λ (xs : List FileRecord). xs ++ param_record p n ∷ []) (append-nil (map (param_record p) seen))
        ∙ sym (map-append (param_record p) seen (n ∷ []))
        ∙ sym (append-nil (map (param_record p) (seen ++ n ∷ []))))

    fine : (before : List ParamName) (n : ParamName) (after : List ParamName) → names ≡ before ++ n ∷ after → param_reason_after (records_with p before [] []) (param_record p n) ≡ None
    fine before n after e =
        let all : All (SaysValue p) (before ++ n ∷ after) = subst (All (SaysValue p)) e says in
        let rising : Ascend place 0 (before ++ n ∷ after) = subst (Ascend place 0) e up in
        let looked : value_at Two (place n) (records_with p before [] []) ≡ None =
        value-in p before [] [] (place n) (record { values = front (SaysValue p) before n after all; nodes_say = All-nil SaysNode; slots_say = All-nil SaysSlot })
        ∙ ap (option_map (figure p)) (none-before place 0 before n after rising) in
        behind-first (map (param_record p) before ++ []) (param_record p n) (row.Param n (figure p n)) (middle (SaysValue p) before n after all)
        ∙ rw looked refl

-- the nodes behind them
none-nodes : (p : Values) (names : List ParamName) (nodes : List NodeSpec) → All (SaysValue p) names → All SaysNode nodes → All IsSaneNode nodes → Ascend (λ node. node.id) 1 nodes
    → NoneRefused param_reason_after (records_with p names [] []) → NoneRefused param_reason_after (records_with p names nodes [])
none-nodes p names nodes values says sane up none =
    grown param_reason_after (λ ns. records_with p names ns []) node_record last [] nodes fine none
  where
    last : (seen : List NodeSpec) (x : NodeSpec) → records_with p names seen [] ++ node_record x ∷ [] ≡ records_with p names (seen ++ x ∷ []) []
    last seen x =
        ap (λ (xs : List FileRecord). version_record ∷ xs)
        (append_assoc (map (param_record p) names) (map node_record seen ++ []) (node_record x ∷ [])
        ∙ ap (λ (xs : List FileRecord). map (param_record p) names ++ xs)
        (ap (λ (xs : List FileRecord). xs ++ node_record x ∷ []) (append-nil (map node_record seen))
        ∙ sym (map-append node_record seen (x ∷ []))
        ∙ sym (append-nil (map node_record (seen ++ x ∷ [])))))

    fine : (before : List NodeSpec) (x : NodeSpec) (after : List NodeSpec) → nodes ≡ before ++ x ∷ after → param_reason_after (records_with p names before []) (node_record x) ≡ None
    fine before x after e =
        let all : All SaysNode (before ++ x ∷ after) = subst (All SaysNode) e says in
        let rising : Ascend (λ node. node.id) 1 (before ++ x ∷ after) = subst (Ascend (λ node. node.id) 1) e up in
        let starts : is_keyless_starter x ≡ false = (middle IsSaneNode before x after (subst (All IsSaneNode) e sane)).starts in
        let looked : node_at Two x.id (records_with p names before []) ≡ None =
        node-in p names before [] x.id (record { values = values; nodes_say = front SaysNode before x after all; slots_say = All-nil SaysSlot })
        ∙ none-before (λ node. node.id) 1 before x after rising in
        behind-first (map (param_record p) names ++ (map node_record before ++ [])) (node_record x) (row.Node x) (middle SaysNode before x after all)
        ∙ rw (starts, looked) refl

-- the further slots behind these
none-slots : (p : Values) (names : List ParamName) (nodes : List NodeSpec) (slots : List SlotSpec) → All (SaysValue p) names → All SaysNode nodes → All SaysSlot slots
    → All (IsSaneSlot nodes) slots → Ascend (λ slot. slot.slot) 1 slots
    → NoneRefused param_reason_after (records_with p names nodes []) → NoneRefused param_reason_after (records_with p names nodes slots)
none-slots p names nodes slots values nodes_say says sane up none =
    grown param_reason_after (λ ss. records_with p names nodes ss) slot_record last [] slots fine none
  where
    last : (seen : List SlotSpec) (x : SlotSpec) → records_with p names nodes seen ++ slot_record x ∷ [] ≡ records_with p names nodes (seen ++ x ∷ [])
    last seen x =
        ap (λ (xs : List FileRecord). version_record ∷ xs)
        (append_assoc (map (param_record p) names) (map node_record nodes ++ map slot_record seen) (slot_record x ∷ [])
        ∙ ap (λ (xs : List FileRecord). map (param_record p) names ++ xs)
        (append_assoc (map node_record nodes) (map slot_record seen) (slot_record x ∷ [])
        ∙ ap (λ (xs : List FileRecord). map node_record nodes ++ xs) (sym (map-append slot_record seen (x ∷ [])))))

    some : {A : Type 0} (o : Option A) → IsSome o → is_none o ≡ false
    some None e = cc e
    some (Some x) e = refl

    fine : (before : List SlotSpec) (x : SlotSpec) (after : List SlotSpec) → slots ≡ before ++ x ∷ after → param_reason_after (records_with p names nodes before) (slot_record x) ≡ None
    fine before x after e =
        let all : All SaysSlot (before ++ x ∷ after) = subst (All SaysSlot) e says in
        let rising : Ascend (λ slot. slot.slot) 1 (before ++ x ∷ after) = subst (Ascend (λ slot. slot.slot) 1) e up in
        let own : IsSaneSlot nodes x = middle (IsSaneSlot nodes) before x after (subst (All (IsSaneSlot nodes)) e sane) in
        let say : Say p names nodes before = record { values = values; nodes_say = nodes_say; slots_say = front SaysSlot before x after all } in
        let known : is_none (node_at Two x.node (records_with p names nodes before)) ≡ false =
        ap is_none (node-in p names nodes before x.node say) ∙ some (at_number (λ node. node.id) x.node nodes) (some-found (λ node. node.id) x.node nodes own.known) in
        let turn : has_turn x ≡ true = own.turn in
        let looked : slot_at Two x.slot (records_with p names nodes before) ≡ None =
        slot-in p names nodes before x.slot say ∙ none-before (λ slot. slot.slot) 1 before x after rising in
        behind-first (map (param_record p) names ++ (map node_record nodes ++ map slot_record before)) (slot_record x) (row.Slot x) (middle SaysSlot before x after all)
        ∙ rw (known, turn, looked) refl

-- the table's order is that of the places
table-ascends : Ascend place 0 NAMES_OF_TWO
table-ascends = ascend-tested place 0 NAMES_OF_TWO refl

-- each name of the table is found there
named : (n : ParamName) → is_of_version Two n ≡ true → at_number place (place n) NAMES_OF_TWO ≡ Some n
named name.gMacroPerCycle h = refl
named name.pMicroPerCycle h = refl
named name.gNumberOfStaticSlots h = refl
named name.gdStaticSlot h = refl
named name.gdActionPointOffset h = refl
named name.gdNIT h = refl
named name.gPayloadLengthStatic h = refl
named name.gOffsetCorrectionStart h = refl
named name.gMaxWithoutClockCorrectionPassive h = refl
named name.gMaxWithoutClockCorrectionFatal h = refl
named name.pAllowHaltDueToClock h = refl
named name.pAllowPassiveToActive h = refl
named name.pClusterDriftDamping h = refl
named name.pOffsetCorrectionOut h = refl
named name.pRateCorrectionOut h = refl
named name.pDelayCompensation h = cc h
named name.pDelayCompensationA h = refl
named name.pDelayCompensationB h = refl
named name.xRateBound h = refl
named name.xChangeBound h = refl
named name.xDelayError h = refl

-- and is one of version 2
all-tested : {X : Type 0} (test : X → Bool) (xs : List X) → list_all test xs ≡ true → All (λ x. test x ≡ true) xs
all-tested test [] e = All-nil (λ x. test x ≡ true)
all-tested test (x ∷ xs) e =
    let here : test x ≡ true = and-left (test x) (list_all test xs) e in
    All-cons (λ y. test y ≡ true) x xs here (all-tested test xs (and-right (test x) (list_all test xs) e))

table-known : All (λ n. is_of_version Two n ≡ true) NAMES_OF_TWO
table-known = all-tested (is_of_version Two) NAMES_OF_TWO refl

listed-same : {A : Type 0} (n : ℕ) (at other : ℕ → Option A) → ((k : ℕ) → at k ≡ other k) → listed n at ≡ listed n other
listed-same {A} n at other same = ap (λ (f : ℕ → Option A). listed n f) (λ i k. same k i)

-- all records say what they are written for
say : (p : Values) → IsSane p → AreOnChannels p.nodes → Say p NAMES_OF_TWO p.nodes p.slots
say p sane on = record {
  values = λ i d lt. says-param p _ (table-known i d lt) (sane.ranges _);
  nodes_say = λ i d lt. says-node _ (sane.lists.nodes_sane i d lt) (on i d lt);
  slots_say = λ i d lt. says-slot _ (sane.lists.slots_sane i d lt).proper;
}

nodes-ascend : (p : Values) → IsSane p → Ascend (λ node. node.id) 1 p.nodes
nodes-ascend p sane = ascend (λ node. node.id) 1 p.nodes sane.lists.nodes_ascend (λ i d lt. (sane.lists.nodes_sane i d lt).proper.from)

slots-ascend : (p : Values) → IsSane p → Ascend (λ slot. slot.slot) 1 p.slots
slots-ascend p sane = ascend (λ slot. slot.slot) 1 p.slots sane.lists.slots_ascend (λ i d lt. (sane.lists.slots_sane i d lt).proper.from)

none-refused : (p : Values) → IsSane p → AreOnChannels p.nodes → NoneRefused param_reason_after (upgraded_records p)
none-refused p sane on =
    let all = say p sane on in
    none-slots p NAMES_OF_TWO p.nodes p.slots all.values all.nodes_say all.slots_say sane.lists.slots_sane (slots-ascend p sane)
    (none-nodes p NAMES_OF_TWO p.nodes all.values all.nodes_say sane.lists.nodes_sane (nodes-ascend p sane) (none-values p NAMES_OF_TWO all.values table-ascends))

stand : (p : Values) → IsSane p → AreOnChannels p.nodes → ParamsStandFor p (upgraded_records p)
stand p sane on =
    let all = say p sane on in
    record {
      figures = λ n known. rw begins-two (value-in p NAMES_OF_TWO p.nodes p.slots (place n) all ∙ ap (option_map (figure p)) (named n known));
      nodes = sym (rw begins-two (listed-same 64 (λ k. node_at Two k (upgraded_records p)) (λ k. at_number (λ node. node.id) k p.nodes) (λ k. node-in p NAMES_OF_TWO p.nodes p.slots k all)
          ∙ listed-back (λ node. node.id) 64 p.nodes (nodes-ascend p sane) (λ i d lt. (sane.lists.nodes_sane i d lt).proper.to)));
      slots = sym (rw begins-two (listed-same 1023 (λ k. slot_at Two k (upgraded_records p)) (λ k. at_number (λ slot. slot.slot) k p.slots) (λ k. slot-in p NAMES_OF_TWO p.nodes p.slots k all)
          ∙ listed-back (λ slot. slot.slot) 1023 p.slots (slots-ascend p sane) (λ i d lt. (sane.lists.slots_sane i d lt).proper.to)));
    }

all-plain : {X : Type 0} (record_of : X → FileRecord) (xs : List X) → All (λ x. is_plain_record (record_of x) ≡ true) xs → list_all is_plain_record (map record_of xs) ≡ true
all-plain record_of [] plain = refl
all-plain {X} record_of (x ∷ xs) plain =
    let here : is_plain_record (record_of x) ≡ true = All-head (λ (y : X). is_plain_record (record_of y) ≡ true) x xs plain in
    rw (here, all-plain record_of xs (All-tail (λ (y : X). is_plain_record (record_of y) ≡ true) x xs plain)) refl

plain : (p : Values) → IsSane p → list_all is_plain_record (upgraded_records p) ≡ true
plain p sane =
    let values = all-plain (param_record p) NAMES_OF_TWO (λ i d lt. param-plain p _ (sane.ranges _)) in
    let nodes = all-plain node_record p.nodes (λ i d lt. node-plain _ (sane.lists.nodes_sane i d lt).proper) in
    let slots = all-plain slot_record p.slots (λ i d lt. slot-plain _ (sane.lists.slots_sane i d lt).proper) in
    list_all-append is_plain_record (map (param_record p) NAMES_OF_TWO) (map node_record p.nodes ++ map slot_record p.slots)
    ∙ rw (values, list_all-append is_plain_record (map node_record p.nodes) (map slot_record p.slots), nodes, slots) refl

-- its text has these records
pub records-back : (p : Values) → IsSane p → records_of (upgraded_text p) ≡ upgraded_records p
unfolding upgraded_text
records-back p sane = records-read-back (upgraded_records p) (plain p sane) (λ e. absurd (omega (arith, e)))

pub texts-accepted : TextsAreAccepted
texts-accepted p sane on =
    let P : List FileRecord → Type 0 = λ records. NoneRefused param_reason_after records in
    let Q : List FileRecord → Type 0 = λ records. ParamsStandFor p records in
    record {
      none_refused = subst P (sym (records-back p sane)) (none-refused p sane on);
      stands = subst Q (sym (records-back p sane)) (stand p sane on);
      constraints = sane.constraints;
    }
