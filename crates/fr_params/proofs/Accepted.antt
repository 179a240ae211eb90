-- What an accepted file stands for is assembled of its own numbers, nodes and further slots.
use Rattle.std.proofs.Common.{◌≡◌, ℕ, Bool, true, false, List, [], ◌∷◌, ◌++◌, Option, Some, None, Result, Ok, Err, sym, ◌∙◌, refl, subst, arith, replicate, append_assoc}
use Rattle.std.specs.Prelude.{if◌then◌else◌, is_none, is_some, not, slice_set, IfOk, IsSome}
use Rattle.std.proofs.lemmas.List.{append-nil}
use Rattle.fr_base.specs.declared.reason.Reason.{Reason}
use Rattle.fr_base.specs.declared.reason.Reason.TheVariants as reason
use Rattle.fr_text.specs.Records.{FileRecord, records_of}
use Rattle.fr_text.specs.Refusal.{NoneRefused}
use Rattle.fr_cluster.specs.Constraints.{AllHold, Amounts, key_slots}
use Rattle.fr_params.specs.Making.{IsMadeOf}
use Rattle.fr_params.specs.Names.{place}
use Rattle.fr_cluster.specs.Numbers.{number_in}
use Rattle.fr_cluster.specs.Ranges.{InRange, has_turn, is_keyless_starter}
use Rattle.fr_cluster.specs.Sane.{AreSaneLists}
use Rattle.fr_cluster.specs.Values.{Values, figure}
use Rattle.fr_cluster.specs.declared.names.ParamName.{ParamName}
use Rattle.fr_cluster.specs.declared.names.ParamName.TheVariants as name
use Rattle.fr_params.specs.declared.names.Version.TheVariants.{One, Two}
use Rattle.fr_cluster.proofs.Figures.{amount-same}
use Rattle.fr_params.proofs.Places.{place-lt}
use Rattle.fr_params.specs.Assembling.{Assembles, AssemblesFiles, numbers_of}
use Rattle.fr_params.specs.Draft.{AreTables, IsParamsDraft, entry}
use Rattle.fr_params.specs.Files.{IsParamsFile}
use Rattle.fr_params.specs.Reasons.{node_at, param_reason_after, param_row_reason, slot_at}
use Rattle.fr_params.specs.Rows.{param_row_of}
use Rattle.fr_params.specs.Versions.{is_of_version, row_name, version_of, version_with}
use Rattle.fr_params.specs.declared.draft.Draft.{Draft}
use Rattle.fr_params.specs.declared.draft.Tables.{Tables}
use Rattle.fr_params.specs.declared.fault.ParamFault.{ParamFault}
use Rattle.fr_params.specs.declared.rows.Row.{Row}
use Rattle.fr_params.specs.declared.rows.Row.TheVariants as row
use Rattle.fr_params.proofs.Listing.{listed-same, sane-lists}
use Rattle.fr_params.proofs.ProperRows.{proper-row}
use Rattle.fr_params.proofs.TableOfTwo.{range-max, row-range}
use Rattle.fr_params.proofs.Tables.{tables-nil, tables-node, tables-slot, tables-value, tables-version}
use Rattle.fr_params.proofs.Taking.{seen-more, tables-with}

-- of a record that is not refused each test is passed
not-again : {A : Type 0} (o : Option A) → (if is_some o then Some reason.Repeated else None) ≡ None → o ≡ None
not-again None e = refl
not-again (Some x) e = cc e

node-passes : {A : Type 0} (b : Bool) (o : Option A) → (if b then Some reason.Role else if is_some o then Some reason.Repeated else None) ≡ None → (b ≡ false) × (o ≡ None)
node-passes true o e = cc e
node-passes false o e = (refl, not-again o e)

slot-passes : {A B : Type 0} (o : Option A) (b : Bool) (s : Option B)
    → (if is_none o then Some reason.UnknownNode else if not b then Some reason.Role else if is_some s then Some reason.Repeated else None) ≡ None → IsSome o × ((b ≡ true) × (s ≡ None))
slot-passes None b s e = cc e
slot-passes (Some x) true s e = (refl, (refl, not-again s e))
slot-passes (Some x) false s e = cc e

-- a record that is not refused is taken
take-next : (d : Draft) (done : List FileRecord) (r : FileRecord) → IsParamsDraft d done → param_reason_after done r ≡ None → (after : Draft) × IsParamsDraft after (done ++ r ∷ [])
take-next d done r h fine = by (param_row_of (version_with done r) r) refl fine
  where
    before : AreTables (version_with done r) d.tables done
    before = tables-with d.tables done r h.tables

    kept : (after : Tables) → AreTables (version_with done r) after (done ++ r ∷ []) → (e : Draft) × IsParamsDraft e (done ++ r ∷ [])
    kept after tables = (record { version = Some (version_with done r); tables = after }, record { version = sym (seen-more done r); tables = tables })

    by : (x : Result Row Reason) → param_row_of (version_with done r) r ≡ x → param_row_reason (version_with done r) done x ≡ None → (e : Draft) × IsParamsDraft e (done ++ r ∷ [])
    by (Err why) e none = cc none
    by (Ok row.Version) e none = kept d.tables (tables-version (version_with done r) d.tables done r before e)
    by (Ok (row.Param n v)) e none =
        kept (record d.tables { values = slice_set d.tables.values (place n) (Some v) })
        (tables-value (version_with done r) d.tables done r n v before e (proper-row (version_with done r) r (row.Param n v) e) (before.values.same (place n) (place-lt n) ∙ not-again _ none))
    by (Ok (row.Node node)) e none =
        let is_proper = proper-row (version_with done r) r (row.Node node) e in
        let passes = node-passes (is_keyless_starter node) (node_at (version_with done r) node.id done) none in
        kept (record d.tables { nodes = slice_set d.tables.nodes node.id (Some node) })
        (tables-node (version_with done r) d.tables done r node before e is_proper passes.0 (before.nodes.same node.id (omega (arith, is_proper.to)) ∙ passes.1))
    by (Ok (row.Slot slot)) e none =
        let is_proper = proper-row (version_with done r) r (row.Slot slot) e in
        let passes = slot-passes (node_at (version_with done r) slot.node done) (has_turn slot) (slot_at (version_with done r) slot.slot done) none in
        kept (record d.tables { slots = slice_set d.tables.slots slot.slot (Some slot) })
        (tables-slot (version_with done r) d.tables done r slot before e is_proper passes.1.0 (rw (before.nodes.same slot.node (omega (arith, is_proper.node_to))) passes.0)
        (before.slots.same slot.slot (omega (arith, is_proper.to)) ∙ passes.1.1))

-- and so are all records of which none is refused
take-all : (rest done : List FileRecord) (d : Draft) → IsParamsDraft d done → NoneRefused param_reason_after (done ++ rest) → (after : Draft) × IsParamsDraft after (done ++ rest)
take-all [] done d h none = (d, rw (append-nil done) h)
take-all (r ∷ rest) done d h none =
    let next = take-next d done r h (none done r rest refl) in
    let same = append_assoc done (r ∷ []) rest in
    let N : List FileRecord → Type 0 = λ xs. NoneRefused param_reason_after xs in
    let D : List FileRecord → Type 0 = λ xs. (after : Draft) × IsParamsDraft after xs in
    subst D same (take-all rest (done ++ r ∷ []) next.0 next.1 (subst N (sym same) none))

drafted : (records : List FileRecord) → NoneRefused param_reason_after records → (d : Draft) × IsParamsDraft d records
drafted records none =
    let empty : Draft = record { version = None; tables = record { values = replicate 21 None; nodes = replicate 65 None; slots = replicate 1024 None } } in
    take-all records [] empty (record { version = refl; tables = tables-nil One _ refl refl refl }) none

-- the number of each name lies in its range
file-ranged : (p : Values) (bytes : List ℕ) → IsParamsFile p bytes → (n : ParamName) → InRange n (figure p n)
file-ranged p bytes f n = by n
  where
    draft : (d : Draft) × IsParamsDraft d (records_of bytes)
    draft = drafted (records_of bytes) f.none_refused

    in_row : (m : ParamName) → is_of_version Two m ≡ true → InRange m (figure p m)
    in_row m e =
        row-range (version_of (records_of bytes)) m (figure p m)
        (draft.1.tables.ranged (row_name (version_of (records_of bytes)) m) (figure p m)
        (draft.1.tables.values.same (place (row_name (version_of (records_of bytes)) m)) (place-lt (row_name (version_of (records_of bytes)) m)) ∙ f.stands.figures m e))

    by : (m : ParamName) → InRange m (figure p m)
    by name.pDelayCompensation = range-max p.compensation_a p.compensation_b (in_row name.pDelayCompensationA refl) (in_row name.pDelayCompensationB refl)
    by other = in_row other refl

file-lists : (p : Values) (bytes : List ℕ) → IsParamsFile p bytes → AreSaneLists p.nodes p.slots
file-lists p bytes f =
    let version = version_of (records_of bytes) in
    let draft = drafted (records_of bytes) f.none_refused in
    sane-lists version draft.0.tables (records_of bytes) p.nodes p.slots draft.1.tables
    (f.stands.nodes ∙ sym (listed-same 64 (entry draft.0.tables.nodes) (λ k. node_at version k (records_of bytes)) (λ k le. draft.1.tables.nodes.same k (omega arith))))
    (f.stands.slots ∙ sym (listed-same 1023 (entry draft.0.tables.slots) (λ k. slot_at version k (records_of bytes)) (λ k le. draft.1.tables.slots.same k (omega arith))))

-- the numbers of parameters are theirs
number-own : (p : Values) (n : ParamName) → number_in (numbers_of p) n ≡ figure p n
number-own p name.gMacroPerCycle = refl
number-own p other = refl

made-again : (p q : Values) → IsMadeOf q (numbers_of p) p.nodes p.slots → q ≡ p
made-again p q h = λ i. record {
  macros = h.figures name.gMacroPerCycle i;
  micros = h.figures name.pMicroPerCycle i;
  static_slots = h.figures name.gNumberOfStaticSlots i;
  slot_macros = h.figures name.gdStaticSlot i;
  action_offset = h.figures name.gdActionPointOffset i;
  idle_macros = h.figures name.gdNIT i;
  words = h.figures name.gPayloadLengthStatic i;
  correction = h.figures name.gOffsetCorrectionStart i;
  max_passive = h.figures name.gMaxWithoutClockCorrectionPassive i;
  max_fatal = h.figures name.gMaxWithoutClockCorrectionFatal i;
  halt_allowed = h.figures name.pAllowHaltDueToClock i;
  to_active = h.figures name.pAllowPassiveToActive i;
  damping = h.figures name.pClusterDriftDamping i;
  offset_limit = h.figures name.pOffsetCorrectionOut i;
  rate_limit = h.figures name.pRateCorrectionOut i;
  compensation_a = h.figures name.pDelayCompensationA i;
  compensation_b = h.figures name.pDelayCompensationB i;
  rate_bound = h.figures name.xRateBound i;
  change_bound = h.figures name.xChangeBound i;
  delay_error = h.figures name.xDelayError i;
  nodes = h.nodes_are i;
  slots = h.slots_are i;
}

same-ok : (p : Values) (result : Result Values ParamFault) → Assembles (numbers_of p) p.nodes p.slots result → IfOk result (λ other. other ≡ p)
same-ok p (Ok q) h = made-again p q h
same-ok p (Err why) h = tt

pub assembles-files : AssemblesFiles
assembles-files p bytes f =
    let P : Amounts → Type 0 = λ g. AllHold g (key_slots p.nodes) p.slots in
    record {
      accepted = record {
        long = refl;
        ranged = λ n. rw (number-own p n) (file-ranged p bytes f n);
        lists = file-lists p bytes f;
        constraints = subst P (sym (amount-same p (numbers_of p) (λ n. sym (number-own p n)))) f.constraints;
      };
      same = same-ok p;
    }
