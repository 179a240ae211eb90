-- What reading a file may answer is one answer, but for want of memory.
use Rattle.std.proofs.Common.{◌≡◌, ℕ, ℤ, zero, suc, ◌<◌, List, Option, Some, None, Ok, Err, ap, sym, ◌∙◌, refl, arith, true, false, Bool, ◌⊎◌, inl, inr, subst}
use Rattle.std.specs.Prelude.{IsSome, nat_lt}
use Rattle.std.proofs.lemmas.Bool.{cases_eq}
use borrow.Author.Tests.{ltb-true, ltb-false}
use Rattle.fr_text.specs.Records.{FileRecord, records_of}
use Rattle.fr_text.specs.Kind.{HasOneAnswer}
use Rattle.fr_text.proofs.Cuts.{first-same, refused-none}
use Rattle.fr_params.specs.Names.{place}
use Rattle.fr_params.specs.Reasons.{param_reason_after}
use Rattle.fr_params.specs.Versions.{is_of_version, name_at, row_name, version_of}
use Rattle.fr_cluster.specs.Values.{Values, figure, amount}
use Rattle.fr_cluster.specs.Constraints.{Amounts, ConstraintHolds, AllHold, FirstFails, key_slots}
use Rattle.fr_params.specs.Files.{ParamsStandFor, IsParamsFile, IsMissing, FailsConstraint, params_file, value_named}
use Rattle.fr_cluster.specs.declared.names.ParamName.{ParamName}
use Rattle.fr_cluster.specs.declared.names.ParamName.TheVariants as name
use Rattle.fr_cluster.specs.declared.nodes.SlotSpec.{SlotSpec}
use Rattle.fr_params.specs.declared.fault.ParamFault.TheVariants as fault
use Rattle.fr_params.proofs.Places.{place-one}
use Rattle.fr_params.specs.declared.names.Version.TheVariants.{Two}
use Rattle.fr_params.proofs.TableOfTwo.{index, index-lt, row-at, two-at}

some-same : {A : Type 0} (x y : A) → Some x ≡ Some y → x ≡ y
some-same x y e = cc e

-- records stand for one value
stands-same : (p q : Values) (records : List FileRecord) → ParamsStandFor p records → ParamsStandFor q records → p ≡ q
stands-same p q records f g = λ i. record {
  macros = figures name.gMacroPerCycle refl i;
  micros = figures name.pMicroPerCycle refl i;
  static_slots = figures name.gNumberOfStaticSlots refl i;
  slot_macros = figures name.gdStaticSlot refl i;
  action_offset = figures name.gdActionPointOffset refl i;
  idle_macros = figures name.gdNIT refl i;
  words = figures name.gPayloadLengthStatic refl i;
  correction = figures name.gOffsetCorrectionStart refl i;
  max_passive = figures name.gMaxWithoutClockCorrectionPassive refl i;
  max_fatal = figures name.gMaxWithoutClockCorrectionFatal refl i;
  halt_allowed = figures name.pAllowHaltDueToClock refl i;
  to_active = figures name.pAllowPassiveToActive refl i;
  damping = figures name.pClusterDriftDamping refl i;
  offset_limit = figures name.pOffsetCorrectionOut refl i;
  rate_limit = figures name.pRateCorrectionOut refl i;
  compensation_a = figures name.pDelayCompensationA refl i;
  compensation_b = figures name.pDelayCompensationB refl i;
  rate_bound = figures name.xRateBound refl i;
  change_bound = figures name.xChangeBound refl i;
  delay_error = figures name.xDelayError refl i;
  nodes = nodes i;
  slots = slots i;
}
  where
    figures : (n : ParamName) → is_of_version Two n ≡ true → figure p n ≡ figure q n
    figures n e = some-same (figure p n) (figure q n) (sym (f.figures n e) ∙ g.figures n e)

    nodes : p.nodes ≡ q.nodes
    nodes = f.nodes ∙ sym g.nodes

    slots : p.slots ≡ q.slots
    slots = f.slots ∙ sym g.slots

-- all constraints hold by their numbers
holds-of : (f : Amounts) (keys : List ℕ) (slots : List SlotSpec) → AllHold f keys slots → (k : ℕ) → ConstraintHolds k f keys slots
holds-of f keys slots h zero = tt
holds-of f keys slots h (suc zero) = h.whole_cycle
holds-of f keys slots h (suc (suc zero)) = h.acts_in_slot
holds-of f keys slots h (suc (suc (suc zero))) = h.corrects_after
holds-of f keys slots h (suc (suc (suc (suc zero)))) = h.leaves_microticks
holds-of f keys slots h (suc (suc (suc (suc (suc zero))))) = h.passive_first
holds-of f keys slots h (suc (suc (suc (suc (suc (suc zero)))))) = h.sync_nodes
holds-of f keys slots h (suc (suc (suc (suc (suc (suc (suc zero))))))) = h.own_slots
holds-of f keys slots h (suc (suc (suc (suc (suc (suc (suc (suc zero)))))))) = h.free_slots
holds-of f keys slots h (suc (suc (suc (suc (suc (suc (suc (suc (suc k))))))))) = tt

-- a name of the version is that of the row of one of the numbers
stands-missing : (p : Values) (records : List FileRecord) (n : ParamName) → ParamsStandFor p records → is_of_version (version_of records) n ≡ true → value_named n records ≡ None → ⊥
stands-missing p records n f known none =
    let there = f.figures (name_at (index n)) (two-at (index n) (index-lt n)) in
    let here : row_name (version_of records) (name_at (index n)) ≡ n = row-at (version_of records) n known in
    let both : Some (figure p (name_at (index n))) ≡ None = sym there ∙ ap (λ (m : ParamName). value_named m records) here ∙ none in
    cc both

-- the first missing name is one
missing-same : (records : List FileRecord) (m n : ParamName) → IsMissing m records → IsMissing n records → m ≡ n
missing-same records m n f g = by (cases_eq (place m) (place n))
  where
    clash : (o : Option ℤ) → o ≡ None → IsSome o → ⊥
    clash None e s = cc s
    clash (Some x) e s = cc e

    order : (b : Bool) → nat_lt (place m) (place n) ≡ b → (place m ≡ place n → ⊥) → m ≡ n
    order true e ne = absurd (clash (value_named m records) f.missing (g.earlier m f.known (ltb-true (place m) (place n) e)))
    order false e ne =
        let high = ltb-false (place m) (place n) e in
        let lt : place n < place m = omega (arith, ne) in
        absurd (clash (value_named n records) g.missing (f.earlier n g.known lt))

    by : (place m ≡ place n) ⊎ (place m ≡ place n → ⊥) → m ≡ n
    by (inl e) = place-one m n e
    by (inr ne) = order (nat_lt (place m) (place n)) refl ne

-- the least constraint that fails is one
fails-same : (f : Amounts) (keys : List ℕ) (slots : List SlotSpec) (j k : ℕ) → FirstFails j f keys slots → FirstFails k f keys slots → j ≡ k
fails-same f keys slots j k a b = by (cases_eq j k)
  where
    order : (t : Bool) → nat_lt j k ≡ t → (j ≡ k → ⊥) → j ≡ k
    order true e ne = absurd (a.fails (b.earlier j (ltb-true j k e)))
    order false e ne =
        let high = ltb-false j k e in
        let lt : k < j = omega (arith, ne) in
        absurd (b.fails (a.earlier k lt))

    by : (j ≡ k) ⊎ (j ≡ k → ⊥) → j ≡ k
    by (inl e) = e
    by (inr ne) = order (nat_lt j k) refl ne

-- a file that is accepted fails no constraint
file-fails : (p : Values) (bytes : List ℕ) (k : ℕ) → IsParamsFile p bytes → FailsConstraint k (records_of bytes) → ⊥
file-fails p bytes k f g =
    let same = stands-same g.values p (records_of bytes) g.stands f.stands in
    let P : Values → Type 0 = λ v. FirstFails k (amount v) (key_slots v.nodes) v.slots in
    let fails = subst P same g.fails in
    fails.fails (holds-of (amount p) (key_slots p.nodes) p.slots f.constraints k)

constraint-same : (records : List FileRecord) (j k : ℕ) → FailsConstraint j records → FailsConstraint k records → j ≡ k
constraint-same records j k f g =
    let same = stands-same g.values f.values records g.stands f.stands in
    let P : Values → Type 0 = λ v. FirstFails k (amount v) (key_slots v.nodes) v.slots in
    fails-same (amount f.values) (key_slots f.values.nodes) f.values.slots j k f.fails (subst P same g.fails)

-- two answers to one file are the same, but for want of memory
pub reads-same : HasOneAnswer params_file
reads-same bytes (Ok p) (Ok q) na nb f g = ap (λ (v : Values). Ok v) (stands-same p q (records_of bytes) f.stands g.stands)
reads-same bytes (Ok p) (Err (fault.Row n why)) na nb f g = absurd (refused-none param_reason_after (records_of bytes) n why g f.none_refused)
reads-same bytes (Ok p) (Err (fault.Missing m)) na nb f g = absurd (stands-missing p (records_of bytes) m f.stands g.known g.missing)
reads-same bytes (Ok p) (Err (fault.Constraint k)) na nb f g = absurd (file-fails p bytes k f g)
reads-same bytes (Ok p) (Err fault.NoMemory) na nb f g = absurd (nb refl)
reads-same bytes (Err (fault.Row n why)) (Ok q) na nb f g = absurd (refused-none param_reason_after (records_of bytes) n why f g.none_refused)
reads-same bytes (Err (fault.Row n why)) (Err (fault.Row m other)) na nb f g = let same = first-same param_reason_after (records_of bytes) n m why other f g in cc
reads-same bytes (Err (fault.Row n why)) (Err (fault.Missing m)) na nb f g = absurd (refused-none param_reason_after (records_of bytes) n why f g.none_refused)
reads-same bytes (Err (fault.Row n why)) (Err (fault.Constraint k)) na nb f g = absurd (refused-none param_reason_after (records_of bytes) n why f g.none_refused)
reads-same bytes (Err (fault.Row n why)) (Err fault.NoMemory) na nb f g = absurd (nb refl)
reads-same bytes (Err (fault.Missing m)) (Ok q) na nb f g = absurd (stands-missing q (records_of bytes) m g.stands f.known f.missing)
reads-same bytes (Err (fault.Missing m)) (Err (fault.Row n why)) na nb f g = absurd (refused-none param_reason_after (records_of bytes) n why g f.none_refused)
reads-same bytes (Err (fault.Missing m)) (Err (fault.Missing n)) na nb f g = ap (λ (x : ParamName). Err (fault.Missing x)) (missing-same (records_of bytes) m n f g)
reads-same bytes (Err (fault.Missing m)) (Err (fault.Constraint k)) na nb f g = absurd (stands-missing g.values (records_of bytes) m g.stands f.known f.missing)
reads-same bytes (Err (fault.Missing m)) (Err fault.NoMemory) na nb f g = absurd (nb refl)
reads-same bytes (Err (fault.Constraint k)) (Ok q) na nb f g = absurd (file-fails q bytes k g f)
reads-same bytes (Err (fault.Constraint k)) (Err (fault.Row n why)) na nb f g = absurd (refused-none param_reason_after (records_of bytes) n why g f.none_refused)
reads-same bytes (Err (fault.Constraint k)) (Err (fault.Missing m)) na nb f g = absurd (stands-missing f.values (records_of bytes) m f.stands g.known g.missing)
reads-same bytes (Err (fault.Constraint j)) (Err (fault.Constraint k)) na nb f g = ap (λ (x : ℕ). Err (fault.Constraint x)) (constraint-same (records_of bytes) j k f g)
reads-same bytes (Err (fault.Constraint k)) (Err fault.NoMemory) na nb f g = absurd (nb refl)
reads-same bytes (Err fault.NoMemory) b na nb f g = absurd (na refl)
