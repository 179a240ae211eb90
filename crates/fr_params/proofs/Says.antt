-- What the records of an upgraded file say.
use Rattle.std.proofs.Common.{◌≡◌, ◌≤◌, ◌<◌, ◌^◌, ℕ, ℤ, pos, negsuc, ◌≤ℤ◌, Bool, true, false, [], ◌∷◌, length, Option, Some, None, Ok, ap, sym, ◌∙◌, subst, refl, arith}
use Rattle.std.specs.Prelude.{◌==◌, ◌||◌, IfSome, nat_abs, codes}
use Rattle.std.specs.Fmt.{decimal}
use Rattle.std.proofs.lemmas.Fmt.{decimal_is_IsNumeral}
use Rattle.std.proofs.lemmas.Int.{ints}
use Rattle.fr_text.proofs.Written.{natural-decimal, within-signed}
use Rattle.fr_text.specs.Fields.{is_blank, natural_of}
use Rattle.fr_params.specs.Names.{name_of, word_of}
use Rattle.fr_cluster.specs.Ranges.{greatest, least, InRange, IsProperSlot}
use Rattle.fr_cluster.specs.Sane.{IsSaneNode}
use Rattle.fr_cluster.specs.Values.{Values, amount, figure}
use Rattle.fr_cluster.specs.declared.names.ParamName.{ParamName}
use Rattle.fr_cluster.specs.declared.names.ParamName.TheVariants as name
use Rattle.fr_params.specs.declared.names.Version.TheVariants.{Two}
use Rattle.fr_cluster.specs.declared.nodes.NodeSpec.{NodeSpec}
use Rattle.fr_cluster.specs.declared.nodes.SlotSpec.{SlotSpec}
use Rattle.fr_params.specs.Rows.{channels_of, key_of, param_row_of}
use Rattle.fr_params.specs.Versions.{is_of_version, version_by}
use Rattle.fr_params.specs.declared.rows.Row.TheVariants as row
use Rattle.fr_params.specs.Texts.{channels_text, coldstart_text, key_text, node_record, param_record, slot_record, version_record}

pub says-version : param_row_of Two version_record ≡ Ok row.Version
unfolding param_row_of
says-version = refl

pub begins-two : version_by version_record ≡ Two
unfolding param_row_of
begins-two = refl

-- a name of version 2 is found by its word
spelt : (n : ParamName) → is_of_version Two n ≡ true → name_of Two (word_of n) ≡ Some n
spelt name.gMacroPerCycle h = refl
spelt name.pMicroPerCycle h = refl
spelt name.gNumberOfStaticSlots h = refl
spelt name.gdStaticSlot h = refl
spelt name.gdActionPointOffset h = refl
spelt name.gdNIT h = refl
spelt name.gPayloadLengthStatic h = refl
spelt name.gOffsetCorrectionStart h = refl
spelt name.gMaxWithoutClockCorrectionPassive h = refl
spelt name.gMaxWithoutClockCorrectionFatal h = refl
spelt name.pAllowHaltDueToClock h = refl
spelt name.pAllowPassiveToActive h = refl
spelt name.pClusterDriftDamping h = refl
spelt name.pOffsetCorrectionOut h = refl
spelt name.pRateCorrectionOut h = refl
spelt name.pDelayCompensation h = cc h
spelt name.pDelayCompensationA h = refl
spelt name.pDelayCompensationB h = refl
spelt name.xRateBound h = refl
spelt name.xChangeBound h = refl
spelt name.xDelayError h = refl

pub greatest-small : (n : ParamName) → greatest n ≤ 10_000_000
greatest-small name.gMacroPerCycle = omega arith
greatest-small name.pMicroPerCycle = omega arith
greatest-small name.gNumberOfStaticSlots = omega arith
greatest-small name.gdStaticSlot = omega arith
greatest-small name.gdActionPointOffset = omega arith
greatest-small name.gdNIT = omega arith
greatest-small name.gPayloadLengthStatic = omega arith
greatest-small name.gOffsetCorrectionStart = omega arith
greatest-small name.gMaxWithoutClockCorrectionPassive = omega arith
greatest-small name.gMaxWithoutClockCorrectionFatal = omega arith
greatest-small name.pAllowHaltDueToClock = omega arith
greatest-small name.pAllowPassiveToActive = omega arith
greatest-small name.pClusterDriftDamping = omega arith
greatest-small name.pOffsetCorrectionOut = omega arith
greatest-small name.pRateCorrectionOut = omega arith
greatest-small name.pDelayCompensation = omega arith
greatest-small name.pDelayCompensationA = omega arith
greatest-small name.pDelayCompensationB = omega arith
greatest-small name.xRateBound = omega arith
greatest-small name.xChangeBound = omega arith
greatest-small name.xDelayError = omega arith

-- a number in a range of naturals is its own amount
natural-back : (low high : ℕ) (z : ℤ) → pos low ≤ℤ z → z ≤ℤ pos high → pos (nat_abs z) ≡ z
natural-back low high (pos n) from to = refl
natural-back low high (negsuc n) from to = absurd (omega (arith, ints, from))

amount-small : (low high : ℕ) (z : ℤ) → pos low ≤ℤ z → z ≤ℤ pos high → nat_abs z ≤ high
amount-small low high (pos n) from to = omega (arith, ints, to)
amount-small low high (negsuc n) from to = absurd (omega (arith, ints, from))

pub amount-below : (p : Values) (n : ParamName) → InRange n (figure p n) → amount p n ≤ 10_000_000
amount-below p n h =
    let most = amount-small (least n) (greatest n) (figure p n) h.0 h.1 in
    let small = greatest-small n in
    omega (arith, most, small)

value-said : (n : ParamName) (k : ℕ) → is_of_version Two n ≡ true → pos (least n) ≤ℤ pos k → pos k ≤ℤ pos (greatest n)
    → param_row_of Two (codes "param" ∷ word_of n ∷ decimal k ∷ [] ∷ [] ∷ []) ≡ Ok (row.Param n (pos k))
unfolding param_row_of
value-said n k known from to =
    let small = greatest-small n in
    rw (spelt n known, within-signed (pos (least n)) (pos (greatest n)) (pos k) (omega (arith, ints)) (omega (arith, ints, small)) from to) refl

pub says-param : (p : Values) (n : ParamName) → is_of_version Two n ≡ true → InRange n (figure p n) → param_row_of Two (param_record p n) ≡ Ok (row.Param n (figure p n))
says-param p n known h =
    let back : pos (amount p n) ≡ figure p n = natural-back (least n) (greatest n) (figure p n) h.0 h.1 in
    let From : ℤ → Type 0 = λ z. pos (least n) ≤ℤ z in
    let To : ℤ → Type 0 = λ z. z ≤ℤ pos (greatest n) in
    value-said n (amount p n) known (subst From (sym back) h.0) (subst To (sym back) h.1) ∙ ap (λ (z : ℤ). Ok (row.Param n z)) back

not-blank : (n : ℕ) → n < 2 ^ 64 → is_blank (decimal n) ≡ false
not-blank n fits = let numeral = decimal_is_IsNumeral n fits in not-zero (length (decimal n)) numeral.0.0
  where
    not-zero : (k : ℕ) → 1 ≤ k → (k == 0) ≡ false
    not-zero k some = grind arith

key-back : (key : Option ℕ) → IfSome key (λ slot. (1 ≤ slot) × (slot ≤ 1023)) → key_of (key_text key) ≡ Ok key
key-back None h = refl
key-back (Some slot) h = rw (not-blank slot (omega (arith, h.1)), natural-decimal 1 1023 slot h.0 h.1 (omega (arith, h.1))) refl

channels-back : (a b : Bool) → (a || b) ≡ true → channels_of (channels_text a b) ≡ Some (a, b)
channels-back true true h = refl
channels-back true false h = refl
channels-back false true h = refl
channels-back false false h = cc h

bit : Bool → ℕ
bit true = 1
bit false = 0

coldstart-back : (c : Bool) → natural_of 0 1 (coldstart_text c) ≡ Ok (bit c)
unfolding bit
coldstart-back true = refl
coldstart-back false = refl

bit-back : (c : Bool) → (bit c == 1) ≡ c
unfolding bit
bit-back true = refl
bit-back false = refl

pub says-node : (node : NodeSpec) → IsSaneNode node → (node.on_a || node.on_b) ≡ true → param_row_of Two (node_record node) ≡ Ok (row.Node node)
unfolding param_row_of
says-node node h on =
    rw (
      natural-decimal 1 64 node.id h.proper.from h.proper.to (omega (arith, h.proper.to)),
      key-back node.key h.proper.key,
      channels-back node.on_a node.on_b on,
      coldstart-back node.coldstart,
      bit-back node.coldstart,
    )
    refl

pub says-slot : (slot : SlotSpec) → IsProperSlot slot → param_row_of Two (slot_record slot) ≡ Ok (row.Slot slot)
unfolding param_row_of
says-slot slot h =
    rw (
      natural-decimal 1 1023 slot.slot h.from h.to (omega (arith, h.to)),
      natural-decimal 1 64 slot.node h.node_from h.node_to (omega (arith, h.node_to)),
      natural-decimal 0 63 slot.base (omega arith) h.base_to (omega (arith, h.base_to)),
      natural-decimal 1 64 slot.repetition h.repetition_from h.repetition_to (omega (arith, h.repetition_to)),
    )
    refl
