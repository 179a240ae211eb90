-- What records say, against what their forms ask of their fields.
use Rattle.std.proofs.Common.{◌≡◌, ℕ, ℤ, pos, negsuc, Bool, true, false, List, [], ◌∷◌, ◌++◌, Option, Some, None, Result, Ok, Err, ap, sym, ◌∙◌, refl, subst}
use Rattle.std.specs.Prelude.{int_lt, not, ◌||◌, ◌&&◌, if◌then◌else◌}
use Rattle.std.specs.List.{list_all, list_any}
use Rattle.std.specs.Option.{option_map_or}
use Rattle.std.proofs.lemmas.List.Folds.{list_any-append}
use Rattle.fr_base.specs.Number.{number_of, within}
use Rattle.fr_base.specs.declared.numbers.NumberFault.{NumberFault}
use Rattle.fr_base.specs.declared.numbers.NumberFault.TheVariants as fault
use Rattle.fr_base.specs.declared.reason.Reason.{Reason}
use Rattle.fr_base.specs.declared.reason.Reason.TheVariants as reason
use Rattle.fr_text.specs.Fields.{natural_within, natural_of, both_of, or_reason, is_blank}
use Rattle.fr_text.specs.Least.{IsLeastReason}
use Rattle.fr_text.specs.Forms.{NumberField, number_field, is_no_number, is_number_outside, Form, has_unknown_name, has_no_number, is_out_of_range, has_bad_channels}
use Rattle.fr_text.proofs.LeastReasons.{least-first}

or-no : (a b : Bool) → a ≡ false → b ≡ false → (a || b) ≡ false
or-no a b e f = rw (e, f) refl

or-left : (a b : Bool) → a ≡ true → (a || b) ≡ true
or-left a b e = rw e refl

or-right : (a b : Bool) → b ≡ true → (a || b) ≡ true
or-right true b e = refl
or-right false b e = e

-- a number that is read, or the fault of its fields: whether one of them is no number, and whether one is out of range;
-- that may depend on further limits of the number
abbrev pub IsFault : {A : Type 0} → (A → Bool) → Bool → Bool → Result A NumberFault → Type 0
IsFault out digits range (Ok a) = (digits ≡ false) × (range ≡ out a)
IsFault out digits range (Err fault.NotDigits) = digits ≡ true
IsFault out digits range (Err fault.OutOfRange) = (digits ≡ false) × (range ≡ true)

fault-both : {A B : Type 0} (out : A → Bool) (far : B → Bool) (d e r s : Bool) (a : Result A NumberFault) (b : Result B NumberFault) → IsFault out d r a → IsFault far e s b
    → IsFault (λ (p : A × B). out p.0 || far p.1) (d || e) (r || s) (both_of a b)
fault-both out far d e r s (Ok a) (Ok b) f g = (or-no d e f.0 g.0, λ i. f.1 i || g.1 i)
fault-both out far d e r s (Ok a) (Err fault.NotDigits) f g = or-right d e g
fault-both out far d e r s (Ok a) (Err fault.OutOfRange) f g = (or-no d e f.0 g.0, or-right r s g.1)
fault-both out far d e r s (Err fault.NotDigits) b f g = or-left d e f
fault-both out far d e r s (Err fault.OutOfRange) (Ok b) f g = (or-no d e f.0 g.0, or-left r s f.1)
fault-both out far d e r s (Err fault.OutOfRange) (Err fault.NotDigits) f g = or-right d e g
fault-both out far d e r s (Err fault.OutOfRange) (Err fault.OutOfRange) f g = (or-no d e f.0 g.0, or-left r s f.1)

-- the same, by the fields themselves, and whether texts are short enough
abbrev pub IsRead : {A : Type 0} → (A → Bool) → List NumberField → Bool → Result A NumberFault → Type 0
IsRead out fields short x = IsFault out (list_any is_no_number fields) (list_any is_number_outside fields || not short) x

parts : (a b v w : Bool) → ((a || b) || not (v && w)) ≡ ((a || not v) || (b || not w))
parts true b v w = refl
parts false true true w = refl
parts false true false w = refl
parts false false true w = refl
parts false false false w = refl

pub read-both : {A B : Type 0} (out : A → Bool) (far : B → Bool) (fs gs : List NumberField) (v w : Bool) (a : Result A NumberFault) (b : Result B NumberFault)
    → IsRead out fs v a → IsRead far gs w b → IsRead (λ (p : A × B). out p.0 || far p.1) (fs ++ gs) (v && w) (both_of a b)
read-both {A} {B} out far fs gs v w a b f g =
    let e : list_any is_no_number (fs ++ gs) ≡ (list_any is_no_number fs || list_any is_no_number gs) = list_any-append is_no_number fs gs in
    let r : (list_any is_number_outside (fs ++ gs) || not (v && w)) ≡ ((list_any is_number_outside fs || not v) || (list_any is_number_outside gs || not w)) =
    ap (λ (x : Bool). x || not (v && w)) (list_any-append is_number_outside fs gs) ∙ parts (list_any is_number_outside fs) (list_any is_number_outside gs) v w
    in
    let P : Bool → Type 0 = λ d. IsFault (λ (p : A × B). out p.0 || far p.1) d (list_any is_number_outside (fs ++ gs) || not (v && w)) (both_of a b) in
    let Q : Bool → Type 0 = λ s. IsFault (λ (p : A × B). out p.0 || far p.1) (list_any is_no_number fs || list_any is_no_number gs) s (both_of a b) in
    subst P (sym e) (subst Q (sym r) (fault-both out far _ _ _ _ a b f g))

-- no limit but those of the range
abbrev pub never : {A : Type 0} → A → Bool
never a = false

chosen : (b : Bool) (z : ℤ) → IsFault never false ((b || false) || false) (if b then Err fault.OutOfRange else Ok z)
chosen true z = (refl, refl)
chosen false z = (refl, refl)

within-fault : (lo hi : ℤ) (o : Option ℤ) (text : List ℕ) → number_of text ≡ o → IsRead never (record { text = text; low = lo; high = hi } ∷ []) true (within lo hi o)
within-fault lo hi None text e = rw e refl
within-fault lo hi (Some z) text e = rw e (chosen (int_lt z lo || int_lt hi z) z)

pub within-read : (lo hi : ℤ) (text : List ℕ) → IsRead never (record { text = text; low = lo; high = hi } ∷ []) true (within lo hi (number_of text))
within-read lo hi text = within-fault lo hi (number_of text) text refl

chosen-natural : (b : Bool) (n : ℕ) → IsFault never false ((b || false) || false) (if b then Err fault.OutOfRange else Ok n)
chosen-natural true n = (refl, refl)
chosen-natural false n = (refl, refl)

natural-fault : (low high : ℕ) (o : Option ℤ) (text : List ℕ) → number_of text ≡ o → IsRead never (number_field text low high ∷ []) true (natural_within low high o)
natural-fault low high None text e = rw e refl
natural-fault low high (Some (pos n)) text e = rw e (chosen-natural _ n)
natural-fault low high (Some (negsuc n)) text e = rw e (refl, refl)

pub natural-read : (low high : ℕ) (text : List ℕ) → IsRead never (number_field text low high ∷ []) true (natural_of low high text)
natural-read low high text = natural-fault low high (number_of text) text refl

-- what a record says, or the reason that its form shows: of those that hold the least. Of a row that is said two tests are
-- left to ask: further limits of its numbers, and whether it names channels
abbrev pub IsFormed : {Row : Type 0} → (Row → Bool) → (Row → Bool) → Bool → Bool → Bool → Bool → Bool → Result Row Reason → Type 0
IsFormed out bad shape name digits range channel (Ok row) = (shape ≡ false) × (name ≡ false) × (digits ≡ false) × (range ≡ out row) × (channel ≡ bad row)
IsFormed out bad shape name digits range channel (Err reason.Shape) = shape ≡ true
IsFormed out bad shape name digits range channel (Err reason.UnknownName) = (shape ≡ false) × (name ≡ true)
IsFormed out bad shape name digits range channel (Err reason.NotNumber) = (shape ≡ false) × (name ≡ false) × (digits ≡ true)
IsFormed out bad shape name digits range channel (Err reason.OutOfRange) = (shape ≡ false) × (name ≡ false) × (digits ≡ false) × (range ≡ true)
IsFormed out bad shape name digits range channel (Err reason.UnknownNode) = ⊥
IsFormed out bad shape name digits range channel (Err reason.BadChannel) = (shape ≡ false) × (name ≡ false) × (digits ≡ false) × (range ≡ false) × (channel ≡ true)
IsFormed out bad shape name digits range channel (Err reason.Role) = ⊥
IsFormed out bad shape name digits range channel (Err reason.Link) = ⊥
IsFormed out bad shape name digits range channel (Err reason.NotHex) = ⊥
IsFormed out bad shape name digits range channel (Err reason.Repeated) = ⊥

-- a field that the form of a record leaves empty is not empty
abbrev pub is_overfull : Option Form → Bool
is_overfull form = option_map_or (λ f. not (list_all is_blank f.empty)) form false

-- by a form, of a record that has the right number of fields
abbrev pub IsFormedBy : {Row : Type 0} → (Row → Bool) → (Row → Bool) → Option Form → Result Row Reason → Type 0
IsFormedBy out bad form x = IsFormed out bad (is_overfull form) (has_unknown_name form) (has_no_number form) (is_out_of_range form) (has_bad_channels form) x

-- of one kind or else of another
pub formed-if : {Row : Type 0} (out bad : Row → Bool) (b : Bool) (f g : Option Form) (x y : Result Row Reason) → IsFormedBy out bad f x → IsFormedBy out bad g y
    → IsFormedBy out bad (if b then f else g) (if b then x else y)
formed-if out bad true f g x y one other = one
formed-if out bad false f g x y one other = other

-- one field is left empty
pub formed-one : {Row : Type 0} (out bad : Row → Bool) (a name digits range channel : Bool) (x : Result Row Reason) → IsFormed out bad false name digits range channel x
    → IsFormed out bad (not (a && true)) name digits range channel (if a then x else Err reason.Shape)
formed-one out bad true name digits range channel x f = f
formed-one out bad false name digits range channel x f = refl

-- two fields are left empty
pub formed-two : {Row : Type 0} (out bad : Row → Bool) (a b name digits range channel : Bool) (x : Result Row Reason) → IsFormed out bad false name digits range channel x
    → IsFormed out bad (not (a && (b && true))) name digits range channel (if a && b then x else Err reason.Shape)
formed-two out bad true true name digits range channel x f = f
formed-two out bad true false name digits range channel x f = refl
formed-two out bad false b name digits range channel x f = refl

-- four fields are left empty
pub formed-four : {Row : Type 0} (out bad : Row → Bool) (a b c d name digits range channel : Bool) (x : Result Row Reason) → IsFormed out bad false name digits range channel x
    → IsFormed out bad (not (a && (b && (c && (d && true))))) name digits range channel (if a && b then (if c && d then x else Err reason.Shape) else Err reason.Shape)
formed-four out bad true true c d name digits range channel x f = formed-two out bad c d name digits range channel x f
formed-four out bad true false c d name digits range channel x f = refl
formed-four out bad false b c d name digits range channel x f = refl

-- five fields are left empty
pub formed-five : {Row : Type 0} (out bad : Row → Bool) (a b c d e name digits range channel : Bool) (x : Result Row Reason) → IsFormed out bad false name digits range channel x
    → IsFormed out bad (not (a && (b && (c && (d && (e && true)))))) name digits range channel (if a && b && c && d && e then x else Err reason.Shape)
formed-five out bad true true true d e name digits range channel x f = formed-two out bad d e name digits range channel x f
formed-five out bad true true false d e name digits range channel x f = refl
formed-five out bad true false c d e name digits range channel x f = refl
formed-five out bad false b c d e name digits range channel x f = refl

-- a record of another number of fields has no form
pub formed-sized : {Row : Type 0} (out bad : Row → Bool) (b shape name digits range channel : Bool) (x : Result Row Reason)
    → IsFormed out bad shape name digits range channel x → IsFormed out bad (not b || shape) name digits range channel (if b then x else Err reason.Shape)
formed-sized out bad true shape name digits range channel x f = f
formed-sized out bad false shape name digits range channel x f = refl

-- numbers of a record
pub formed-read : {A Row : Type 0} (out bad : Row → Bool) (far : A → Bool) (digits range channel : Bool) (use_of : A → Result Row Reason) (x : Result A NumberFault) → IsFault far digits range x
    → ((a : A) → (d r : Bool) → d ≡ false → r ≡ far a → IsFormed out bad false false d r channel (use_of a)) → IsFormed out bad false false digits range channel (or_reason use_of x)
formed-read out bad far digits range channel use_of (Ok a) f each = each a digits range f.0 f.1
formed-read out bad far digits range channel use_of (Err fault.NotDigits) f each = (refl, refl, f)
formed-read out bad far digits range channel use_of (Err fault.OutOfRange) f each = (refl, refl, f.0, f.1)

-- a reason that a form shows is the least that holds
pub least-formed : {Row : Type 0} (out bad : Row → Bool) (test : Reason → Bool) (why : Reason)
    → IsFormed out bad (test reason.Shape) (test reason.UnknownName) (test reason.NotNumber) (test reason.OutOfRange) (test reason.BadChannel) (Err why)
    → test reason.UnknownNode ≡ false → IsLeastReason test (Some why)
least-formed out bad test reason.Shape f node = least-first test true _ _ _ _ _ _ _ _ _ f refl refl refl refl refl refl refl refl refl
least-formed out bad test reason.UnknownName f node = least-first test false true _ _ _ _ _ _ _ _ f.0 f.1 refl refl refl refl refl refl refl refl
least-formed out bad test reason.NotNumber f node = least-first test false false true _ _ _ _ _ _ _ f.0 f.1 f.2 refl refl refl refl refl refl refl
least-formed out bad test reason.OutOfRange f node = least-first test false false false true _ _ _ _ _ _ f.0 f.1 f.2 f.3 refl refl refl refl refl refl
least-formed out bad test reason.UnknownNode f node = absurd f
least-formed out bad test reason.BadChannel f node = least-first test false false false false false true _ _ _ _ f.0 f.1 f.2 f.3 node f.4 refl refl refl refl
least-formed out bad test reason.Role f node = absurd f
least-formed out bad test reason.Link f node = absurd f
least-formed out bad test reason.NotHex f node = absurd f
least-formed out bad test reason.Repeated f node = absurd f
