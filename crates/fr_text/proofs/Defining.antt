-- From each file and what stands behind all: the bytes define one status.
use Rattle.std.proofs.Common.{◌≡◌, ℕ, suc, zero, ◌<◌, ◌≤◌, ◌⊎◌, inl, inr, List, [], ◌∷◌, length, Result, Ok, Err, refl, ap, sym, ◌∙◌, subst, arith}
use Rattle.std.specs.Prelude.{◌≢◌}
use Rattle.std.proofs.lemmas.List.Elements.{All-head, All-tail}
use Rattle.fr_base.specs.declared.shelf.TheConstants.{MAX_FILE}
use Rattle.fr_text.specs.Defined.{AreOctets, HasOneEnd, HasOneStatus, HasSomeEnd, HasSomeStatus}
use Rattle.fr_text.specs.Files.{Files, IsEndStatus, IsStatusOf, IsStopStatus, file, text}
use Rattle.fr_text.specs.Kind.{AreBytes, HasOneAnswer, HasSomeAnswer, IsRefusal, Kind, Reads}
use Rattle.fr_text.specs.Status.{code_of}
use Rattle.fr_text.specs.declared.kind.Stop.{Stop}
use Rattle.fr_text.specs.declared.status.Status.{Status}
use Rattle.fr_text.specs.declared.status.Status.TheVariants as status

-- ---- which status a file defines that is not accepted

-- bytes that are refused, and bytes that are too many
abbrev IsRefusedFile : {Value Fault : Type 0} → Kind Value Fault → List ℕ → Type 0
IsRefusedFile {Value} {Fault} kind bytes = (length bytes ≤ MAX_FILE) × ((fault : Fault) × IsRefusal kind bytes fault)

stopped : {Value Fault : Type 0} (kind : Kind Value Fault) (bytes : List ℕ) (a : Status) → a ≢ status.NoMemory → IsStopStatus kind bytes a
    → ((a ≡ status.Refused) × IsRefusedFile kind bytes) ⊎ ((a ≡ status.TooLong) × (MAX_FILE < length bytes))
stopped kind bytes status.Done some is = absurd is
stopped kind bytes status.No some is = absurd is
stopped kind bytes status.Usage some is = absurd is
stopped kind bytes status.ReadFault some is = absurd is
stopped kind bytes status.WriteFault some is = absurd is
stopped kind bytes status.Refused some is = inl (refl, is)
stopped kind bytes status.NoMemory some is = absurd (some refl)
stopped kind bytes status.TooLong some is = inr (refl, is)

-- a stop is one status
one_stop : {Value Fault : Type 0} (kind : Kind Value Fault) (bytes : List ℕ) (a b : Status) → a ≢ status.NoMemory → b ≢ status.NoMemory → IsStopStatus kind bytes a → IsStopStatus kind bytes b → a ≡ b
one_stop kind bytes a b some other is more = elim (stopped kind bytes a some is) [
  | inl one ↦ elim (stopped kind bytes b other more) [
    | inl two ↦ one.0 ∙ sym two.0
    | inr two ↦ absurd (let few = one.1.0 in let many = two.1 in omega (arith, few, many))
  ]
  | inr one ↦ elim (stopped kind bytes b other more) [
    | inl two ↦ absurd (let many = one.1 in let few = two.1.0 in omega (arith, few, many))
    | inr two ↦ one.0 ∙ sym two.0
  ]
]

-- bytes that are accepted are no stop
no_stop : {Value Fault : Type 0} (kind : Kind Value Fault) (bytes : List ℕ) (a : Status) (value : Value) → HasOneAnswer kind → a ≢ status.NoMemory → IsStopStatus kind bytes a → AreBytes kind bytes value → ⊥
no_stop kind bytes a value one some is accepted = elim (stopped kind bytes a some is) [
  | inl refused ↦
      let fault = refused.1.1.0 in
      let refusal = refused.1.1.1 in
      absurd (let same = one bytes (Ok value) (Err fault) (λ e. absurd cc) (λ e. refusal.cause cc) accepted.accepted refusal.refused in cc same)
  | inr long ↦ absurd (let few = accepted.fits in let many = long.1 in omega (arith, few, many))
]

value_or : {Value Fault : Type 0} → Value → Result Value Fault → Value
value_or other (Ok value) = value
value_or other (Err fault) = other

-- accepted bytes are of one value
one_value : {Value Fault : Type 0} (kind : Kind Value Fault) (bytes : List ℕ) (value again : Value) → HasOneAnswer kind → AreBytes kind bytes value → AreBytes kind bytes again → value ≡ again
unfolding value_or
one_value kind bytes value again one is more = ap (value_or value) (one bytes (Ok value) (Ok again) (λ e. absurd cc) (λ e. absurd cc) is.accepted more.accepted)

-- ---- and behind all files

ended : (IsText IsSaid : List ℕ → Type 0) (a : Status) → a ≢ status.NoMemory → IsEndStatus IsText IsSaid a
    → ((a ≡ status.Done) × ((written : List ℕ) × IsText written)) ⊎ ((a ≡ status.No) × ((said : List ℕ) × IsSaid said))
ended IsText IsSaid status.Done some is = inl (refl, is)
ended IsText IsSaid status.No some is = inr (refl, is)
ended IsText IsSaid status.Usage some is = absurd is
ended IsText IsSaid status.ReadFault some is = absurd is
ended IsText IsSaid status.WriteFault some is = absurd is
ended IsText IsSaid status.Refused some is = absurd is
ended IsText IsSaid status.NoMemory some is = absurd (some refl)
ended IsText IsSaid status.TooLong some is = absurd is

one_end : (IsText IsSaid : List ℕ → Type 0) (a b : Status) → ((written said : List ℕ) → IsText written → IsSaid said → ⊥) → a ≢ status.NoMemory → b ≢ status.NoMemory
    → IsEndStatus IsText IsSaid a → IsEndStatus IsText IsSaid b → a ≡ b
one_end IsText IsSaid a b not_both some other is more = elim (ended IsText IsSaid a some is) [
  | inl one ↦ elim (ended IsText IsSaid b other more) [
    | inl two ↦ one.0 ∙ sym two.0
    | inr two ↦ absurd (not_both one.1.0 two.1.0 one.1.1 two.1.1)
  ]
  | inr one ↦ elim (ended IsText IsSaid b other more) [
    | inl two ↦ absurd (not_both two.1.0 one.1.0 two.1.1 one.1.1)
    | inr two ↦ one.0 ∙ sym two.0
  ]
]

-- ---- one status at most

pub one_status : (files : Files) → HasOneEnd files → HasOneStatus files
one_status (text IsText IsSaid) ends bytes a b some other is more = one_end IsText IsSaid a b ends some other is more
one_status (file kind says rest) ends [] a b some other is more = absurd is
one_status (file {Value} kind says rest) ends (first ∷ bytes) a b some other is more = elim is [
  | inl here ↦ elim more [
    | inl there ↦ one_stop kind first a b some other here there
    | inr behind ↦ absurd (no_stop kind first a behind.0 ends.0 some here behind.1)
  ]
  | inr behind ↦ elim more [
    | inl there ↦ absurd (no_stop kind first b behind.0 ends.0 other there behind.1)
    | inr further ↦
        let same : further.0 ≡ behind.0 = one_value kind first further.0 behind.0 ends.0 further.1 behind.1 in
        let P : Value → Type 0 = λ v. IsStatusOf (rest v) bytes b in
        one_status (rest behind.0) (ends.1 behind.0) bytes a b some other behind.2 (subst P same further.2)
  ]
]

-- ---- and one at least

-- statuses apart from want of memory
apart : (a : Status) → code_of a ≢ 6 → a ≢ status.NoMemory
apart a other e = other (ap code_of e)

-- a status that is no want of memory, of which something holds
abbrev IsSome : (Status → Type 0) → Type 0
IsSome P = (answer : Status) × (answer ≢ status.NoMemory) × P answer

some_end : (IsText IsSaid : List ℕ → Type 0) → ((written : List ℕ) × IsText written) ⊎ ((said : List ℕ) × IsSaid said) → IsSome (IsEndStatus IsText IsSaid)
some_end IsText IsSaid (inl is) = (status.Done, apart status.Done (λ e. absurd (omega (arith, e))), is)
some_end IsText IsSaid (inr is) = (status.No, apart status.No (λ e. absurd (omega (arith, e))), is)

-- of the first file: too many bytes, or they are refused, or accepted, and then what stands behind decides
some_first : {Value Fault : Type 0} (kind : Kind Value Fault) (says : Stop Fault → List ℕ) (rest : Value → Files) (first : List ℕ) (bytes : List (List ℕ)) → HasSomeAnswer kind
    → ((value : Value) → AreBytes kind first value → IsSome (IsStatusOf (rest value) bytes)) → IsSome (IsStatusOf (file kind says rest) (first ∷ bytes))
some_first {Value} {Fault} kind says rest first bytes some_answer behind = by_length (fits (length first))
  where
    fits : (n : ℕ) → (n ≤ MAX_FILE) ⊎ (MAX_FILE < n)
    fits n = grind arith

    by_answer : length first ≤ MAX_FILE → (answer : Result Value Fault) → answer ≢ Err kind.no_memory → Reads kind first answer → IsSome (IsStatusOf (file kind says rest) (first ∷ bytes))
    by_answer few (Ok value) some reads =
        let accepted : AreBytes kind first value = record { fits = few; accepted = reads } in
        let next = behind value accepted in
        (next.0, next.1, inr (value, accepted, next.2))
    by_answer few (Err fault) some reads =
        (status.Refused, apart status.Refused (λ e. absurd (omega (arith, e))), inl (few, (fault, record { refused = reads; cause = λ e. some (ap Err e) })))

    by_length : (length first ≤ MAX_FILE) ⊎ (MAX_FILE < length first) → IsSome (IsStatusOf (file kind says rest) (first ∷ bytes))
    by_length (inl few) = let answered = some_answer first in by_answer few answered.0 answered.1 answered.2
    by_length (inr many) = (status.TooLong, apart status.TooLong (λ e. absurd (omega (arith, e))), inl many)

pub some_status : (files : Files) (count : ℕ) → HasSomeEnd files count → HasSomeStatus files count
some_status (text IsText IsSaid) count ends bytes as_many octets = some_end IsText IsSaid ends.1
some_status (file kind says rest) zero ends bytes as_many octets = absurd ends
some_status (file kind says rest) (suc count) ends [] as_many octets = absurd (omega (arith, as_many))
some_status (file kind says rest) (suc count) ends (first ∷ bytes) as_many octets =
    let one = All-head AreOctets first bytes octets in
    let others = All-tail AreOctets first bytes octets in
    some_first kind says rest first bytes ends.0 (λ value accepted. some_status (rest value) count (ends.1 first value one accepted) bytes (omega (arith, as_many)) others)
