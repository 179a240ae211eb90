-- How a command reads its files: step by step, which status their bytes define, and that they decide its text.
use Rattle.std.proofs.Common.{◌≡◌, ℕ, List, [], ◌∷◌, ◌++◌, length, take, Option, Some, None, inl, inr, refl, ap, sym, ◌∙◌, subst, append_assoc, append-nil, arith}
use Rattle.std.proofs.lemmas.List.{take-append-le, take_all}
use Rattle.fr_base.specs.Device.{Asks, AsksFront, IsOneLoadLater, Shelved}
use Rattle.fr_text.specs.Files.{AreFaultless, AreTold, Files, HasOneText, IsDecided, IsEndStatus, IsStatusOf, IsStopStatus, IsTextOf, StopsIn, file, text}
use Rattle.fr_text.specs.Kind.{Has, Kind, StopsAt}
use Rattle.fr_text.specs.Status.{code_of}
use Rattle.fr_text.specs.Told.{no_memory, refusal, stop_status, stop_told}
use Rattle.fr_text.specs.declared.kind.Stop.{Stop}
use Rattle.fr_text.specs.declared.kind.Stop.TheVariants as stop
use Rattle.fr_text.specs.declared.status.Status.TheVariants as status
use Rattle.fr_text.specs.declared.told.Told.{Told}
use Rattle.fr_text.proofs.Shelves.{are_bytes, has_earlier, one_value, stop_defined, stops_earlier_at}

-- ---- which names were asked for

-- none
pub Asks-none : (told : Option (List (List ℕ))) → Asks told told []
Asks-none None = tt
Asks-none (Some names) = sym (append-nil names)

-- some, and then others
pub Asks-trans : (before middle after : Option (List (List ℕ))) (names more : List (List ℕ)) → Asks before middle names → Asks middle after more → Asks before after (names ++ more)
Asks-trans before middle None names more first second = tt
Asks-trans before None (Some after) names more first second = absurd second
Asks-trans None (Some middle) (Some after) names more first second = absurd first
Asks-trans (Some before) (Some middle) (Some after) names more first second =
    second ∙ ap (λ (l : List (List ℕ)). l ++ more) first ∙ append_assoc before names more

-- one load, and then another one; and three
pub two_asked : {before middle after : Shelved} {name next : List ℕ} → IsOneLoadLater before middle name → IsOneLoadLater middle after next → Asks before.asked after.asked (name ∷ next ∷ [])
two_asked {before = before} {middle = middle} {after = after} {name = name} {next = next} first second =
    Asks-trans before.asked middle.asked after.asked (name ∷ []) (next ∷ []) first.one_load second.one_load

pub three_asked : {before middle later after : Shelved} {name next last : List ℕ} → IsOneLoadLater before middle name → IsOneLoadLater middle later next → IsOneLoadLater later after last
    → Asks before.asked after.asked (name ∷ next ∷ last ∷ [])
three_asked {before = before} {middle = middle} {later = later} {after = after} {name = name} {next = next} {last = last} first second third =
    Asks-trans before.asked middle.asked after.asked (name ∷ []) (next ∷ last ∷ []) first.one_load (two_asked second third)

front_asked : (before after : Option (List (List ℕ))) (names more : List (List ℕ)) → Asks before after names → AsksFront before after (names ++ more)
front_asked before after names more asked =
    let front : take (length names) (names ++ more) ≡ names = take-append-le (length names) names more (omega arith) ∙ take_all (length names) names (omega arith) in
    (length names, subst (Asks before after) (sym front) asked)

-- a command that stops has asked for a front of its names
pub stop_asks_front : (files : Files) (front names : List (List ℕ)) (before after : Shelved) (why : Told) → StopsIn files front names before after why → AsksFront before.asked after.asked (front ++ names)
stop_asks_front (text IsText IsSaid) front names before after why stops = front_asked before.asked after.asked front names stops.asked
stop_asks_front (file kind says rest) front [] before after why stops = absurd stops
stop_asks_front (file {Value} kind says rest) front (name ∷ names) before after why stops =
    let P : List (List ℕ) → Type 0 = AsksFront before.asked after.asked in
    let same : (front ++ name ∷ []) ++ names ≡ front ++ name ∷ names = append_assoc front (name ∷ []) names in
    elim stops [
      | inl here ↦ subst P same (front_asked before.asked after.asked (front ++ name ∷ []) names here.asked)
      | inr behind ↦ subst P same (stop_asks_front (rest behind.0) (front ++ name ∷ []) names before after why behind.2)
    ]

-- ---- step by step

-- what holds of the files after a load held before it
text_earlier : {file : List ℕ} (files : Files) (names : List (List ℕ)) (before after : Shelved) (written : List ℕ) → IsOneLoadLater before after file → IsTextOf files names after written → IsTextOf files names before written
text_earlier (text IsText IsSaid) names before after written later is = is
text_earlier (file kind says rest) [] before after written later is = is
text_earlier (file kind says rest) (name ∷ names) before after written later is =
    (is.0, has_earlier kind before after name is.0 later is.1, text_earlier (rest is.0) names before after written later is.2)

stops_earlier : (files : Files) (first : List ℕ) (front names : List (List ℕ)) (before middle after : Shelved) (why : Told) → IsOneLoadLater before middle first → StopsIn files front names middle after why
    → StopsIn files (first ∷ front) names before after why
stops_earlier (text IsText IsSaid) first front names before middle after why later stops =
    record { told = stops.told; asked = Asks-trans before.asked middle.asked after.asked (first ∷ []) front later.one_load stops.asked }
stops_earlier (file kind says rest) first front [] before middle after why later stops = stops
stops_earlier (file {Value} kind says rest) first front (name ∷ names) before middle after why later stops =
    elim stops [
      | inl here ↦ inl (record {
        stop = here.stop;
        stops = stops_earlier_at kind before middle after name here.stop later here.stops;
        told = here.told;
        asked = Asks-trans before.asked middle.asked after.asked (first ∷ []) (front ++ name ∷ []) later.one_load here.asked;
      })
      | inr behind ↦ inr (
        behind.0,
        has_earlier kind before middle name behind.0 later behind.1,
        stops_earlier (rest behind.0) first (front ++ name ∷ []) names before middle after why later behind.2,
      )
    ]

-- a stop at the first file
pub stops_first : {Value Fault : Type 0} (kind : Kind Value Fault) (says : Stop Fault → List ℕ) (rest : Value → Files) (name : List ℕ) (names : List (List ℕ)) (before after : Shelved) (why : Stop Fault)
    → IsOneLoadLater before after name → StopsAt kind before after name why → StopsIn (file kind says rest) [] (name ∷ names) before after (stop_told says why)
stops_first kind says rest name names before after why later stops = inl (record { stop = why; stops = stops; told = refl; asked = later.one_load })

-- one behind it
pub stops_next : {Value Fault : Type 0} (kind : Kind Value Fault) (says : Stop Fault → List ℕ) (rest : Value → Files) (name : List ℕ) (names : List (List ℕ)) (before middle after : Shelved) (value : Value) (why : Told)
    → IsOneLoadLater before middle name → Has kind before name value → StopsIn (rest value) [] names middle after why → StopsIn (file kind says rest) [] (name ∷ names) before after why
stops_next kind says rest name names before middle after value why later has stops = inr (value, has, stops_earlier (rest value) name [] names before middle after why later stops)

-- a text of the first file and of those behind it
pub text_next : {Value Fault : Type 0} (kind : Kind Value Fault) (says : Stop Fault → List ℕ) (rest : Value → Files) (name : List ℕ) (names : List (List ℕ)) (before after : Shelved) (value : Value) (written : List ℕ)
    → IsOneLoadLater before after name → Has kind before name value → IsTextOf (rest value) names after written → IsTextOf (file kind says rest) (name ∷ names) before written
text_next kind says rest name names before after value written later has is = (value, has, text_earlier (rest value) names before after written later is)

-- a stop behind all files
pub stops_behind : (IsText IsSaid : List ℕ → Type 0) (names : List (List ℕ)) (shelf : Shelved) → StopsIn (text IsText IsSaid) [] names shelf shelf no_memory
stops_behind IsText IsSaid names shelf = record { told = inl refl; asked = Asks-none shelf.asked }

pub refused_behind : (IsText IsSaid : List ℕ → Type 0) (names : List (List ℕ)) (shelf : Shelved) (said : List ℕ) → IsSaid said → StopsIn (text IsText IsSaid) [] names shelf shelf (refusal said)
refused_behind IsText IsSaid names shelf said is = record { told = inr (said, is, refl); asked = Asks-none shelf.asked }

-- ---- which status the bytes define

first_told : (told : Option (List ℕ)) (rest : List (Option (List ℕ))) (bytes : List ℕ) (more : List (Option (List ℕ))) → told ∷ rest ≡ Some bytes ∷ more → (told ≡ Some bytes) × (rest ≡ more)
first_told told rest bytes more is = (cc, cc)

none_told : {P : Type 0} (told : Option (List ℕ)) (rest : List (Option (List ℕ))) → told ∷ rest ≡ [] → P
none_told told rest is = cc

pub stopped : (files : Files) (front names bytes : List (List ℕ)) (before after : Shelved) (why : Told) → AreTold names before bytes → AreFaultless names before after
    → StopsIn files front names before after why → IsStatusOf files bytes why.status
stopped (text IsText IsSaid) front names bytes before after why told faultless stops =
    let P : Told → Type 0 = λ x. IsEndStatus IsText IsSaid x.status in
    elim stops.told [
      | inl e ↦ subst P (sym e) tt
      | inr refused ↦ subst P (sym refused.2) (refused.0, refused.1)
    ]
stopped (file kind says rest) front [] bytes before after why told faultless stops = absurd stops
stopped (file kind says rest) front (name ∷ names) [] before after why told faultless stops = none_told _ _ told
stopped (file kind says rest) front (name ∷ names) (first ∷ bytes) before after why told faultless stops =
    let tells = first_told _ _ _ _ told in
    let P : Told → Type 0 = λ x. IsStopStatus kind first x.status in
    elim stops [
      | inl here ↦ inl (subst P (sym here.told) (stop_defined kind before after name first here.stop tells.0 faultless.0 here.stops))
      | inr behind ↦ inr (
        behind.0,
        are_bytes kind before name first behind.0 tells.0 behind.1,
        stopped (rest behind.0) (front ++ name ∷ []) names bytes before after why tells.1 faultless.1 behind.2,
      )
    ]

pub written : (files : Files) (names bytes : List (List ℕ)) (shelf : Shelved) (some : List ℕ) → AreTold names shelf bytes → IsTextOf files names shelf some → IsStatusOf files bytes status.Done
written (text IsText IsSaid) names bytes shelf some told is = (some, is)
written (file kind says rest) [] bytes shelf some told is = absurd is
written (file kind says rest) (name ∷ names) [] shelf some told is = none_told _ _ told
written (file kind says rest) (name ∷ names) (first ∷ bytes) shelf some told is =
    let tells = first_told _ _ _ _ told in
    inr (is.0, are_bytes kind shelf name first is.0 tells.0 is.1, written (rest is.0) names bytes shelf some tells.1 is.2)

-- no stop is told as words that are no request
stop_apart : {Fault : Type 0} (why : Stop Fault) → code_of (stop_status why) ≡ 2 → ⊥
stop_apart stop.ReadFault e = absurd (omega (arith, e))
stop_apart stop.TooLong e = absurd (omega (arith, e))
stop_apart stop.NoMemory e = absurd (omega (arith, e))
stop_apart (stop.Refused fault) e = absurd (omega (arith, e))

pub never_usage : (files : Files) (front names : List (List ℕ)) (before after : Shelved) (why : Told) → StopsIn files front names before after why → why.status ≡ status.Usage → ⊥
never_usage (text IsText IsSaid) front names before after why stops e =
    elim stops.told [
      | inl is ↦ let six : 6 ≡ 2 = sym (ap (λ (t : Told). code_of t.status) is) ∙ ap code_of e in absurd (omega (arith, six))
      | inr refused ↦ let one : 1 ≡ 2 = sym (ap (λ (t : Told). code_of t.status) refused.2) ∙ ap code_of e in absurd (omega (arith, one))
    ]
never_usage (file kind says rest) front [] before after why stops e = absurd stops
never_usage (file kind says rest) front (name ∷ names) before after why stops e =
    elim stops [
      | inl here ↦ stop_apart here.stop (sym (ap (λ (t : Told). code_of t.status) here.told) ∙ ap code_of e)
      | inr behind ↦ never_usage (rest behind.0) (front ++ name ∷ []) names before after why behind.2 e
    ]

-- ---- that they decide the text

one : (files : Files) → HasOneText files → (names others : List (List ℕ)) (shelf other : Shelved) (bytes : List (List ℕ)) (some again : List ℕ) → AreTold names shelf bytes → AreTold others other bytes
    → IsTextOf files names shelf some → IsTextOf files others other again → some ≡ again
one (text IsText IsSaid) same names others shelf other bytes some again told there found more = same some again found more
one (file kind says rest) same [] others shelf other bytes some again told there found more = absurd found
one (file kind says rest) same (name ∷ names) [] shelf other bytes some again told there found more = absurd more
one (file kind says rest) same (name ∷ names) (alias ∷ others) shelf other [] some again told there found more = none_told _ _ told
one (file {Value} kind says rest) same (name ∷ names) (alias ∷ others) shelf other (first ∷ bytes) some again told there found more =
    let tells = first_told _ _ _ _ told in
    let also = first_told _ _ _ _ there in
    let value : found.0 ≡ more.0 = one_value kind same.0 name alias first shelf other found.0 more.0 tells.0 also.0 found.1 more.1 in
    let P : Value → Type 0 = λ v. IsTextOf (rest v) others other again in
    one (rest found.0) (same.1 found.0) names others shelf other bytes some again tells.1 also.1 found.2 (subst P (sym value) more.2)

pub decided : (files : Files) → HasOneText files → IsDecided files
decided files same = one files same
