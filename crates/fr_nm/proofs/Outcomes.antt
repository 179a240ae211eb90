-- What reading a recording may answer is one answer, but for want of memory.
use Rattle.std.proofs.Common.{◌≡◌, ℕ, ◌+◌, Bool, true, false, cond, List, [], ◌∷◌, length, Option, Some, Ok, Err, ap, sym, ◌∙◌, refl, arith}
use Rattle.std.specs.Prelude.{T}
use Rattle.std.specs.Cmp.{IsTotalOrder}
use Rattle.std.specs.declared.cmp.Ordering.{Ordering}
use Rattle.std.specs.BTreeMap.{is_at}
use Rattle.std.specs.Map.{lookup}
use Rattle.std.specs.Ordering.{nat_cmp}
use Rattle.std.specs.FinMap as map
use Rattle.std.specs.FinMap.{FinMap, IsAntisymmetric, entries-from_sorted, find, get-entries, get-from_sorted, is_sorted, same_map}
use Rattle.std.proofs.lemmas.Cmp.{nat_cmp_total}
use Rattle.std.proofs.lemmas.Map.Lookups.{exact_unsigned}
use Rattle.fr_text.specs.Records.{records_of}
use Rattle.fr_text.specs.Kind.{HasOneAnswer}
use Rattle.fr_text.proofs.Cuts.{first-same, refused-none}
use Rattle.fr_nm.specs.Files.{vectors_file}
use Rattle.fr_nm.specs.Reasons.{vectors_reason_after}
use Rattle.fr_nm.specs.Vectors.{Recorded, folded, how_many_count}
use Rattle.fr_nm.specs.View.{VectorsStandFor, VectorsView}
use Rattle.fr_nm.specs.declared.vector.Folded.{Folded}
use Rattle.fr_nm.specs.declared.fault.FileFault.TheVariants as fault

abbrev found_at : {K V : Type 0} → (K → K → Ordering) → List (K × V) → K → Option V
found_at cmp rows key = lookup (is_at (cmp key)) rows

-- what is found along entries, by either word for it
find-found : {K V : Type 0} (R : K → K → Ordering) (es : List (K × V)) (q : K) → find R q es ≡ found_at R es q
find-found R [] q = refl
find-found R (e ∷ es) q = ap (cond (is_at (R q) e.0) (Some e.1)) (find-found R es q)

holds : (b : Bool) → b ≡ true → T b
holds true e = tt
holds false e = cc e

is-true : (b : Bool) → T b → b ≡ true
is-true true h = refl
is-true false h = absurd h

-- lists in the order of their keys that answer alike are one
same-rows : {K V : Type 0} {R : K → K → Ordering} → IsTotalOrder R → IsAntisymmetric R → (es fs : List (K × V)) → is_sorted R es ≡ true → is_sorted R fs ≡ true
    → ((q : K) → found_at R es q ≡ found_at R fs q) → es ≡ fs
same-rows {K} {V} {R} total exact es fs s t alike =
    let one = holds (is_sorted R es) s in
    let other = holds (is_sorted R fs) t in
    let maps : map.from_sorted {R = R} es ≡ map.from_sorted fs =
    same_map total exact (map.from_sorted es) (map.from_sorted fs)
    (λ q. get-from_sorted R es q one ∙ find-found R es q ∙ alike q ∙ sym (get-from_sorted R fs q other ∙ find-found R fs q))
    in
    sym (entries-from_sorted R es one) ∙ ap (λ (m : FinMap R V). map.entries m) maps ∙ entries-from_sorted R fs other

-- the entries of a finite map
pub found-entries : (m : FinMap nat_cmp Folded) (q : ℕ) → found_at nat_cmp (map.entries m) q ≡ map.get m q
found-entries m q = sym (get-entries m q ∙ find-found nat_cmp (map.entries m) q)

pub sorted-entries : (m : FinMap nat_cmp Folded) → is_sorted nat_cmp (map.entries m) ≡ true
sorted-entries m = is-true (is_sorted nat_cmp (map.entries m)) (map.entries_sorted m)

-- vectors of one width that answer alike, with as many frames and records, are one
pub alike-same : (v w : VectorsView) (n : ℕ) → v.width ≡ w.width → is_sorted nat_cmp v.rows ≡ true → is_sorted nat_cmp w.rows ≡ true
    → ((cycle : ℕ) → found_at nat_cmp v.rows cycle ≡ found_at nat_cmp w.rows cycle) → v.frames ≡ w.frames → v.frames + v.ignored ≡ n → w.frames + w.ignored ≡ n → v ≡ w
alike-same v w n width s t alike frames one other =
    let rows : v.rows ≡ w.rows = same-rows nat_cmp_total exact_unsigned v.rows w.rows s t alike in
    let ignored : v.ignored ≡ w.ignored = omega (arith, frames, one, other) in
    λ i. record { width = width i; rows = rows i; frames = frames i; ignored = ignored i }

-- records stand for one value
pub stands-same : (v w : VectorsView) (records : List Recorded) → v.width ≡ w.width → VectorsStandFor v records → VectorsStandFor w records → v ≡ w
stands-same v w records width f g =
    alike-same v w (length records) width f.order g.order
    (λ cycle. f.rows cycle ∙ ap (λ (n : ℕ). folded n cycle records) width ∙ sym (g.rows cycle))
    (f.frames ∙ ap (λ (n : ℕ). how_many_count n records) width ∙ sym g.frames)
    f.ignored g.ignored

-- two answers to one file are the same, but for want of memory
pub reads-same : (width : ℕ) → HasOneAnswer (vectors_file width)
reads-same width bytes (Ok d) (Ok e) na nb f g = ap (λ (v : VectorsView). Ok v) (stands-same d e _ (f.width_is ∙ sym g.width_is) f.stands g.stands)
reads-same width bytes (Ok d) (Err (fault.Row n why)) na nb f g = absurd (refused-none vectors_reason_after (records_of bytes) n why g f.none_refused)
reads-same width bytes (Ok d) (Err fault.NoMemory) na nb f g = absurd (nb refl)
reads-same width bytes (Err (fault.Row n why)) (Ok e) na nb f g = absurd (refused-none vectors_reason_after (records_of bytes) n why f g.none_refused)
reads-same width bytes (Err (fault.Row n why)) (Err (fault.Row m other)) na nb f g = let same = first-same vectors_reason_after (records_of bytes) n m why other f g in cc
reads-same width bytes (Err (fault.Row n why)) (Err fault.NoMemory) na nb f g = absurd (nb refl)
reads-same width bytes (Err fault.NoMemory) b na nb f g = absurd (na refl)
