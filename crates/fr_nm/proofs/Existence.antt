-- Each recording has an answer: records of which none is refused stand for vectors.
use Rattle.std.proofs.Common.{◌≡◌, ◌≢◌, ℕ, ◌-◌, ◌≤◌, Bool, true, false, cond, List, [], ◌∷◌, length, Option, Some, None, Result, Ok, Err, ap, sym, ◌∙◌, refl, ◌⊎◌, inl, inr, arith}
use Rattle.std.specs.Prelude.{◌==◌, is_some, if◌then◌else◌}
use Rattle.std.specs.Ordering.{nat_cmp}
use Rattle.std.specs.Ordering.{eq_by_cmp}
use Rattle.std.specs.FinMap as map
use Rattle.std.specs.FinMap.{FinMap, get-empty, get-insert}
use Rattle.std.proofs.lemmas.Bool.Decides.{nat_tests}
use Rattle.std.proofs.lemmas.Cmp.{nat_cmp_total}
use Rattle.fr_base.specs.declared.reason.Reason.{Reason}
use Rattle.fr_text.specs.Records.{records_of}
use Rattle.fr_text.specs.Kind.{HasSomeAnswer, Reads}
use Rattle.fr_text.specs.Refusal.{NoneRefused, FirstRefused}
use Rattle.fr_text.proofs.Cuts.{none-or-first-refused}
use Rattle.fr_nm.specs.Files.{recording_of, vectors_file}
use Rattle.fr_nm.specs.Reasons.{vectors_reason_after}
use Rattle.fr_nm.specs.Vectors.{Recorded, folded, given_to, how_many_count, merged, one_frame, vector_in}
use Rattle.fr_nm.specs.View.{VectorsStandFor, VectorsView}
use Rattle.fr_nm.specs.declared.vector.Folded.{Folded}
use Rattle.fr_nm.specs.declared.fault.FileFault.{FileFault}
use Rattle.fr_nm.specs.declared.fault.FileFault.TheVariants as fault
use Rattle.fr_nm.proofs.Outcomes.{found-entries, sorted-entries}

-- a value that is there is put at a key
put_some : FinMap nat_cmp Folded → ℕ → Option Folded → FinMap nat_cmp Folded
put_some m key None = m
put_some m key (Some row) = map.insert m key row

-- what the cycles have of records, as a finite map
told : ℕ → List Recorded → FinMap nat_cmp Folded
told width [] = map.empty
told width (r ∷ rest) = put_some (told width rest) r.cycle (merged (one_frame (vector_in width r)) (map.get (told width rest) r.cycle))

tied : (a b : ℕ) → eq_by_cmp nat_cmp a b ≡ (b == a)
tied a b = grind (arith, nat_tests)

same : (a b : ℕ) → (a == b) ≡ true → a ≡ b
same a b e = grind (arith, nat_tests)

joined-nothing : (o p : Option Folded) → merged o p ≡ None → p ≡ None
joined-nothing None p e = e
joined-nothing (Some a) None e = refl
joined-nothing (Some a) (Some b) e = absurd cc

joined-none : (b : Bool) (o p : Option Folded) → merged o p ≡ None → merged (if b then o else None) p ≡ p
joined-none false o p e = refl
joined-none true o p e = e ∙ sym (joined-nothing o p e)

-- at a key, and elsewhere
placed_at : (b : Bool) (key q : ℕ) (row : Folded) (one : Option Folded) (rest : ℕ → Option Folded) → (key == q) ≡ b → merged one (rest key) ≡ Some row
    → cond b (Some row) (rest q) ≡ merged (if b then one else None) (rest q)
placed_at false key q row one rest e is = refl
placed_at true key q row one rest e is = sym is ∙ ap (λ (k : ℕ). merged one (rest k)) (same key q e)

get-put : (m : FinMap nat_cmp Folded) (key q : ℕ) (one p : Option Folded) → merged one (map.get m key) ≡ p → map.get (put_some m key p) q ≡ merged (if key == q then one else None) (map.get m q)
unfolding put_some
get-put m key q one None e = by (key == q) refl
  where
    by : (b : Bool) → (key == q) ≡ b → map.get m q ≡ merged (if b then one else None) (map.get m q)
    by false f = refl
    by true f = sym (joined-none true one (map.get m q) (ap (λ (k : ℕ). merged one (map.get m k)) (sym (same key q f)) ∙ e))
get-put m key q one (Some row) e =
    get-insert nat_cmp_total m key row q
    ∙ ap (λ (b : Bool). cond b (Some row) (map.get m q)) (tied q key)
    ∙ placed_at (key == q) key q row one (λ k. map.get m k) refl e

get-told : (width : ℕ) (records : List Recorded) (q : ℕ) → map.get (told width records) q ≡ folded width q records
unfolding told folded
get-told width [] q = get-empty nat_cmp q
get-told width (r ∷ rest) q =
    get-put (told width rest) r.cycle q (one_frame (vector_in width r)) _ refl ∙ ap (λ (o : Option Folded). merged (given_to width q r) o) (get-told width rest q)

one_at_most : (b : Bool) → (if b then 1 else 0) ≤ 1
one_at_most true = omega arith
one_at_most false = omega arith

counted-few : (width : ℕ) (records : List Recorded) → how_many_count width records ≤ length records
unfolding how_many_count
counted-few width [] = omega arith
counted-few width (r ∷ rest) = let one = one_at_most (is_some (vector_in width r)) in let more = counted-few width rest in omega (arith, one, more)

vectors_told : ℕ → List Recorded → VectorsView
vectors_told width records = record { width = width; rows = map.entries (told width records); frames = how_many_count width records; ignored = length records - how_many_count width records }

stands-told : (width : ℕ) (records : List Recorded) → VectorsStandFor (vectors_told width records) records
unfolding vectors_told
stands-told width records = record {
  rows = λ cycle. found-entries (told width records) cycle ∙ get-told width records cycle;
  order = sorted-entries (told width records);
  frames = refl;
  ignored = let few = counted-few width records in omega (arith, few);
}

width-told : (width : ℕ) (records : List Recorded) → (vectors_told width records).width ≡ width
unfolding vectors_told
width-told width records = refl

-- a file is accepted, or a record of it is refused
pub reads-some : (width : ℕ) → HasSomeAnswer (vectors_file width)
reads-some width bytes = by (none-or-first-refused vectors_reason_after (records_of bytes))
  where
    by : NoneRefused vectors_reason_after (records_of bytes) ⊎ ((n : ℕ) × ((why : Reason) × FirstRefused vectors_reason_after (records_of bytes) n why))
        → (answer : Result VectorsView FileFault) × (answer ≢ Err fault.NoMemory) × Reads (vectors_file width) bytes answer
    by (inl none) =
        let records = recording_of (records_of bytes) in
        (Ok (vectors_told width records), λ same. cc same, record { none_refused = none; width_is = width-told width records; stands = stands-told width records })
    by (inr first) = (Err (fault.Row first.0 first.1.0), λ same. cc same, first.1.1)
