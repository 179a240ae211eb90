-- A record that is taken or refused: the version of its file is that of the first record.
use Rattle.std.proofs.Common.{◌≡◌, Bool, true, false, List, [], ◌∷◌, ◌++◌, Option, Some, None, Result, Ok, Err, ap, sym, ◌∙◌, refl, subst}
use Rattle.std.specs.Prelude.{if◌then◌else◌, is_none, not}
use Rattle.std.specs.declared.alloc.AllocError.{AllocError}
use Rattle.fr_base.specs.declared.reason.Reason.{Reason}
use Rattle.fr_base.specs.declared.reason.Reason.TheVariants as reason
use Rattle.fr_text.specs.Records.{FileRecord}
use Rattle.fr_text.specs.Takes.{TakesRecord}
use Rattle.fr_params.specs.declared.names.Version.{Version}
use Rattle.fr_params.specs.Rows.{param_row_of}
use Rattle.fr_params.specs.Versions.{version_by, version_of, version_with}
use Rattle.fr_params.specs.Reasons.{is_not_first, param_reason_after, param_row_reason}
use Rattle.fr_params.specs.Draft.{AreTables, IsParamsDraft, TakesParamRow, version_after, version_seen, version_told}
use Rattle.fr_params.specs.declared.draft.Draft.{Draft}
use Rattle.fr_params.specs.declared.draft.Tables.{Tables}
use Rattle.fr_params.specs.declared.rows.Row.{Row}
use Rattle.fr_params.specs.declared.rows.Row.TheVariants as row
use Rattle.fr_params.proofs.Tables.{tables-any, tables-version}

-- the version that was seen is that of the records, none or some
pub told-seen : (records : List FileRecord) → version_told (version_seen records) ≡ version_of records
told-seen [] = refl
told-seen (first ∷ rest) = refl

after-seen : (done : List FileRecord) (r : FileRecord) → version_after (version_seen done) r ≡ version_with done r
after-seen [] r = refl
after-seen (first ∷ rest) r = refl

pub seen-more : (done : List FileRecord) (r : FileRecord) → version_seen (done ++ r ∷ []) ≡ Some (version_with done r)
seen-more [] r = refl
seen-more (first ∷ rest) r = refl

first-seen : (done : List FileRecord) → is_none (version_seen done) ≡ not (is_not_first done)
first-seen [] = refl
first-seen (first ∷ rest) = refl

-- the tables of what is done are tables of the version that the next record makes sure
pub tables-with : (d : Tables) (done : List FileRecord) (r : FileRecord) → AreTables (version_of done) d done → AreTables (version_with done r) d done
tables-with d [] r h = tables-any (version_of []) (version_by r) d h
tables-with d (first ∷ rest) r h = h

after-version : (d : Draft) (done : List FileRecord) (r : FileRecord) → IsParamsDraft d done → version_after d.version r ≡ version_with done r
after-version d done r h = ap (λ (seen : Option Version). version_after seen r) h.version ∙ after-seen done r

-- the draft after one record more
held : (d : Draft) (after : Tables) (version : Version) (done : List FileRecord) (r : FileRecord) → IsParamsDraft d done → version ≡ version_after d.version r
    → AreTables version after (done ++ r ∷ []) → IsParamsDraft (record { version = Some version; tables = after }) (done ++ r ∷ [])
held d after version done r h is tables =
    let same : version ≡ version_with done r = is ∙ after-version d done r h in
    let P : Version → Type 0 = λ v. AreTables v after (done ++ r ∷ []) in
    record { version = ap (λ (v : Version). Some v) same ∙ sym (seen-more done r); tables = subst P same tables }

-- why a record is refused, by what it says in a file of the version
reason-of : (d : Draft) (version : Version) (done : List FileRecord) (r : FileRecord) (x : Result Row Reason) → IsParamsDraft d done → version ≡ version_after d.version r
    → param_row_of version r ≡ x → param_reason_after done r ≡ param_row_reason version done x
reason-of d version done r x h is says =
    let same : version ≡ version_with done r = is ∙ after-version d done r h in
    ap (λ (v : Version). param_row_reason v done (param_row_of v r)) (sym same) ∙ ap (λ (y : Result Row Reason). param_row_reason version done y) says

before-with : (d : Draft) (version : Version) (done : List FileRecord) (r : FileRecord) → IsParamsDraft d done → version ≡ version_after d.version r → AreTables version d.tables done
before-with d version done r h is =
    let P : Version → Type 0 = λ v. AreTables v d.tables done in
    subst P (sym (is ∙ after-version d done r h)) (tables-with d.tables done r h.tables)

-- a record whose row the tables take is taken
pub takes-row : (d : Draft) (after : Tables) (version : Version) (r : FileRecord) (said : Row) (why : Option Reason) → version ≡ version_after d.version r
    → param_row_of version r ≡ Ok said → TakesParamRow d.tables after said why
    → TakesRecord {Error = AllocError} IsParamsDraft param_reason_after d (record { version = Some version; tables = after }) r (Ok why)
takes-row d after version r said why is says takes = record {
  why = λ done h. (takes version).why done (before-with d version done r h is) ∙ sym (reason-of d version done r (Ok said) h is says);
  adds = λ done h none. held d after version done r h is ((takes version).adds done r (before-with d version done r h is) says none);
}

-- one that says nothing is refused
pub refuses-row : (d after : Draft) (version : Version) (r : FileRecord) (why : Reason) → version ≡ version_after d.version r → param_row_of version r ≡ Err why
    → TakesRecord {Error = AllocError} IsParamsDraft param_reason_after d after r (Ok (Some why))
refuses-row d after version r why is says = record {
  why = λ done h. sym (reason-of d version done r (Err why) h is says);
  adds = λ done h none. cc none;
}

first-role : (b : Bool) → (if not b then None else Some reason.Role) ≡ (if b then Some reason.Role else None)
first-role true = refl
first-role false = refl

-- one that says the version is taken where it is the first
pub takes-version : (d : Draft) (version : Version) (r : FileRecord) (first : Bool) → version ≡ version_after d.version r → param_row_of version r ≡ Ok row.Version
    → first ≡ is_none d.version
    → TakesRecord {Error = AllocError} IsParamsDraft param_reason_after d (record { version = Some version; tables = d.tables }) r
    (Ok (if first then None else Some reason.Role))
takes-version d version r first is says here = record {
  why = λ done h.
      ap (λ (b : Bool). if b then None else Some reason.Role) (here ∙ ap (λ (seen : Option Version). is_none seen) h.version ∙ first-seen done)
      ∙ first-role (is_not_first done)
      ∙ sym (reason-of d version done r (Ok row.Version) h is says);
  adds = λ done h none. held d d.tables version done r h is (tables-version version d.tables done r (before-with d version done r h is) says);
}
