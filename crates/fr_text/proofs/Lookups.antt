-- What is looked up in records, with one more of them.
use Rattle.std.proofs.Common.{◌≡◌, List, [], ◌∷◌, ◌++◌, Option, Some, None, ap, sym, subst, ◌∙◌, refl}
use Rattle.fr_base.specs.declared.reason.Reason.{Reason}
use Rattle.std.specs.Prelude.{Result, Ok, IfOk}
use Rattle.fr_text.specs.Records.{FileRecord}
use Rattle.fr_text.specs.Fields.{or_else, looked_up}
use Rattle.fr_text.specs.Takes.{TakesRecord, TakesRow}

pub or_else-none : {A : Type 0} (o : Option A) → or_else o None ≡ o
or_else-none None = refl
or_else-none (Some x) = refl

or_else_assoc : {A : Type 0} (a b c : Option A) → or_else a (or_else b c) ≡ or_else (or_else a b) c
or_else_assoc None b c = refl
or_else_assoc (Some x) b c = refl

pub looked_up-nil : {A : Type 0} (what : FileRecord → Option A) → looked_up what [] ≡ None
unfolding looked_up
looked_up-nil what = refl

-- one record more to look in
looked_up-last : {A : Type 0} (what : FileRecord → Option A) (records : List FileRecord) (r : FileRecord) → looked_up what (records ++ r ∷ []) ≡ or_else (looked_up what records) (what r)
unfolding looked_up
looked_up-last what [] r = or_else-none (what r)
looked_up-last {A} what (x ∷ xs) r =
    ap (λ (o : Option A). or_else (what x) o) (looked_up-last what xs r) ∙ or_else_assoc (what x) (looked_up what xs) (what r)

-- and what it says
pub looked_up-more : {A Row : Type 0} (said : Result Row Reason → Option A) (row_of : FileRecord → Result Row Reason) (done : List FileRecord) (r : FileRecord) (x : Result Row Reason) → row_of r ≡ x
    → looked_up (λ q. said (row_of q)) (done ++ r ∷ []) ≡ or_else (looked_up (λ q. said (row_of q)) done) (said x)
looked_up-more said row_of done r x e = looked_up-last (λ q. said (row_of q)) done r ∙ ap (λ y. or_else (looked_up (λ q. said (row_of q)) done) (said y)) e

-- what is done with a row is done with the record that says it
pub takes-said : {Draft Row Error : Type 0} (Holds : Draft → List FileRecord → Type 0) (row_of : FileRecord → Result Row Reason) (reason : List FileRecord → Result Row Reason → Option Reason)
    (before after : Draft) (row : Row) (result : Result (Option Reason) Error) → TakesRow Holds row_of reason before after row result → (r : FileRecord) → row_of r ≡ Ok row
    → TakesRecord Holds (λ done q. reason done (row_of q)) before after r result
takes-said {Row = Row} Holds row_of reason before after row result takes r says = record {
  why = λ done h. let P : Result Row Reason → Type 0 = λ x. IfOk result (λ why. why ≡ reason done x) in subst P (sym says) (takes.why done h);
  adds = λ done h. takes.adds done r h says;
}
