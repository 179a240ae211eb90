-- The rows of vectors are put line by line.
use Rattle.std.proofs.Common.{◌≡◌, ℕ, List, ◌∷◌, Result, Ok, Err, subst, sym}
use Rattle.std.specs.Result.{IsErr}
use Rattle.fr_base.specs.Device.{Puts, Sunk}
use Rattle.fr_base.specs.declared.sink.PutFault.{PutFault}
use Rattle.fr_base.proofs.Putting.{cut, then}
use Rattle.fr_nm.specs.Text.{nm_text, row_line, rows_text, total_line}
use Rattle.fr_nm.specs.View.{VectorsView}
use Rattle.fr_nm.specs.declared.vector.Folded.{Folded}

pub row-then : {done : Unit {0}} {a b c : Sunk} (width : ℕ) (row : ℕ × Folded) (rest all : List (ℕ × Folded)) (text : List ℕ) (result : Result (Unit {0}) PutFault) → text ≡ row_line width row.0 row.1 → all ≡ row ∷ rest
    → Puts (Ok done) a b text → Puts result b c (rows_text width rest) → Puts result a c (rows_text width all)
row-then {done} {a} {b} {c} width row rest all text result is cut_is put next =
    subst (λ (rows : List (ℕ × Folded)). Puts result a c (rows_text width rows)) (sym cut_is)
    (then {text = row_line width row.0 row.1} {rest = rows_text width rest} result (subst (λ (x : List ℕ). Puts (Ok done) a b x) is put) next)

pub row-cut : {fault : PutFault} {a b : Sunk} (width : ℕ) (row : ℕ × Folded) (rest all : List (ℕ × Folded)) (text : List ℕ) (result : Result (Unit {0}) PutFault) → text ≡ row_line width row.0 row.1 → all ≡ row ∷ rest
    → Puts (Err fault) a b text → IsErr result → Puts result a b (rows_text width all)
row-cut {fault} {a} {b} width row rest all text result is cut_is put failed =
    subst (λ (rows : List (ℕ × Folded)). Puts result a b (rows_text width rows)) (sym cut_is)
    (cut {text = row_line width row.0 row.1} result (rows_text width rest) (subst (λ (x : List ℕ). Puts (Err fault) a b x) is put) failed)

-- and then how many there are
pub all-then : {done : Unit {0}} {a b c : Sunk} (i v : VectorsView) (text : List ℕ) (result : Result (Unit {0}) PutFault) → i ≡ v → text ≡ total_line i.frames i.ignored
    → Puts (Ok done) a b (rows_text i.width i.rows) → Puts result b c text → Puts result a c (nm_text v)
all-then {done} {a} {b} {c} i v text result same is put next =
    subst (λ (x : VectorsView). Puts result a c (nm_text x)) same
    (then {text = rows_text i.width i.rows} {rest = total_line i.frames i.ignored} result put (subst (λ (x : List ℕ). Puts result b c x) is next))

pub all-cut : {fault : PutFault} {a b : Sunk} (i v : VectorsView) (result : Result (Unit {0}) PutFault) → i ≡ v → Puts (Err fault) a b (rows_text i.width i.rows) → IsErr result → Puts result a b (nm_text v)
all-cut {fault} {a} {b} i v result same put failed =
    subst (λ (x : VectorsView). Puts result a b (nm_text x)) same (cut {text = rows_text i.width i.rows} result (total_line i.frames i.ignored) put failed)
