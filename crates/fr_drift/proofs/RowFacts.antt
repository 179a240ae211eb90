-- What a record of six fields says.
use Rattle.std.proofs.Common.{◌≡◌, ℕ, List, [], length, refl, Result, Ok, Err}
use Rattle.std.specs.Prelude.{slice_index_or}
use Rattle.fr_base.specs.declared.numbers.NumberFault.{NumberFault}
use Rattle.fr_base.specs.declared.numbers.NumberFault.TheVariants as fault
use Rattle.fr_text.specs.Records.{FileRecord}
use Rattle.fr_text.specs.Fields.{both_of}
use Rattle.fr_drift.specs.Rows.{drift_row_of, drift_file_row}

pub row_of-six : (fields : FileRecord) → length fields ≡ 6
    → drift_row_of fields
    ≡ drift_file_row (slice_index_or fields 0 []) (slice_index_or fields 1 []) (slice_index_or fields 2 []) (slice_index_or fields 3 []) (slice_index_or fields 4 []) (slice_index_or fields 5 [])
unfolding drift_row_of
row_of-six fields e = rw e refl

-- the same, of fields that are equal
pub kind_row-same : (k a b c d e k2 a2 b2 c2 d2 e2 : List ℕ) → k ≡ k2 → a ≡ a2 → b ≡ b2 → c ≡ c2 → d ≡ d2 → e ≡ e2
    → drift_file_row k a b c d e ≡ drift_file_row k2 a2 b2 c2 d2 e2
kind_row-same k a b c d e k2 a2 b2 c2 d2 e2 ek ea eb ec ed ee i = drift_file_row (ek i) (ea i) (eb i) (ec i) (ed i) (ee i)

-- both of two numbers are there only where each is
pub both-first : {A B : Type 0} (a : Result A NumberFault) (b : Result B NumberFault) (x : A) (y : B) → both_of a b ≡ Ok (x, y) → a ≡ Ok x
both-first {A} {B} (Ok a) (Ok b) x y e = let pair : ◌≡◌ {A = A × B} (a, b) (x, y) = cc in λ i. Ok (pair i).0
both-first (Ok a) (Err why) x y e = cc
both-first (Err fault.NotDigits) b x y e = cc
both-first (Err fault.OutOfRange) (Ok b) x y e = cc
both-first (Err fault.OutOfRange) (Err why) x y e = cc

pub both-second : {A B : Type 0} (a : Result A NumberFault) (b : Result B NumberFault) (x : A) (y : B) → both_of a b ≡ Ok (x, y) → b ≡ Ok y
both-second {A} {B} (Ok a) (Ok b) x y e = let pair : ◌≡◌ {A = A × B} (a, b) (x, y) = cc in λ i. Ok (pair i).1
both-second (Ok a) (Err why) x y e = cc
both-second (Err fault.NotDigits) b x y e = cc
both-second (Err fault.OutOfRange) (Ok b) x y e = cc
both-second (Err fault.OutOfRange) (Err why) x y e = cc
