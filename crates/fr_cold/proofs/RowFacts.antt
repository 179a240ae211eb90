-- What a record of three fields says.
use Rattle.std.proofs.Common.{◌≡◌, ℕ, List, [], length, refl}
use Rattle.std.specs.Prelude.{slice_index_or}
use Rattle.fr_text.specs.Records.{FileRecord}
use Rattle.fr_cold.specs.Rows.{power_file_row, power_row_of}

pub row_of-three : (fields : FileRecord) → length fields ≡ 3
    → power_row_of fields ≡ power_file_row (slice_index_or fields 0 []) (slice_index_or fields 1 []) (slice_index_or fields 2 [])
unfolding power_row_of
row_of-three fields e = rw e refl

-- the same, of fields that are equal
pub kind_row-same : (k a b k2 a2 b2 : List ℕ) → k ≡ k2 → a ≡ a2 → b ≡ b2 → power_file_row k a b ≡ power_file_row k2 a2 b2
kind_row-same k a b k2 a2 b2 ek ea eb i = power_file_row (ek i) (ea i) (eb i)
