-- What a capture was fed.
use Rattle.std.proofs.Common.{ℕ, ◌≡◌, ◌+◌, ◌≤◌, List, [], ◌++◌, length, take, arith, length-append}
use Rattle.std.proofs.lemmas.List.{length-take-le}
use Rattle.fr_capture.specs.View.{CaptureView, StandsFor}

-- it stands for some bytes, so many or fewer
pub record IsFed (c : CaptureView) (count : ℕ) : Type 0 where
  pub fed : List ℕ
  pub stands : StandsFor c fed
  pub few : length fed ≤ count

pub none_fed : (c : CaptureView) → StandsFor c [] → IsFed c 0
none_fed c stands = record { fed = []; stands = stands; few = omega arith }

pub more_fed : (before after : CaptureView) (count used : ℕ) (piece : List ℕ) → (is : IsFed before count) → ((bytes : List ℕ) → StandsFor before bytes → StandsFor after (bytes ++ take used piece)) →
    used ≤ length piece → length piece ≤ 1 → IsFed after (count + 1)
more_fed before after count used piece is goes within one =
    let long : length (take used piece) ≡ used = length-take-le used piece within in
    let all : length (is.fed ++ take used piece) ≡ length is.fed + length (take used piece) = length-append is.fed (take used piece) in
    let had : length is.fed ≤ count = is.few in record {
      fed = is.fed ++ take used piece;
      stands = goes is.fed is.stands;
      few = omega (arith, long, all, had);
    }
