-- The drift of an accepted file.
use Rattle.std.proofs.Common.{◌≡◌, pos, Option, Some, None, refl, sym, ◌∙◌}
use Rattle.std.specs.Option.{option_map_or}
use Rattle.fr_drift.specs.Files.{IsRateWithin}
use Rattle.fr_drift.specs.Questions.{rate_of}
use Rattle.fr_drift.specs.View.{start_rows}
use Rattle.fr_drift.specs.declared.rows.Start.{Start}
use Rattle.fr_drift.proofs.Limits.{start-within, zero-within}
use Rattle.fr_promise.specs.Files.{DriftOfAFileFits, RatesAreWithin}

pub drift_of_a_file_fits : DriftOfAFileFits
drift_of_a_file_fits p d bytes file = record { records = _; none_refused = file.none_refused; stands = file.stands }

pub rates_are_within : RatesAreWithin
unfolding rate_of
rates_are_within p d node sane fits = by_start (start_rows d node) refl
  where
    by_start : (o : Option Start) → start_rows d node ≡ o → IsRateWithin p (option_map_or (λ s. s.rate) o (pos 0))
    by_start None is = zero-within p sane
    by_start (Some s) is = start-within p node s fits.records fits.none_refused (sym (fits.stands.starts node) ∙ is)
