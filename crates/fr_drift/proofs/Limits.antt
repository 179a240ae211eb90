-- The rate terms of a drift that fits parameters lie within their limit.
use Rattle.std.proofs.Common.{◌≡◌, ℕ, ℤ, pos, ◌≤ℤ◌, Bool, true, false, List, [], ◌∷◌, ◌++◌, Option, Some, None, Result, Ok, Err, ap, sym, ◌∙◌, refl, arith, append_assoc}
use Rattle.std.specs.Prelude.{neg_ℤ, not, ◌==◌, if◌then◌else◌}
use Rattle.std.proofs.lemmas.Int.{ints}
use Rattle.fr_base.specs.declared.reason.Reason.{Reason}
use Rattle.fr_base.specs.declared.reason.Reason.TheVariants as reason
use Rattle.fr_text.specs.Records.{FileRecord}
use Rattle.fr_text.specs.Refusal.{NoneRefused}
use Rattle.fr_cluster.specs.Values.{Values}
use Rattle.fr_cluster.specs.Sane.{IsSane}
use Rattle.fr_text.specs.Fields.{or_else, looked_up}
use Rattle.fr_cluster.specs.declared.names.ParamName.TheVariants as name
use Rattle.fr_drift.specs.Rows.{drift_row_of}
use Rattle.fr_drift.specs.Reasons.{drift_reason_after, drift_row_reason, start_at, start_in}
use Rattle.fr_base.specs.Within.{lies_within}
use Rattle.fr_drift.specs.Files.{IsRateWithin}
use Rattle.fr_drift.specs.declared.rows.Start.{Start}
use Rattle.fr_drift.specs.declared.rows.StartRow.{StartRow}
use Rattle.fr_drift.specs.declared.rows.Row.{Row}
use Rattle.fr_drift.specs.declared.rows.Row.TheVariants as row

some-same : {A : Type 0} (x y : A) → Some x ≡ Some y → x ≡ y
some-same x y e = cc e

passed : (b : Bool) (rest : Option Reason) → (if not b then Some reason.OutOfRange else rest) ≡ None → b ≡ true
passed true rest e = refl
passed false rest e = cc e

-- a start that a record says after records, of which none is refused, has a rate term within the limit
within-after : (p : Values) (node : ℕ) (s : Start) (before rest : List FileRecord) → NoneRefused (drift_reason_after p) (before ++ rest)
    → looked_up (λ r. start_in node (drift_row_of r)) rest ≡ Some s → lies_within p.rate_limit s.rate ≡ true
unfolding looked_up
within-after p node s before [] none e = cc e
within-after p node s before (r ∷ rest) none e =
    by (drift_row_of r) refl (λ further. within-after p node s (before ++ r ∷ []) rest (rw (append_assoc before (r ∷ []) rest) none) further)
  where
    hit : (t : StartRow) (b : Bool) → drift_row_of r ≡ Ok (row.Start t)
        → (looked_up (λ q. start_in node (drift_row_of q)) rest ≡ Some s → lies_within p.rate_limit s.rate ≡ true)
        → or_else (if b then Some t.start else None) (looked_up (λ q. start_in node (drift_row_of q)) rest) ≡ Some s → lies_within p.rate_limit s.rate ≡ true
    hit t true is more found =
        let same : t.start ≡ s = some-same t.start s found in
        let fine : drift_row_reason p before (Ok (row.Start t)) ≡ None = ap (λ (x : Result Row Reason). drift_row_reason p before x) (sym is) ∙ none before r rest refl in
        rw (← same) (passed (lies_within p.rate_limit t.start.rate) _ fine)
    hit t false is more found = more found

    by : (x : Result Row Reason) → drift_row_of r ≡ x → (looked_up (λ q. start_in node (drift_row_of q)) rest ≡ Some s → lies_within p.rate_limit s.rate ≡ true) → lies_within p.rate_limit s.rate ≡ true
    by (Err why) is more = more (sym (ap (λ (x : Result Row Reason). or_else (start_in node x) (looked_up (λ q. start_in node (drift_row_of q)) rest)) is) ∙ e)
    by (Ok (row.Doubles n)) is more = more (sym (ap (λ (x : Result Row Reason). or_else (start_in node x) (looked_up (λ q. start_in node (drift_row_of q)) rest)) is) ∙ e)
    by (Ok (row.Length l)) is more = more (sym (ap (λ (x : Result Row Reason). or_else (start_in node x) (looked_up (λ q. start_in node (drift_row_of q)) rest)) is) ∙ e)
    by (Ok (row.Delay d)) is more = more (sym (ap (λ (x : Result Row Reason). or_else (start_in node x) (looked_up (λ q. start_in node (drift_row_of q)) rest)) is) ∙ e)
    by (Ok (row.Start t)) is more =
        hit t (t.node == node) is more (sym (ap (λ (x : Result Row Reason). or_else (start_in node x) (looked_up (λ q. start_in node (drift_row_of q)) rest)) is) ∙ e)

is-within : (p : Values) (rate : ℤ) → lies_within p.rate_limit rate ≡ true → IsRateWithin p rate
is-within p rate e = record { from = grind (arith, ints, e); to = grind (arith, ints, e) }

pub start-within : (p : Values) (node : ℕ) (s : Start) (records : List FileRecord) → NoneRefused (drift_reason_after p) records → start_at node records ≡ Some s → IsRateWithin p s.rate
start-within p node s records none e = is-within p s.rate (within-after p node s [] records none e)

-- and 0 lies within it
below_none : (limit : ℤ) → pos 1 ≤ℤ limit → neg_ℤ limit ≤ℤ pos 0
below_none limit h = omega (arith, ints, h)

pub zero-within : (p : Values) → IsSane p → IsRateWithin p (pos 0)
zero-within p h = let least = h.ranges name.pRateCorrectionOut in record { from = below_none p.rate_limit least.0; to = omega (arith, ints, least.0) }
