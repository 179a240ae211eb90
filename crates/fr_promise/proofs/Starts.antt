-- A drift that fits parameters starts no cycle 0 below 0, and its microticks are no less than 0.
use Rattle.std.proofs.Common.{◌≡◌, ℕ, zero, suc, ℤ, pos, ◌≤ℤ◌, Bool, true, false, List, [], ◌∷◌, length, Option, Some, None, Result, Ok, Err, sym, ◌∙◌, refl, arith, subst}
use Rattle.std.specs.Prelude.{int_lt, ◌||◌, ◌&&◌, ◌==◌, codes, unwrap_or, if◌then◌else◌}
use Rattle.std.specs.Option.{option_map_or}
use Rattle.std.specs.Str.{bytes_eq}
use Rattle.std.proofs.lemmas.Int.{ints}
use Rattle.fr_base.specs.Number.{number_of, within}
use Rattle.fr_base.specs.declared.numbers.NumberFault.{NumberFault}
use Rattle.fr_base.specs.declared.numbers.NumberFault.TheVariants as fault
use Rattle.fr_base.specs.declared.reason.Reason.{Reason}
use Rattle.fr_base.specs.declared.reason.Reason.TheVariants as reason
use Rattle.fr_text.specs.Records.{FileRecord}
use Rattle.fr_text.specs.Fields.{both_of, field_of, is_blank, natural_of, or_else, or_reason, looked_up}
use Rattle.fr_drift.specs.Held.{held}
use Rattle.fr_drift.specs.Questions.{length_of, start_of}
use Rattle.fr_drift.specs.Reasons.{length_in, start_in}
use Rattle.fr_drift.specs.Rows.{delay_row, doubles_row, drift_file_row, drift_row_of, length_row, length_with, rate_in, short_row, start_row, start_with}
use Rattle.fr_drift.specs.View.{length_rows, start_rows}
use Rattle.fr_drift.specs.declared.rows.Start.{Start}
use Rattle.fr_drift.specs.declared.rows.StartRow.{StartRow}
use Rattle.fr_drift.specs.declared.rows.Row.{Row}
use Rattle.fr_drift.specs.declared.rows.Row.TheVariants as row
use Rattle.fr_promise.specs.Files.{LengthsAreNatural, StartsAreNatural}

-- the ticks of a `start` row are not negative, nor those of a `length` row
abbrev Begins : Result Row Reason → Type 0
Begins (Ok (row.Doubles n)) = Unit {0}
Begins (Ok (row.Start t)) = pos 0 ≤ℤ t.start.ticks
Begins (Ok (row.Length l)) = pos 0 ≤ℤ l.ticks
Begins (Ok (row.Delay d)) = Unit {0}
Begins (Err why) = Unit {0}

begins_if : (b : Bool) (x y : Result Row Reason) → Begins x → Begins y → Begins (if b then x else y)
begins_if true x y f g = f
begins_if false x y f g = g

begins_short : (fourth fifth : List ℕ) (said : Result Row Reason) → Begins said → Begins (short_row fourth fifth said)
begins_short fourth fifth said f = begins_if (is_blank fourth && is_blank fifth) said (Err reason.Shape) f tt

begins_read : {A : Type 0} (use_of : A → Result Row Reason) (x : Result A NumberFault) → ((a : A) → Begins (use_of a)) → Begins (or_reason use_of x)
begins_read use_of (Ok a) each = each a
begins_read use_of (Err why) each = tt

-- a number that is read is no less than its limit
abbrev IsFrom : ℤ → Result ℤ NumberFault → Type 0
IsFrom low (Ok z) = low ≤ℤ z
IsFrom low (Err why) = Unit {0}

from_if : (low z : ℤ) (a b : Bool) → int_lt z low ≡ a → IsFrom low (if a || b then Err fault.OutOfRange else Ok z)
from_if low z true b e = tt
from_if low z false true e = tt
from_if low z false false e = grind (arith, ints, e)

from_within : (low high : ℤ) (o : Option ℤ) → IsFrom low (within low high o)
from_within low high None = tt
from_within low high (Some z) = from_if low z (int_lt z low) (int_lt high z) refl

begins_start : (node : Result ℕ NumberFault) (ticks rate : Result ℤ NumberFault) → IsFrom (pos 0) ticks → Begins (or_reason start_with (both_of node (both_of ticks rate)))
begins_start (Ok n) (Ok z) (Ok r) f = f
begins_start (Ok n) (Ok z) (Err why) f = tt
begins_start (Ok n) (Err fault.NotDigits) r f = tt
begins_start (Ok n) (Err fault.OutOfRange) (Ok r) f = tt
begins_start (Ok n) (Err fault.OutOfRange) (Err why) f = tt
begins_start (Err fault.NotDigits) z r f = tt
begins_start (Err fault.OutOfRange) z r f = out (both_of z r)
  where
    out : (x : Result (ℤ × ℤ) NumberFault) → Begins (or_reason start_with (both_of (Err fault.OutOfRange) x))
    out (Ok q) = tt
    out (Err why) = tt

begins_length : (node from : Result ℕ NumberFault) (ticks : Result ℤ NumberFault) → IsFrom (pos 500_000) ticks → Begins (or_reason length_with (both_of node (both_of from ticks)))
begins_length (Ok n) (Ok c) (Ok z) f = omega (arith, ints, f)
begins_length (Ok n) (Ok c) (Err why) f = tt
begins_length (Ok n) (Err fault.NotDigits) r f = tt
begins_length (Ok n) (Err fault.OutOfRange) (Ok r) f = tt
begins_length (Ok n) (Err fault.OutOfRange) (Err why) f = tt
begins_length (Err fault.NotDigits) z r f = tt
begins_length (Err fault.OutOfRange) z r f = out (both_of z r)
  where
    out : (x : Result (ℕ × ℤ) NumberFault) → Begins (or_reason length_with (both_of (Err fault.OutOfRange) x))
    out (Ok q) = tt
    out (Err why) = tt

begins_row : (r : FileRecord) → Begins (drift_row_of r)
unfolding drift_row_of
begins_row r =
    let kind = field_of r 0 in
    let first = field_of r 1 in
    let second = field_of r 2 in
    let third = field_of r 3 in
    let fourth = field_of r 4 in
    let fifth = field_of r 5 in
    begins_if (length r == 6) (drift_file_row kind first second third fourth fifth) (Err reason.Shape)
    (begins_if (bytes_eq kind (codes "doubles")) (short_row second third (short_row fourth fifth (doubles_row first))) _
    (begins_short second third (short_row fourth fifth (doubles_row first))
    (begins_short fourth fifth (doubles_row first) (begins_read _ (natural_of 1 100_000 first) (λ n. tt))))
    (begins_if (bytes_eq kind (codes "start")) (short_row fourth fifth (start_row first second third)) _
    (begins_short fourth fifth (start_row first second third)
    (begins_start (natural_of 1 64 first) (within (pos 0) (pos 1_000_000_000_000) (number_of second)) (rate_in third) (from_within (pos 0) (pos 1_000_000_000_000) (number_of second))))
    (begins_if (bytes_eq kind (codes "length")) (short_row fourth fifth (length_row first second third)) _
    (begins_short fourth fifth (length_row first second third)
    (begins_length (natural_of 1 64 first) (natural_of 0 199_999 second) (within (pos 500_000) (pos 1_500_000) (number_of third)) (from_within (pos 500_000) (pos 1_500_000) (number_of third))))
    (begins_if (bytes_eq kind (codes "delay")) (delay_row first second third fourth fifth) (Err reason.UnknownName)
    (begins_read _
    (both_of (both_of (natural_of 1 64 first) (natural_of 1 64 second)) (both_of (natural_of 0 199_999 fourth) (within (pos 0) (pos 1_000_000_000) (number_of fifth))))
    (λ numbers. tt))
    tt))))
    tt

-- what is looked up is such a row's
hit : (t : StartRow) (b : Bool) (s : Start) → pos 0 ≤ℤ t.start.ticks → (rest : Option Start) → (rest ≡ Some s → pos 0 ≤ℤ s.ticks)
    → or_else (if b then Some t.start else None) rest ≡ Some s → pos 0 ≤ℤ s.ticks
hit t true s from rest more is = let same : t.start ≡ s = cc is in subst (λ (x : Start). pos 0 ≤ℤ x.ticks) same from
hit t false s from rest more is = more is

begins_by : (node : ℕ) (s : Start) (x : Result Row Reason) (rest : Option Start) → Begins x → (rest ≡ Some s → pos 0 ≤ℤ s.ticks) → or_else (start_in node x) rest ≡ Some s → pos 0 ≤ℤ s.ticks
begins_by node s (Ok (row.Doubles n)) rest from more is = more is
begins_by node s (Ok (row.Start t)) rest from more is = hit t (t.node == node) s from rest more is
begins_by node s (Ok (row.Length l)) rest from more is = more is
begins_by node s (Ok (row.Delay d)) rest from more is = more is
begins_by node s (Err why) rest from more is = more is

begins_at : (node : ℕ) (s : Start) (records : List FileRecord) → looked_up (λ r. start_in node (drift_row_of r)) records ≡ Some s → pos 0 ≤ℤ s.ticks
unfolding looked_up
begins_at node s [] is = cc is
begins_at node s (r ∷ rest) is = begins_by node s (drift_row_of r) (looked_up (λ q. start_in node (drift_row_of q)) rest) (begins_row r) (λ more. begins_at node s rest more) is

pub starts_are_natural : StartsAreNatural
unfolding start_of
starts_are_natural p d node fits = by_start (start_rows d node) refl
  where
    by_start : (o : Option Start) → start_rows d node ≡ o → pos 0 ≤ℤ option_map_or (λ s. s.ticks) o (pos 0)
    by_start None is = omega (arith, ints)
    by_start (Some s) is = begins_at node s fits.records (sym (fits.stands.starts node) ∙ is)

-- ---- and of lengths

hit_length : (b : Bool) (ticks z : ℤ) → pos 0 ≤ℤ ticks → (rest : Option ℤ) → (rest ≡ Some z → pos 0 ≤ℤ z) → or_else (if b then Some ticks else None) rest ≡ Some z → pos 0 ≤ℤ z
hit_length true ticks z from rest more is = let same : ticks ≡ z = cc is in subst (λ (y : ℤ). pos 0 ≤ℤ y) same from
hit_length false ticks z from rest more is = more is

lasts_by : (node from : ℕ) (z : ℤ) (x : Result Row Reason) (rest : Option ℤ) → Begins x → (rest ≡ Some z → pos 0 ≤ℤ z) → or_else (length_in node from x) rest ≡ Some z → pos 0 ≤ℤ z
lasts_by node from z (Ok (row.Doubles n)) rest begins more is = more is
lasts_by node from z (Ok (row.Start t)) rest begins more is = more is
lasts_by node from z (Ok (row.Length l)) rest begins more is = hit_length ((l.node == node) && (l.from == from)) l.ticks z begins rest more is
lasts_by node from z (Ok (row.Delay d)) rest begins more is = more is
lasts_by node from z (Err why) rest begins more is = more is

lasts_at : (node from : ℕ) (z : ℤ) (records : List FileRecord) → looked_up (λ r. length_in node from (drift_row_of r)) records ≡ Some z → pos 0 ≤ℤ z
unfolding looked_up
lasts_at node from z [] is = cc is
lasts_at node from z (r ∷ rest) is = lasts_by node from z (drift_row_of r) (looked_up (λ q. length_in node from (drift_row_of q)) rest) (begins_row r) (λ more. lasts_at node from z rest more) is

-- the row that holds is one of them
held_row : (rows : ℕ → Option ℤ) (cycle : ℕ) (z : ℤ) → ((from : ℕ) → rows from ≡ Some z → pos 0 ≤ℤ z) → held rows cycle ≡ Some z → pos 0 ≤ℤ z
unfolding held
held_row rows zero z each is = each 0 is
held_row rows (suc cycle) z each is = by (rows (suc cycle)) refl is (λ found. held_row rows cycle z each found)
  where
    by : (o : Option ℤ) → rows (suc cycle) ≡ o → or_else o (held rows cycle) ≡ Some z → (held rows cycle ≡ Some z → pos 0 ≤ℤ z) → pos 0 ≤ℤ z
    by None at found more = more found
    by (Some y) at found more = each (suc cycle) (at ∙ found)

pub lengths_are_natural : LengthsAreNatural
unfolding length_of
lengths_are_natural p d node cycle fits = by_held (held (length_rows d node) cycle) refl
  where
    by_held : (o : Option ℤ) → held (length_rows d node) cycle ≡ o → pos 0 ≤ℤ unwrap_or o (pos 1_000_000)
    by_held None is = omega (arith, ints)
    by_held (Some z) is = held_row (length_rows d node) cycle z (λ from at. lasts_at node from z fits.records (sym (fits.stands.lengths node from) ∙ at)) is
