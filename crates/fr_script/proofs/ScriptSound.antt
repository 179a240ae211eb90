-- The script of an accepted file is sound.
use Rattle.std.proofs.Common.{◌≡◌, ℕ, Bool, true, false, List, [], ◌∷◌, Option, Some, None, Result, Ok, Err, refl, sym, subst, arith}
use Rattle.std.specs.Prelude.{codes, ◌&&◌, IfOk, IfSome, if◌then◌else◌}
use Rattle.std.specs.Str.{bytes_eq}
use Rattle.fr_base.specs.declared.channel.Channel.{Channel}
use Rattle.fr_base.specs.declared.channel.Channel.TheVariants as channel
use Rattle.fr_base.specs.declared.numbers.NumberFault.{NumberFault}
use Rattle.fr_base.specs.declared.reason.Reason.{Reason}
use Rattle.fr_base.specs.declared.reason.Reason.TheVariants as reason
use Rattle.fr_cluster.specs.Values.{Values}
use Rattle.fr_text.specs.Fields.{both_of, field_of, is_channel, looked_up, natural_of, or_else}
use Rattle.fr_text.specs.Records.{FileRecord}
use Rattle.fr_text.proofs.RowsRead.{both_read, natural_read, of_either, of_read}
use Rattle.fr_script.specs.Files.{IsScriptFile, IsSoundScript}
use Rattle.fr_script.specs.Reasons.{deed_by, deed_said, is_same_passage}
use Rattle.fr_script.specs.Deed.{IsProperDeed}
use Rattle.fr_script.specs.Rows.{IsProperScriptRow, arbitrary_row, is_node_alone, is_reference_last, join_in, join_row, joining, row_of_no_deed, script_file_row, script_row_of}
use Rattle.fr_script.specs.View.{AreDeeds, ScriptView, deeds_on}
use Rattle.fr_script.specs.declared.deed.Deed.{Deed}
use Rattle.fr_script.specs.declared.deeds.Passage.{Passage}
use Rattle.fr_script.specs.declared.rows.JoinRow.{JoinRow}
use Rattle.fr_script.specs.declared.rows.Row.{Row}
use Rattle.fr_script.specs.declared.rows.Row.TheVariants as row
use Rattle.fr_script.proofs.DeedKinds.{of-deeds}

-- ---- a row that is read is proper

proper_arbitrary : (r : FileRecord) → IfOk (arbitrary_row r) IsProperScriptRow
proper_arbitrary r = of_either IsProperScriptRow (is_node_alone r) _ (Err reason.Shape) (of_read IsProperScriptRow (λ node. Ok (row.Arbitrary node)) (natural_of 1 64 (field_of r 1)) (λ x e. tt)) tt

double_or : ℕ → Result JoinRow NumberFault → ℕ
double_or other (Ok said) = said.join.double
double_or other (Err why) = other

joining_read : (a : Result ℕ NumberFault) (b : Result (ℕ × ℕ) NumberFault) (x : JoinRow) → joining (both_of a b) ≡ Ok x → a ≡ Ok x.join.double
unfolding double_or
joining_read a b x e = by (both_of a b) refl e
  where
    by : (r : Result (ℕ × (ℕ × ℕ)) NumberFault) → both_of a b ≡ r → joining r ≡ Ok x → a ≡ Ok x.join.double
    by (Ok numbers) is same =
        let first = (both_read a b numbers is).0 in
        subst (λ (n : ℕ). a ≡ Ok n) (λ i. double_or 0 (same i)) first
    by (Err why) is same = absurd (cc same)

proper_join : (r : FileRecord) → IfOk (join_row r) IsProperScriptRow
proper_join r =
    of_either IsProperScriptRow (is_reference_last r) _ (Err reason.Shape)
    (of_read IsProperScriptRow (λ said. Ok (row.Join said)) (join_in r)
    (λ x e.
    let double = joining_read (natural_of 0 99_999 (field_of r 1)) (both_of (natural_of 1 64 (field_of r 2)) (natural_of 1 64 (field_of r 3))) x e in
    let most = (natural_read 0 99_999 (field_of r 1) x.join.double double).1 in
    omega (arith, most)))
    tt

proper_row : (r : FileRecord) → IfOk (script_row_of r) IsProperScriptRow
unfolding script_row_of
proper_row r =
    of_either IsProperScriptRow _ (script_file_row r) (Err reason.Shape)
    (of_either IsProperScriptRow (bytes_eq (field_of r 0) (codes "arbitrary")) (arbitrary_row r) _ (proper_arbitrary r)
    (of-deeds (λ x. IfOk x IsProperScriptRow) (λ why. tt) (λ d proper. proper) r (row_of_no_deed r)
    (of_either IsProperScriptRow (bytes_eq (field_of r 0) (codes "join")) (join_row r) (Err reason.UnknownName) (proper_join r) tt)))
    tt

-- ---- so are the deeds that the records say

deed_proper : (ch : Channel) (passage : Passage) (said : Result Row Reason) → IfOk said IsProperScriptRow → IfSome (deed_said ch passage said) IsProperDeed
deed_proper ch passage (Ok (row.Arbitrary node)) proper = tt
deed_proper ch passage (Ok (row.Deed d)) proper = by (is_channel ch d.channel && is_same_passage d.passage passage)
  where
    by : (b : Bool) → IfSome (if b then d.deed else None) IsProperDeed
    by true = proper
    by false = tt
deed_proper ch passage (Ok (row.Join j)) proper = tt
deed_proper ch passage (Err why) proper = tt

looked_proper : {A : Type 0} (P : A → Type 0) (what : FileRecord → Option A) (records : List FileRecord) → ((r : FileRecord) → IfSome (what r) P) → IfSome (looked_up what records) P
unfolding looked_up
looked_proper P what [] each = tt
looked_proper {A} P what (r ∷ rest) each = by (what r) (each r) (looked_proper P what rest each)
  where
    by : (o : Option A) → IfSome o P → IfSome (looked_up what rest) P → IfSome (or_else o (looked_up what rest)) P
    by (Some a) one more = one
    by None one more = more

deeds_proper : (ch : Channel) (passage : Passage) (records : List FileRecord) → IfSome (deed_by ch passage records) IsProperDeed
deeds_proper ch passage records = looked_proper IsProperDeed (λ r. deed_said ch passage (script_row_of r)) records (λ r. deed_proper ch passage (script_row_of r) (proper_row r))

pub sound_script : (p : Values) (s : ScriptView) (bytes : List ℕ) → IsScriptFile p s bytes → IsSoundScript p s
sound_script p s bytes is = record {
  fits = record { records = _; none_refused = is.none_refused; stands = is.stands };
  proper = record { long = is.stands.long; joins_long = is.stands.joins_long; deeds_a = deeds channel.A; deeds_b = deeds channel.B };
} where
  deeds : (ch : Channel) → AreDeeds (deeds_on s ch)
  deeds ch = record {
    ascending = is.stands.ascending ch;
    proper = λ passage. subst (λ (o : Option Deed). IfSome o IsProperDeed) (sym (is.stands.deeds ch passage)) (deeds_proper ch passage _);
  }
