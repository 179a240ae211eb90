-- The reason of a record of a power file is the least that holds.
use Rattle.std.proofs.Common.{◌≡◌, ℕ, Bool, true, false, List, [], ◌∷◌, length, Some, None, Result, Ok, Err, refl}
use Rattle.std.specs.Prelude.{not, ◌==◌, ◌||◌, codes, is_some, if◌then◌else◌}
use Rattle.std.specs.Str.{bytes_eq}
use Rattle.fr_base.specs.declared.reason.Reason.{Reason}
use Rattle.fr_base.specs.declared.reason.Reason.TheVariants as reason
use Rattle.fr_text.specs.Records.{FileRecord}
use Rattle.fr_text.specs.Fields.{both_of, field_of, is_blank, natural_of}
use Rattle.fr_text.specs.Forms.{number_field, misses_form, has_unknown_name, has_no_number, is_out_of_range, has_bad_channels}
use Rattle.fr_text.specs.Least.{GivesLeast, IsLeastReason, row_passes}
use Rattle.fr_text.proofs.LeastReasons.{least-first}
use Rattle.fr_text.proofs.FormFacts.{IsFormed, IsFormedBy, formed-if, formed-one, formed-read, formed-sized, is_overfull, least-formed, natural-read, never, read-both}
use Rattle.fr_cluster.specs.Values.{Values}
use Rattle.fr_cold.specs.declared.state.Switch.{Switch}
use Rattle.fr_cold.specs.declared.state.Switch.TheVariants as switch
use Rattle.fr_cold.specs.Rows.{cycles_row, power_file_row, power_row_of, switch_row, switch_with}
use Rattle.fr_cold.specs.Reasons.{cycles_at, is_out_of_turn, last_at, power_reason_after, power_row_reason}
use Rattle.fr_cluster.specs.Questions.{is_known, is_coldstart}
use Rattle.fr_cold.specs.Holding.{are_cycles_said_again, cycles_form, is_switch_misplaced, power_form, power_holds, power_names_stranger, switch_form}
use Rattle.fr_cold.specs.declared.rows.Row.{Row}
use Rattle.fr_cold.specs.declared.rows.Row.TheVariants as row

-- nothing of a row is left to ask of its numbers and channels
far : Row → Bool
far x = false

cycles-formed : (r : FileRecord) → IsFormedBy far far (Some (cycles_form r)) (if is_blank (field_of r 2) then cycles_row (field_of r 1) else Err reason.Shape)
unfolding far
cycles-formed r =
    formed-one far far (is_blank (field_of r 2)) _ _ _ _ (cycles_row (field_of r 1))
    (formed-read far far never _ _ _ (λ n. Ok (row.Cycles n)) (natural_of 1 1000 (field_of r 1)) (natural-read 1 1000 (field_of r 1)) (λ n d o e f. (refl, refl, e, f, refl)))

switch-formed : (how : Switch) (r : FileRecord) → IsFormedBy far far (Some (switch_form r)) (switch_row how (field_of r 1) (field_of r 2))
unfolding far
switch-formed how r =
    let all =
    read-both never never (number_field (field_of r 1) 1 64 ∷ []) (number_field (field_of r 2) 0 16_000_000 ∷ []) true true (natural_of 1 64 (field_of r 1)) (natural_of 0 16_000_000 (field_of r 2))
    (natural-read 1 64 (field_of r 1)) (natural-read 0 16_000_000 (field_of r 2))
    in
    formed-read far far (λ (q : ℕ × ℕ). never q.0 || never q.1) _ _ _ (switch_with how) (both_of (natural_of 1 64 (field_of r 1)) (natural_of 0 16_000_000 (field_of r 2))) all
    (λ a d o e f. (refl, refl, e, f, refl))

-- what a record says, against its form
formed : (r : FileRecord)
    → IsFormed far far (misses_form 3 r (power_form r)) (has_unknown_name (power_form r)) (has_no_number (power_form r)) (is_out_of_range (power_form r)) (has_bad_channels (power_form r)) (power_row_of r)
unfolding power_row_of
formed r =
    formed-sized far far (length r == 3) (is_overfull (power_form r)) (has_unknown_name (power_form r)) (has_no_number (power_form r)) (is_out_of_range (power_form r)) (has_bad_channels (power_form r))
    (power_file_row (field_of r 0) (field_of r 1) (field_of r 2))
    (formed-if far far (bytes_eq (field_of r 0) (codes "cycles")) (Some (cycles_form r)) _ _ _ (cycles-formed r)
    (formed-if far far (bytes_eq (field_of r 0) (codes "on")) (Some (switch_form r)) _ _ _ (switch-formed switch.On r)
    (formed-if far far (bytes_eq (field_of r 0) (codes "off")) (Some (switch_form r)) None _ (Err reason.UnknownName) (switch-formed switch.Off r) (refl, refl))))

-- by what it says
least-row : (p : Values) (test : Reason → Bool) (before : List FileRecord) (x : Result Row Reason)
    → IsFormed far far (test reason.Shape) (test reason.UnknownName) (test reason.NotNumber) (test reason.OutOfRange) (test reason.BadChannel) x
    → test reason.UnknownNode ≡ row_passes (power_names_stranger p) x → test reason.Role ≡ row_passes (is_switch_misplaced p before) x → test reason.Link ≡ false → test reason.NotHex ≡ false
    → test reason.Repeated ≡ row_passes (are_cycles_said_again before) x → IsLeastReason test (power_row_reason p before x)
unfolding far
least-row p test before (Err why) f node role link hex again = least-formed far far test why f node
least-row p test before (Ok (row.Cycles n)) f node role link hex again =
    least-first test false false false false false false false false false (is_some (cycles_at before)) f.0 f.1 f.2 f.3 node f.4 role link hex again
least-row p test before (Ok (row.Switched s)) f node role link hex again =
    least-first test false false false false (not (is_known p s.node)) false (not (is_coldstart p s.node) || is_out_of_turn (last_at s.node before) s) false false false f.0 f.1 f.2 f.3 node f.4 role link hex again

spelt : (r : FileRecord) → has_bad_channels (power_form r) ≡ false
spelt r = by (bytes_eq (field_of r 0) (codes "cycles")) (bytes_eq (field_of r 0) (codes "on")) (bytes_eq (field_of r 0) (codes "off"))
  where
    by : (a b c : Bool) → has_bad_channels (if a then Some (cycles_form r) else if b then Some (switch_form r) else if c then Some (switch_form r) else None) ≡ false
    by true b c = refl
    by false true c = refl
    by false false true = refl
    by false false false = refl

pub gives-least : (p : Values) → GivesLeast (power_reason_after p) (power_holds p)
gives-least p before r =
    least-row p (power_holds p before r) before (power_row_of r)
    (let f = formed r in let channel : has_bad_channels (power_form r) ≡ false = spelt r in rw channel at f) refl refl refl refl refl
