-- The reason of a record of a script is the least that holds.
use Rattle.std.proofs.Common.{◌≡◌, ℕ, ℤ, pos, ◌-◌, ◌≤◌, ◌≤ℤ◌, Bool, true, false, List, [], ◌∷◌, length, Option, Some, None, Result, Ok, Err, arith, refl}
use Rattle.std.specs.Prelude.{nat_abs, not, ◌||◌, ◌&&◌, ◌==◌, codes, is_none, is_some, if◌then◌else◌}
use Rattle.std.specs.Str.{bytes_eq}
use Rattle.std.proofs.lemmas.Int.{ints}
use Rattle.fr_base.specs.declared.channel.Channel.{Channel}
use Rattle.fr_base.specs.declared.numbers.NumberFault.{NumberFault}
use Rattle.fr_base.specs.declared.numbers.NumberFault.TheVariants as fault
use Rattle.fr_base.specs.declared.reason.Reason.{Reason}
use Rattle.fr_base.specs.declared.reason.Reason.TheVariants as reason
use Rattle.fr_text.specs.Records.{FileRecord}
use Rattle.fr_text.specs.Fields.{both_of, field_of, is_blank, natural_of, or_reason}
use Rattle.fr_text.specs.Forms.{number_field, misses_form, has_unknown_name, has_no_number, is_out_of_range, has_bad_channels}
use Rattle.fr_text.specs.Least.{GivesLeast, IsLeastReason, row_passes}
use Rattle.fr_text.proofs.LeastReasons.{least-first}
use Rattle.fr_text.proofs.FormFacts.{IsFault, IsFormed, IsFormedBy, IsRead, formed-five, formed-if, formed-read, formed-sized, formed-two, is_overfull, least-formed, natural-read, never, read-both}
use Rattle.fr_cluster.specs.Values.{Values, amount}
use Rattle.fr_cluster.specs.Sane.{IsSane}
use Rattle.fr_cluster.specs.Questions.{is_common, node_of, own_key}
use Rattle.fr_cluster.specs.declared.names.ParamName.TheVariants as name
use Rattle.fr_script.specs.Deed.{bits_of, is_after_frame, is_say}
use Rattle.fr_script.specs.Rows.{arbitrary_row, join_in, join_row, joining, row_of_no_deed, script_file_row, script_row_of}
use Rattle.fr_script.specs.Reasons.{deed_by, has_acted, is_misplaced, is_named_in, join_by, knows_both, knows_joining, may_not_join, script_reason_after, script_row_reason, share_channel}
use Rattle.fr_script.specs.Holding.{arbitrary_form, join_form, is_not_hex, is_of_stranger, is_off_channel, is_second, may_not_stand, script_form, script_holds}
use Rattle.fr_script.specs.declared.deeds.Passage.{Passage}
use Rattle.fr_script.specs.declared.deed.Deed.{Deed}
use Rattle.fr_script.specs.declared.rows.Row.{Row}
use Rattle.fr_script.specs.declared.rows.Row.TheVariants as row
use Rattle.fr_script.proofs.DeedKinds.{astray, deeds-formed, far}

-- a node
arbitrary-formed : (p : Values) (r : FileRecord) → IsFormedBy (far p) astray (Some (arbitrary_form r)) (arbitrary_row r)
unfolding far astray
arbitrary-formed p r =
    formed-five (far p) astray (is_blank (field_of r 2)) (is_blank (field_of r 3)) (is_blank (field_of r 4)) (is_blank (field_of r 5)) (is_blank (field_of r 6)) _ _ _ _
    (or_reason (λ node. Ok (row.Arbitrary node)) (natural_of 1 64 (field_of r 1)))
    (formed-read (far p) astray never _ _ _ (λ node. Ok (row.Arbitrary node)) (natural_of 1 64 (field_of r 1)) (natural-read 1 64 (field_of r 1)) (λ n d o e f. (refl, refl, e, f, refl)))

-- a node that joins
joining-read : (d o : Bool) (x : Result (ℕ × (ℕ × ℕ)) NumberFault) → IsFault (λ (q : ℕ × (ℕ × ℕ)). never q.0 || (never q.1.0 || never q.1.1)) d o x → IsFault never d o (joining x)
joining-read d o (Ok q) f = f
joining-read d o (Err fault.NotDigits) f = f
joining-read d o (Err fault.OutOfRange) f = f

join-numbers : (r : FileRecord) → IsRead never (number_field (field_of r 1) 0 99_999 ∷ number_field (field_of r 2) 1 64 ∷ number_field (field_of r 3) 1 64 ∷ []) true (join_in r)
join-numbers r =
    let rest =
    read-both never never (number_field (field_of r 2) 1 64 ∷ []) (number_field (field_of r 3) 1 64 ∷ []) true true (natural_of 1 64 (field_of r 2)) (natural_of 1 64 (field_of r 3))
    (natural-read 1 64 (field_of r 2)) (natural-read 1 64 (field_of r 3))
    in
    let all =
    read-both never (λ (q : ℕ × ℕ). never q.0 || never q.1) (number_field (field_of r 1) 0 99_999 ∷ []) (number_field (field_of r 2) 1 64 ∷ number_field (field_of r 3) 1 64 ∷ []) true true
    (natural_of 0 99_999 (field_of r 1)) (both_of (natural_of 1 64 (field_of r 2)) (natural_of 1 64 (field_of r 3))) (natural-read 0 99_999 (field_of r 1)) rest
    in
    joining-read _ _ (both_of (natural_of 0 99_999 (field_of r 1)) (both_of (natural_of 1 64 (field_of r 2)) (natural_of 1 64 (field_of r 3)))) all

-- three fields are left empty
formed-three : (out bad : Row → Bool) (a b c name digits range channel : Bool) (x : Result Row Reason) → IsFormed out bad false name digits range channel x
    → IsFormed out bad (not (a && (b && (c && true)))) name digits range channel (if a && b && c then x else Err reason.Shape)
formed-three out bad true b c name digits range channel x f = formed-two out bad b c name digits range channel x f
formed-three out bad false b c name digits range channel x f = refl

join-formed : (p : Values) (r : FileRecord) → IsFormedBy (far p) astray (Some (join_form r)) (join_row r)
unfolding far astray
join-formed p r =
    formed-three (far p) astray (is_blank (field_of r 4)) (is_blank (field_of r 5)) (is_blank (field_of r 6)) _ _ _ _ (or_reason (λ said. Ok (row.Join said)) (join_in r))
    (formed-read (far p) astray never _ _ _ (λ said. Ok (row.Join said)) (join_in r) (join-numbers r) (λ a d o e f. (refl, refl, e, f, refl)))

-- what a record says, against its form
formed : (p : Values) (r : FileRecord) → 1 ≤ bits_of p → bits_of p ≤ 2096
    → IsFormed (far p) astray (misses_form 7 r (script_form p r)) (has_unknown_name (script_form p r)) (has_no_number (script_form p r)) (is_out_of_range (script_form p r)) (has_bad_channels (script_form p r)) (script_row_of r)
unfolding script_row_of
formed p r from to =
    formed-sized (far p) astray (length r == 7) (is_overfull (script_form p r)) (has_unknown_name (script_form p r)) (has_no_number (script_form p r)) (is_out_of_range (script_form p r)) (has_bad_channels (script_form p r))
    (script_file_row r)
    (formed-if (far p) astray (bytes_eq (field_of r 0) (codes "arbitrary")) (Some (arbitrary_form r)) _ _ _ (arbitrary-formed p r)
    (deeds-formed p r _ (row_of_no_deed r) from to
    (formed-if (far p) astray (bytes_eq (field_of r 0) (codes "join")) (Some (join_form r)) None _ (Err reason.UnknownName) (join-formed p r) (refl, refl))))

-- a deed, by its channel
least-deed : (p : Values) (test : Reason → Bool) (before : List FileRecord) (passage : Passage) (what : Option Deed) (o : Option Channel)
    → let d : Row = row.Deed (record { passage = passage; channel = o; deed = what }) in
    test reason.Shape ≡ false → test reason.UnknownName ≡ false → test reason.NotNumber ≡ false → test reason.OutOfRange ≡ is_after_frame p what → test reason.UnknownNode ≡ is_of_stranger p d
    → test reason.BadChannel ≡ is_none o → test reason.Role ≡ may_not_stand p before d → test reason.Link ≡ is_off_channel p d → test reason.NotHex ≡ is_none what → test reason.Repeated ≡ is_second before d
    → IsLeastReason test (script_row_reason p before (Ok d))
least-deed p test before passage what None e1 e2 e3 e4 e5 e6 e7 e8 e9 e10 =
    least-first test false false false (is_after_frame p what) (not (knows_both p passage)) true _ _ _ _ e1 e2 e3 e4 e5 e6 refl refl refl refl
least-deed p test before passage what (Some ch) e1 e2 e3 e4 e5 e6 e7 e8 e9 e10 =
    least-first test false false false (is_after_frame p what) (not (knows_both p passage)) false (is_misplaced before passage (is_say what))
    (not (is_common p passage.sender passage.receiver ch)) (is_none what) (is_some (deed_by ch passage before)) e1 e2 e3 e4 e5 e6 e7 e8 e9 e10

-- by what it says
least-row : (p : Values) (test : Reason → Bool) (before : List FileRecord) (x : Result Row Reason)
    → IsFormed (far p) astray (test reason.Shape) (test reason.UnknownName) (test reason.NotNumber) (test reason.OutOfRange) (test reason.BadChannel) x
    → test reason.UnknownNode ≡ row_passes (is_of_stranger p) x → test reason.Role ≡ row_passes (may_not_stand p before) x → test reason.Link ≡ row_passes (is_off_channel p) x
    → test reason.NotHex ≡ row_passes is_not_hex x → test reason.Repeated ≡ row_passes (is_second before) x → IsLeastReason test (script_row_reason p before x)
unfolding far astray
least-row p test before (Err why) f node role link hex again = least-formed (far p) astray test why f node
least-row p test before (Ok (row.Arbitrary n)) f node role link hex again =
    least-first test false false false false (is_none (node_of p n)) false (is_none (own_key p n) || has_acted before) false false (is_named_in n before) f.0 f.1 f.2 f.3 node f.4 role link hex again
least-row p test before (Ok (row.Deed d)) f node role link hex again =
    least-deed p test before d.passage d.deed d.channel f.0 f.1 f.2 f.3 node f.4 role link hex again
least-row p test before (Ok (row.Join j)) f node role link hex again =
    least-first test false false false false (not (knows_joining p j)) false (may_not_join p before j) (not (share_channel p j)) false (is_some (join_by j.node before)) f.0 f.1 f.2 f.3 node f.4 role link hex again

few-words : (z : ℤ) → pos 0 ≤ℤ z → z ≤ℤ pos 127 → nat_abs z ≤ 127
few-words z from to = omega (arith, ints, from, to)

pub gives-least : (p : Values) → IsSane p → GivesLeast (script_reason_after p) (script_holds p)
gives-least p sane before r =
    let words = sane.ranges name.gPayloadLengthStatic in
    let most : amount p name.gPayloadLengthStatic ≤ 127 = few-words _ words.0 words.1 in
    least-row p (script_holds p before r) before (script_row_of r) (formed p r (omega arith) (omega arith)) refl refl refl refl refl
