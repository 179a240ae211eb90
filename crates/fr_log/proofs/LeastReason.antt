-- The reason of a record of a log is the least that holds.
use Rattle.std.proofs.Common.{◌≡◌, ℕ, Bool, true, false, List, [], ◌∷◌, length, Option, Some, None, Result, Ok, Err, arith, refl}
use Rattle.std.specs.Prelude.{nat_lt, nat_le, not, ◌||◌, ◌&&◌, ◌==◌, codes, is_none, is_some, if◌then◌else◌}
use Rattle.std.specs.Str.{bytes_eq}
use Rattle.std.proofs.lemmas.Bool.Decides.{nat_tests}
use Rattle.fr_base.specs.Channels.{channel_of}
use Rattle.fr_base.specs.declared.channel.Channel.{Channel}
use Rattle.fr_base.specs.declared.numbers.NumberFault.{NumberFault}
use Rattle.fr_base.specs.declared.numbers.NumberFault.TheVariants as fault
use Rattle.fr_base.specs.declared.reason.Reason.{Reason}
use Rattle.fr_base.specs.declared.reason.Reason.TheVariants as reason
use Rattle.fr_text.specs.Records.{FileRecord}
use Rattle.fr_text.specs.Fields.{both_of, field_of, hex_digits_in, is_blank, natural_of, or_reason}
use Rattle.fr_text.specs.Forms.{Form, number_field, has_unknown_name, has_no_number, is_out_of_range, has_bad_channels}
use Rattle.fr_text.specs.Least.{GivesLeast, IsLeastReason, row_passes}
use Rattle.fr_text.proofs.LeastReasons.{least-first}
use Rattle.fr_text.proofs.FormFacts.{IsFault, IsFormed, IsFormedBy, IsRead, formed-if, formed-one, formed-read, formed-sized, formed-two, is_overfull, least-formed, natural-read, never, read-both}
use Rattle.fr_cluster.specs.Questions.{has_channel, node_of, own_key}
use Rattle.fr_cluster.specs.Values.{Values}
use Rattle.fr_log.specs.Holding.{comes_too_late, each_form, entry_form, form_by, has_no_bytes, is_off_node, is_there_already, limit_fields, link_form, log_delay_form, log_form, log_holds, log_node_form, may_not_come, names_no_node, number_form, whole_form}
use Rattle.fr_log.specs.Numbers.{greatest_number, head_number_of, least_number}
use Rattle.fr_log.specs.Reasons.{are_crossed, comes_out_of_turn, delay_limits_by, each_by, has_entry, is_arbitrary_by, is_beyond_last, is_log_whole, is_misfit, log_reason_after, log_row_reason, number_by}
use Rattle.fr_log.specs.Rows.{came_row, each_row, entry_row, last_stamp, limits_in, limits_with, link_row, log_delay_row, log_file_row, log_node_row, log_row_by, log_row_of, most_delay, number_row, whole_row}
use Rattle.fr_log.specs.declared.entry.EntryKind.{EntryKind}
use Rattle.fr_log.specs.declared.entry.EntryKind.TheVariants as kind
use Rattle.fr_log.specs.declared.rows.DelayLimits.{DelayLimits}
use Rattle.fr_log.specs.declared.rows.HeadNumber.{HeadNumber}
use Rattle.fr_log.specs.declared.rows.Row.{Row}
use Rattle.fr_log.specs.declared.rows.Row.TheVariants as row

-- what of a row is left to ask: its channel
astray : Row → Bool
astray (row.Number name n) = false
astray row.Whole = false
astray (row.Arbitrary node) = false
astray (row.Delay d) = is_none d.channel
astray (row.EachDelay limits) = false
astray (row.Came e) = is_none e.channel

no : Row → Bool
no r = false

spelt : (o : Option Channel) → not (is_some o) ≡ is_none o
spelt None = refl
spelt (Some ch) = refl

-- three fields are left empty, or four
formed-three : (a b c name digits range channel : Bool) (x : Result Row Reason) → IsFormed no astray false name digits range channel x
    → IsFormed no astray (not (a && (b && (c && true)))) name digits range channel (if a && b && c then x else Err reason.Shape)
formed-three true b c name digits range channel x f = formed-two no astray b c name digits range channel x f
formed-three false b c name digits range channel x f = refl

formed-whole : (a b c d name digits range channel : Bool) (x : Result Row Reason) → IsFormed no astray false name digits range channel x
    → IsFormed no astray (not (a && (b && (c && (d && true))))) name digits range channel (if a && (b && c && d) then x else Err reason.Shape)
formed-whole true b c d name digits range channel x f = formed-three b c d name digits range channel x f
formed-whole false b c d name digits range channel x f = refl

-- a number of the head
number-formed : (name : HeadNumber) (r : FileRecord) → IsFormedBy no astray (Some (number_form name r)) (number_row name r)
unfolding astray no
number-formed name r =
    formed-three (is_blank (field_of r 2)) (is_blank (field_of r 3)) (is_blank (field_of r 4)) _ _ _ _
    (or_reason (λ n. Ok (row.Number name n)) (natural_of (least_number name) (greatest_number name) (field_of r 1)))
    (formed-read no astray never _ _ _ (λ n. Ok (row.Number name n)) (natural_of (least_number name) (greatest_number name) (field_of r 1))
    (natural-read (least_number name) (greatest_number name) (field_of r 1)) (λ n d o e f. (refl, refl, e, f, refl)))

-- that no frame was missed
whole-formed : (r : FileRecord) → IsFormedBy no astray (Some (whole_form r)) (whole_row r)
unfolding astray no
whole-formed r =
    formed-whole (is_blank (field_of r 1)) (is_blank (field_of r 2)) (is_blank (field_of r 3)) (is_blank (field_of r 4)) _ _ _ _ (Ok row.Whole) (refl, refl, refl, refl, refl)

-- a node
named-formed : (r : FileRecord) → IsFormedBy no astray (Some (log_node_form r)) (log_node_row r)
unfolding astray no
named-formed r =
    formed-three (is_blank (field_of r 2)) (is_blank (field_of r 3)) (is_blank (field_of r 4)) _ _ _ _ (or_reason (λ node. Ok (row.Arbitrary node)) (natural_of 1 64 (field_of r 1)))
    (formed-read no astray never _ _ _ (λ node. Ok (row.Arbitrary node)) (natural_of 1 64 (field_of r 1)) (natural-read 1 64 (field_of r 1)) (λ n d o e f. (refl, refl, e, f, refl)))

-- limits of a delay
limits-with-read : (d o : Bool) (x : Result (ℕ × ℕ) NumberFault) → IsFault (λ (q : ℕ × ℕ). never q.0 || never q.1) d o x → IsFault never d o (limits_with x)
limits-with-read d o (Ok q) f = f
limits-with-read d o (Err fault.NotDigits) f = f
limits-with-read d o (Err fault.OutOfRange) f = f

limits-read : (r : FileRecord) → IsRead never (limit_fields r) true (limits_in r)
limits-read r =
    limits-with-read _ _ (both_of (natural_of 0 most_delay (field_of r 3)) (natural_of 0 most_delay (field_of r 4)))
    (read-both never never (number_field (field_of r 3) 0 most_delay ∷ []) (number_field (field_of r 4) 0 most_delay ∷ []) true true (natural_of 0 most_delay (field_of r 3))
    (natural_of 0 most_delay (field_of r 4)) (natural-read 0 most_delay (field_of r 3)) (natural-read 0 most_delay (field_of r 4)))

link-formed : (r : FileRecord) → IsFormedBy no astray (Some (link_form r)) (link_row r)
unfolding astray no
link-formed r =
    formed-read no astray (λ (q : ℕ × DelayLimits). never q.0 || never q.1) _ _ _
    (λ said. Ok (row.Delay (record { node = said.0; channel = channel_of (field_of r 2); limits = said.1 }))) (both_of (natural_of 1 64 (field_of r 1)) (limits_in r))
    (read-both never never (number_field (field_of r 1) 1 64 ∷ []) (limit_fields r) true true (natural_of 1 64 (field_of r 1)) (limits_in r) (natural-read 1 64 (field_of r 1)) (limits-read r))
    (λ a d o e f. (refl, refl, e, f, spelt (channel_of (field_of r 2))))

each-formed : (r : FileRecord) → IsFormedBy no astray (Some (each_form r)) (if is_blank (field_of r 1) && is_blank (field_of r 2) then each_row r else Err reason.Shape)
unfolding astray no
each-formed r =
    formed-two no astray (is_blank (field_of r 1)) (is_blank (field_of r 2)) _ _ _ _ (each_row r)
    (formed-read no astray never _ _ _ (λ limits. Ok (row.EachDelay limits)) (limits_in r) (limits-read r) (λ a d o e f. (refl, refl, e, f, refl)))

delay-by : (a b : Bool) (f g : Form) (x y : Result Row Reason) → IsFormedBy no astray (Some f) x → IsFormedBy no astray (Some g) (if a && b then y else Err reason.Shape)
    → IsFormedBy no astray (Some (if a || b then g else f)) (if not a && not b then x else if a && b then y else Err reason.Shape)
delay-by true true f g x y link each = each
delay-by true false f g x y link each = each
delay-by false true f g x y link each = each
delay-by false false f g x y link each = link

delay-formed : (r : FileRecord) → IsFormedBy no astray (Some (log_delay_form r)) (log_delay_row r)
delay-formed r = delay-by (is_blank (field_of r 1)) (is_blank (field_of r 2)) (link_form r) (each_form r) (link_row r) (each_row r) (link-formed r) (each-formed r)

-- a frame that came
few : (n : ℕ) → nat_le n 524 ≡ not (nat_lt 524 n)
few n = grind (arith, nat_tests)

digits-if : (b : Bool) (n : ℕ) → IsFault never false (false || not (not b)) (if b then Err fault.OutOfRange else Ok n)
digits-if true n = (refl, refl)
digits-if false n = (refl, refl)

digits-read : (text : List ℕ) → IsRead never [] (nat_le (length text) 524) (hex_digits_in text)
digits-read text = rw (few (length text)) (digits-if (nat_lt 524 (length text)) (length text))

entry-formed : (k : EntryKind) (r : FileRecord) → IsFormedBy no astray (Some (entry_form r)) (entry_row k r)
unfolding astray no
entry-formed k r =
    formed-one no astray (is_blank (field_of r 4)) _ _ _ _ (or_reason (λ numbers. Ok (came_row k r numbers.0)) (both_of (natural_of 0 last_stamp (field_of r 1)) (hex_digits_in (field_of r 3))))
    (formed-read no astray (λ (q : ℕ × ℕ). never q.0 || never q.1) _ _ _ (λ numbers. Ok (came_row k r numbers.0))
    (both_of (natural_of 0 last_stamp (field_of r 1)) (hex_digits_in (field_of r 3)))
    (read-both never never (number_field (field_of r 1) 0 last_stamp ∷ []) [] true (nat_le (length (field_of r 3)) 524) (natural_of 0 last_stamp (field_of r 1)) (hex_digits_in (field_of r 3))
    (natural-read 0 last_stamp (field_of r 1)) (digits-read (field_of r 3)))
    (λ a d o e f. (refl, refl, e, f, spelt (channel_of (field_of r 2)))))

-- what a record says, against its form
by-name : (o : Option HeadNumber) (r : FileRecord) → IsFormedBy no astray (form_by o r) (log_row_by o r)
by-name (Some name) r = number-formed name r
by-name None r =
    formed-if no astray (bytes_eq (field_of r 0) (codes "whole")) (Some (whole_form r)) _ _ _ (whole-formed r)
    (formed-if no astray (bytes_eq (field_of r 0) (codes "arbitrary")) (Some (log_node_form r)) _ _ _ (named-formed r)
    (formed-if no astray (bytes_eq (field_of r 0) (codes "delay")) (Some (log_delay_form r)) _ _ _ (delay-formed r)
    (formed-if no astray (bytes_eq (field_of r 0) (codes "frame")) (Some (entry_form r)) _ _ _ (entry-formed kind.Frame r)
    (formed-if no astray (bytes_eq (field_of r 0) (codes "head")) (Some (entry_form r)) None _ (Err reason.UnknownName) (entry-formed kind.Head r) (refl, refl)))))

-- a further limit of what it says
further : (out : Row → Bool) (shape name digits range channel : Bool) (x : Result Row Reason) → IsFormed no astray shape name digits range channel x
    → IsFormed out astray shape name digits (range || row_passes out x) channel x
unfolding no
further out shape name digits range channel (Ok said) f = (f.0, f.1, f.2, rw f.3 refl, f.4)
further out shape name digits range channel (Err reason.Shape) f = f
further out shape name digits range channel (Err reason.UnknownName) f = f
further out shape name digits range channel (Err reason.NotNumber) f = f
further out shape name digits range channel (Err reason.OutOfRange) f = (f.0, f.1, f.2, rw f.3 refl)
further out shape name digits range channel (Err reason.UnknownNode) f = f
further out shape name digits range channel (Err reason.BadChannel) f = (f.0, f.1, f.2, rw f.3 refl, f.4)
further out shape name digits range channel (Err reason.Role) f = f
further out shape name digits range channel (Err reason.Link) f = f
further out shape name digits range channel (Err reason.NotHex) f = f
further out shape name digits range channel (Err reason.Repeated) f = f

formed : (p : Values) (before : List FileRecord) (r : FileRecord)
    → IsFormed (comes_too_late before) astray (log_holds p before r reason.Shape) (log_holds p before r reason.UnknownName) (log_holds p before r reason.NotNumber) (log_holds p before r reason.OutOfRange)
    (log_holds p before r reason.BadChannel) (log_row_of r)
unfolding log_row_of
formed p before r =
    further (comes_too_late before) _ _ _ _ _ (log_row_of r)
    (formed-sized no astray (length r == 5) (is_overfull (log_form r)) (has_unknown_name (log_form r)) (has_no_number (log_form r)) (is_out_of_range (log_form r)) (has_bad_channels (log_form r)) (log_file_row r)
    (by-name (head_number_of (field_of r 0)) r))

-- the limits of a delay, by their channel
least-delay : (p : Values) (test : Reason → Bool) (before : List FileRecord) (node : ℕ) (limits : DelayLimits) (o : Option Channel)
    → let d : Row = row.Delay (record { node = node; channel = o; limits = limits }) in
    test reason.Shape ≡ false → test reason.UnknownName ≡ false → test reason.NotNumber ≡ false → test reason.OutOfRange ≡ false → test reason.UnknownNode ≡ names_no_node p d
    → test reason.BadChannel ≡ is_none o → test reason.Role ≡ may_not_come p before d → test reason.Link ≡ is_off_node p d → test reason.NotHex ≡ false → test reason.Repeated ≡ is_there_already before d
    → IsLeastReason test (log_row_reason p before (Ok d))
least-delay p test before node limits None e1 e2 e3 e4 e5 e6 e7 e8 e9 e10 =
    least-first test false false false false (is_none (node_of p node)) true _ _ _ _ e1 e2 e3 e4 e5 e6 refl refl refl refl
least-delay p test before node limits (Some ch) e1 e2 e3 e4 e5 e6 e7 e8 e9 e10 =
    least-first test false false false false (is_none (node_of p node)) false (are_crossed limits || has_entry before) (not (has_channel (node_of p node) ch)) false (is_some (delay_limits_by node ch before))
    e1 e2 e3 e4 e5 e6 e7 e8 e9 e10

-- and an entry
least-entry : (p : Values) (test : Reason → Bool) (before : List FileRecord) (k : EntryKind) (stamp : ℕ) (o : Option Channel) (bytes : Option (List ℕ))
    → let e : Row = row.Came (record { kind = k; stamp = stamp; channel = o; bytes = bytes }) in
    test reason.Shape ≡ false → test reason.UnknownName ≡ false → test reason.NotNumber ≡ false → test reason.OutOfRange ≡ comes_too_late before e → test reason.UnknownNode ≡ false
    → test reason.BadChannel ≡ is_none o → test reason.Role ≡ may_not_come p before e → test reason.Link ≡ false → test reason.NotHex ≡ has_no_bytes e → test reason.Repeated ≡ false
    → IsLeastReason test (log_row_reason p before (Ok e))
least-entry p test before k stamp None bytes e1 e2 e3 e4 e5 e6 e7 e8 e9 e10 =
    least-first test false false false (is_beyond_last before stamp) false true _ _ _ _ e1 e2 e3 e4 e5 e6 refl refl refl refl
least-entry p test before k stamp (Some ch) bytes e1 e2 e3 e4 e5 e6 e7 e8 e9 e10 =
    least-first test false false false (is_beyond_last before stamp) false false (comes_out_of_turn before stamp) false (is_none bytes) false e1 e2 e3 e4 e5 e6 e7 e8 e9 e10

-- by what it says
least-row : (p : Values) (test : Reason → Bool) (before : List FileRecord) (x : Result Row Reason)
    → IsFormed (comes_too_late before) astray (test reason.Shape) (test reason.UnknownName) (test reason.NotNumber) (test reason.OutOfRange) (test reason.BadChannel) x
    → test reason.UnknownNode ≡ row_passes (names_no_node p) x → test reason.Role ≡ row_passes (may_not_come p before) x → test reason.Link ≡ row_passes (is_off_node p) x
    → test reason.NotHex ≡ row_passes has_no_bytes x → test reason.Repeated ≡ row_passes (is_there_already before) x → IsLeastReason test (log_row_reason p before x)
unfolding astray
least-row p test before (Err why) f node role link hex again = least-formed (comes_too_late before) astray test why f node
least-row p test before (Ok (row.Number name n)) f node role link hex again =
    least-first test false false false false false false (is_misfit name n || has_entry before) false false (is_some (number_by name before)) f.0 f.1 f.2 f.3 node f.4 role link hex again
least-row p test before (Ok row.Whole) f node role link hex again =
    least-first test false false false false false false (has_entry before) false false (is_log_whole before) f.0 f.1 f.2 f.3 node f.4 role link hex again
least-row p test before (Ok (row.Arbitrary n)) f node role link hex again =
    least-first test false false false false (is_none (node_of p n)) false (is_none (own_key p n) || has_entry before) false false (is_arbitrary_by n before) f.0 f.1 f.2 f.3 node f.4 role link hex again
least-row p test before (Ok (row.Delay d)) f node role link hex again =
    least-delay p test before d.node d.limits d.channel f.0 f.1 f.2 f.3 node f.4 role link hex again
least-row p test before (Ok (row.EachDelay limits)) f node role link hex again =
    least-first test false false false false false false (are_crossed limits || has_entry before) false false (is_some (each_by before)) f.0 f.1 f.2 f.3 node f.4 role link hex again
least-row p test before (Ok (row.Came e)) f node role link hex again =
    least-entry p test before e.kind e.stamp e.channel e.bytes f.0 f.1 f.2 f.3 node f.4 role link hex again

pub gives-least : (p : Values) → GivesLeast (log_reason_after p) (log_holds p)
gives-least p before r = least-row p (log_holds p before r) before (log_row_of r) (formed p before r) refl refl refl refl refl
