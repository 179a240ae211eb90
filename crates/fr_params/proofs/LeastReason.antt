-- The reason of a record of a parameter file is the least that holds.
use Rattle.std.proofs.Common.{◌≡◌, ℕ, pos, Bool, true, false, List, [], ◌∷◌, ◌++◌, length, Option, Some, None, Result, Ok, Err, refl}
use Rattle.std.specs.Prelude.{not, ◌&&◌, ◌||◌, ◌==◌, codes, is_none, is_some, if◌then◌else◌}
use Rattle.std.specs.Str.{bytes_eq}
use Rattle.std.specs.List.{list_any}
use Rattle.fr_base.specs.declared.numbers.NumberFault.{NumberFault}
use Rattle.fr_base.specs.declared.numbers.NumberFault.TheVariants as fault
use Rattle.fr_base.specs.declared.reason.Reason.{Reason}
use Rattle.fr_base.specs.declared.reason.Reason.TheVariants as reason
use Rattle.fr_base.specs.Number.{number_of, within}
use Rattle.fr_text.specs.Records.{FileRecord}
use Rattle.fr_text.specs.Fields.{both_of, field_of, is_blank, natural_of}
use Rattle.fr_text.specs.Forms.{number_field, is_no_number, is_number_outside, misses_form, has_unknown_name, has_no_number, is_out_of_range, has_bad_channels}
use Rattle.fr_text.specs.Least.{GivesLeast, IsLeastReason, row_passes}
use Rattle.fr_text.proofs.LeastReasons.{least-first}
use Rattle.fr_text.proofs.FormFacts.{IsFault, IsFormed, IsFormedBy, IsRead, is_overfull, formed-if, formed-read, formed-sized, least-formed, natural-read, never, read-both, within-read}
use Rattle.fr_params.specs.Names.{name_of, place}
use Rattle.fr_cluster.specs.Ranges.{least, greatest, has_turn, is_keyless_starter}
use Rattle.fr_cluster.specs.declared.names.ParamName.{ParamName}
use Rattle.fr_params.specs.declared.names.Version.{Version}
use Rattle.fr_params.specs.Rows.{channels_of, key_of, named_row, node_on, param_file_row, param_node_row, param_row, param_row_of, slot_row, slot_with, some_key, version_row}
use Rattle.fr_params.specs.Reasons.{is_not_first, node_at, param_reason_after, param_row_reason, slot_at, value_at}
use Rattle.fr_params.specs.Versions.{version_with}
use Rattle.fr_params.specs.Holding.{goes_not_together, has_unknown_node, is_second_row, key_fields, node_form, param_form, param_holds_in, param_holds, slot_form, value_fields, value_form, version_form}
use Rattle.fr_params.specs.declared.rows.Row.{Row}
use Rattle.fr_params.specs.declared.rows.Row.TheVariants as row

-- a version
full-three : (a b c : Bool) (name digits range channel : Bool) (x : Result Row Reason) → IsFormed never never false name digits range channel x
    → IsFormed never never (not (a && (b && (c && true)))) name digits range channel (if not a || not b || not c then Err reason.Shape else x)
full-three true true true name digits range channel x f = f
full-three true true false name digits range channel x f = refl
full-three true false c name digits range channel x f = refl
full-three false b c name digits range channel x f = refl

version-formed : (r : FileRecord)
    → IsFormedBy never never (Some (version_form r)) (if not (is_blank (field_of r 2)) || not (is_blank (field_of r 3)) || not (is_blank (field_of r 4)) then Err reason.Shape else version_row (field_of r 1))
version-formed r =
    full-three (is_blank (field_of r 2)) (is_blank (field_of r 3)) (is_blank (field_of r 4)) _ _ _ _ (version_row (field_of r 1))
    (formed-read never never never _ _ _ (λ z. Ok row.Version) (within (pos 2) (pos 2) (number_of (field_of r 1))) (within-read (pos 2) (pos 2) (field_of r 1))
    (λ z d o e f. (refl, refl, e, f, refl)))

-- a value
full-two : (a b : Bool) (name digits range channel : Bool) (x : Result Row Reason) → IsFormed never never false name digits range channel x
    → IsFormed never never (not (a && (b && true))) name digits range channel (if not a || not b then Err reason.Shape else x)
full-two true true name digits range channel x f = f
full-two true false name digits range channel x f = refl
full-two false b name digits range channel x f = refl

named-formed : (o : Option ParamName) (text : List ℕ)
    → IsFormed never never false (not (is_some o)) (list_any is_no_number (value_fields o text)) (list_any is_number_outside (value_fields o text) || not true) (not true) (named_row text o)
named-formed None text = (refl, refl)
named-formed (Some n) text =
    formed-read never never never _ _ _ (λ v. Ok (row.Param n v)) (within (pos (least n)) (pos (greatest n)) (number_of text)) (within-read (pos (least n)) (pos (greatest n)) text)
    (λ v d r e f. (refl, refl, e, f, refl))

value-formed : (version : Version) (r : FileRecord)
    → IsFormedBy never never (Some (value_form version r)) (if not (is_blank (field_of r 3)) || not (is_blank (field_of r 4)) then Err reason.Shape else param_row version (field_of r 1) (field_of r 2))
value-formed version r =
    full-two (is_blank (field_of r 3)) (is_blank (field_of r 4)) _ _ _ _ (param_row version (field_of r 1) (field_of r 2)) (named-formed (name_of version (field_of r 1)) (field_of r 2))

-- a node
some-read : (d o : Bool) (x : Result ℕ NumberFault) → IsFault never d o x → IsFault never d o (some_key x)
some-read d o (Ok n) f = f
some-read d o (Err fault.NotDigits) f = f
some-read d o (Err fault.OutOfRange) f = f

key-if : (b : Bool) (text : List ℕ) → IsRead never (if b then [] else number_field text 1 1023 ∷ []) true (if b then Ok None else some_key (natural_of 1 1023 text))
key-if true text = (refl, refl)
key-if false text = some-read _ _ (natural_of 1 1023 text) (natural-read 1 1023 text)

node-said : (o : Option (Bool × Bool)) (a : ℕ × (Option ℕ × ℕ)) (d r : Bool) → d ≡ false → r ≡ false → IsFormed never never false false d r (not (is_some o)) (node_on o a)
node-said None a d r e f = (refl, refl, e, f, refl)
node-said (Some on) a d r e f = (refl, refl, e, f, refl)

node-formed : (r : FileRecord) → IsFormedBy never never (Some (node_form r)) (param_node_row (field_of r 1) (field_of r 2) (field_of r 3) (field_of r 4))
node-formed r =
    let key : IsRead never (key_fields (field_of r 2)) true (key_of (field_of r 2)) = key-if (is_blank (field_of r 2)) (field_of r 2) in
    let rest = read-both never never (key_fields (field_of r 2)) (number_field (field_of r 4) 0 1 ∷ []) true true (key_of (field_of r 2)) (natural_of 0 1 (field_of r 4)) key (natural-read 0 1 (field_of r 4)) in
    let all =
    read-both never (λ (p : Option ℕ × ℕ). never p.0 || never p.1) (number_field (field_of r 1) 1 64 ∷ []) (key_fields (field_of r 2) ++ number_field (field_of r 4) 0 1 ∷ []) true true (natural_of 1 64 (field_of r 1))
    (both_of (key_of (field_of r 2)) (natural_of 0 1 (field_of r 4))) (natural-read 1 64 (field_of r 1)) rest
    in
    formed-read never never never _ _ _ (node_on (channels_of (field_of r 3))) (both_of (natural_of 1 64 (field_of r 1)) (both_of (key_of (field_of r 2)) (natural_of 0 1 (field_of r 4)))) all
    (λ a d o e f. node-said (channels_of (field_of r 3)) a d o e f)

-- a further slot
two-read : (a b : List ℕ) (l m h k : ℕ) → IsRead never (number_field a l h ∷ number_field b m k ∷ []) true (both_of (natural_of l h a) (natural_of m k b))
two-read a b l m h k =
    read-both never never (number_field a l h ∷ []) (number_field b m k ∷ []) true true (natural_of l h a) (natural_of m k b) (natural-read l h a) (natural-read m k b)

slot-formed : (r : FileRecord) → IsFormedBy never never (Some (slot_form r)) (slot_row (field_of r 1) (field_of r 2) (field_of r 3) (field_of r 4))
slot-formed r =
    let all =
    read-both never never (number_field (field_of r 1) 1 1023 ∷ number_field (field_of r 2) 1 64 ∷ []) (number_field (field_of r 3) 0 63 ∷ number_field (field_of r 4) 1 64 ∷ []) true true
    (both_of (natural_of 1 1023 (field_of r 1)) (natural_of 1 64 (field_of r 2))) (both_of (natural_of 0 63 (field_of r 3)) (natural_of 1 64 (field_of r 4)))
    (two-read (field_of r 1) (field_of r 2) 1 1 1023 64) (two-read (field_of r 3) (field_of r 4) 0 1 63 64)
    in
    formed-read never never never _ _ _ slot_with
    (both_of (both_of (natural_of 1 1023 (field_of r 1)) (natural_of 1 64 (field_of r 2))) (both_of (natural_of 0 63 (field_of r 3)) (natural_of 1 64 (field_of r 4)))) all
    (λ a d o e f. (refl, refl, e, f, refl))

-- what a record says, against its form
formed : (version : Version) (r : FileRecord)
    → IsFormed never never (misses_form 5 r (param_form version r)) (has_unknown_name (param_form version r)) (has_no_number (param_form version r)) (is_out_of_range (param_form version r))
    (has_bad_channels (param_form version r)) (param_row_of version r)
unfolding param_row_of
formed version r =
    formed-sized never never (length r == 5) (is_overfull (param_form version r)) (has_unknown_name (param_form version r)) (has_no_number (param_form version r)) (is_out_of_range (param_form version r))
    (has_bad_channels (param_form version r))
    (param_file_row version (field_of r 0) (field_of r 1) (field_of r 2) (field_of r 3) (field_of r 4))
    (formed-if never never (bytes_eq (field_of r 0) (codes "version")) (Some (version_form r)) _ _ _ (version-formed r)
    (formed-if never never (bytes_eq (field_of r 0) (codes "param")) (Some (value_form version r)) _ _ _ (value-formed version r)
    (formed-if never never (bytes_eq (field_of r 0) (codes "node")) (Some (node_form r)) _ _ _ (node-formed r)
    (formed-if never never (bytes_eq (field_of r 0) (codes "slot")) (Some (slot_form r)) None _ (Err reason.UnknownName) (slot-formed r) (refl, refl)))))

-- by what it says
least-row : (version : Version) (test : Reason → Bool) (before : List FileRecord) (x : Result Row Reason)
    → IsFormed never never (test reason.Shape) (test reason.UnknownName) (test reason.NotNumber) (test reason.OutOfRange) (test reason.BadChannel) x
    → test reason.UnknownNode ≡ row_passes (has_unknown_node version before) x → test reason.Role ≡ row_passes (goes_not_together before) x → test reason.Link ≡ false → test reason.NotHex ≡ false
    → test reason.Repeated ≡ row_passes (is_second_row version before) x → IsLeastReason test (param_row_reason version before x)
least-row version test before (Err why) f node role link hex again = least-formed {Row = Row} never never test why f node
least-row version test before (Ok row.Version) f node role link hex again =
    least-first test false false false false false false (is_not_first before) false false false f.0 f.1 f.2 f.3 node f.4 role link hex again
least-row version test before (Ok (row.Param n v)) f node role link hex again =
    least-first test false false false false false false false false false (is_some (value_at version (place n) before)) f.0 f.1 f.2 f.3 node f.4 role link hex again
least-row version test before (Ok (row.Node n)) f node role link hex again =
    least-first test false false false false false false (is_keyless_starter n) false false (is_some (node_at version n.id before)) f.0 f.1 f.2 f.3 node f.4 role link hex again
least-row version test before (Ok (row.Slot s)) f node role link hex again =
    least-first test false false false false (is_none (node_at version s.node before)) false (not (has_turn s)) false false (is_some (slot_at version s.slot before)) f.0 f.1 f.2 f.3 node f.4 role link hex again

in-version : (version : Version) (before : List FileRecord) (r : FileRecord) → IsLeastReason (param_holds_in version before r) (param_row_reason version before (param_row_of version r))
in-version version before r = least-row version (param_holds_in version before r) before (param_row_of version r) (formed version r) refl refl refl refl refl

pub gives-least : GivesLeast param_reason_after param_holds
gives-least before r = in-version (version_with before r) before r
