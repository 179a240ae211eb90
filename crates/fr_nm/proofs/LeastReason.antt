-- The reason of a record of a recording is the least that holds.
use Rattle.std.proofs.Common.{◌≡◌, ℕ, Bool, true, false, List, [], ◌∷◌, length, Option, Some, None, Result, Ok, Err, refl, arith}
use Rattle.std.specs.Prelude.{not, ◌==◌, ◌||◌, nat_le, nat_lt, is_none, is_some, if◌then◌else◌}
use Rattle.std.proofs.lemmas.Bool.Decides.{nat_tests}
use Rattle.fr_base.specs.Channels.{channel_of}
use Rattle.fr_base.specs.declared.channel.Channel.{Channel}
use Rattle.fr_base.specs.declared.numbers.NumberFault.TheVariants as fault
use Rattle.fr_base.specs.declared.reason.Reason.{Reason}
use Rattle.fr_base.specs.declared.reason.Reason.TheVariants as reason
use Rattle.fr_text.specs.Records.{FileRecord}
use Rattle.fr_text.specs.Fields.{both_of, field_of, hex_digits_in, natural_of}
use Rattle.fr_text.specs.Forms.{number_field, misses_form, has_no_number, is_out_of_range, has_bad_channels}
use Rattle.fr_text.specs.Least.{GivesLeast, IsLeastReason, row_passes}
use Rattle.fr_text.proofs.LeastReasons.{least-first}
use Rattle.fr_text.proofs.FormFacts.{IsFault, IsFormed, IsFormedBy, IsRead, formed-read, formed-sized, is_overfull, least-formed, natural-read, never, read-both}
use Rattle.fr_nm.specs.Rows.{said_row, vector_row_with, vectors_row_of}
use Rattle.fr_nm.specs.Reasons.{field_reason, vectors_reason_after, vectors_row_reason}
use Rattle.fr_nm.specs.Holding.{are_bytes_not_hex, vectors_form, vectors_holds}
use Rattle.fr_nm.specs.declared.rows.Row.{Row}

far : Row → Bool
far x = false

astray : Row → Bool
astray x = is_none x.channel

spelt : (o : Option Channel) → not (is_some o) ≡ is_none o
spelt None = refl
spelt (Some ch) = refl

few : (n : ℕ) → nat_le n 524 ≡ not (nat_lt 524 n)
few n = grind (arith, nat_tests)

digits-if : (b : Bool) (n : ℕ) → IsFault never false (false || not (not b)) (if b then Err fault.OutOfRange else Ok n)
digits-if true n = (refl, refl)
digits-if false n = (refl, refl)

digits-read : (text : List ℕ) → IsRead never [] (nat_le (length text) 524) (hex_digits_in text)
digits-read text = rw (few (length text)) (digits-if (nat_lt 524 (length text)) (length text))

said-formed : (r : FileRecord) → IsFormedBy far astray (Some (vectors_form r)) (said_row r)
unfolding far astray
said-formed r =
    let all =
    read-both never never (number_field (field_of r 0) 0 199_999 ∷ []) [] true (nat_le (length (field_of r 2)) 524) (natural_of 0 199_999 (field_of r 0)) (hex_digits_in (field_of r 2))
    (natural-read 0 199_999 (field_of r 0)) (digits-read (field_of r 2))
    in
    formed-read far astray (λ (q : ℕ × ℕ). never q.0 || never q.1) _ _ _ (λ numbers. Ok (vector_row_with r numbers.0)) (both_of (natural_of 0 199_999 (field_of r 0)) (hex_digits_in (field_of r 2))) all
    (λ a d o e f. (refl, refl, e, f, spelt (channel_of (field_of r 1))))

formed : (r : FileRecord) → IsFormed far astray (misses_form 3 r (Some (vectors_form r))) false (has_no_number (Some (vectors_form r))) (is_out_of_range (Some (vectors_form r))) (has_bad_channels (Some (vectors_form r))) (vectors_row_of r)
unfolding vectors_row_of
formed r =
    formed-sized far astray (length r == 3) (is_overfull (Some (vectors_form r))) false (has_no_number (Some (vectors_form r))) (is_out_of_range (Some (vectors_form r))) (has_bad_channels (Some (vectors_form r))) (said_row r) (said-formed r)

least-fields : (test : Reason → Bool) (ch : Option Channel) (bytes : Option (List ℕ)) → test reason.Shape ≡ false → test reason.UnknownName ≡ false → test reason.NotNumber ≡ false → test reason.OutOfRange ≡ false
    → test reason.UnknownNode ≡ false → test reason.BadChannel ≡ is_none ch → test reason.Role ≡ false → test reason.Link ≡ false → test reason.NotHex ≡ is_none bytes → test reason.Repeated ≡ false
    → IsLeastReason test (field_reason ch bytes)
least-fields test None bytes e1 e2 e3 e4 e5 e6 e7 e8 e9 e10 = least-first test false false false false false true _ _ _ _ e1 e2 e3 e4 e5 e6 refl refl refl refl
least-fields test (Some ch) None e1 e2 e3 e4 e5 e6 e7 e8 e9 e10 = least-first test false false false false false false false false true _ e1 e2 e3 e4 e5 e6 e7 e8 e9 refl
least-fields test (Some ch) (Some bytes) e1 e2 e3 e4 e5 e6 e7 e8 e9 e10 = least-first test false false false false false false false false false false e1 e2 e3 e4 e5 e6 e7 e8 e9 e10

least-row : (test : Reason → Bool) (before : List FileRecord) (x : Result Row Reason) → IsFormed far astray (test reason.Shape) (test reason.UnknownName) (test reason.NotNumber) (test reason.OutOfRange) (test reason.BadChannel) x
    → test reason.UnknownNode ≡ false → test reason.Role ≡ false → test reason.Link ≡ false → test reason.NotHex ≡ row_passes are_bytes_not_hex x → test reason.Repeated ≡ false
    → IsLeastReason test (vectors_row_reason before x)
unfolding far astray
least-row test before (Err why) f node role link hex again = least-formed far astray test why f node
least-row test before (Ok row) f node role link hex again = least-fields test row.channel row.bytes f.0 f.1 f.2 f.3 node f.4 role link hex again

pub gives-least : GivesLeast vectors_reason_after vectors_holds
gives-least before r = least-row (vectors_holds before r) before (vectors_row_of r) (formed r) refl refl refl refl refl
