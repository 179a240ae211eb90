-- The reason of a record of a drift file is the least that holds.
use Rattle.std.proofs.Common.{◌≡◌, ℕ, ℤ, pos, negsuc, ◌≤ℤ◌, Bool, true, false, List, [], ◌∷◌, length, Option, Some, None, Result, Ok, Err, refl}
use Rattle.std.specs.Prelude.{neg_ℤ, int_lt, not, ◌&&◌, ◌||◌, ◌==◌, codes, is_none, is_some, if◌then◌else◌}
use Rattle.std.specs.Str.{bytes_eq}
use Rattle.std.proofs.lemmas.Int.{ints}
use Rattle.std.proofs.Common.{arith}
use Rattle.fr_base.specs.Channels.{channel_of}
use Rattle.fr_base.specs.Number.{number_of, within}
use Rattle.fr_base.specs.declared.channel.Channel.{Channel}
use Rattle.fr_base.specs.declared.numbers.NumberFault.TheVariants as fault
use Rattle.fr_base.specs.declared.reason.Reason.{Reason}
use Rattle.fr_base.specs.declared.reason.Reason.TheVariants as reason
use Rattle.fr_text.specs.Records.{FileRecord}
use Rattle.fr_text.specs.Fields.{both_of, field_of, is_blank, natural_of}
use Rattle.fr_text.specs.Forms.{NumberField, number_field, lies_outside, misses_form, has_unknown_name, has_no_number, is_out_of_range, has_bad_channels}
use Rattle.fr_text.specs.Least.{GivesLeast, IsLeastReason, row_passes}
use Rattle.fr_text.proofs.LeastReasons.{least-first}
use Rattle.fr_text.proofs.FormFacts.{IsFault, IsFormed, IsFormedBy, IsRead, formed-four, formed-if, formed-read, formed-sized, formed-two, is_overfull, least-formed, natural-read, never, read-both, within-read}
use Rattle.fr_cluster.specs.Values.{Values}
use Rattle.fr_cluster.specs.Sane.{IsSane}
use Rattle.fr_cluster.specs.Questions.{is_common, is_known}
use Rattle.fr_cluster.specs.declared.names.ParamName.TheVariants as name
use Rattle.fr_drift.specs.Rows.{delay_on, delay_row, doubles_row, drift_file_row, drift_row_of, length_row, length_with, rate_in, short_row, start_row, start_with}
use Rattle.fr_drift.specs.Reasons.{delay_at, doubles_at, drift_reason_after, drift_row_reason, length_said_at, start_at}
use Rattle.fr_base.specs.Within.{lies_within}
use Rattle.fr_drift.specs.Holding.{delay_form, doubles_form, drift_form, drift_holds, is_said_again, length_form, links_apart, links_itself, names_stranger, start_form}
use Rattle.fr_drift.specs.declared.rows.Row.{Row}
use Rattle.fr_drift.specs.declared.rows.Row.TheVariants as row

-- what of a row is left to ask: its rate term against the limit, and its channel
far : ℤ → Row → Bool
far limit (row.Doubles n) = false
far limit (row.Start s) = not (lies_within limit s.start.rate)
far limit (row.Length l) = false
far limit (row.Delay d) = false

astray : Row → Bool
astray (row.Doubles n) = false
astray (row.Start s) = false
astray (row.Length l) = false
astray (row.Delay d) = is_none d.channel

module _ (limit : ℤ) where
  doubles-formed : (r : FileRecord) → IsFormedBy (far limit) astray (Some (doubles_form r)) (short_row (field_of r 2) (field_of r 3) (short_row (field_of r 4) (field_of r 5) (doubles_row (field_of r 1))))
  unfolding far astray
  doubles-formed r =
      formed-four (far limit) astray (is_blank (field_of r 2)) (is_blank (field_of r 3)) (is_blank (field_of r 4)) (is_blank (field_of r 5)) _ _ _ _ (doubles_row (field_of r 1))
      (formed-read (far limit) astray never _ _ _ (λ n. Ok (row.Doubles n)) (natural_of 1 100_000 (field_of r 1)) (natural-read 1 100_000 (field_of r 1)) (λ n d o e f. (refl, refl, e, f, refl)))

  -- a rate term outside the widest limit is outside this one
  wide : (z : ℤ) → limit ≤ℤ pos 2000 → (int_lt z (negsuc 1999) || int_lt (pos 2000) z) ≡ true → (int_lt z (neg_ℤ limit) || int_lt limit z) ≡ true
  wide z h e = grind (arith, ints)

  twice : (w : Bool) → ((w || false) || false) ≡ not (not w)
  twice true = refl
  twice false = refl

  rate-if : (z : ℤ) (b : Bool) → limit ≤ℤ pos 2000 → (int_lt z (negsuc 1999) || int_lt (pos 2000) z) ≡ b
      → IsFault (λ rate. not (lies_within limit rate)) false ((lies_outside (neg_ℤ limit) limit (Some z) || false) || false) (if b then Err fault.OutOfRange else Ok z)
  rate-if z true h e = (refl, rw (wide z h e) refl)
  rate-if z false h e = (refl, twice (int_lt z (neg_ℤ limit) || int_lt limit z))

  rate-of : (o : Option ℤ) (text : List ℕ) → limit ≤ℤ pos 2000 → number_of text ≡ o
      → IsRead (λ rate. not (lies_within limit rate)) (record { text = text; low = neg_ℤ limit; high = limit } ∷ []) true (within (negsuc 1999) (pos 2000) o)
  rate-of None text h e = rw e refl
  rate-of (Some z) text h e = rw e (rate-if z (int_lt z (negsuc 1999) || int_lt (pos 2000) z) h refl)

  rate-read : (text : List ℕ) → limit ≤ℤ pos 2000 → IsRead (λ rate. not (lies_within limit rate)) (record { text = text; low = neg_ℤ limit; high = limit } ∷ []) true (rate_in text)
  unfolding rate_in
  rate-read text h = rate-of (number_of text) text h refl

-- a start
start-formed : (p : Values) (r : FileRecord) → p.rate_limit ≤ℤ pos 2000 → IsFormed (far p.rate_limit) astray false false (has_no_number (Some (start_form p r))) (is_out_of_range (Some (start_form p r))) false (start_row (field_of r 1) (field_of r 2) (field_of r 3))
unfolding far astray
start-formed p r h =
    let limit = p.rate_limit in
    let rate_field : NumberField = record { text = field_of r 3; low = neg_ℤ limit; high = limit } in
    let rest =
    read-both never (λ (z : ℤ). not (lies_within limit z)) (number_field (field_of r 2) 0 1_000_000_000_000 ∷ []) (rate_field ∷ []) true true (within (pos 0) (pos 1_000_000_000_000) (number_of (field_of r 2)))
    (rate_in (field_of r 3)) (within-read (pos 0) (pos 1_000_000_000_000) (field_of r 2)) (rate-read limit (field_of r 3) h)
    in
    let all =
    read-both never (λ (q : ℤ × ℤ). never q.0 || not (lies_within limit q.1)) (number_field (field_of r 1) 1 64 ∷ []) (number_field (field_of r 2) 0 1_000_000_000_000 ∷ rate_field ∷ []) true true (natural_of 1 64 (field_of r 1))
    (both_of (within (pos 0) (pos 1_000_000_000_000) (number_of (field_of r 2))) (rate_in (field_of r 3))) (natural-read 1 64 (field_of r 1)) rest
    in
    formed-read (far limit) astray (λ (q : ℕ × (ℤ × ℤ)). never q.0 || (never q.1.0 || not (lies_within limit q.1.1))) _ _ _ start_with
    (both_of (natural_of 1 64 (field_of r 1)) (both_of (within (pos 0) (pos 1_000_000_000_000) (number_of (field_of r 2))) (rate_in (field_of r 3)))) all
    (λ a d o e f. (refl, refl, e, f, refl))

-- a length
length-formed : (limit : ℤ) (r : FileRecord) → IsFormed (far limit) astray false false (has_no_number (Some (length_form r))) (is_out_of_range (Some (length_form r))) false (length_row (field_of r 1) (field_of r 2) (field_of r 3))
unfolding far astray
length-formed limit r =
    let rest =
    read-both never never (number_field (field_of r 2) 0 199_999 ∷ []) (number_field (field_of r 3) 500_000 1_500_000 ∷ []) true true (natural_of 0 199_999 (field_of r 2))
    (within (pos 500_000) (pos 1_500_000) (number_of (field_of r 3))) (natural-read 0 199_999 (field_of r 2)) (within-read (pos 500_000) (pos 1_500_000) (field_of r 3))
    in
    let all =
    read-both never (λ (q : ℕ × ℤ). never q.0 || never q.1) (number_field (field_of r 1) 1 64 ∷ []) (number_field (field_of r 2) 0 199_999 ∷ number_field (field_of r 3) 500_000 1_500_000 ∷ []) true true (natural_of 1 64 (field_of r 1))
    (both_of (natural_of 0 199_999 (field_of r 2)) (within (pos 500_000) (pos 1_500_000) (number_of (field_of r 3)))) (natural-read 1 64 (field_of r 1)) rest
    in
    formed-read (far limit) astray never _ _ _ length_with
    (both_of (natural_of 1 64 (field_of r 1)) (both_of (natural_of 0 199_999 (field_of r 2)) (within (pos 500_000) (pos 1_500_000) (number_of (field_of r 3))))) all
    (λ a d o e f. (refl, refl, e, f, refl))

-- a delay
spelt : (o : Option Channel) → not (is_some o) ≡ is_none o
spelt None = refl
spelt (Some ch) = refl

delay-formed : (limit : ℤ) (r : FileRecord) → IsFormedBy (far limit) astray (Some (delay_form r)) (delay_row (field_of r 1) (field_of r 2) (field_of r 3) (field_of r 4) (field_of r 5))
unfolding far astray
delay-formed limit r =
    let nodes =
    read-both never never (number_field (field_of r 1) 1 64 ∷ []) (number_field (field_of r 2) 1 64 ∷ []) true true (natural_of 1 64 (field_of r 1)) (natural_of 1 64 (field_of r 2))
    (natural-read 1 64 (field_of r 1)) (natural-read 1 64 (field_of r 2))
    in
    let rest =
    read-both never never (number_field (field_of r 4) 0 199_999 ∷ []) (number_field (field_of r 5) 0 1_000_000_000 ∷ []) true true (natural_of 0 199_999 (field_of r 4))
    (within (pos 0) (pos 1_000_000_000) (number_of (field_of r 5))) (natural-read 0 199_999 (field_of r 4)) (within-read (pos 0) (pos 1_000_000_000) (field_of r 5))
    in
    let all =
    read-both (λ (q : ℕ × ℕ). never q.0 || never q.1) (λ (q : ℕ × ℤ). never q.0 || never q.1) (number_field (field_of r 1) 1 64 ∷ number_field (field_of r 2) 1 64 ∷ [])
    (number_field (field_of r 4) 0 199_999 ∷ number_field (field_of r 5) 0 1_000_000_000 ∷ []) true true (both_of (natural_of 1 64 (field_of r 1)) (natural_of 1 64 (field_of r 2)))
    (both_of (natural_of 0 199_999 (field_of r 4)) (within (pos 0) (pos 1_000_000_000) (number_of (field_of r 5)))) nodes rest
    in
    formed-read (far limit) astray never _ _ _ (delay_on (channel_of (field_of r 3)))
    (both_of (both_of (natural_of 1 64 (field_of r 1)) (natural_of 1 64 (field_of r 2))) (both_of (natural_of 0 199_999 (field_of r 4)) (within (pos 0) (pos 1_000_000_000) (number_of (field_of r 5))))) all
    (λ a d o e f. (refl, refl, e, f, spelt (channel_of (field_of r 3))))

-- what a record says, against its form
formed : (p : Values) (r : FileRecord) → p.rate_limit ≤ℤ pos 2000
    → IsFormed (far p.rate_limit) astray (misses_form 6 r (drift_form p r)) (has_unknown_name (drift_form p r)) (has_no_number (drift_form p r)) (is_out_of_range (drift_form p r)) (has_bad_channels (drift_form p r)) (drift_row_of r)
unfolding drift_row_of
formed p r h =
    let limit = p.rate_limit in
    let four = is_blank (field_of r 4) in
    let five = is_blank (field_of r 5) in
    formed-sized (far limit) astray (length r == 6) (is_overfull (drift_form p r)) (has_unknown_name (drift_form p r)) (has_no_number (drift_form p r)) (is_out_of_range (drift_form p r)) (has_bad_channels (drift_form p r))
    (drift_file_row (field_of r 0) (field_of r 1) (field_of r 2) (field_of r 3) (field_of r 4) (field_of r 5))
    (formed-if (far limit) astray (bytes_eq (field_of r 0) (codes "doubles")) (Some (doubles_form r)) _ _ _ (doubles-formed limit r)
    (formed-if (far limit) astray (bytes_eq (field_of r 0) (codes "start")) (Some (start_form p r)) _ _ _
    (formed-two (far limit) astray four five false (has_no_number (Some (start_form p r))) (is_out_of_range (Some (start_form p r))) false (start_row (field_of r 1) (field_of r 2) (field_of r 3)) (start-formed p r h))
    (formed-if (far limit) astray (bytes_eq (field_of r 0) (codes "length")) (Some (length_form r)) _ _ _
    (formed-two (far limit) astray four five false (has_no_number (Some (length_form r))) (is_out_of_range (Some (length_form r))) false (length_row (field_of r 1) (field_of r 2) (field_of r 3)) (length-formed limit r))
    (formed-if (far limit) astray (bytes_eq (field_of r 0) (codes "delay")) (Some (delay_form r)) None _ (Err reason.UnknownName) (delay-formed limit r) (refl, refl)))))

-- a delay, by its channel
least-delay : (p : Values) (test : Reason → Bool) (before : List FileRecord) (sender receiver from : ℕ) (ticks : ℤ) (o : Option Channel)
    → let d : Row = row.Delay (record { sender = sender; receiver = receiver; channel = o; from = from; ticks = ticks }) in
    test reason.Shape ≡ false → test reason.UnknownName ≡ false → test reason.NotNumber ≡ false → test reason.OutOfRange ≡ false → test reason.UnknownNode ≡ names_stranger p d
    → test reason.BadChannel ≡ is_none o → test reason.Role ≡ (sender == receiver) → test reason.Link ≡ links_apart p d → test reason.NotHex ≡ false → test reason.Repeated ≡ is_said_again before d
    → IsLeastReason test (drift_row_reason p before (Ok d))
least-delay p test before sender receiver from ticks None e1 e2 e3 e4 e5 e6 e7 e8 e9 e10 =
    least-first test false false false false (not (is_known p sender && is_known p receiver)) true _ _ _ _ e1 e2 e3 e4 e5 e6 refl refl refl refl
least-delay p test before sender receiver from ticks (Some ch) e1 e2 e3 e4 e5 e6 e7 e8 e9 e10 =
    least-first test false false false false (not (is_known p sender && is_known p receiver)) false (sender == receiver) (not (is_common p sender receiver ch)) false
    (is_some (delay_at sender receiver ch from before)) e1 e2 e3 e4 e5 e6 e7 e8 e9 e10

-- by what it says
least-row : (p : Values) (test : Reason → Bool) (before : List FileRecord) (x : Result Row Reason)
    → IsFormed (far p.rate_limit) astray (test reason.Shape) (test reason.UnknownName) (test reason.NotNumber) (test reason.OutOfRange) (test reason.BadChannel) x
    → test reason.UnknownNode ≡ row_passes (names_stranger p) x → test reason.Role ≡ row_passes links_itself x → test reason.Link ≡ row_passes (links_apart p) x → test reason.NotHex ≡ false
    → test reason.Repeated ≡ row_passes (is_said_again before) x → IsLeastReason test (drift_row_reason p before x)
unfolding far astray
least-row p test before (Err why) f node role link hex again = least-formed (far p.rate_limit) astray test why f node
least-row p test before (Ok (row.Doubles n)) f node role link hex again =
    least-first test false false false false false false false false false (is_some (doubles_at before)) f.0 f.1 f.2 f.3 node f.4 role link hex again
least-row p test before (Ok (row.Start s)) f node role link hex again =
    least-first test false false false (not (lies_within p.rate_limit s.start.rate)) (not (is_known p s.node)) false false false false (is_some (start_at s.node before)) f.0 f.1 f.2 f.3 node f.4 role link hex again
least-row p test before (Ok (row.Length l)) f node role link hex again =
    least-first test false false false false (not (is_known p l.node)) false false false false (is_some (length_said_at l.node l.from before)) f.0 f.1 f.2 f.3 node f.4 role link hex again
least-row p test before (Ok (row.Delay d)) f node role link hex again =
    least-delay p test before d.sender d.receiver d.from d.ticks d.channel f.0 f.1 f.2 f.3 node f.4 role link hex again

pub gives-least : (p : Values) → IsSane p → GivesLeast (drift_reason_after p) (drift_holds p)
gives-least p sane before r = least-row p (drift_holds p before r) before (drift_row_of r) (formed p r (sane.ranges name.pRateCorrectionOut).1) refl refl refl refl refl
