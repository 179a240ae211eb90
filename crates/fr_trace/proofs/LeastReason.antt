-- The reason of a record of a trace is the least that holds.
use Rattle.std.proofs.Common.{◌≡◌, ℕ, ℤ, pos, negsuc, ◌≤ℤ◌, Bool, true, false, List, [], ◌∷◌, length, Option, Some, None, Result, Ok, Err, refl, arith}
use Rattle.std.specs.Prelude.{neg_ℤ, int_lt, not, ◌&&◌, ◌||◌, ◌==◌, codes, is_none, is_some, if◌then◌else◌}
use Rattle.std.specs.Str.{bytes_eq}
use Rattle.std.proofs.lemmas.Int.{ints}
use Rattle.fr_base.specs.Channels.{channel_of}
use Rattle.fr_base.specs.Number.{number_of, within}
use Rattle.fr_base.specs.declared.channel.Channel.{Channel}
use Rattle.fr_base.specs.declared.numbers.NumberFault.TheVariants as fault
use Rattle.fr_base.specs.declared.reason.Reason.{Reason}
use Rattle.fr_base.specs.declared.reason.Reason.TheVariants as reason
use Rattle.fr_base.specs.declared.state.State.{State}
use Rattle.fr_text.specs.Records.{FileRecord}
use Rattle.fr_text.specs.Fields.{both_of, field_of, is_blank, natural_of}
use Rattle.fr_text.specs.Forms.{number_field, lies_outside, misses_form, has_unknown_name, has_no_number, is_out_of_range, has_bad_channels}
use Rattle.fr_text.specs.Least.{GivesLeast, IsLeastReason, row_passes}
use Rattle.fr_text.proofs.LeastReasons.{least-first}
use Rattle.fr_text.proofs.FormFacts.{IsFault, IsFormed, IsFormedBy, IsRead, formed-if, formed-read, formed-sized, formed-two, is_overfull, least-formed, natural-read, never, read-both, within-read}
use Rattle.fr_cluster.specs.Questions.{is_known, own_key}
use Rattle.fr_cluster.specs.Values.{Values}
use Rattle.fr_cluster.specs.Sane.{IsSane}
use Rattle.fr_cluster.specs.declared.names.ParamName.TheVariants as name
use Rattle.fr_trace.specs.Rows.{are_blank, clock_in, clock_named, clock_with, dev_row, heard_row, join_with, offset_in, run_row, span_in, state_of, terms_in, trace_file_row, trace_row_of, traced_arbitrary_row, traced_join_row, traced_rate_in, traced_short_row, value_in}
use Rattle.fr_trace.specs.Order.{may_come}
use Rattle.fr_trace.specs.Said.{joins_at, named_at}
use Rattle.fr_trace.specs.Reasons.{have_common, heard_reason, is_beyond, is_linked, is_of_other, joins_wrongly, knows_node_and_reference, trace_reason_after, trace_row_reason}
use Rattle.fr_base.specs.Within.{lies_within}
use Rattle.fr_trace.specs.Holding.{clock_form, heard_form, is_out_of_place, lacks_common_channel, run_form, term_field, trace_form, trace_holds, trace_names_stranger, traced_arbitrary_form, traced_join_form}
use Rattle.fr_trace.specs.declared.rows.HeardRow.{HeardRow}
use Rattle.fr_trace.specs.declared.rows.Row.{Row}
use Rattle.fr_trace.specs.declared.rows.Row.TheVariants as row

-- what of a row is left to ask: its terms against their limits, and its channel
far : Values → Row → Bool
far p (row.Run n) = false
far p (row.Arbitrary node) = false
far p (row.Join j) = false
far p (row.Clock cycle clock) = is_beyond p clock
far p (row.Heard heard) = false

astray : Row → Bool
astray (row.Run n) = false
astray (row.Arbitrary node) = false
astray (row.Join j) = false
astray (row.Clock cycle clock) = false
astray (row.Heard heard) = is_none heard.channel

-- six fields are left empty
formed-six : (out bad : Row → Bool) (a b c d e f name digits range channel : Bool) (x : Result Row Reason) → IsFormed out bad false name digits range channel x
    → IsFormed out bad (not (a && (b && (c && (d && (e && (f && true))))))) name digits range channel (if ((a && b) && c) && ((d && e) && f) then x else Err reason.Shape)
formed-six out bad true true true true true true name digits range channel x h = h
formed-six out bad true true true true true false name digits range channel x h = refl
formed-six out bad true true true true false f name digits range channel x h = refl
formed-six out bad true true true false e f name digits range channel x h = refl
formed-six out bad true true false d e f name digits range channel x h = refl
formed-six out bad true false c d e f name digits range channel x h = refl
formed-six out bad false b c d e f name digits range channel x h = refl

-- four fields are left empty
formed-four : (out bad : Row → Bool) (a b c d name digits range channel : Bool) (x : Result Row Reason) → IsFormed out bad false name digits range channel x
    → IsFormed out bad (not (a && (b && (c && (d && true))))) name digits range channel (if ((a && b) && c) && d then x else Err reason.Shape)
formed-four out bad true true true true name digits range channel x h = h
formed-four out bad true true true false name digits range channel x h = refl
formed-four out bad true true false d name digits range channel x h = refl
formed-four out bad true false c d name digits range channel x h = refl
formed-four out bad false b c d name digits range channel x h = refl

module _ (p : Values) where
  run-formed : (r : FileRecord) → IsFormedBy (far p) astray (Some (run_form r))
      (traced_short_row (field_of r 2) (field_of r 3) (field_of r 4) (field_of r 5) (field_of r 6) (field_of r 7) (run_row (field_of r 1)))
  unfolding far astray
  run-formed r =
      formed-six (far p) astray (is_blank (field_of r 2)) (is_blank (field_of r 3)) (is_blank (field_of r 4)) (is_blank (field_of r 5)) (is_blank (field_of r 6)) (is_blank (field_of r 7)) _ _ _ _ (run_row (field_of r 1))
      (formed-read (far p) astray never _ _ _ (λ n. Ok (row.Run n)) (natural_of 1 100_000 (field_of r 1)) (natural-read 1 100_000 (field_of r 1)) (λ n d o e f. (refl, refl, e, f, refl)))

  arbitrary-formed : (r : FileRecord) → IsFormedBy (far p) astray (Some (traced_arbitrary_form r))
      (traced_short_row (field_of r 2) (field_of r 3) (field_of r 4) (field_of r 5) (field_of r 6) (field_of r 7) (traced_arbitrary_row (field_of r 1)))
  unfolding far astray
  arbitrary-formed r =
      formed-six (far p) astray (is_blank (field_of r 2)) (is_blank (field_of r 3)) (is_blank (field_of r 4)) (is_blank (field_of r 5)) (is_blank (field_of r 6)) (is_blank (field_of r 7)) _ _ _ _ (traced_arbitrary_row (field_of r 1))
      (formed-read (far p) astray never _ _ _ (λ n. Ok (row.Arbitrary n)) (natural_of 1 64 (field_of r 1)) (natural-read 1 64 (field_of r 1)) (λ n d o e f. (refl, refl, e, f, refl)))

  join-read : (r : FileRecord) → IsFormed (far p) astray false false (has_no_number (Some (traced_join_form r))) (is_out_of_range (Some (traced_join_form r))) false
      (traced_join_row (field_of r 1) (field_of r 2) (field_of r 3))
  unfolding far astray
  join-read r =
      let both =
      read-both never never (number_field (field_of r 1) 1 64 ∷ []) (number_field (field_of r 2) 1 64 ∷ []) true true (natural_of 1 64 (field_of r 1)) (natural_of 1 64 (field_of r 2))
      (natural-read 1 64 (field_of r 1)) (natural-read 1 64 (field_of r 2))
      in
      let all =
      read-both (λ (q : ℕ × ℕ). never q.0 || never q.1) never (number_field (field_of r 1) 1 64 ∷ number_field (field_of r 2) 1 64 ∷ []) (number_field (field_of r 3) 0 99_999 ∷ []) true true
      (both_of (natural_of 1 64 (field_of r 1)) (natural_of 1 64 (field_of r 2))) (natural_of 0 99_999 (field_of r 3)) both (natural-read 0 99_999 (field_of r 3))
      in
      formed-read (far p) astray never _ _ _ join_with (both_of (both_of (natural_of 1 64 (field_of r 1)) (natural_of 1 64 (field_of r 2))) (natural_of 0 99_999 (field_of r 3))) all
      (λ a d o e f. (refl, refl, e, f, refl))

  join-formed : (r : FileRecord) → IsFormedBy (far p) astray (Some (traced_join_form r))
      (if are_blank (field_of r 4) (field_of r 5) (field_of r 6) && is_blank (field_of r 7) then traced_join_row (field_of r 1) (field_of r 2) (field_of r 3) else Err reason.Shape)
  join-formed r =
      formed-four (far p) astray (is_blank (field_of r 4)) (is_blank (field_of r 5)) (is_blank (field_of r 6)) (is_blank (field_of r 7)) false (has_no_number (Some (traced_join_form r)))
      (is_out_of_range (Some (traced_join_form r))) false (traced_join_row (field_of r 1) (field_of r 2) (field_of r 3)) (join-read r)

-- a term outside the widest limit is outside this one
wide : (limit lo hi z : ℤ) → lo ≤ℤ neg_ℤ limit → limit ≤ℤ hi → (int_lt z lo || int_lt hi z) ≡ true → (int_lt z (neg_ℤ limit) || int_lt limit z) ≡ true
wide limit lo hi z l h e = grind (arith, ints)

twice : (w : Bool) → ((w || false) || false) ≡ not (not w)
twice true = refl
twice false = refl

term-if : (limit lo hi z : ℤ) (b : Bool) → lo ≤ℤ neg_ℤ limit → limit ≤ℤ hi → (int_lt z lo || int_lt hi z) ≡ b
    → IsFault (λ term. not (lies_within limit term)) false ((lies_outside (neg_ℤ limit) limit (Some z) || false) || false) (if b then Err fault.OutOfRange else Ok z)
term-if limit lo hi z true l h e = (refl, rw (wide limit lo hi z l h e) refl)
term-if limit lo hi z false l h e = (refl, twice (int_lt z (neg_ℤ limit) || int_lt limit z))

term-of : (limit lo hi : ℤ) (o : Option ℤ) (text : List ℕ) → lo ≤ℤ neg_ℤ limit → limit ≤ℤ hi → number_of text ≡ o
    → IsRead (λ term. not (lies_within limit term)) (term_field text limit ∷ []) true (within lo hi o)
term-of limit lo hi None text l h e = rw e refl
term-of limit lo hi (Some z) text l h e = rw e (term-if limit lo hi z (int_lt z lo || int_lt hi z) l h refl)

rate-read : (limit : ℤ) (text : List ℕ) → negsuc 1999 ≤ℤ neg_ℤ limit → limit ≤ℤ pos 2000 → IsRead (λ term. not (lies_within limit term)) (term_field text limit ∷ []) true (traced_rate_in text)
unfolding traced_rate_in
rate-read limit text l h = term-of limit (negsuc 1999) (pos 2000) (number_of text) text l h refl

offset-read : (limit : ℤ) (text : List ℕ) → negsuc 15_999 ≤ℤ neg_ℤ limit → limit ≤ℤ pos 16_000 → IsRead (λ term. not (lies_within limit term)) (term_field text limit ∷ []) true (offset_in text)
unfolding offset_in
offset-read limit text l h = term-of limit (negsuc 15_999) (pos 16_000) (number_of text) text l h refl

value-read : (text : List ℕ) → IsRead never (term_field text (pos 1_000_000) ∷ []) true (value_in text)
unfolding value_in
value-read text = within-read (negsuc 999_999) (pos 1_000_000) text

-- a node's cycle
module _ (p : Values) (rate_from : negsuc 1999 ≤ℤ neg_ℤ p.rate_limit) (rate_to : p.rate_limit ≤ℤ pos 2000) (offset_from : negsuc 15_999 ≤ℤ neg_ℤ p.offset_limit) (offset_to : p.offset_limit ≤ℤ pos 16_000)
  where
    clock-in : (r : FileRecord) (state : State) → IsFormed (far p) astray false false (has_no_number (Some (clock_form p r))) (is_out_of_range (Some (clock_form p r))) false
        (clock_in (field_of r 1) (field_of r 2) (field_of r 3) (field_of r 4) (field_of r 5) (field_of r 6) state)
    unfolding far astray
    clock-in r state =
        let nodes =
        read-both never never (number_field (field_of r 1) 0 199_999 ∷ []) (number_field (field_of r 2) 1 64 ∷ []) true true (natural_of 0 199_999 (field_of r 1)) (natural_of 1 64 (field_of r 2))
        (natural-read 0 199_999 (field_of r 1)) (natural-read 1 64 (field_of r 2))
        in
        let span =
        read-both never never (number_field (field_of r 3) 0 900_000_000_000_000_000 ∷ []) (number_field (field_of r 4) 500_000 1_500_000 ∷ []) true true
        (within (pos 0) (pos 900_000_000_000_000_000) (number_of (field_of r 3))) (within (pos 500_000) (pos 1_500_000) (number_of (field_of r 4)))
        (within-read (pos 0) (pos 900_000_000_000_000_000) (field_of r 3)) (within-read (pos 500_000) (pos 1_500_000) (field_of r 4))
        in
        let terms =
        read-both (λ (z : ℤ). not (lies_within p.rate_limit z)) (λ (z : ℤ). not (lies_within p.offset_limit z)) (term_field (field_of r 5) p.rate_limit ∷ []) (term_field (field_of r 6) p.offset_limit ∷ []) true true
        (traced_rate_in (field_of r 5)) (offset_in (field_of r 6)) (rate-read p.rate_limit (field_of r 5) rate_from rate_to) (offset-read p.offset_limit (field_of r 6) offset_from offset_to)
        in
        let rest =
        read-both (λ (q : ℤ × ℤ). never q.0 || never q.1) (λ (q : ℤ × ℤ). not (lies_within p.rate_limit q.0) || not (lies_within p.offset_limit q.1))
        (number_field (field_of r 3) 0 900_000_000_000_000_000 ∷ number_field (field_of r 4) 500_000 1_500_000 ∷ []) (term_field (field_of r 5) p.rate_limit ∷ term_field (field_of r 6) p.offset_limit ∷ []) true true
        (span_in (field_of r 3) (field_of r 4)) (terms_in (field_of r 5) (field_of r 6)) span terms
        in
        let all =
        read-both (λ (q : ℕ × ℕ). never q.0 || never q.1)
        (λ (q : (ℤ × ℤ) × (ℤ × ℤ)). (never q.0.0 || never q.0.1) || (not (lies_within p.rate_limit q.1.0) || not (lies_within p.offset_limit q.1.1)))
        (number_field (field_of r 1) 0 199_999 ∷ number_field (field_of r 2) 1 64 ∷ [])
        (number_field (field_of r 3) 0 900_000_000_000_000_000 ∷ number_field (field_of r 4) 500_000 1_500_000 ∷ term_field (field_of r 5) p.rate_limit ∷ term_field (field_of r 6) p.offset_limit ∷ []) true true
        (both_of (natural_of 0 199_999 (field_of r 1)) (natural_of 1 64 (field_of r 2))) (both_of (span_in (field_of r 3) (field_of r 4)) (terms_in (field_of r 5) (field_of r 6))) nodes rest
        in
        formed-read (far p) astray
        (λ (q : (ℕ × ℕ) × ((ℤ × ℤ) × (ℤ × ℤ))). (never q.0.0 || never q.0.1) || ((never q.1.0.0 || never q.1.0.1) || (not (lies_within p.rate_limit q.1.1.0) || not (lies_within p.offset_limit q.1.1.1))))
        _ _ _ (clock_with state)
        (both_of (both_of (natural_of 0 199_999 (field_of r 1)) (natural_of 1 64 (field_of r 2))) (both_of (span_in (field_of r 3) (field_of r 4)) (terms_in (field_of r 5) (field_of r 6)))) all
        (λ a d o e f. (refl, refl, e, f, refl))

    clock-by : (r : FileRecord) (o : Option State) → IsFormed (far p) astray false (not (is_some o)) (has_no_number (Some (clock_form p r))) (is_out_of_range (Some (clock_form p r))) false
        (clock_named (field_of r 1) (field_of r 2) (field_of r 3) (field_of r 4) (field_of r 5) (field_of r 6) o)
    clock-by r None = (refl, refl)
    clock-by r (Some state) = clock-in r state

-- a deviation
spelt : (o : Option Channel) → not (is_some o) ≡ is_none o
spelt None = refl
spelt (Some ch) = refl

heard-formed : (p : Values) (r : FileRecord)
    → IsFormed (far p) astray false false (has_no_number (Some (heard_form r))) (is_out_of_range (Some (heard_form r))) (has_bad_channels (Some (heard_form r)))
    (heard_row (field_of r 1) (field_of r 2) (field_of r 3) (field_of r 4) (field_of r 5))
unfolding far astray
heard-formed p r =
    let nodes =
    read-both never never (number_field (field_of r 1) 0 199_999 ∷ []) (number_field (field_of r 2) 1 64 ∷ []) true true (natural_of 0 199_999 (field_of r 1)) (natural_of 1 64 (field_of r 2))
    (natural-read 0 199_999 (field_of r 1)) (natural-read 1 64 (field_of r 2))
    in
    let rest =
    read-both never never (number_field (field_of r 3) 1 1023 ∷ []) (term_field (field_of r 5) (pos 1_000_000) ∷ []) true true (natural_of 1 1023 (field_of r 3)) (value_in (field_of r 5))
    (natural-read 1 1023 (field_of r 3)) (value-read (field_of r 5))
    in
    let all =
    read-both (λ (q : ℕ × ℕ). never q.0 || never q.1) (λ (q : ℕ × ℤ). never q.0 || never q.1) (number_field (field_of r 1) 0 199_999 ∷ number_field (field_of r 2) 1 64 ∷ [])
    (number_field (field_of r 3) 1 1023 ∷ term_field (field_of r 5) (pos 1_000_000) ∷ []) true true (both_of (natural_of 0 199_999 (field_of r 1)) (natural_of 1 64 (field_of r 2)))
    (both_of (natural_of 1 1023 (field_of r 3)) (value_in (field_of r 5))) nodes rest
    in
    formed-read (far p) astray never _ _ _ (dev_row (channel_of (field_of r 4)))
    (both_of (both_of (natural_of 0 199_999 (field_of r 1)) (natural_of 1 64 (field_of r 2))) (both_of (natural_of 1 1023 (field_of r 3)) (value_in (field_of r 5)))) all
    (λ a d o e f. (refl, refl, e, f, spelt (channel_of (field_of r 4))))

-- what a record says, against its form
formed : (p : Values) (r : FileRecord) → negsuc 1999 ≤ℤ neg_ℤ p.rate_limit → p.rate_limit ≤ℤ pos 2000 → negsuc 15_999 ≤ℤ neg_ℤ p.offset_limit → p.offset_limit ≤ℤ pos 16_000
    → IsFormed (far p) astray (misses_form 8 r (trace_form p r)) (has_unknown_name (trace_form p r)) (has_no_number (trace_form p r)) (is_out_of_range (trace_form p r)) (has_bad_channels (trace_form p r)) (trace_row_of r)
unfolding trace_row_of
formed p r a b c d =
    formed-sized (far p) astray (length r == 8) (is_overfull (trace_form p r)) (has_unknown_name (trace_form p r)) (has_no_number (trace_form p r)) (is_out_of_range (trace_form p r)) (has_bad_channels (trace_form p r))
    (trace_file_row (field_of r 0) (field_of r 1) (field_of r 2) (field_of r 3) (field_of r 4) (field_of r 5) (field_of r 6) (field_of r 7))
    (formed-if (far p) astray (bytes_eq (field_of r 0) (codes "run")) (Some (run_form r)) _ _ _ (run-formed p r)
    (formed-if (far p) astray (bytes_eq (field_of r 0) (codes "arbitrary")) (Some (traced_arbitrary_form r)) _ _ _ (arbitrary-formed p r)
    (formed-if (far p) astray (bytes_eq (field_of r 0) (codes "join")) (Some (traced_join_form r)) _ _ _ (join-formed p r)
    (formed-if (far p) astray (bytes_eq (field_of r 0) (codes "cycle")) (Some (clock_form p r)) _ _ _ (clock-by p a b c d r (state_of (field_of r 7)))
    (formed-if (far p) astray (bytes_eq (field_of r 0) (codes "dev")) (Some (heard_form r)) None _ (Err reason.UnknownName)
    (formed-two (far p) astray (is_blank (field_of r 6)) (is_blank (field_of r 7)) false (has_no_number (Some (heard_form r))) (is_out_of_range (Some (heard_form r))) (has_bad_channels (Some (heard_form r)))
    (heard_row (field_of r 1) (field_of r 2) (field_of r 3) (field_of r 4) (field_of r 5)) (heard-formed p r))
    (refl, refl))))))

-- a deviation, by its channel
least-heard : (p : Values) (test : Reason → Bool) (comes : Bool) (cycle receiver slot : ℕ) (value : ℤ) (o : Option Channel)
    → let heard : HeardRow = record { cycle = cycle; receiver = receiver; slot = slot; channel = o; value = value } in
    test reason.Shape ≡ false → test reason.UnknownName ≡ false → test reason.NotNumber ≡ false → test reason.OutOfRange ≡ false → test reason.UnknownNode ≡ not (is_known p receiver)
    → test reason.BadChannel ≡ is_none o → test reason.Role ≡ (not (is_of_other p heard) || not comes) → test reason.Link ≡ lacks_common_channel p (row.Heard heard) → test reason.NotHex ≡ false
    → test reason.Repeated ≡ false → IsLeastReason test (heard_reason p heard comes)
least-heard p test comes cycle receiver slot value None e1 e2 e3 e4 e5 e6 e7 e8 e9 e10 =
    least-first test false false false false (not (is_known p receiver)) true _ _ _ _ e1 e2 e3 e4 e5 e6 refl refl refl refl
least-heard p test comes cycle receiver slot value (Some ch) e1 e2 e3 e4 e5 e6 e7 e8 e9 e10 =
    let heard : HeardRow = record { cycle = cycle; receiver = receiver; slot = slot; channel = Some ch; value = value } in
    least-first test false false false false (not (is_known p receiver)) false (not (is_of_other p heard) || not comes) (not (is_linked p heard ch)) false false e1 e2 e3 e4 e5 e6 e7 e8 e9 e10

-- by what it says
least-row : (p : Values) (test : Reason → Bool) (before : List FileRecord) (x : Result Row Reason)
    → IsFormed (far p) astray (test reason.Shape) (test reason.UnknownName) (test reason.NotNumber) (test reason.OutOfRange) (test reason.BadChannel) x
    → test reason.UnknownNode ≡ row_passes (trace_names_stranger p) x → test reason.Role ≡ row_passes (is_out_of_place p before) x → test reason.Link ≡ row_passes (lacks_common_channel p) x → test reason.NotHex ≡ false
    → test reason.Repeated ≡ false → IsLeastReason test (trace_row_reason p before x)
unfolding far astray
least-row p test before (Err why) f node role link hex again = least-formed (far p) astray test why f node
least-row p test before (Ok (row.Run n)) f node role link hex again =
    least-first test false false false false false false (not (may_come p before (row.Run n))) false false false f.0 f.1 f.2 f.3 node f.4 role link hex again
least-row p test before (Ok (row.Arbitrary n)) f node role link hex again =
    least-first test false false false false (not (is_known p n)) false (is_none (own_key p n) || not (may_come p before (row.Arbitrary n))) false false false f.0 f.1 f.2 f.3 node f.4 role link hex again
least-row p test before (Ok (row.Join j)) f node role link hex again =
    least-first test false false false false (not (knows_node_and_reference p j)) false (joins_wrongly p (named_at before) (joins_at before) j || not (may_come p before (row.Join j))) (not (have_common p j)) false false
    f.0 f.1 f.2 f.3 node f.4 role link hex again
least-row p test before (Ok (row.Clock cycle clock)) f node role link hex again =
    least-first test false false false (is_beyond p clock) (not (is_known p clock.node)) false (not (may_come p before (row.Clock cycle clock))) false false false f.0 f.1 f.2 f.3 node f.4 role link hex again
least-row p test before (Ok (row.Heard heard)) f node role link hex again =
    least-heard p test (may_come p before (row.Heard heard)) heard.cycle heard.receiver heard.slot heard.value heard.channel f.0 f.1 f.2 f.3 node f.4 role link hex again

low-rate : (limit : ℤ) → limit ≤ℤ pos 2000 → negsuc 1999 ≤ℤ neg_ℤ limit
low-rate limit h = omega (arith, ints)

low-offset : (limit : ℤ) → limit ≤ℤ pos 16_000 → negsuc 15_999 ≤ℤ neg_ℤ limit
low-offset limit h = omega (arith, ints)

pub gives-least : (p : Values) → IsSane p → GivesLeast (trace_reason_after p) (trace_holds p)
gives-least p sane before r =
    let rate : p.rate_limit ≤ℤ pos 2000 = (sane.ranges name.pRateCorrectionOut).1 in
    let offset : p.offset_limit ≤ℤ pos 16_000 = (sane.ranges name.pOffsetCorrectionOut).1 in
    least-row p (trace_holds p before r) before (trace_row_of r) (formed p r (low-rate p.rate_limit rate) rate (low-offset p.offset_limit offset) offset) refl refl refl refl refl
