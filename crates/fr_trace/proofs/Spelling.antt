-- The rows of a trace as records: they are written without quotes, their lines are those of the text, and they say the rows.
use Rattle.std.proofs.Common.{◌≡◌, ◌≤◌, ℕ, ℤ, pos, negsuc, ◌≤ℤ◌, true, List, [], ◌∷◌, ◌++◌, map, Option, Some, None, Ok, refl, ap, sym, ◌∙◌, arith, append_assoc, append-nil}
use Rattle.std.specs.Prelude.{codes}
use Rattle.std.specs.Fmt.{decimal, signed_decimal}
use Rattle.std.specs.List.{flat_map, list_all}
use Rattle.std.proofs.lemmas.Int.{ints}
use Rattle.std.proofs.lemmas.List.Concat.{flat_map-append}
use Rattle.std.proofs.lemmas.List.Folds.{flat_map-map}
use Rattle.fr_base.specs.Channels.{channel_of, letter}
use Rattle.fr_base.specs.Number.{within, number_of}
use Rattle.fr_base.specs.States.{state_text}
use Rattle.fr_base.specs.declared.channel.Channel.{Channel}
use Rattle.fr_base.specs.declared.channel.Channel.TheVariants.{A, B}
use Rattle.fr_base.specs.declared.node_row.NodeRow.{NodeRow}
use Rattle.fr_base.specs.declared.state.State.{State}
use Rattle.fr_base.specs.declared.state.State.TheVariants.{Active, Passive, Halt}
use Rattle.fr_text.proofs.Plain.{decimal-plain, signed-plain}
use Rattle.fr_text.proofs.RecordLines.{records-read-back}
use Rattle.fr_text.proofs.Written.{natural-decimal, within-signed}
use Rattle.fr_text.specs.Pieces.{line}
use Rattle.fr_text.specs.Records.{FileRecord, records_of}
use Rattle.fr_text.specs.Texts.{after_commas, is_plain_field, is_plain_record, line_of_record, text_of_records}
use Rattle.fr_trace.specs.Items.{Item, Line, items_in, line_of}
use Rattle.fr_trace.specs.Lasting.{IsTracedRow}
use Rattle.fr_trace.specs.Numbered.{row_of_item, row_of_line, rows_of_trace}
use Rattle.fr_trace.specs.Rows.{IsProperTracedCount, offset_in, state_of, trace_row_of, traced_rate_in, value_in}
use Rattle.fr_trace.specs.Text.{arbitrary_text, doubles_text, head_text, items_text, join_text, line_text, text_of}
use Rattle.fr_trace.specs.Trace.{TraceView}
use Rattle.fr_trace.specs.declared.rows.HeardRow.{HeardRow}
use Rattle.fr_trace.specs.declared.rows.Row.{Row}
use Rattle.fr_trace.specs.declared.rows.Row.TheVariants as row
use Rattle.fr_trace.specs.declared.trace.TracedJoin.{TracedJoin}

-- the letter of a channel, where there is one
abbrev pub letter_in : Option Channel → List ℕ
letter_in None = []
letter_in (Some ch) = letter ch

-- a row as it is written
abbrev pub record_of_row : Row → FileRecord
record_of_row (row.Run n) = codes "run" ∷ decimal n ∷ [] ∷ [] ∷ [] ∷ [] ∷ [] ∷ [] ∷ []
record_of_row (row.Arbitrary node) = codes "arbitrary" ∷ decimal node ∷ [] ∷ [] ∷ [] ∷ [] ∷ [] ∷ [] ∷ []
record_of_row (row.Join j) = codes "join" ∷ decimal j.node ∷ decimal j.join.reference ∷ decimal j.join.double ∷ [] ∷ [] ∷ [] ∷ [] ∷ []
record_of_row (row.Clock cycle clock) =
    codes "cycle" ∷ decimal cycle ∷ decimal clock.node ∷ signed_decimal clock.start ∷ signed_decimal clock.length ∷ signed_decimal clock.rate ∷ signed_decimal clock.offset ∷ state_text clock.state ∷ []
record_of_row (row.Heard heard) =
    codes "dev" ∷ decimal heard.cycle ∷ decimal heard.receiver ∷ decimal heard.slot ∷ letter_in heard.channel ∷ signed_decimal heard.value ∷ [] ∷ [] ∷ []

-- ---- rows that have a record

-- a node's number
pub record IsNumber (node : ℕ) : Type 0 where
  pub from : 1 ≤ node
  pub to : node ≤ 64

-- a node that joins
pub record IsWrittenJoin (j : TracedJoin) : Type 0 where
  pub node : IsNumber j.node
  pub reference : IsNumber j.join.reference
  pub double : j.join.double ≤ 99_999

-- a node's cycle
pub record IsWrittenClock (cycle : ℕ) (clock : NodeRow) : Type 0 where
  pub cycle_to : cycle ≤ 199_999
  pub node : IsNumber clock.node
  pub traced : IsTracedRow clock
  pub rate_from : negsuc 1999 ≤ℤ clock.rate
  pub rate_to : clock.rate ≤ℤ pos 2000
  pub offset_from : negsuc 15_999 ≤ℤ clock.offset
  pub offset_to : clock.offset ≤ℤ pos 16_000

-- a deviation
pub record IsWrittenHeard (heard : HeardRow) : Type 0 where
  pub cycle_to : heard.cycle ≤ 199_999
  pub receiver : IsNumber heard.receiver
  pub slot_from : 1 ≤ heard.slot
  pub slot_to : heard.slot ≤ 1023
  pub channel : Channel
  pub named : heard.channel ≡ Some channel
  pub from : negsuc 999_999 ≤ℤ heard.value
  pub to : heard.value ≤ℤ pos 1_000_000

abbrev pub IsWritten : Row → Type 0
IsWritten (row.Run n) = IsProperTracedCount n
IsWritten (row.Arbitrary node) = IsNumber node
IsWritten (row.Join j) = IsWrittenJoin j
IsWritten (row.Clock cycle clock) = IsWrittenClock cycle clock
IsWritten (row.Heard heard) = IsWrittenHeard heard

-- ---- their records say them

state-back : (state : State) → state_of (state_text state) ≡ Some state
state-back Active = refl
state-back Passive = refl
state-back Halt = refl

letter-back : (ch : Channel) → channel_of (letter ch) ≡ Some ch
letter-back A = refl
letter-back B = refl

says-run : (n : ℕ) → IsProperTracedCount n → trace_row_of (record_of_row (row.Run n)) ≡ Ok (row.Run n)
unfolding trace_row_of
says-run n h = rw (natural-decimal 1 100_000 n h.from h.to (omega (arith, h.to))) refl

says-arbitrary : (node : ℕ) → IsNumber node → trace_row_of (record_of_row (row.Arbitrary node)) ≡ Ok (row.Arbitrary node)
unfolding trace_row_of
says-arbitrary node h = rw (natural-decimal 1 64 node h.from h.to (omega (arith, h.to))) refl

says-join : (j : TracedJoin) → IsWrittenJoin j → trace_row_of (record_of_row (row.Join j)) ≡ Ok (row.Join j)
unfolding trace_row_of
says-join j h =
    rw (
      natural-decimal 1 64 j.node h.node.from h.node.to (omega (arith, h.node.to)),
      natural-decimal 1 64 j.join.reference h.reference.from h.reference.to (omega (arith, h.reference.to)),
      natural-decimal 0 99_999 j.join.double (omega arith) h.double (omega (arith, h.double)),
    )
    refl

rate-back : (z : ℤ) → negsuc 1999 ≤ℤ z → z ≤ℤ pos 2000 → traced_rate_in (signed_decimal z) ≡ Ok z
unfolding traced_rate_in
rate-back z from to = within-signed (negsuc 1999) (pos 2000) z (omega (arith, ints)) (omega (arith, ints)) from to

offset-back : (z : ℤ) → negsuc 15_999 ≤ℤ z → z ≤ℤ pos 16_000 → offset_in (signed_decimal z) ≡ Ok z
unfolding offset_in
offset-back z from to = within-signed (negsuc 15_999) (pos 16_000) z (omega (arith, ints)) (omega (arith, ints)) from to

value-back : (z : ℤ) → negsuc 999_999 ≤ℤ z → z ≤ℤ pos 1_000_000 → value_in (signed_decimal z) ≡ Ok z
unfolding value_in
value-back z from to = within-signed (negsuc 999_999) (pos 1_000_000) z (omega (arith, ints)) (omega (arith, ints)) from to

start-back : (z : ℤ) → pos 0 ≤ℤ z → z ≤ℤ pos 900_000_000_000_000_000 → within (pos 0) (pos 900_000_000_000_000_000) (number_of (signed_decimal z)) ≡ Ok z
start-back z from to = within-signed (pos 0) (pos 900_000_000_000_000_000) z (omega (arith, ints)) (omega (arith, ints)) from to

length-back : (z : ℤ) → pos 500_000 ≤ℤ z → z ≤ℤ pos 1_500_000 → within (pos 500_000) (pos 1_500_000) (number_of (signed_decimal z)) ≡ Ok z
length-back z from to = within-signed (pos 500_000) (pos 1_500_000) z (omega (arith, ints)) (omega (arith, ints)) from to

says-clock : (cycle : ℕ) (clock : NodeRow) → IsWrittenClock cycle clock → trace_row_of (record_of_row (row.Clock cycle clock)) ≡ Ok (row.Clock cycle clock)
unfolding trace_row_of
says-clock cycle clock h =
    rw (
      state-back clock.state,
      natural-decimal 0 199_999 cycle (omega arith) h.cycle_to (omega (arith, h.cycle_to)),
      natural-decimal 1 64 clock.node h.node.from h.node.to (omega (arith, h.node.to)),
      start-back clock.start h.traced.0.start.low h.traced.2,
      length-back clock.length h.traced.0.length.low h.traced.0.length.high,
      rate-back clock.rate h.rate_from h.rate_to,
      offset-back clock.offset h.offset_from h.offset_to,
    )
    (ap (λ (k : ℕ). Ok (row.Clock cycle (record clock { cut = k }))) (sym h.traced.1))

says-heard : (heard : HeardRow) → IsWrittenHeard heard → trace_row_of (record_of_row (row.Heard heard)) ≡ Ok (row.Heard heard)
unfolding trace_row_of
says-heard heard h =
    ap (λ (o : Option Channel). trace_row_of (record_of_row (row.Heard (record heard { channel = o })))) h.named
    ∙ rw (
      natural-decimal 0 199_999 heard.cycle (omega arith) h.cycle_to (omega (arith, h.cycle_to)),
      natural-decimal 1 64 heard.receiver h.receiver.from h.receiver.to (omega (arith, h.receiver.to)),
      natural-decimal 1 1023 heard.slot h.slot_from h.slot_to (omega (arith, h.slot_to)),
      value-back heard.value h.from h.to,
      letter-back h.channel,
    )
    refl
    ∙ ap (λ (o : Option Channel). Ok (row.Heard (record heard { channel = o }))) (sym h.named)

pub says : (said : Row) → IsWritten said → trace_row_of (record_of_row said) ≡ Ok said
says (row.Run n) h = says-run n h
says (row.Arbitrary node) h = says-arbitrary node h
says (row.Join j) h = says-join j h
says (row.Clock cycle clock) h = says-clock cycle clock h
says (row.Heard heard) h = says-heard heard h

-- ---- they are plain

state-plain : (state : State) → is_plain_field (state_text state) ≡ true
state-plain Active = refl
state-plain Passive = refl
state-plain Halt = refl

letter-plain : (o : Option Channel) → is_plain_field (letter_in o) ≡ true
letter-plain None = refl
letter-plain (Some A) = refl
letter-plain (Some B) = refl

pub plain : (said : Row) → IsWritten said → is_plain_record (record_of_row said) ≡ true
plain (row.Run n) h = let to = h.to in rw (decimal-plain n (omega (arith, to))) refl
plain (row.Arbitrary node) h = let to = h.to in rw (decimal-plain node (omega (arith, to))) refl
plain (row.Join j) h =
    let a = h.node.to in
    let b = h.reference.to in
    let c = h.double in
    rw (decimal-plain j.node (omega (arith, a)), decimal-plain j.join.reference (omega (arith, b)), decimal-plain j.join.double (omega (arith, c))) refl
plain (row.Clock cycle clock) h =
    let a = h.cycle_to in
    let b = h.node.to in
    let start_low = h.traced.0.start.low in
    let start_high = h.traced.2 in
    let length_low = h.traced.0.length.low in
    let length_high = h.traced.0.length.high in
    let c = h.rate_from in
    let d = h.rate_to in
    let e = h.offset_from in
    let f = h.offset_to in
    rw (
      decimal-plain cycle (omega (arith, a)),
      decimal-plain clock.node (omega (arith, b)),
      signed-plain clock.start (omega (arith, ints, start_low)) (omega (arith, ints, start_high)),
      signed-plain clock.length (omega (arith, ints, length_low)) (omega (arith, ints, length_high)),
      signed-plain clock.rate (omega (arith, ints, c)) (omega (arith, ints, d)),
      signed-plain clock.offset (omega (arith, ints, e)) (omega (arith, ints, f)),
      state-plain clock.state,
    )
    refl
plain (row.Heard heard) h =
    let a = h.cycle_to in
    let b = h.receiver.to in
    let c = h.slot_to in
    let d = h.from in
    let e = h.to in
    rw (
      decimal-plain heard.cycle (omega (arith, a)),
      decimal-plain heard.receiver (omega (arith, b)),
      decimal-plain heard.slot (omega (arith, c)),
      letter-plain heard.channel,
      signed-plain heard.value (omega (arith, ints, d)) (omega (arith, ints, e)),
    )
    refl

-- ---- their lines are those of the text

-- a text and fields behind it, each behind a comma
abbrev joined : List ℕ → List (List ℕ) → List ℕ
joined text [] = text
joined text (field ∷ fields) = joined (text ++ codes "," ++ field) fields

joined-more : (text : List ℕ) (fields more : List (List ℕ)) → joined text fields ++ after_commas more ≡ text ++ after_commas (fields ++ more)
joined-more text [] more = refl
joined-more text (field ∷ fields) more =
    joined-more (text ++ codes "," ++ field) fields more
    ∙ append_assoc (text ++ codes ",") field (after_commas (fields ++ more))
    ∙ append_assoc text (codes ",") (field ++ after_commas (fields ++ more))

joined-all : (text : List ℕ) (fields : List (List ℕ)) → joined text fields ≡ text ++ after_commas fields
joined-all text fields = sym (append-nil (joined text fields)) ∙ joined-more text fields [] ∙ ap (λ (l : List (List ℕ)). text ++ after_commas l) (append-nil fields)

run-line : (n : ℕ) → line (doubles_text n) ≡ line_of_record (record_of_row (row.Run n))
run-line n = ap line (joined-more (codes "run") (decimal n ∷ []) ([] ∷ [] ∷ [] ∷ [] ∷ [] ∷ [] ∷ []))

arbitrary-line : (node : ℕ) → line (arbitrary_text node) ≡ line_of_record (record_of_row (row.Arbitrary node))
arbitrary-line node = ap line (joined-more (codes "arbitrary") (decimal node ∷ []) ([] ∷ [] ∷ [] ∷ [] ∷ [] ∷ [] ∷ []))

join-line : (j : TracedJoin) → line (join_text j) ≡ line_of_record (record_of_row (row.Join j))
join-line j = ap line (joined-more (codes "join") (decimal j.node ∷ decimal j.join.reference ∷ decimal j.join.double ∷ []) ([] ∷ [] ∷ [] ∷ [] ∷ []))

pub item-line : (l : Line) → line_text l ≡ line_of_record (record_of_row (row_of_line l))
item-line (Line.CycleLine cycle clock) =
    ap line (joined-all (codes "cycle") (decimal cycle ∷ decimal clock.node ∷ signed_decimal clock.start ∷ signed_decimal clock.length ∷ signed_decimal clock.rate ∷ signed_decimal clock.offset ∷ state_text clock.state ∷ []))
item-line (Line.DevLine cycle dev) =
    let fields : List (List ℕ) = decimal cycle ∷ decimal dev.receiver ∷ decimal dev.slot ∷ letter dev.channel ∷ signed_decimal dev.value ∷ [] in
    ap line (append_assoc (joined (codes "dev") fields) (codes ",") (codes ",") ∙ joined-more (codes "dev") fields ([] ∷ [] ∷ []))

-- the line of a row
abbrev row_line : Row → List ℕ
row_line said = line_of_record (record_of_row said)

lines-of : {X : Type 0} (f : X → List ℕ) (row_of : X → Row) (xs : List X) → ((x : X) → f x ≡ row_line (row_of x)) → flat_map f xs ≡ flat_map row_line (map row_of xs)
lines-of f row_of [] same = refl
lines-of f row_of (x ∷ xs) same = λ i. same x i ++ lines-of f row_of xs same i

pub text-rows : (t : TraceView) → text_of t ≡ text_of_records (map record_of_row (rows_of_trace t))
unfolding text_of head_text items_text
text-rows t =
    let named : List Row = map (λ node. row.Arbitrary node) t.arbitrary in
    let joiners : List Row = map (λ j. row.Join j) t.joins in
    let items : List Row = map row_of_item (items_in t.history) in
    let run : List ℕ = row_line (row.Run t.doubles) in
    let a : flat_map (λ node. line (arbitrary_text node)) t.arbitrary ≡ flat_map row_line named =
    lines-of (λ (node : ℕ). line (arbitrary_text node)) (λ (node : ℕ). row.Arbitrary node) t.arbitrary arbitrary-line
    in
    let b : flat_map (λ j. line (join_text j)) t.joins ≡ flat_map row_line joiners = lines-of (λ (j : TracedJoin). line (join_text j)) (λ (j : TracedJoin). row.Join j) t.joins join-line in
    let c : flat_map (λ item. line_text (line_of item)) (items_in t.history) ≡ flat_map row_line items =
    lines-of (λ (item : Item). line_text (line_of item)) row_of_item (items_in t.history) (λ item. item-line (line_of item))
    in
    (λ i. (run-line t.doubles i ++ (a i ++ b i)) ++ c i)
    ∙ ap (λ (l : List ℕ). l ++ flat_map row_line items) (sym (append_assoc run (flat_map row_line named) (flat_map row_line joiners)))
    ∙ ap (λ (l : List ℕ). l ++ flat_map row_line items) (sym (flat_map-append row_line (row.Run t.doubles ∷ named) joiners))
    ∙ sym (flat_map-append row_line ((row.Run t.doubles ∷ named) ++ joiners) items)
    ∙ sym (flat_map-map line_of_record record_of_row (rows_of_trace t))

-- the text of a trace has these records
pub records-back : (t : TraceView) → list_all is_plain_record (map record_of_row (rows_of_trace t)) ≡ true → records_of (text_of t) ≡ map record_of_row (rows_of_trace t)
records-back t plain = ap records_of (text-rows t) ∙ records-read-back (map record_of_row (rows_of_trace t)) plain (λ e. absurd (omega (arith, e)))
