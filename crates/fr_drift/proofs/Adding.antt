-- A drift with one record more stands for the records with that one more.
use Rattle.std.proofs.Common.{◌≡◌, ◌≤◌, ℕ, ℤ, pos, negsuc, Bool, true, false, List, [], ◌∷◌, ◌++◌, Option, Some, None, Result, Ok, Err, ap, sym, subst, ◌∙◌, refl, arith}
use Rattle.std.specs.Prelude.{◌&&◌, not, ◌==◌, is_some, IfSome, if◌then◌else◌}
use Rattle.std.specs.BTreeMap.{BTreeMap, get, is_at}
use Rattle.std.specs.FinMap.{is_sorted}
use Rattle.std.specs.FinMap.Entries.{below_all}
use Rattle.std.specs.List.{AllByRecursion}
use Rattle.std.specs.List.Sorted.{IsStrictlySortedBy}
use Rattle.std.specs.Map.{keys_of}
use Rattle.std.specs.Ordering.{is_lt, nat_cmp}
use Rattle.std.specs.declared.cmp.Ordering.{Ordering}
use Rattle.std.specs.declared.cmp.Ordering.TheVariants.{Less, Equal, Greater}
use Rattle.std.proofs.lemmas.Int.{ints}
use Rattle.fr_base.specs.Channels.{channel_of, letter}
use Rattle.fr_base.specs.declared.channel.Channel.{Channel}
use Rattle.fr_base.specs.declared.channel.Channel.TheVariants as channel
use Rattle.fr_base.specs.declared.reason.Reason.{Reason}
use Rattle.fr_base.specs.declared.reason.Reason.TheVariants as reason
use Rattle.fr_text.specs.Records.{FileRecord}
use Rattle.fr_text.specs.Refusal.{NoneRefused}
use Rattle.fr_text.proofs.Cuts.{none-empty, none-more}
use Rattle.fr_text.proofs.Written.{natural-decimal, within-signed}
use Rattle.fr_cluster.specs.Values.{Values}
use Rattle.fr_cluster.specs.Questions.{compensation_of, is_common, is_known}
use Rattle.fr_text.specs.Fields.{looked_up}
use Rattle.fr_drift.specs.Keys.{delay_cmp, delay_key, length_cmp, length_key}
use Rattle.fr_text.specs.Keys.{found_at}
use Rattle.fr_drift.specs.Rows.{IsProperCount, IsProperDelay, IsMicrotickLength, IsProperStart, drift_row_of, rate_in}
use Rattle.fr_drift.specs.Reasons.{delay_at, delay_reason, doubles_at, drift_reason_after, drift_row_reason, length_reason, length_said_at, start_at, start_reason}
use Rattle.fr_base.specs.Within.{lies_within}
use Rattle.fr_drift.specs.View.{DriftView, compensation_on, delay_rows, delays_on}
use Rattle.fr_drift.specs.Inside.{view_of}
use Rattle.fr_drift.specs.Sane.{IsDrift, IsProperCompensation}
use Rattle.fr_drift.specs.declared.fault.DriftFault.{DriftFault}
use Rattle.fr_drift.specs.Draft.{IsDriftDraft, TakesDriftRowAtOnce}
use Rattle.fr_drift.specs.Files.{DriftStandsFor}
use Rattle.fr_drift.specs.Written.{delay_record, doubles_record, length_record, start_record}
use Rattle.fr_drift.specs.Adding.{AddsDriftRecord, EntersRow, HasDriftRecord, TakesDriftRecord}
use Rattle.fr_drift.specs.declared.draft.Draft.{Draft}
use Rattle.fr_drift.specs.declared.drift.Drift.TheInside.{Inside}
use Rattle.fr_drift.specs.declared.keys.DelayKey.{DelayKey}
use Rattle.fr_drift.specs.declared.keys.LengthKey.{LengthKey}
use Rattle.fr_drift.specs.declared.rows.Start.{Start}
use Rattle.fr_drift.specs.declared.rows.StartRow.{StartRow}
use Rattle.fr_drift.specs.declared.rows.LengthRow.{LengthRow}
use Rattle.fr_drift.specs.declared.rows.DelayRow.{DelayRow}
use Rattle.fr_drift.specs.declared.rows.Row.{Row}
use Rattle.fr_drift.specs.declared.rows.Row.TheVariants as row
use Rattle.fr_drift.proofs.Tables.{draft-delay_a, draft-delay_b, draft-length, draft-start}
use Rattle.fr_drift.proofs.Making.{made, stands-made}

-- what is written is read
pub says-doubles : (n : ℕ) → IsProperCount n → drift_row_of (doubles_record n) ≡ Ok (row.Doubles n)
unfolding drift_row_of
says-doubles n h = rw (natural-decimal 1 100_000 n h.from h.to (omega (arith, h.to))) refl

pub says-start : (node : ℕ) (s : Start) → 1 ≤ node → node ≤ 64 → IsProperStart s → drift_row_of (start_record node s.ticks s.rate) ≡ Ok (row.Start (record { node = node; start = s }))
unfolding drift_row_of rate_in
says-start node s from to h =
    rw (
      natural-decimal 1 64 node from to (omega arith),
      within-signed (pos 0) (pos 1_000_000_000_000) s.ticks (omega (arith, ints)) (omega (arith, ints)) h.from h.to,
      within-signed (negsuc 1999) (pos 2000) s.rate (omega (arith, ints)) (omega (arith, ints)) h.rate_from h.rate_to,
    )
    refl

pub says-length : (node from : ℕ) (ticks : ℤ) → 1 ≤ node → node ≤ 64 → from ≤ 199_999 → IsMicrotickLength ticks
    → drift_row_of (length_record node from ticks) ≡ Ok (row.Length (record { node = node; from = from; ticks = ticks }))
unfolding drift_row_of
says-length node from ticks low high late h =
    rw (
      natural-decimal 1 64 node low high (omega arith),
      natural-decimal 0 199_999 from (omega arith) late (omega arith),
      within-signed (pos 500_000) (pos 1_500_000) ticks (omega (arith, ints)) (omega (arith, ints)) h.from h.to,
    )
    refl

spelt : (ch : Channel) → channel_of (letter ch) ≡ Some ch
spelt channel.A = refl
spelt channel.B = refl

pub says-delay : (sender receiver : ℕ) (ch : Channel) (from : ℕ) (ticks : ℤ) → 1 ≤ sender → sender ≤ 64 → 1 ≤ receiver → receiver ≤ 64 → from ≤ 199_999 → IsProperDelay ticks
    → drift_row_of (delay_record sender receiver ch from ticks) ≡ Ok (row.Delay (record { sender = sender; receiver = receiver; channel = Some ch; from = from; ticks = ticks }))
unfolding drift_row_of
says-delay sender receiver ch from ticks a b c d late h =
    rw (
      natural-decimal 1 64 sender a b (omega arith),
      natural-decimal 1 64 receiver c d (omega arith),
      natural-decimal 0 199_999 from (omega arith) late (omega arith),
      within-signed (pos 0) (pos 1_000_000_000) ticks (omega (arith, ints)) (omega (arith, ints)) h.from h.to,
      spelt ch,
    )
    refl

is-less : (o : Ordering) → is_lt o ≡ true → o ≡ Less
is-less Less h = refl
is-less Equal h = cc h
is-less Greater h = cc h

both-first : (a b : Bool) → (a && b) ≡ true → a ≡ true
both-first true b h = refl
both-first false b h = h

both-second : (a b : Bool) → (a && b) ≡ true → b ≡ true
both-second true b h = h
both-second false b h = cc h

-- entries in the order of their keys, by either word for it
all-below : {K V : Type 0} (R : K → K → Ordering) (x : K) (es : List (K × V)) → below_all R x es ≡ true → AllByRecursion (λ y. R x y ≡ Less) (keys_of es)
all-below R x [] h = tt
all-below R x (e ∷ es) h = (is-less (R x e.0) (both-first (is_lt (R x e.0)) (below_all R x es) h), all-below R x es (both-second (is_lt (R x e.0)) (below_all R x es) h))

pub ordered-from_sorted : {K V : Type 0} (R : K → K → Ordering) (es : List (K × V)) → is_sorted R es ≡ true → IsStrictlySortedBy R (keys_of es)
unfolding IsStrictlySortedBy
ordered-from_sorted R [] h = tt
ordered-from_sorted R (e ∷ es) h =
    (all-below R e.0 es (both-first (below_all R e.0 es) (is_sorted R es) h), ordered-from_sorted R es (both-second (below_all R e.0 es) (is_sorted R es) h))

-- a drift as tables under construction
abbrev pub draft_of : Inside → Draft
draft_of a = record {
  doubles = Some a.doubles;
  starts = a.starts;
  lengths = a.lengths;
  delays_a = a.delays_a;
  delays_b = a.delays_b;
}

pub draft-standing : (p : Values) (a : Inside) (records : List FileRecord) → IsDrift (view_of a) → DriftStandsFor p (view_of a) records → IsDriftDraft (draft_of a) records
draft-standing p a records sane h = record {
  doubles = sym h.doubles;
  starts = λ node. h.starts node;
  lengths = λ node from. h.lengths node from;
  delays_a = λ s r from. h.delays s r channel.A from;
  delays_b = λ s r from. h.delays s r channel.B from;
  proper = record {
    count = sane.count;
    starts = λ node. sane.starts node;
    lengths = λ key. sane.lengths key;
    delays_a = λ key. sane.delays channel.A key;
    delays_b = λ key. sane.delays channel.B key;
    starts_ordered = ordered-from_sorted nat_cmp a.starts.entries h.order.starts;
    lengths_ordered = ordered-from_sorted length_cmp a.lengths.entries h.order.lengths;
    delays_a_ordered = ordered-from_sorted delay_cmp a.delays_a.entries h.order.delays_a;
    delays_b_ordered = ordered-from_sorted delay_cmp a.delays_b.entries h.order.delays_b;
  };
}

-- the reason of the last record of a list of which none is refused
last-fine : (p : Values) (records : List FileRecord) (r : FileRecord) (x : Result Row Reason) → NoneRefused (drift_reason_after p) (records ++ r ∷ []) → drift_row_of r ≡ x → drift_row_reason p records x ≡ None
last-fine p records r x none e = ap (λ (y : Result Row Reason). drift_row_reason p records y) (sym e) ∙ none records r [] refl

repeated : {A : Type 0} (o : Option A) → (if is_some o then Some reason.Repeated else None) ≡ None → o ≡ None
repeated None h = refl
repeated (Some x) h = cc h

unless : (b : Bool) (why : Reason) (rest : Option Reason) → (if not b then Some why else rest) ≡ None → rest ≡ None
unless true why rest h = h
unless false why rest h = cc h

where_not : (b : Bool) (why : Reason) (rest : Option Reason) → (if b then Some why else rest) ≡ None → rest ≡ None
where_not true why rest h = cc h
where_not false why rest h = h

-- a row that is taken is about something of which no row before it was
pub start-free : (p : Values) (a : Inside) (r : FileRecord) (s : StartRow) → drift_row_of r ≡ Ok (row.Start s) → TakesDriftRecord p (view_of a) r → get nat_cmp a.starts s.node ≡ None
start-free p a r s says t =
    let fine : start_reason p t.records s ≡ None = last-fine p t.records r (Ok (row.Start s)) t.accepted says in
    t.stands.starts s.node ∙ repeated (start_at s.node t.records) (unless (is_known p s.node) _ _ (unless (lies_within p.rate_limit s.start.rate) _ _ fine))

pub length-free : (p : Values) (a : Inside) (r : FileRecord) (l : LengthRow) → drift_row_of r ≡ Ok (row.Length l) → TakesDriftRecord p (view_of a) r → get length_cmp a.lengths (length_key l.node l.from) ≡ None
length-free p a r l says t =
    let fine : length_reason p t.records l ≡ None = last-fine p t.records r (Ok (row.Length l)) t.accepted says in
    t.stands.lengths l.node l.from ∙ repeated (length_said_at l.node l.from t.records) (unless (is_known p l.node) _ _ fine)

delay-free : (p : Values) (a : Inside) (r : FileRecord) (sender receiver : ℕ) (ch : Channel) (from : ℕ) (ticks : ℤ)
    → drift_row_of r ≡ Ok (row.Delay (record { sender = sender; receiver = receiver; channel = Some ch; from = from; ticks = ticks })) → TakesDriftRecord p (view_of a) r
    → delay_rows (view_of a) sender receiver ch from ≡ None
delay-free p a r sender receiver ch from ticks says t =
    let d : DelayRow = record { sender = sender; receiver = receiver; channel = Some ch; from = from; ticks = ticks } in
    let fine : delay_reason p t.records d ≡ None = last-fine p t.records r (Ok (row.Delay d)) t.accepted says in
    t.stands.delays sender receiver ch from
    ∙ repeated (delay_at sender receiver ch from t.records)
    (unless (is_common p sender receiver ch) _ _ (where_not (sender == receiver) _ _ (unless (is_known p sender && is_known p receiver) _ _ fine)))

pub delay_a-free : (p : Values) (a : Inside) (r : FileRecord) (sender receiver from : ℕ) (ticks : ℤ)
    → drift_row_of r ≡ Ok (row.Delay (record { sender = sender; receiver = receiver; channel = Some channel.A; from = from; ticks = ticks })) → TakesDriftRecord p (view_of a) r
    → get delay_cmp a.delays_a (delay_key sender receiver from) ≡ None
delay_a-free p a r sender receiver from ticks says t = delay-free p a r sender receiver channel.A from ticks says t

pub delay_b-free : (p : Values) (a : Inside) (r : FileRecord) (sender receiver from : ℕ) (ticks : ℤ)
    → drift_row_of r ≡ Ok (row.Delay (record { sender = sender; receiver = receiver; channel = Some channel.B; from = from; ticks = ticks })) → TakesDriftRecord p (view_of a) r
    → get delay_cmp a.delays_b (delay_key sender receiver from) ≡ None
delay_b-free p a r sender receiver from ticks says t = delay-free p a r sender receiver channel.B from ticks says t

-- what holds of all values under keys still does with one more
all-still : {K V : Type 0} (P : V → Type 0) (cmp : K → K → Ordering) (old new : BTreeMap K V) (key : K) (value : V) (result : Result (Unit {0}) DriftFault)
    → EntersRow cmp old new key value result → P value → ((q : K) → IfSome (get cmp old q) P) → (q : K) → IfSome (get cmp new q) P
all-still P cmp old new key value (Ok done) put here there q = rw (put.filled q) (by (is_at (cmp key) q))
  where
    by : (b : Bool) → IfSome (if b then Some value else get cmp old q) P
    by true = here
    by false = there q
all-still {K} {V} P cmp old new key value (Err why) stays here there q =
    let Q : List (K × V) → Type 0 = λ es. IfSome (found_at cmp es q) P in subst Q (sym stays.1) (there q)

-- the numbers of a drift with one row more lie in their ranges
pub sane-start : (a : Inside) (new : BTreeMap ℕ Start) (node : ℕ) (s : Start) (result : Result (Unit {0}) DriftFault) → IsDrift (view_of a) → IsProperStart s
    → EntersRow nat_cmp a.starts new node s result → IsDrift (view_of (record a { starts = new }))
sane-start a new node s result h proper put = record {
  count = h.count;
  compensation = λ ch. h.compensation ch;
  starts = λ q. all-still IsProperStart nat_cmp a.starts new node s result put proper (λ q. h.starts q) q;
  lengths = λ key. h.lengths key;
  delays = λ ch key. h.delays ch key;
}

pub sane-length : (a : Inside) (new : BTreeMap LengthKey ℤ) (key : LengthKey) (ticks : ℤ) (result : Result (Unit {0}) DriftFault) → IsDrift (view_of a) → IsMicrotickLength ticks
    → EntersRow length_cmp a.lengths new key ticks result → IsDrift (view_of (record a { lengths = new }))
sane-length a new key ticks result h proper put = record {
  count = h.count;
  compensation = λ ch. h.compensation ch;
  starts = λ q. h.starts q;
  lengths = λ q. all-still IsMicrotickLength length_cmp a.lengths new key ticks result put proper (λ q. h.lengths q) q;
  delays = λ ch key. h.delays ch key;
}

pub sane-delay_a : (a : Inside) (new : BTreeMap DelayKey ℤ) (key : DelayKey) (ticks : ℤ) (result : Result (Unit {0}) DriftFault) → IsDrift (view_of a) → IsProperDelay ticks
    → EntersRow delay_cmp a.delays_a new key ticks result → IsDrift (view_of (record a { delays_a = new }))
sane-delay_a a new key ticks result h proper put = record {
  count = h.count;
  compensation = λ ch. compensation ch;
  starts = λ q. h.starts q;
  lengths = λ q. h.lengths q;
  delays = λ ch q. delays ch q;
}
  where
    compensation : (ch : Channel) → IsProperCompensation (compensation_on (view_of (record a { delays_a = new })) ch)
    compensation channel.A = h.compensation channel.A
    compensation channel.B = h.compensation channel.B

    delays : (ch : Channel) (q : DelayKey) → IfSome (found_at delay_cmp (delays_on (view_of (record a { delays_a = new })) ch) q) IsProperDelay
    delays channel.A q = all-still IsProperDelay delay_cmp a.delays_a new key ticks result put proper (λ q. h.delays channel.A q) q
    delays channel.B q = h.delays channel.B q

pub sane-delay_b : (a : Inside) (new : BTreeMap DelayKey ℤ) (key : DelayKey) (ticks : ℤ) (result : Result (Unit {0}) DriftFault) → IsDrift (view_of a) → IsProperDelay ticks
    → EntersRow delay_cmp a.delays_b new key ticks result → IsDrift (view_of (record a { delays_b = new }))
sane-delay_b a new key ticks result h proper put = record {
  count = h.count;
  compensation = λ ch. compensation ch;
  starts = λ q. h.starts q;
  lengths = λ q. h.lengths q;
  delays = λ ch q. delays ch q;
}
  where
    compensation : (ch : Channel) → IsProperCompensation (compensation_on (view_of (record a { delays_b = new })) ch)
    compensation channel.A = h.compensation channel.A
    compensation channel.B = h.compensation channel.B

    delays : (ch : Channel) (q : DelayKey) → IfSome (found_at delay_cmp (delays_on (view_of (record a { delays_b = new })) ch) q) IsProperDelay
    delays channel.A q = h.delays channel.A q
    delays channel.B q = all-still IsProperDelay delay_cmp a.delays_b new key ticks result put proper (λ q. h.delays channel.B q) q

-- tables that hold records make a drift that stands for them
standing-made : (p : Values) (a b : Inside) (records : List FileRecord) → IsDriftDraft (draft_of b) records → b.compensation_a ≡ a.compensation_a → b.compensation_b ≡ a.compensation_b
    → ((ch : Channel) → compensation_on (view_of a) ch ≡ compensation_of p ch) → DriftStandsFor p (view_of b) records
unfolding made
standing-made p a b records h on_a on_b kept =
    stands-made p b.doubles b.compensation_a b.compensation_b (draft_of b) records h refl (on_a ∙ kept channel.A) (on_b ∙ kept channel.B)

-- and where it does for all records, it fits
has : (p : Values) (before after : DriftView) (r : FileRecord) → ((records : List FileRecord) → DriftStandsFor p before records → DriftStandsFor p after (records ++ r ∷ []))
    → TakesDriftRecord p before r → HasDriftRecord p before after r
has p before after r more t = record {
  stands = more;
  fits = record { records = t.records ++ r ∷ []; none_refused = t.accepted; stands = more t.records t.stands };
}

-- a drift with one row more stands for the records with that one more
pub adds-start : (p : Values) (a : Inside) (new : BTreeMap ℕ Start) (r : FileRecord) (s : StartRow) (result : Result (Unit {0}) DriftFault) → IsDrift (view_of a) → IsProperStart s.start
    → drift_row_of r ≡ Ok (row.Start s) → TakesDriftRecord p (view_of a) r → EntersRow nat_cmp a.starts new s.node s.start result
    → AddsDriftRecord p (view_of a) (view_of (record a { starts = new })) r result
adds-start p a new r s (Ok done) sane proper says t put =
    has p (view_of a) (view_of (record a { starts = new })) r
    (λ records h.
    standing-made p a (record a { starts = new }) (records ++ r ∷ [])
    (draft-start (draft_of a) new records r s (draft-standing p a records sane h) says proper put) refl refl (λ ch. h.compensation ch))
    t
adds-start p a new r s (Err why) sane proper says t put = (put.0, λ i. record (view_of a) { starts = put.1 i })

pub adds-length : (p : Values) (a : Inside) (new : BTreeMap LengthKey ℤ) (r : FileRecord) (l : LengthRow) (result : Result (Unit {0}) DriftFault) → IsDrift (view_of a) → IsMicrotickLength l.ticks
    → drift_row_of r ≡ Ok (row.Length l) → TakesDriftRecord p (view_of a) r → EntersRow length_cmp a.lengths new (length_key l.node l.from) l.ticks result
    → AddsDriftRecord p (view_of a) (view_of (record a { lengths = new })) r result
adds-length p a new r l (Ok done) sane proper says t put =
    has p (view_of a) (view_of (record a { lengths = new })) r
    (λ records h.
    standing-made p a (record a { lengths = new }) (records ++ r ∷ [])
    (draft-length (draft_of a) new records r l (draft-standing p a records sane h) says proper put) refl refl (λ ch. h.compensation ch))
    t
adds-length p a new r l (Err why) sane proper says t put = (put.0, λ i. record (view_of a) { lengths = put.1 i })

pub adds-delay_a : (p : Values) (a : Inside) (new : BTreeMap DelayKey ℤ) (r : FileRecord) (d : DelayRow) (result : Result (Unit {0}) DriftFault) → IsDrift (view_of a) → IsProperDelay d.ticks
    → drift_row_of r ≡ Ok (row.Delay d) → d.channel ≡ Some channel.A → TakesDriftRecord p (view_of a) r → EntersRow delay_cmp a.delays_a new (delay_key d.sender d.receiver d.from) d.ticks result
    → AddsDriftRecord p (view_of a) (view_of (record a { delays_a = new })) r result
adds-delay_a p a new r d (Ok done) sane proper says on t put =
    has p (view_of a) (view_of (record a { delays_a = new })) r
    (λ records h.
    standing-made p a (record a { delays_a = new }) (records ++ r ∷ [])
    (draft-delay_a (draft_of a) new records r d (draft-standing p a records sane h) says on proper put) refl refl (λ ch. h.compensation ch))
    t
adds-delay_a p a new r d (Err why) sane proper says on t put = (put.0, λ i. record (view_of a) { delays_a = put.1 i })

pub adds-delay_b : (p : Values) (a : Inside) (new : BTreeMap DelayKey ℤ) (r : FileRecord) (d : DelayRow) (result : Result (Unit {0}) DriftFault) → IsDrift (view_of a) → IsProperDelay d.ticks
    → drift_row_of r ≡ Ok (row.Delay d) → d.channel ≡ Some channel.B → TakesDriftRecord p (view_of a) r → EntersRow delay_cmp a.delays_b new (delay_key d.sender d.receiver d.from) d.ticks result
    → AddsDriftRecord p (view_of a) (view_of (record a { delays_b = new })) r result
adds-delay_b p a new r d (Ok done) sane proper says on t put =
    has p (view_of a) (view_of (record a { delays_b = new })) r
    (λ records h.
    standing-made p a (record a { delays_b = new }) (records ++ r ∷ [])
    (draft-delay_b (draft_of a) new records r d (draft-standing p a records sane h) says on proper put) refl refl (λ ch. h.compensation ch))
    t
adds-delay_b p a new r d (Err why) sane proper says on t put = (put.0, λ i. record (view_of a) { delays_b = put.1 i })

even-reason : (p : Values) (n : ℕ) → drift_row_reason p [] (Ok (row.Doubles n)) ≡ None
unfolding looked_up
even-reason p n = refl

-- the one record of an even drift is accepted
pub even-accepted : (p : Values) (n : ℕ) → IsProperCount n → NoneRefused (drift_reason_after p) (doubles_record n ∷ [])
even-accepted p n h =
    none-more (drift_reason_after p) [] (doubles_record n) (none-empty (drift_reason_after p))
    (ap (λ (x : Result Row Reason). drift_row_reason p [] x) (says-doubles n h) ∙ even-reason p n)

-- the tables of that record
pub even-draft : (p : Values) (before after : Draft) (n : ℕ) (why : Option Reason) → IsProperCount n → IsDriftDraft before [] → TakesDriftRowAtOnce p before after (row.Doubles n) why
    → IsDriftDraft after (doubles_record n ∷ [])
even-draft p before after n why h none takes =
    takes.adds [] (doubles_record n) none (says-doubles n h) (takes.why [] none ∙ even-reason p n)

pub even-told : (n : ℕ) → IsProperCount n → doubles_at (doubles_record n ∷ []) ≡ Some n
unfolding looked_up
even-told n h = rw (says-doubles n h) refl
