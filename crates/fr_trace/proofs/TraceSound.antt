-- The trace of an accepted file is a trace, and fits the parameters that it is accepted against.
use Rattle.std.proofs.Common.{◌≡◌, ℕ, zero, suc, ◌+◌, ◌*◌, ◌≤◌, pos, true, List, [], ◌∷◌, ◌++◌, length, Option, Some, None, Result, Ok, Err, refl, ap, sym, ◌∙◌, subst, append_assoc, append-nil, arith}
use Rattle.std.specs.Prelude.{◌==◌, ◌&&◌, ◌-◌, IfOk, codes, is_none}
use Rattle.std.specs.Str.{bytes_eq}
use Rattle.std.proofs.lemmas.Int.{ints}
use Rattle.std.proofs.lemmas.List.Elements.{All-nil}
use Rattle.fr_base.specs.Channels.{channel_of}
use Rattle.fr_base.specs.Number.{number_of}
use Rattle.fr_base.specs.declared.node_row.NodeRow.{NodeRow}
use Rattle.fr_base.specs.declared.reason.Reason.{Reason}
use Rattle.fr_base.specs.declared.reason.Reason.TheVariants as reason
use Rattle.fr_base.specs.declared.state.State.{State}
use Rattle.fr_cluster.specs.Sane.{IsSane}
use Rattle.fr_cluster.specs.Values.{Values}
use Rattle.fr_history.specs.History.{History, Record}
use Rattle.fr_text.specs.Fields.{both_of, field_of, is_blank, natural_of}
use Rattle.fr_text.specs.Records.{FileRecord, records_of}
use Rattle.fr_text.specs.Refusal.{NoneRefused}
use Rattle.fr_text.proofs.Lookups.{looked_up-nil}
use Rattle.fr_text.proofs.RowsRead.{both_read, natural_read, of_either, of_read, within_read}
use Rattle.fr_trace.specs.Draft.{AreOver, AreSaid, CanEnd, IsAtLast, IsAtTurn, IsBeforeCycles, IsDraftSound, IsNodeNumber, IsOver, IsProperHead, doubles_with, over_with, part_with}
use Rattle.fr_trace.specs.Files.{IsTraceFile, is_whole_by}
use Rattle.fr_trace.specs.Fits.{TraceFits, TracedJoinIsProper}
use Rattle.fr_trace.specs.Joins.{latest_rows}
use Rattle.fr_trace.specs.Lasting.{IsTrace}
use Rattle.fr_trace.specs.Order.{before_at, clock_turn, cycle_of, doubles_or_0, ends_at, ends_with, heard_turn, here_at, may_come, may_come_next, next_due}
use Rattle.fr_trace.specs.Reasons.{row_reason, trace_reason_after, trace_row_reason}
use Rattle.fr_trace.specs.Rows.{IsProperTraceRow, IsProperTracedCount, are_blank, clock_in, clock_named, clock_with, dev_row, heard_row, join_with, run_row, span_in, state_of, terms_in, trace_file_row, trace_row_of, traced_arbitrary_row, traced_join_row, traced_short_row, value_in}
use Rattle.fr_trace.specs.Said.{history_said, joins_at, last_row_at, named_at, named_in, no_record, record_said, traced_doubles_at, traced_doubles_in, traced_joins_in}
use Rattle.fr_trace.specs.Sound.{IsSoundTrace}
use Rattle.fr_trace.specs.Trace.{TraceView}
use Rattle.fr_trace.specs.declared.order.Turn.{Turn}
use Rattle.fr_trace.specs.declared.rows.Row.{Row}
use Rattle.fr_trace.specs.declared.rows.Row.TheVariants as row
use Rattle.fr_trace.specs.declared.trace.TracedJoin.{TracedJoin}
use Rattle.fr_trace.proofs.Ending.{end-more, is-trace, said-ended, trace-fits}
use Rattle.fr_trace.proofs.Passing.{both-true, eq-is}
use Rattle.fr_trace.proofs.Saying.{doubles-more, joins-more, last-more, named-more, put-said}
use Rattle.fr_trace.proofs.Sounding.{stays-sound}
use Rattle.fr_trace.proofs.Standing.{AreNodes, all-named, over-at, over-blank}
use Rattle.fr_trace.proofs.Taking.{sane-nodes}

-- ---- a row that is read is proper

proper_run : (a : List ℕ) → IfOk (run_row a) IsProperTraceRow
proper_run a =
    of_read IsProperTraceRow (λ n. Ok (row.Run n)) (natural_of 1 100_000 a)
    (λ n e. let is = natural_read 1 100_000 a n e in record { from = is.0; to = is.1 })

proper_arbitrary : (a : List ℕ) → IfOk (traced_arbitrary_row a) IsProperTraceRow
proper_arbitrary a = of_read IsProperTraceRow (λ n. Ok (row.Arbitrary n)) (natural_of 1 64 a) (λ n e. (natural_read 1 64 a n e).1)

proper_join : (a b c : List ℕ) → IfOk (traced_join_row a b c) IsProperTraceRow
proper_join a b c =
    of_read IsProperTraceRow join_with (both_of (both_of (natural_of 1 64 a) (natural_of 1 64 b)) (natural_of 0 99_999 c))
    (λ x e.
    let parts = both_read (both_of (natural_of 1 64 a) (natural_of 1 64 b)) (natural_of 0 99_999 c) x e in
    let nodes = both_read (natural_of 1 64 a) (natural_of 1 64 b) x.0 parts.0 in
    record { node_to = (natural_read 1 64 a x.0.0 nodes.0).1; double_to = (natural_read 0 99_999 c x.1 parts.1).1 })

proper_clock : (a b c d e f : List ℕ) (state : State) → IfOk (clock_in a b c d e f state) IsProperTraceRow
proper_clock a b c d e f state =
    of_read IsProperTraceRow (clock_with state) (both_of (both_of (natural_of 0 199_999 a) (natural_of 1 64 b)) (both_of (span_in c d) (terms_in e f)))
    (λ x same.
    let parts = both_read (both_of (natural_of 0 199_999 a) (natural_of 1 64 b)) (both_of (span_in c d) (terms_in e f)) x same in
    let first = both_read (natural_of 0 199_999 a) (natural_of 1 64 b) x.0 parts.0 in
    let second = both_read (span_in c d) (terms_in e f) x.1 parts.1 in
    let span = both_read _ _ x.1.0 second.0 in
    let start = within_read (pos 0) (pos 900_000_000_000_000_000) (number_of c) x.1.0.0 span.0 in
    let long = within_read (pos 500_000) (pos 1_500_000) (number_of d) x.1.0.1 span.1 in
    record {
      cycle_to = (natural_read 0 199_999 a x.0.0 first.0).1;
      timed = record {
        start = record { low = start.0; high = let to = start.1 in omega (arith, ints, to) };
        length = record { low = long.0; high = long.1 };
      };
      early = start.1;
      uncut = refl;
    })

proper_named : (a b c d e f : List ℕ) (o : Option State) → IfOk (clock_named a b c d e f o) IsProperTraceRow
proper_named a b c d e f None = tt
proper_named a b c d e f (Some state) = proper_clock a b c d e f state

proper_heard : (a b c d e : List ℕ) → IfOk (heard_row a b c d e) IsProperTraceRow
unfolding value_in
proper_heard a b c d e =
    of_read IsProperTraceRow (dev_row (channel_of d)) (both_of (both_of (natural_of 0 199_999 a) (natural_of 1 64 b)) (both_of (natural_of 1 1023 c) (value_in e)))
    (λ x same.
    let parts = both_read (both_of (natural_of 0 199_999 a) (natural_of 1 64 b)) (both_of (natural_of 1 1023 c) (value_in e)) x same in
    let first = both_read (natural_of 0 199_999 a) (natural_of 1 64 b) x.0 parts.0 in
    let second = both_read (natural_of 1 1023 c) (value_in e) x.1 parts.1 in
    let value = within_read _ (pos 1_000_000) (number_of e) x.1.1 second.1 in
    record {
      cycle_to = (natural_read 0 199_999 a x.0.0 first.0).1;
      slot_from = (natural_read 1 1023 c x.1.0 second.0).0;
      from = value.0;
      to = value.1;
    })

proper_short : (b c d e f g : List ℕ) (said : Result Row Reason) → IfOk said IsProperTraceRow → IfOk (traced_short_row b c d e f g said) IsProperTraceRow
proper_short b c d e f g said proper = of_either IsProperTraceRow (are_blank b c d && are_blank e f g) said (Err reason.Shape) proper tt

proper_kind : (k a b c d e f g : List ℕ) → IfOk (trace_file_row k a b c d e f g) IsProperTraceRow
proper_kind k a b c d e f g =
    of_either IsProperTraceRow (bytes_eq k (codes "run")) _ _ (proper_short b c d e f g (run_row a) (proper_run a))
    (of_either IsProperTraceRow (bytes_eq k (codes "arbitrary")) _ _ (proper_short b c d e f g (traced_arbitrary_row a) (proper_arbitrary a))
    (of_either IsProperTraceRow (bytes_eq k (codes "join")) _ _ (of_either IsProperTraceRow (are_blank d e f && is_blank g) (traced_join_row a b c) (Err reason.Shape) (proper_join a b c) tt)
    (of_either IsProperTraceRow (bytes_eq k (codes "cycle")) _ _ (proper_named a b c d e f (state_of g))
    (of_either IsProperTraceRow (bytes_eq k (codes "dev")) _ (Err reason.UnknownName) (of_either IsProperTraceRow (is_blank f && is_blank g) (heard_row a b c d e) (Err reason.Shape) (proper_heard a b c d e) tt) tt))))

proper_row : (r : FileRecord) → IfOk (trace_row_of r) IsProperTraceRow
unfolding trace_row_of
proper_row r = of_either IsProperTraceRow (length r == 8) _ (Err reason.Shape) (proper_kind (field_of r 0) (field_of r 1) (field_of r 2) (field_of r 3) (field_of r 4) (field_of r 5) (field_of r 6) (field_of r 7)) tt

-- ---- what holds of the records so far, with their cycles that are over and the one under way

record HoldsSoFar (p : Values) (records : List FileRecord) (h : History) (part : Record) : Type 0 where
  said : AreSaid h part records
  sound : IsDraftSound p (traced_doubles_at records) (named_at records) (joins_at records) (last_row_at records) h part

holds_none : (p : Values) → HoldsSoFar p [] [] no_record
unfolding named_at joins_at last_row_at history_said record_said AreOver
holds_none p = record {
  said = record { over = refl; part = refl; none_later = λ cycle lt. refl };
  sound = subst (λ (o : Option ℕ). IsDraftSound p o [] [] None [] no_record) (sym (looked_up-nil (λ r. traced_doubles_in (trace_row_of r)))) (record {
    head = record {
      count = λ n e. absurd (cc e);
      keyed = All-nil _;
      ascend = λ i j d lt le. absurd (omega (arith, le));
      numbers = All-nil IsNodeNumber;
      joins_ascend = λ i j d lt le. absurd (omega (arith, le));
      joins_numbers = All-nil _;
      joins_proper = All-nil (TracedJoinIsProper p [] []);
    };
    over = tt;
    at = record { none = refl; unnamed = refl; unjoined = refl; before = record { none = refl; blank = refl } };
  });
}

-- the cycle of the last row is the one under way
cycle_is : (p : Values) (doubles : Option ℕ) (named : List ℕ) (joins : List TracedJoin) (last : Option Row) (h : History) (r : Record) → IsAtLast p doubles named joins last h r → length h ≡ cycle_of last
cycle_is p doubles named joins None h r at = ap (λ (g : History). length g) at.before.none
cycle_is p doubles named joins (Some (row.Run n)) h r at = ap (λ (g : History). length g) at.before.none
cycle_is p doubles named joins (Some (row.Arbitrary node)) h r at = ap (λ (g : History). length g) at.before.none
cycle_is p doubles named joins (Some (row.Join j)) h r at = ap (λ (g : History). length g) at.before.none
cycle_is p doubles named joins (Some (row.Clock cycle clock)) h r at = sym at.numbered
cycle_is p doubles named joins (Some (row.Heard heard)) h r at = sym at.numbered

-- what is sound stays so along equations
sound_along : (p : Values) (a b : Option ℕ) (n m : List ℕ) (s t : List TracedJoin) (l k : Option Row) (h : History) (r : Record) → a ≡ b → n ≡ m → s ≡ t → l ≡ k → IsDraftSound p a n s l h r → IsDraftSound p b m t k h r
sound_along p a b n m s t l k h r e1 e2 e3 e4 sound =
    subst (λ (x : Option ℕ). IsDraftSound p x m t k h r) e1
    (subst (λ (x : List ℕ). IsDraftSound p a x t k h r) e2
    (subst (λ (x : List TracedJoin). IsDraftSound p a n x k h r) e3 (subst (λ (x : Option Row). IsDraftSound p a n s x h r) e4 sound)))

module _ (p : Values) (done : List FileRecord) (h : History) (part : Record) (holds : HoldsSoFar p done h part) where
  cycle_at : length h ≡ cycle_of (last_row_at done)
  cycle_at = cycle_is p (traced_doubles_at done) (named_at done) (joins_at done) (last_row_at done) h part holds.sound.at

  before_is : latest_rows h ≡ before_at done
  before_is = ap latest_rows (holds.said.over ∙ ap (history_said done) cycle_at)

  here_is : part.rows ≡ here_at done
  here_is = ap (λ (r : Record). r.rows) (holds.said.part ∙ ap (record_said done) cycle_at)

  -- one record more
  next_row : IsSane p → (r : FileRecord) (said : Row) → trace_row_of r ≡ Ok said → trace_row_reason p done (Ok said) ≡ None → IsProperTraceRow said
      → HoldsSoFar p (done ++ r ∷ []) (over_with h part said) (part_with h part said)
  next_row sane r said says fine proper =
      let comes : may_come_next p (doubles_or_0 (traced_doubles_at done)) (named_at done) (joins_at done) (latest_rows h) part.rows (last_row_at done) said ≡ may_come p done said =
      λ i. may_come_next p (doubles_or_0 (traced_doubles_at done)) (named_at done) (joins_at done) (before_is i) (here_is i) (last_row_at done) said in
      let why = ap (row_reason p (named_at done) (joins_at done) said) comes ∙ fine in
      let after = stays-sound p (sane-nodes p sane) (traced_doubles_at done) (named_at done) (joins_at done) h part (last_row_at done) said holds.sound why proper in
      let doubles = sym after.told ∙ sym (doubles-more done r (Ok said) says) in
      record {
        said = put-said h part done r said says after.placed holds.said;
        sound =
            sound_along p (doubles_with (traced_doubles_at done) said) (traced_doubles_at (done ++ r ∷ [])) (named_at done ++ named_in (Ok said)) (named_at (done ++ r ∷ []))
            (joins_at done ++ traced_joins_in (Ok said)) (joins_at (done ++ r ∷ [])) (Some said) (last_row_at (done ++ r ∷ [])) (over_with h part said) (part_with h part said)
            doubles (sym (named-more done r (Ok said) says)) (sym (joins-more done r (Ok said) says)) (sym (last-more done r said says)) after.sound;
      }

  next_record : IsSane p → (r : FileRecord) → trace_reason_after p done r ≡ None → (g : History) × (q : Record) × HoldsSoFar p (done ++ r ∷ []) g q
  next_record sane r fine = by (trace_row_of r) refl (proper_row r)
    where
      by : (x : Result Row Reason) → trace_row_of r ≡ x → IfOk (trace_row_of r) IsProperTraceRow → (g : History) × (q : Record) × HoldsSoFar p (done ++ r ∷ []) g q
      by (Err why) says proper = absurd (let no = sym (ap (trace_row_reason p done) says) ∙ fine in cc no)
      by (Ok said) says proper =
          let is : IsProperTraceRow said = subst (λ (y : Result Row Reason). IfOk y IsProperTraceRow) says proper in
          (over_with h part said, part_with h part said, next_row sane r said says (sym (ap (trace_row_reason p done) says) ∙ fine) is)

-- all records, of which none is refused
all_records : (p : Values) (done rest : List FileRecord) (h : History) (part : Record) → IsSane p → HoldsSoFar p done h part → NoneRefused (trace_reason_after p) (done ++ rest)
    → (g : History) × (q : Record) × HoldsSoFar p (done ++ rest) g q
all_records p done [] h part sane holds none = (h, part, subst (λ (l : List FileRecord). HoldsSoFar p l h part) (sym (append-nil done)) holds)
all_records p done (r ∷ rest) h part sane holds none =
    let next = next_record p done h part holds sane r (none done r rest refl) in
    let same : (done ++ r ∷ []) ++ rest ≡ done ++ r ∷ rest = append_assoc done (r ∷ []) rest in
    let P : List FileRecord → Type 0 = λ l. (g : History) × (q : Record) × HoldsSoFar p l g q in
    subst P same
    (all_records p (done ++ r ∷ []) rest next.0 next.1 sane next.2 (subst (λ (l : List FileRecord). NoneRefused (trace_reason_after p) l) (sym same) none))

-- ---- the cycles are ended

-- there are no more cycles over than may be, and one is left
few_at : (p : Values) (n : ℕ) (named : List ℕ) (joins : List TracedJoin) (last : Option Row) (h : History) (r : Record) → IsProperTracedCount n → IsAtLast p (Some n) named joins last h r → length h + 1 ≤ 2 * n
few_at p n named joins None h r proper at = absurd (let none = at.none in cc none)
few_at p n named joins (Some (row.Run m)) h r proper at = let none = ap (λ (g : History). length g) at.before.none in let low = proper.from in omega (arith, none, low)
few_at p n named joins (Some (row.Arbitrary node)) h r proper at = let none = ap (λ (g : History). length g) at.before.none in let low = proper.from in omega (arith, none, low)
few_at p n named joins (Some (row.Join j)) h r proper at = let none = ap (λ (g : History). length g) at.before.none in let low = proper.from in omega (arith, none, low)
few_at p n named joins (Some (row.Clock cycle clock)) h r proper at = let numbered = at.numbered in let inside = at.inside in omega (arith, numbered, inside)
few_at p n named joins (Some (row.Heard heard)) h r proper at = let numbered = at.numbered in let inside = at.inside in omega (arith, numbered, inside)

-- they may be ended as they stand, where the last row is that of a whole trace
module _ (p : Values) (nodes : AreNodes p) (n : ℕ) (named : List ℕ) (joins : List TracedJoin) (h : History) (r : Record) (head : IsProperHead p (Some n) named joins) (over : AreOver p named joins h) where
  before_any : IsBeforeCycles h r → is_none (next_due p named joins 0 [] 0) ≡ true → CanEnd p named joins (2 * n) h r
  before_any before none =
      let all = all-named p nodes named joins head.joins_proper none in
      record {
        over = over;
        part = λ lt. subst (λ (q : Record). IsOver p named joins h q) (sym before.blank) (over-blank p nodes named joins h all);
        blank = λ lt. all;
      }

  under_way : (cycle : ℕ) (turn : Turn) → IsAtTurn p (Some n) named joins cycle turn h r → ends_at p n named joins (latest_rows h) cycle turn.node ≡ true → CanEnd p named joins (2 * n) h r
  under_way cycle turn at ends =
      let both = both-true (cycle + 1 == 2 * n) (is_none (next_due p named joins cycle (latest_rows h) turn.node)) ends in
      let last_one : cycle + 1 ≡ 2 * n = eq-is (cycle + 1) (2 * n) both.0 in
      let numbered = at.numbered in
      record {
        over = over;
        part = λ lt. over-at p nodes named joins h r turn.node at.under_way.begun (ap (λ (c : ℕ). is_none (next_due p named joins c (latest_rows h) turn.node)) (sym numbered) ∙ both.1);
        blank = λ lt. absurd (omega (arith, lt, last_one, numbered));
      }

  may_end : (last : Option Row) → IsAtLast p (Some n) named joins last h r → ends_with p n named joins (latest_rows h) last ≡ true → CanEnd p named joins (2 * n) h r
  may_end None at ends = absurd (cc ends)
  may_end (Some (row.Run m)) at ends = before_any at.before ends
  may_end (Some (row.Arbitrary node)) at ends = before_any at.before ends
  may_end (Some (row.Join j)) at ends = before_any at.before ends
  may_end (Some (row.Clock cycle clock)) at ends = under_way cycle (clock_turn clock) at ends
  may_end (Some (row.Heard heard)) at ends = under_way heard.cycle (heard_turn heard) at ends

-- all of them are there and over
record AreEnded (p : Values) (named : List ℕ) (joins : List TracedJoin) (records : List FileRecord) (cycles : ℕ) : Type 0 where
  history : History
  whole : length history ≡ cycles
  over : AreOver p named joins history
  said : history ≡ history_said records cycles

ended : (p : Values) (nodes : AreNodes p) (named : List ℕ) (joins : List TracedJoin) (records : List FileRecord) (cycles more : ℕ) (h : History) (r : Record) → length h + more ≡ cycles → AreSaid h r records
    → CanEnd p named joins cycles h r → AreEnded p named joins records cycles
ended p nodes named joins records cycles zero h r is said can =
    let whole : length h ≡ cycles = omega (arith, is) in
    record { history = h; whole = whole; over = can.over; said = said.over ∙ ap (history_said records) whole }
ended p nodes named joins records cycles (suc more) h r is said can =
    ended p nodes named joins records cycles more (r ∷ h) no_record (omega (arith, is)) (said-ended h r records said) (end-more p named joins cycles h r nodes (omega (arith, is)) can)

-- ---- the trace

pub sound_trace : (p : Values) (t : TraceView) (bytes : List ℕ) → IsSane p → IsTraceFile p t bytes → IsSoundTrace p t
sound_trace p t bytes sane file =
    let records : List FileRecord = records_of bytes in
    let stands = file.stands in
    let n : ℕ = t.doubles in
    let named : List ℕ = named_at records in
    let joins : List TracedJoin = joins_at records in
    let found = all_records p [] records [] no_record sane (holds_none p) file.none_refused in
    let h : History = found.0 in
    let r : Record = found.1 in
    let sound = found.2.sound in
    let head : IsProperHead p (Some n) named joins = subst (λ (o : Option ℕ). IsProperHead p o named joins) stands.doubles sound.head in
    let at : IsAtLast p (Some n) named joins (last_row_at records) h r = subst (λ (o : Option ℕ). IsAtLast p o named joins (last_row_at records) h r) stands.doubles sound.at in
    let ends : ends_with p n named joins (latest_rows h) (last_row_at records) ≡ true =
    ap (λ (rows : List NodeRow). ends_with p n named joins rows (last_row_at records)) (before_is p records h r found.2) ∙ sym (ap (is_whole_by p records) stands.doubles) ∙ file.whole in
    let few = few_at p n named joins (last_row_at records) h r (head.count n refl) at in
    let nodes = sane-nodes p sane in
    let all = ended p nodes named joins records (2 * n) (2 * n - length h) h r (omega (arith, few)) found.2.said (may_end p nodes n named joins h r head sound.over (last_row_at records) at ends) in
    let made : TraceView = record { doubles = n; arbitrary = named; joins = joins; history = all.history } in
    let same : made ≡ t =
    λ i. record { doubles = n; arbitrary = sym stands.arbitrary i; joins = sym stands.joins i; history = (all.said ∙ sym stands.history) i } in
    record {
      is = subst IsTrace same (is-trace p n named joins all.history sane head all.whole all.over);
      fits = subst (TraceFits p) same (trace-fits p n named joins all.history head all.over);
    }
